use Rattle.std.proofs.Common.{sym, ap, ◌∙◌, arith}
use Rattle.version_cells.specs.Standing.{BatonStanding}
use Rattle.version_cells.proofs.Fronting.{baton_counts}
use Rattle.version_cells.proofs.cells.Cells.count.Goals as goal

pub load-requires : goal.load-requires
load-requires c = (
  ap (λ (s : BatonStanding). s.table) c.baton.view_is ∙ c.requires.same ∙ sym c.self.view_is,
  (let w = c.self.invariant in omega arith),
  baton_counts _ _ _ c.baton.invariant.0 c.baton.invariant.1,
)
