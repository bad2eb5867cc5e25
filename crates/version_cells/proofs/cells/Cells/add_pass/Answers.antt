use Rattle.std.proofs.Common.{sym, ap, ◌∙◌, arith}
use Rattle.version_cells.specs.Standing.{BatonStanding}
use Rattle.version_cells.proofs.Cuts.{makes_pass}
use Rattle.version_cells.proofs.cells.Cells.add_pass.Goals as goal

pub split_seat-seat-requires : goal.split_seat-seat-requires
split_seat-seat-requires c = (
  ap (λ (s : BatonStanding). s.table) c.baton.view_is ∙ c.requires.same ∙ sym c.self.view_is,
  (let w = c.self.invariant in omega arith),
  makes_pass _ _ c.baton.invariant.0,
)
