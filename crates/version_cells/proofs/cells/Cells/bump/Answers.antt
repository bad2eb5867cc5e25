use Rattle.std.proofs.Common.{sym, ap, ◌∙◌, arith}
use Rattle.version_cells.specs.Listings.{has}
use Rattle.version_cells.specs.Standing.{BatonStanding}
use Rattle.version_cells.proofs.Bumping.{bumps}
use Rattle.version_cells.proofs.cells.Cells.bump.Goals as goal

pub fetch_add-requires : goal.fetch_add-requires
fetch_add-requires c = (
  ap (λ (s : BatonStanding). s.table) c.baton.view_is ∙ c.requires.same ∙ sym c.self.view_is,
  (let h = c.requires.cell.1 in let w = c.self.invariant in omega arith),
  bumps _ _ _ _ c.baton.invariant.0 c.baton.invariant.1 c.requires.cell.0 c.requires.cell.1
      (ap (λ (s : BatonStanding). has c.args.cell s.view.pending) c.baton.view_is ∙ c.requires.free),
)
