use Rattle.std.proofs.Common.{sym, ap, ◌∙◌, arith}
use Rattle.version_cells.specs.Standing.{PassStanding}
use Rattle.version_cells.proofs.Looking.{looks}
use Rattle.version_cells.proofs.cells.Cells.look.Goals as goal

pub load-found-requires : goal.load-found-requires
load-found-requires c = (
  ap (λ (s : PassStanding). s.table) c.pass.view_is ∙ c.requires.same ∙ sym c.self.view_is,
  (let h = c.requires.cell.1 in let w = c.self.invariant in omega arith),
  looks _ _ _ _ c.pass.invariant.1.is_pass c.pass.invariant.0 c.requires.cell.0 c.requires.cell.1,
)
