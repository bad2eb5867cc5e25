use Rattle.std.proofs.Common.{◌≡◌}
use Rattle.version_cells.specs.Standing.{new_baton, new_passes}
use Rattle.version_cells.proofs.cells.Cells.add_passes.Given as goal

abbrev pub invariant-loop-number : goal.invariant-loop-number
invariant-loop-number l = record { made : l.passes.items ≡ new_passes l.self l.number; ready : l.baton ≡ new_baton l.self l.number }
