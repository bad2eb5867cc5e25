use Rattle.std.proofs.Common.{◌≡◌, ◌++◌, drop}
use Rattle.std.specs.Prelude.{filter_map}
use Rattle.jar_types.specs.Bound.{cell_of}
use Rattle.locked_jar.proofs.moving.cells_of.Given as goal

abbrev pub invariant-loop-key : goal.invariant-loop-key
invariant-loop-key g l =
    let bound = (g.C.JarCore.state l.core).bound in
    l.cells.items ++ filter_map (λ key. cell_of key bound) (drop l.key-index l.keys) ≡ filter_map (λ key. cell_of key bound) l.keys
