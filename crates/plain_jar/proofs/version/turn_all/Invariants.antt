use Rattle.std.proofs.Common.{◌≡◌, ◌++◌, take, drop}
use Rattle.std.specs.Prelude.{map}
use Rattle.jar_types.specs.Bound.{turned}
use Rattle.plain_jar.proofs.version.turn_all.Given as goal

abbrev pub invariant-loop-key : goal.invariant-loop-key
invariant-loop-key l =
    l.bound ≡ map (turned l.changes) (take l.key-index l.initial.bound) ++ drop l.key-index l.initial.bound
