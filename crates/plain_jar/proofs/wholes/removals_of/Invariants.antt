use Rattle.std.proofs.Common.{◌≡◌}
use Rattle.std.specs.Prelude.{map}
use Rattle.jar_types.specs.Changes.{taken_away}
use Rattle.plain_jar.proofs.wholes.removals_of.Given as goal

abbrev pub invariant-loop-cookie : goal.invariant-loop-cookie
invariant-loop-cookie l = l.all.items ≡ map taken_away l.yielded
