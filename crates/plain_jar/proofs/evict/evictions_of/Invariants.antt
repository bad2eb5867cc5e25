use Rattle.std.proofs.Common.{◌≡◌}
use Rattle.std.specs.Prelude.{map}
use Rattle.jar_types.specs.Changes.{evicted}
use Rattle.plain_jar.proofs.evict.evictions_of.Given as goal

abbrev pub invariant-loop-cookie : goal.invariant-loop-cookie
invariant-loop-cookie l = l.all.items ≡ map evicted l.yielded
