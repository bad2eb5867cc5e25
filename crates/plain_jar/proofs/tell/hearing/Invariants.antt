use Rattle.std.proofs.Common.{◌≡◌}
use Rattle.std.specs.Prelude.{map}
use Rattle.jar_types.specs.Listeners.{hears}
use Rattle.plain_jar.proofs.tell.hearing.Given as goal

abbrev pub invariant-loop-listener : goal.invariant-loop-listener
invariant-loop-listener l = l.all.items ≡ map (hears l.now l.changes) l.yielded
