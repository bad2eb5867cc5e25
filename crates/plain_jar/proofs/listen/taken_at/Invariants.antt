use Rattle.std.proofs.Common.{◌≡◌}
use Rattle.jar_types.specs.Listeners.{taken_at}
use Rattle.plain_jar.proofs.listen.taken_at.Given as goal

abbrev pub invariant-loop-listener : goal.invariant-loop-listener
invariant-loop-listener l = l.all.items ≡ taken_at l.caller l.number l.yielded
