use Rattle.std.proofs.Common.{◌≡◌, take}
use Rattle.jar_types.specs.Listeners.{admitted}
use Rattle.plain_jar.proofs.tell.admitted.Given as goal

abbrev pub invariant-loop-change : goal.invariant-loop-change
invariant-loop-change l = l.all.items ≡ admitted l.scope l.now (take l.change-index l.changes)
