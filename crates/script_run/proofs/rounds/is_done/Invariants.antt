use Rattle.std.proofs.Common.{◌≡◌, drop}
use Rattle.script_run.specs.Turns.{turns_left}
use Rattle.script_run.proofs.rounds.is_done.Given as goal

abbrev pub invariant-loop-a : goal.invariant-loop-a
invariant-loop-a l = turns_left (drop l.a l.script.actors) (drop l.a l.items) ≡ turns_left l.script.actors l.items
