use Rattle.std.proofs.Common.{ℕ, ◌<◌}
use Rattle.script_text.specs.Deadlocks.{HasEnded}
use Rattle.script_text.proofs.deadlock.first_unfinished.Given as goal

abbrev pub invariant-loop-actor : goal.invariant-loop-actor
invariant-loop-actor l = (a : ℕ) → a < l.actor → HasEnded l.actors l.places a
