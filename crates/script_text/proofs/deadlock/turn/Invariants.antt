use Rattle.std.proofs.Common.{◌≡◌}
use Rattle.script_text.specs.Deadlocks.{run_first, Stand, Moves}
use Rattle.script_text.proofs.deadlock.turn.Given as goal

abbrev pub invariant-loop-a : goal.invariant-loop-a
invariant-loop-a l =
    (l.places ≡ run_first l.actors l.a l.initial.places) × Stand l.actors l.places l.counts
    × Moves l.actors l.moved l.initial.places l.places
