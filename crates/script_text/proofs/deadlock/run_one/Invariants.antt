use Rattle.std.proofs.Common.{◌≡◌}
use Rattle.script_text.specs.Deadlocks.{run_one, steps_left, Stand, Moves}
use Rattle.script_text.proofs.deadlock.run_one.Given as goal

abbrev pub invariant-loop-step : goal.invariant-loop-step
invariant-loop-step l =
    (run_one l.actors l.a l.places ≡ run_one l.actors l.a l.initial.places) × Stand l.actors l.places l.counts
    × Moves l.actors l.moved l.initial.places l.places

abbrev pub decreases-loop-step : goal.decreases-loop-step
decreases-loop-step l = steps_left l.actors l.places
