use Rattle.std.proofs.Common.{◌≡◌, ℕ}
use Rattle.script_text.specs.Deadlocks.{after_turns, steps_left, Stand}
use Rattle.script_text.proofs.deadlock.run_all.Given as goal

abbrev pub invariant-loop : goal.invariant-loop
invariant-loop l =
    ((n : ℕ) × (after_turns l.actors n ≡ l.places)) × Stand l.actors l.places l.counts

abbrev pub decreases-loop : goal.decreases-loop
decreases-loop l = steps_left l.actors l.places
