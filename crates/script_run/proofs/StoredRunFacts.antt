-- A script over a stored row, of which the laws of stored runs hold: it deletes the row's cookie,
-- and none is then held.
use Rattle.std.proofs.Common.{◌≡◌, ◌≤◌, ◌+◌, ℕ, zero, suc, List, [], ◌∷◌, true, None, Some, slice_get, refl, arith, subst}
use Rattle.std.specs.Prelude.{codes, pos}
use Rattle.std.specs.List.Sorted.{IsStrictlySortedBy}
use Rattle.jar_values.specs.declared.moment.TheConstants.{MAX_MOMENT}
use Rattle.jar_types.specs.declared.entry.Entry.TheVariants.{Call, Jar}
use Rattle.jar_types.specs.declared.entry.Own.TheVariants.{Want, Begun, Loaded, Whole, Taken, Acked}
use Rattle.jar_types.specs.declared.op.Op.TheVariants as op
use Rattle.jar_types.specs.declared.op.Reply.TheVariants.{Flag}
use Rattle.jar_types.specs.declared.row.Row.{Row}
use Rattle.jar_types.specs.Journals.{state_of}
use Rattle.jar_types.specs.RowChanges.{RowsRise, row_id}
use Rattle.jar_types.specs.Rows.{cookie_in, is_sound_row}
use Rattle.jar_types.specs.Stored.{hosts_of, sound_rows, stored_rows}
use Rattle.script_text.specs.declared.actor.Actor.{Actor}
use Rattle.script_text.specs.declared.script.Script.{Script}
use Rattle.script_text.specs.declared.step.Step.{Step}
use Rattle.script_text.specs.declared.step.What.TheVariants.{Delete}
use Rattle.script_text.specs.Admitted.{IsAdmitted, IsAdmittedActor, IsPlacedWhat, MayStand, place_of_step}
use Rattle.script_text.specs.Deadlocks.{AllHaveEnded}
use Rattle.script_run.specs.Rounds.{EndsOver, Over, flushed_over, rounds_over, rules_of}
use Rattle.script_run.specs.StoredRuns.{IsTimed}
use Rattle.script_run.proofs.StoredRunLemmas.{stored_runs_are_kept}

abbrev row : Row
row = record {
  host = codes "t";
  name = codes "x";
  path = codes "/";
  value = codes "1";
  creation = pos 0;
  expiry = pos 9;
  access = pos 0;
  secure = pos 0;
  http_only = pos 0;
  same_site = pos 0;
  priority = pos 0;
}

abbrev rows : List Row
rows = row ∷ []

rows_rise : RowsRise rows
unfolding IsStrictlySortedBy
rows_rise = (tt, tt)

-- ---- a script of one fetch that deletes it

abbrev step : Step
step = record { now = 5; what = Delete (codes "t") (codes "x") (codes "/") }

abbrev actor : Actor
actor = record { view = None; steps = step ∷ [] }

abbrev script : Script
script = record { suffixes = []; start = 0; limit = 1; actors = actor ∷ [] }

is_timed : IsTimed script
is_timed = record { start = omega arith; steps = ((omega arith, tt), tt) }

places : (s : ℕ) (other : Step) → slice_get actor.steps s ≡ Some other → IsPlacedWhat script.suffixes other.what
places zero other e =
    let is : step ≡ other = cc in subst (λ (t : Step). IsPlacedWhat script.suffixes t.what) is tt
places (suc s) other e = absurd cc

stand : (s : ℕ) (other : Step) → slice_get actor.steps s ≡ Some other → MayStand (place_of_step script actor s) other.what
stand zero other e =
    let is : step ≡ other = cc in subst (λ (t : Step). MayStand (place_of_step script actor zero) t.what) is refl
stand (suc s) other e = absurd cc

each : (a : ℕ) (other : Actor) → slice_get script.actors a ≡ Some other → IsAdmittedActor script other
each zero other e =
    let is : actor ≡ other = cc in
    subst (IsAdmittedActor script) is (record { view_places = tt; step_places = places; steps_stand = stand })
each (suc a) other e = absurd cc

ended : AllHaveEnded script.actors (1 ∷ [])
ended zero = omega arith
ended (suc a) = omega arith

is_admitted : IsAdmitted script
is_admitted = record {
  few_actors = omega arith;
  few_steps = omega arith;
  least_limit = omega arith;
  most_limit = omega arith;
  each_actor = each;
  no_deadlock = (1 ∷ [], record { turns = 1; after = refl; still = refl }, ended);
}

-- ---- its run

abbrev end : Over
end = flushed_over true (rounds_over script rows 2)

ends : EndsOver script rows end
ends = record { earlier = 1; is = refl; done = refl; first = (refl, tt) }

-- its fetch waits for the key, which is loaded; then the cookie goes, and its row with the last
-- commit
journal_is : end.run.journal
    ≡ (Jar (Want (codes "t")) ∷ Jar (Begun (codes "t")) ∷ Jar (Loaded (codes "t") (cookie_in (codes "t") row ∷ []))
    ∷ Call 0 5 (op.Delete (codes "t") (row_id row)) (Flag true) ∷ Jar (Whole 0) ∷ Jar Taken ∷ Jar (Acked 6) ∷ [])
journal_is = refl

held_is : (end.held ≡ []) × (is_sound_row row ≡ true)
held_is = (refl, refl)

stored_is : stored_rows (rules_of script (hosts_of rows)) rows end.run.journal ≡ []
unfolding state_of
stored_is = refl

-- and the law says the same
kept : sound_rows end.held ≡ stored_rows (rules_of script (hosts_of rows)) rows end.run.journal
kept = stored_runs_are_kept script rows end is_admitted is_timed rows_rise ends

-- ---- moments past the last one

late_step : IsTimed (record script { actors = record actor { steps = record step { now = MAX_MOMENT + 1 } ∷ [] } ∷ [] }) → ⊥
late_step h = let most : MAX_MOMENT + 1 ≤ MAX_MOMENT = h.steps.0.0 in absurd (omega (arith, most))

late_start : IsTimed (record script { start = MAX_MOMENT + 1 }) → ⊥
late_start h = let most : MAX_MOMENT + 1 ≤ MAX_MOMENT = h.start in absurd (omega (arith, most))
