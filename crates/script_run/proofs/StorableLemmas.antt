-- Each call of a journal stores what can be stored, where the moments of the script are moments.
use Rattle.std.proofs.Common.{◌≡◌, ◌≤◌, ℕ, zero, suc, List, [], ◌∷◌, Bool, true, false, Option, None, Some, length, slice_get, refl, subst}
use Rattle.std.specs.Prelude.{nat_le}
use Rattle.std.specs.List.{AllByRecursion}
use Rattle.jar_values.specs.declared.moment.TheConstants.{MAX_MOMENT}
use Rattle.jar_types.specs.declared.entry.Entry.TheVariants.{Jar}
use Rattle.jar_types.specs.declared.entry.Event.TheVariants.{Call as CallEvent}
use Rattle.jar_types.specs.declared.entry.Own.{Own}
use Rattle.jar_types.specs.declared.jar_core.CoreRefusal.{CoreRefusal}
use Rattle.jar_types.specs.declared.jar_core.CoreRefusal.TheVariants.{Pending, NotYet, NoMemory}
use Rattle.jar_types.specs.declared.op.Op.{Op}
use Rattle.jar_types.specs.declared.op.Op.TheVariants.{Bind, Set, Get, Delete, All, Clear, Listen, Changes, Unlisten, Post, Hear}
use Rattle.jar_types.specs.Journals.{Rules}
use Rattle.jar_types.specs.Steps.{entry_of, own_may_stand}
use Rattle.jar_types.specs.Waits.{op_waits}
use Rattle.script_text.specs.declared.actor.Actor.{Actor}
use Rattle.script_text.specs.declared.script.Script.{Script}
use Rattle.script_text.specs.declared.step.Step.{Step}
use Rattle.script_text.specs.Admitted.{IsAdmitted}
use Rattle.script_text.specs.Placed.{View}
use Rattle.stored_law.specs.Keeping.{AllStorable, EntryIsStorable, OpIsStorable}
use Rattle.stored_law.proofs.FoundLemmas.{all_append}
use Rattle.script_run.specs.declared.ask.Ask.{Ask}
use Rattle.script_run.specs.declared.ask.Ask.TheVariants as ask
use Rattle.script_run.specs.declared.purpose.Purpose.{Purpose}
use Rattle.script_run.specs.Ask.{ask_of}
use Rattle.script_run.specs.Reads.{Way, reuses, calls, way_of}
use Rattle.script_run.specs.Rounds.{rules_of}
use Rattle.script_run.specs.Runs.{Run, asked, called_where, called_within, did, holding_at, items_at, next_turn, tried_where, want_of, went}
use Rattle.script_run.specs.StoredRuns.{AreTimed, IsTimed}
use Rattle.script_run.specs.Turns.{Turn, binds, does, turn_now, turns_at, view_at}
use Rattle.script_run.proofs.ClosedLemmas.{Closed}
use Rattle.script_run.proofs.AskOwnLemmas.{AskIsOwn, IsTurn, OpIsOwn, actor_turn, turn_own}

-- ---- the moment of a turn

one_of : {X : Type 0} → (P : X → Type 0) (xs : List X) (i : ℕ) (x : X) → AllByRecursion P xs → slice_get xs i ≡ Some x → P x
one_of P [] i x all e = absurd cc
one_of P (y ∷ ys) zero x all e =
    let is : y ≡ x = cc in subst P is all.0
one_of P (y ∷ ys) (suc i) x all e = one_of P ys i x all.1 e

is_timed : (script : Script) (sees : Option View) (steps : List Step) (turn : Turn) → IsTimed script → AreTimed steps → IsTurn sees steps turn
    → turn_now script turn ≤ MAX_MOMENT
is_timed script sees steps binds timed all is = timed.start
is_timed script sees steps (does step) timed all is = one_of (λ (s : Step). s.now ≤ MAX_MOMENT) steps is.0 step all is.1

turn_timed : (script : Script) (a i : ℕ) (turn : Turn) → IsTimed script → slice_get (turns_at script.actors a) i ≡ Some turn → turn_now script turn ≤ MAX_MOMENT
turn_timed script a i turn timed is =
    let there = actor_turn (slice_get script.actors a) i turn is in
    is_timed script there.0.view there.0.steps turn timed
    (one_of (λ (actor : Actor). AreTimed actor.steps) script.actors a there.0 timed.steps there.1) there.2

-- ---- each call of a journal stores what can be stored

own_storable : (r : Rules) (now : ℕ) (op : Op) → now ≤ MAX_MOMENT → OpIsOwn r now op → OpIsStorable now op
own_storable r now (Bind key) timed own = tt
own_storable r now (Set cookie script secure) timed own = own.1 timed
own_storable r now (Get request) timed own = timed
own_storable r now (Delete key id) timed own = tt
own_storable r now All timed own = tt
own_storable r now Clear timed own = tt
own_storable r now (Listen scope) timed own = tt
own_storable r now (Changes number) timed own = tt
own_storable r now (Unlisten number) timed own = tt
own_storable r now Post timed own = tt
own_storable r now (Hear actor n) timed own = tt

-- the journal of a run so far
abbrev pub IsStored : Run → Type 0
IsStored r = AllStorable r.journal

did_stored : (may : Bool) (r : Run) (own : Own) → IsStored r → IsStored (did may r own)
did_stored true r own all = all_append EntryIsStorable r.journal (Jar own ∷ []) all (tt, tt)
did_stored false r own all = all

where_stored : (o : Option CoreRefusal) (a : ℕ) (r : Run) (now : ℕ) (op : Op) (why : Purpose) → OpIsStorable now op → IsStored r
    → IsStored (called_where o a r now op why)
where_stored (Some (Pending w)) a r now op why can all = did_stored (own_may_stand r.state (want_of w)) r (want_of w) all
where_stored (Some (NotYet found)) a r now op why can all = all
where_stored (Some NoMemory) a r now op why can all = all
where_stored None a r now op why can all = all_append EntryIsStorable r.journal (entry_of r.state (CallEvent a now op) ∷ []) all (can, tt)

within_stored : (full : Bool) (a : ℕ) (r : Run) (now : ℕ) (op : Op) (why : Purpose) → OpIsStorable now op → IsStored r
    → IsStored (called_within full a r now op why)
within_stored true a r now op why can all = all
within_stored false a r now op why can all = where_stored (op_waits r.state op) a r now op why can all

asked_stored : (script : Script) (rules : Rules) (a : ℕ) (r : Run) (now : ℕ) (why : Purpose) (o : Option Ask) → now ≤ MAX_MOMENT → AskIsOwn rules now o
    → IsStored r → IsStored (asked script a r now why o)
asked_stored script rules a r now why None timed own all = all
asked_stored script rules a r now why (Some (ask.Op op)) timed own all =
    within_stored (nat_le script.limit r.state.calls) a r now op why (own_storable rules now op timed own) all
asked_stored script rules a r now why (Some (ask.Refused name)) timed own all = all

went_stored : (script : Script) (rules : Rules) (a : ℕ) (r : Run) (now : ℕ) (way : Way) (o : Option Ask) → now ≤ MAX_MOMENT → AskIsOwn rules now o
    → IsStored r → IsStored (went script a r now way o)
went_stored script rules a r now (reuses text) o timed own all = all
went_stored script rules a r now (calls why) o timed own all = asked_stored script rules a r now why o timed own all

turn_stored : (script : Script) (hosts : List (List ℕ)) (a : ℕ) (r : Run) (o : Option Turn) → IsAdmitted script → IsTimed script → next_turn script a r ≡ o
    → IsStored r → IsStored (tried_where script a r o)
turn_stored script hosts a r None admitted timed is all = all
turn_stored script hosts a r (Some turn) admitted timed is all =
    let i = length (items_at r a) in
    let sees = view_at script.actors a in
    went_stored script (rules_of script hosts) a r (turn_now script turn) (way_of r.state sees (holding_at r a) turn) (ask_of script.suffixes sees turn)
    (turn_timed script a i turn timed is) (turn_own script hosts a i turn admitted is) all

-- tries keep that, the jar's own entries, and its batches
pub stored_closed : (script : Script) (hosts : List (List ℕ)) → IsAdmitted script → IsTimed script → Closed script IsStored
stored_closed script hosts admitted timed = record {
  tries = λ a r low all. turn_stored script hosts a r (next_turn script a r) admitted timed refl all;
  own = λ r own all. all_append EntryIsStorable r.journal (Jar own ∷ []) all (tt, tt);
  batch = λ r pending kept all. all;
}
