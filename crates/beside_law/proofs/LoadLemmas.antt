-- What a load lists beside a legal and honest journal: of keys that aren't loaded no row changes.
use Rattle.std.proofs.Common.{◌≡◌, ℕ, List, [], ◌∷◌, ◌++◌, Bool, true, false, cond, Option, None, Some, refl, sym, ap, ◌∙◌, subst}
use Rattle.std.specs.Prelude.{◌&&◌, is_none, nat_lt, not, option_map}
use Rattle.std.specs.List.{AllByRecursion}
use Rattle.std.specs.Option.{option_or}
use Rattle.std.proofs.lemmas.Bool.{and_parts, not-false, not-true}
use Rattle.jar_types.specs.declared.cookie.CookieId.{CookieId}
use Rattle.jar_types.specs.declared.entry.Entry.{Entry}
use Rattle.jar_types.specs.declared.entry.Event.{Event}
use Rattle.jar_types.specs.declared.entry.Event.TheVariants.{Call as CallEvent, Jar as JarEvent}
use Rattle.jar_types.specs.declared.entry.Own.{Own}
use Rattle.jar_types.specs.declared.entry.Own.TheVariants.{Want, WantAll, Begun, Loaded, Lost, Whole, Taken, Acked, CommitLost}
use Rattle.jar_types.specs.declared.jar_core.Awaited.{Awaited}
use Rattle.jar_types.specs.declared.jar_core.Awaited.TheVariants as awaited
use Rattle.jar_types.specs.declared.jar_core.CoreRefusal.{CoreRefusal}
use Rattle.jar_types.specs.declared.jar_core.CoreRefusal.TheVariants.{Pending, NotYet}
use Rattle.jar_types.specs.declared.op.Op.{Op}
use Rattle.jar_types.specs.declared.op.Op.TheVariants.{Bind, Set, Get, Delete, All, Clear, Listen, Changes, Unlisten, Post, Hear}
use Rattle.jar_types.specs.declared.row.Row.{Row}
use Rattle.jar_types.specs.declared.row.RowChange.{RowChange}
use Rattle.jar_types.specs.Batches.{may_commit}
use Rattle.jar_types.specs.Evictions.{swept}
use Rattle.jar_types.specs.Journals.{IsLegal, Rules, is_well_keyed, key_at, own_fits, stands, state_of, stored_keys}
use Rattle.jar_types.specs.Loads.{Loads, has_text, lost_where, may_load, own_loads, with_lost, without_text}
use Rattle.jar_types.specs.Posts.{op_wanting}
use Rattle.jar_types.specs.RowChanges.{change_id, newest_over, row_id}
use Rattle.jar_types.specs.States.{JarState}
use Rattle.jar_types.specs.Steps.{after, call_where, entry_of, own_changed, own_may_stand, rows_at}
use Rattle.jar_types.specs.Stored.{EntryIsHonest, OwnIsHonest}
use Rattle.jar_types.specs.Waits.{faulted, is_lost, is_there, needs, op_waits}
use Rattle.jar_types.proofs.JournalLemmas.{state_push}
use Rattle.stored_law.proofs.AtLemmas.{found}
use Rattle.stored_law.proofs.ChangeLemmas.{found_changed, told}
use Rattle.stored_law.proofs.EachLemmas.{OpHas, loaded_each, op_each, swept_each}
use Rattle.stored_law.proofs.KeyLemmas.{AreUnloaded, call_keys, own_unloaded, still_unloaded}
use Rattle.stored_law.proofs.TextLemmas.{text_is}
use Rattle.stored_law.specs.Coalescing.{ChangesRise}
use Rattle.beside_law.specs.Beside.{Beside, beside_of, event_beside, nothing_beside, own_beside}
use Rattle.beside_law.specs.Held.{LeftIsHeld, LoadsStayHonest, event_held, held_of, own_held}
use Rattle.beside_law.proofs.BesideLemmas.{beside_goes_on, kept_rises}
use Rattle.beside_law.proofs.HeldLemmas.{held_goes_on, held_rises}
use Rattle.beside_law.proofs.LeftLemmas.{AllThere, HoldsLeft, IsLeft, IsThere, changes_left, load_is_stored, none_newer, still_there, stored_there, was_left}
use Rattle.beside_law.proofs.LegalLemmas.{all_but_last, each_legal, the_last}

-- ---- keys that aren't loaded

-- of keys that aren't loaded, the jar has no cookie, no change is pending or kept, and what was
-- stored is held
record LeavesLeft (r : Rules) (rows : List Row) (s : JarState) (b : Beside) (held : List Row) : Type 0 where
  there : AllThere r s.loads.keys.unloaded s.cookies
  keys : AreUnloaded s.loads.keys
  pending : (i : CookieId) → IsLeft r s.loads.keys.unloaded i → found change_id i b.pending ≡ None
  kept : (i : CookieId) → IsLeft r s.loads.keys.unloaded i → found change_id i b.kept ≡ None
  stored : HoldsLeft r rows held s.loads.keys.unloaded

begin_left : (r : Rules) (rows : List Row) (keys : List (List ℕ)) → LeavesLeft r rows (state_of keys []) nothing_beside rows
unfolding state_of
begin_left r rows keys = record {
  there = tt;
  keys = record { wanted = tt; begun = λ key e. absurd cc };
  pending = λ i e. refl;
  kept = λ i e. refl;
  stored = λ i e. refl;
}

-- ---- what an event does of such keys

-- its keys are left, where the state behind it has no cookie of them, and no row of theirs changes
record StillLeft (r : Rules) (s : JarState) (v : Event) : Type 0 where
  there : AllThere r (after s v).loads.keys.unloaded (after s v).cookies
  keys : AreUnloaded (after s v).loads.keys
  were : (i : CookieId) → IsLeft r (after s v).loads.keys.unloaded i → IsLeft r s.loads.keys.unloaded i
  none : (i : CookieId) → IsLeft r (after s v).loads.keys.unloaded i → found change_id i (rows_at s v) ≡ None

there_from : (there lost : Bool) (what : Awaited) (rest : Option CoreRefusal)
    → is_none (option_or (option_map (λ w. Pending w) (cond (not there && not lost) (Some what) None)) rest) ≡ true
    → cond (not there && lost) (Some what) None ≡ None → there ≡ true
there_from true lost what rest waits fault = refl
there_from false true what rest waits fault = absurd cc
there_from false false what rest waits fault = absurd cc

-- a Set stores a cookie of a key that is loaded
op_has : (r : Rules) (s : JarState) (now : ℕ) (op : Op) → is_well_keyed r op ≡ true → is_none (op_waits s op) ≡ true
    → faulted s.loads (needs op) ≡ None → OpHas (IsThere r s.loads.keys.unloaded) now op
op_has r s now (Bind key) keyed waits fault = tt
op_has r s now (Set cookie script secure) keyed waits fault =
    let what = awaited.Key cookie.key in
    let rest = option_map (λ found. NotYet found) (op_wanting s (Set cookie script secure)) in
    let there = there_from (is_there s.loads what) (is_lost s.loads what) what rest waits fault in
    (text_is cookie.key (key_at r cookie.host) keyed, not-true (has_text cookie.key s.loads.keys.unloaded) there)
op_has r s now (Get request) keyed waits fault = λ c is. is
op_has r s now (Delete key id) keyed waits fault = tt
op_has r s now All keyed waits fault = tt
op_has r s now Clear keyed waits fault = tt
op_has r s now (Listen scope) keyed waits fault = tt
op_has r s now (Changes number) keyed waits fault = tt
op_has r s now (Unlisten number) keyed waits fault = tt
op_has r s now Post keyed waits fault = tt
op_has r s now (Hear actor n) keyed waits fault = tt

call_there : (r : Rules) (fault : Option Awaited) (s : JarState) (caller now : ℕ) (op : Op) → (fault ≡ None → OpHas (IsThere r s.loads.keys.unloaded) now op)
    → AllThere r s.loads.keys.unloaded s.cookies → AllThere r s.loads.keys.unloaded (call_where fault s caller now op).state.cookies
call_there r (Some what) s caller now op has all = all
call_there r None s caller now op has all = op_each (IsThere r s.loads.keys.unloaded) (λ old c was is. is) s caller now op (has refl) all

call_still : (r : Rules) (s : JarState) (caller now : ℕ) (op : Op) → AllThere r s.loads.keys.unloaded s.cookies → AreUnloaded s.loads.keys
    → stands r s (CallEvent caller now op) ≡ true → StillLeft r s (CallEvent caller now op)
call_still r s caller now op there keys stand =
    let fault = faulted s.loads (needs op) in
    let step = call_where fault s caller now op in
    let p0 = and_parts (nat_lt caller r.callers) (nat_lt s.calls r.limit && (is_well_keyed r op && is_none (op_waits s op))) stand in
    let p1 = and_parts (nat_lt s.calls r.limit) (is_well_keyed r op && is_none (op_waits s op)) p0.1 in
    let p2 = and_parts (is_well_keyed r op) (is_none (op_waits s op)) p1.1 in
    let same = call_keys fault s caller now op in
    let all = call_there r fault s caller now op (λ none. op_has r s now op p2.0 p2.1 none) there in
    let were : (i : CookieId) → IsLeft r step.state.loads.keys.unloaded i → IsLeft r s.loads.keys.unloaded i =
    λ i e. ap (has_text (key_at r i.host)) (sym same.unloaded) ∙ e in
    record {
      there = subst (λ us. AllThere r us step.state.cookies) (sym same.unloaded) all;
      keys = still_unloaded s.loads.keys step.state.loads.keys same keys;
      were = were;
      none = λ i e. changes_left r s.loads.keys.unloaded s.cookies step.state.cookies i there all (were i e);
    }

-- what the jar does itself, where it loads nothing, and changes neither cookies nor rows
quiet_still : (r : Rules) (s : JarState) (own : Own) → AllThere r s.loads.keys.unloaded s.cookies → AreUnloaded s.loads.keys → may_load own s.loads ≡ true
    → rows_at s (JarEvent own) ≡ [] → (own_changed own s.cookies).cookies ≡ s.cookies → (own_loads own s.loads).keys.unloaded ≡ s.loads.keys.unloaded
    → StillLeft r s (JarEvent own)
quiet_still r s own there keys may rows cookies unloaded = record {
  there = rw (unloaded, cookies) there;
  keys = own_unloaded own s.loads may keys;
  were = λ i e. ap (has_text (key_at r i.host)) (sym unloaded) ∙ e;
  none = λ i e. ap (found change_id i) rows;
}

lost_unloaded : (b : Bool) (key : List ℕ) (l : Loads) → (lost_where b (record l { keys = with_lost key l.keys })).keys.unloaded ≡ l.keys.unloaded
lost_unloaded true key l = refl
lost_unloaded false key l = refl

own_still : (r : Rules) (rows : List Row) (s : JarState) (own : Own) → AllThere r s.loads.keys.unloaded s.cookies → AreUnloaded s.loads.keys
    → may_load own s.loads ≡ true → OwnIsHonest r rows own → StillLeft r s (JarEvent own)
own_still r rows s (Want key) there keys may honest = quiet_still r s (Want key) there keys may refl refl refl
own_still r rows s WantAll there keys may honest = quiet_still r s WantAll there keys may refl refl refl
own_still r rows s (Begun key) there keys may honest = quiet_still r s (Begun key) there keys may refl refl refl
own_still r rows s (Loaded key cookies) there keys may honest =
    let unloaded = s.loads.keys.unloaded in
    let left = without_text key unloaded in
    let loaded : AllThere r left cookies = subst (AllThere r left) (sym honest) (stored_there r rows key unloaded) in
    record {
      there = loaded_each (IsThere r left) (λ old c was is. is) cookies s.cookies loaded (still_there r key unloaded s.cookies there);
      keys = own_unloaded (Loaded key cookies) s.loads may keys;
      were = λ i e. was_left r key unloaded i e;
      none = λ i e. refl;
    }
own_still r rows s (Lost key) there keys may honest =
    quiet_still r s (Lost key) there keys may refl refl (lost_unloaded s.loads.all_wanted key s.loads)
own_still r rows s (Whole now) there keys may honest =
    let all = swept_each (IsThere r s.loads.keys.unloaded) (λ old c was is. is) now s.cookies there in
    record {
      there = all;
      keys = keys;
      were = λ i e. e;
      none = λ i e. changes_left r s.loads.keys.unloaded s.cookies (swept now s.cookies).cookies i there all e;
    }
own_still r rows s Taken there keys may honest = quiet_still r s Taken there keys may refl refl refl
own_still r rows s (Acked place) there keys may honest = quiet_still r s (Acked place) there keys may refl refl refl
own_still r rows s (CommitLost place) there keys may honest = quiet_still r s (CommitLost place) there keys may refl refl refl

event_still : (r : Rules) (rows : List Row) (s : JarState) (v : Event) → AllThere r s.loads.keys.unloaded s.cookies → AreUnloaded s.loads.keys
    → stands r s v ≡ true → EntryIsHonest r rows (entry_of s v) → StillLeft r s v
event_still r rows s (CallEvent caller now op) there keys stand honest = call_still r s caller now op there keys stand
event_still r rows s (JarEvent own) there keys stand honest =
    let may = and_parts (own_may_stand s own) (own_fits r own) stand in
    own_still r rows s own there keys (and_parts (may_load own s.loads) (may_commit own s.batches) may.0).0 honest

-- ---- what waits and what is held then

-- of these ids no change is pending or kept, and what was stored is held
record NoneOf (rows : List Row) (i : CookieId) (b : Beside) (held : List Row) : Type 0 where
  pending : found change_id i b.pending ≡ None
  kept : found change_id i b.kept ≡ None
  stored : found row_id i held ≡ found row_id i rows

more_none : (rows : List Row) (i : CookieId) (b : Beside) (held : List Row) (new : List RowChange) → NoneOf rows i b held → found change_id i new ≡ None
    → NoneOf rows i (record b { pending = newest_over b.pending new }) held
more_none rows i b held new none e = record { pending = none_newer i b.pending new none.pending e; kept = none.kept; stored = none.stored }

own_none : (rows : List Row) (i : CookieId) (own : Own) (b : Beside) (held : List Row) (new : List RowChange) → ChangesRise b.kept → NoneOf rows i b held
    → found change_id i new ≡ None → NoneOf rows i (own_beside own new b) (own_held own b.kept held)
own_none rows i (Want key) b held new rises none e = more_none rows i b held new none e
own_none rows i WantAll b held new rises none e = more_none rows i b held new none e
own_none rows i (Begun key) b held new rises none e = more_none rows i b held new none e
own_none rows i (Loaded key cookies) b held new rises none e = more_none rows i b held new none e
own_none rows i (Lost key) b held new rises none e = more_none rows i b held new none e
own_none rows i (Whole now) b held new rises none e = more_none rows i b held new none e
own_none rows i Taken b held new rises none e = record { pending = refl; kept = none_newer i b.kept b.pending none.kept none.pending; stored = none.stored }
own_none rows i (Acked place) b held new rises none e = record {
  pending = none.pending;
  kept = refl;
  stored = found_changed i held b.kept rises ∙ ap (λ o. told o (found row_id i held)) none.kept ∙ none.stored;
}
own_none rows i (CommitLost place) b held new rises none e = more_none rows i b held new none e

event_none : (rows : List Row) (i : CookieId) (s : JarState) (v : Event) (b : Beside) (held : List Row) → ChangesRise b.kept → NoneOf rows i b held
    → found change_id i (rows_at s v) ≡ None → NoneOf rows i (event_beside s v b) (event_held v b.kept held)
event_none rows i s (CallEvent caller now op) b held rises none e = more_none rows i b held (rows_at s (CallEvent caller now op)) none e
event_none rows i s (JarEvent own) b held rises none e = own_none rows i own b held (rows_at s (JarEvent own)) rises none e

event_left : (r : Rules) (rows : List Row) (s : JarState) (v : Event) (b : Beside) (held : List Row) → ChangesRise b.kept → LeavesLeft r rows s b held
    → StillLeft r s v → LeavesLeft r rows (after s v) (event_beside s v b) (event_held v b.kept held)
event_left r rows s v b held rises left still =
    let all : (i : CookieId) → IsLeft r (after s v).loads.keys.unloaded i → NoneOf rows i (event_beside s v b) (event_held v b.kept held) =
    λ i e.
    let was = still.were i e in
    event_none rows i s v b held rises (record { pending = left.pending i was; kept = left.kept i was; stored = left.stored i was }) (still.none i e) in
    record {
      there = still.there;
      keys = still.keys;
      pending = λ i e. (all i e).pending;
      kept = λ i e. (all i e).kept;
      stored = λ i e. (all i e).stored;
    }

-- ---- all of a legal journal

abbrev Leaves : Rules → List Row → List Entry → Type 0
Leaves r rows journal =
    AllByRecursion (EntryIsHonest r rows) journal
    → LeavesLeft r rows (state_of (stored_keys r) journal) (beside_of r journal) (held_of r rows journal)

left_begins : (r : Rules) (rows : List Row) → Leaves r rows []
unfolding beside_of held_of
left_begins r rows honest = begin_left r rows (stored_keys r)

left_goes_on : (r : Rules) (rows : List Row) (journal : List Entry) (v : Event) → IsLegal r journal → stands r (state_of (stored_keys r) journal) v ≡ true
    → Leaves r rows journal → Leaves r rows (journal ++ entry_of (state_of (stored_keys r) journal) v ∷ [])
left_goes_on r rows journal v legal stand before honest =
    let s = state_of (stored_keys r) journal in
    let left = before (all_but_last (EntryIsHonest r rows) journal (entry_of s v) honest) in
    let still = event_still r rows s v left.there left.keys stand (the_last (EntryIsHonest r rows) journal (entry_of s v) honest) in
    rw (state_push (stored_keys r) journal v, beside_goes_on r journal v, held_goes_on r rows journal v)
    (event_left r rows s v (beside_of r journal) (held_of r rows journal) (kept_rises r journal) left still)

all_left : (r : Rules) (rows : List Row) (journal : List Entry) → IsLegal r journal → Leaves r rows journal
all_left r rows journal legal = each_legal r (Leaves r rows) (left_begins r rows) (left_goes_on r rows) journal legal

-- ---- the laws

pub left_is_held : LeftIsHeld
left_is_held r rows journal key rises legal honest isnt =
    let s = state_of (stored_keys r) journal in
    let left = all_left r rows journal legal honest.loads in
    load_is_stored r rows (held_of r rows journal) s.loads.keys.unloaded rises (held_rises r rows journal rises) left.stored key honest.hosts
    (not-false (has_text key s.loads.keys.unloaded) isnt)

pub loads_stay_honest : LoadsStayHonest
loads_stay_honest r rows journal key rises legal honest begun =
    let s = state_of (stored_keys r) journal in
    let there = (all_left r rows journal legal honest.loads).keys.begun key begun in
    left_is_held r rows journal key rises legal honest (ap not there)
