-- What holds of a run and of what a keeper that never fails holds beside it: each event keeps it,
-- and so does a commit.
use Rattle.std.proofs.Common.{◌≡◌, ℕ, List, [], ◌∷◌, ◌++◌, Bool, true, false, cond, refl, sym, ap, ◌∙◌, subst, Option, None, Some}
use Rattle.std.specs.Prelude.{not, ◌&&◌, option_map}
use Rattle.std.specs.List.{AllByRecursion}
use Rattle.std.specs.List.Sorted.{IsStrictlySortedBy}
use Rattle.std.specs.Option.{option_or}
use Rattle.std.proofs.lemmas.Bool.{not-true}
use Rattle.jar_types.specs.declared.cookie.Cookie.{Cookie}
use Rattle.jar_types.specs.declared.cookie.CookieId.{CookieId}
use Rattle.jar_types.specs.declared.entry.Entry.{Entry}
use Rattle.jar_types.specs.declared.entry.Event.{Event}
use Rattle.jar_types.specs.declared.entry.Event.TheVariants.{Call as CallEvent, Jar as JarEvent}
use Rattle.jar_types.specs.declared.entry.Own.{Own}
use Rattle.jar_types.specs.declared.entry.Own.TheVariants.{Loaded, Whole}
use Rattle.jar_types.specs.declared.jar_core.Awaited.{Awaited}
use Rattle.jar_types.specs.declared.jar_core.Awaited.TheVariants as awaited
use Rattle.jar_types.specs.declared.jar_core.CoreRefusal.{CoreRefusal}
use Rattle.jar_types.specs.declared.jar_core.CoreRefusal.TheVariants.{Pending, NotYet}
use Rattle.jar_types.specs.declared.op.Op.{Op}
use Rattle.jar_types.specs.declared.op.Op.TheVariants.{Bind, Set, Get, Delete, All, Clear, Listen, Changes, Unlisten, Post, Hear}
use Rattle.jar_types.specs.declared.row.Row.{Row}
use Rattle.jar_types.specs.declared.row.RowChange.{RowChange}
use Rattle.jar_types.specs.Evictions.{swept}
use Rattle.jar_types.specs.Journals.{Rules, key_at, state_of, stored_keys}
use Rattle.jar_types.specs.Loads.{has_text, own_loads, without_text}
use Rattle.jar_types.specs.Posts.{op_wanting}
use Rattle.jar_types.specs.RowChanges.{RowsRise, change_id, changed_rows, newest_over, row_id, rows_after}
use Rattle.jar_types.specs.States.{JarState, opening}
use Rattle.jar_types.specs.Steps.{after, call_where, entry_of, own_changed, rows_at}
use Rattle.jar_types.specs.Stored.{EntryIsHonest, OwnIsHonest, stored_cookies}
use Rattle.jar_types.specs.Waits.{faulted, is_lost, is_there, needs, op_waits}
use Rattle.jar_types.proofs.JournalLemmas.{state_push}
use Rattle.stored_law.specs.Coalescing.{ChangesRise}
use Rattle.stored_law.specs.Keeping.{row_changes_of}
use Rattle.stored_law.proofs.AtLemmas.{found}
use Rattle.stored_law.proofs.ChangeLemmas.{changed_rows_rise, found_changed, newest_rise, newest_tell_all, told}
use Rattle.stored_law.proofs.EachLemmas.{OpHas, loaded_each, op_each, swept_each}
use Rattle.stored_law.proofs.FoundLemmas.{all_append}
use Rattle.stored_law.proofs.KeyLemmas.{AreUnloaded, call_keys, loaded_unloaded, still_unloaded}
use Rattle.stored_law.proofs.StoredLemmas.{row_changes_go_on}
use Rattle.script_run.proofs.AskOwnLemmas.{OpIsOwn}
use Rattle.script_run.proofs.LeftLemmas.{AllThere, HoldsLeft, IsLeft, IsThere, changes_left, none_newer, still_there, stored_there, was_left}

-- ---- what holds

-- the journal leads to the state, its loads are honest, and its changes are those that are held and
-- those that are pending; and of keys that aren't loaded, the jar has no cookie, no change is
-- pending, and what was stored is held
pub record Beside (r : Rules) (rows held : List Row) (s : JarState) (journal : List Entry) (pending : List RowChange) : Type 0 where
  pub state : state_of (stored_keys r) journal ≡ s
  pub there : AllThere r s.loads.keys.unloaded s.cookies
  pub keys : AreUnloaded s.loads.keys
  pub held_rises : RowsRise held
  pub rises : ChangesRise pending
  pub untouched : (i : CookieId) → IsLeft r s.loads.keys.unloaded i → found change_id i pending ≡ None
  pub left : HoldsLeft r rows held s.loads.keys.unloaded
  pub tells : changed_rows held pending ≡ changed_rows rows (row_changes_of r journal)
  pub honest : AllByRecursion (EntryIsHonest r rows) journal

none_rise : ChangesRise []
unfolding IsStrictlySortedBy
none_rise = tt

pub begin_beside : (r : Rules) (rows : List Row) → RowsRise rows → Beside r rows rows (opening (stored_keys r)) [] []
unfolding state_of
begin_beside r rows rises = record {
  state = refl;
  there = tt;
  keys = record { wanted = tt; begun = λ key e. absurd cc };
  held_rises = rises;
  rises = none_rise;
  untouched = λ i e. refl;
  left = λ i e. refl;
  tells = refl;
  honest = tt;
}

-- ---- an event

changed_joined : (rows : List Row) (cs ds : List RowChange) → changed_rows rows (cs ++ ds) ≡ changed_rows (changed_rows rows cs) ds
changed_joined rows [] ds = refl
changed_joined rows (c ∷ cs) ds = changed_joined (rows_after rows c) cs ds

-- what an event leaves of keys that aren't loaded
record Leaves (r : Rules) (rows : List Row) (s : JarState) (v : Event) : Type 0 where
  there : AllThere r (after s v).loads.keys.unloaded (after s v).cookies
  keys : AreUnloaded (after s v).loads.keys
  were : (i : CookieId) → IsLeft r (after s v).loads.keys.unloaded i → IsLeft r s.loads.keys.unloaded i
  none : (i : CookieId) → IsLeft r (after s v).loads.keys.unloaded i → found change_id i (rows_at s v) ≡ None
  honest : EntryIsHonest r rows (entry_of s v)

event_tells : (r : Rules) (rows held : List Row) (s : JarState) (journal : List Entry) (pending : List RowChange) (v : Event) → Beside r rows held s journal pending
    → changed_rows held (newest_over pending (rows_at s v)) ≡ changed_rows rows (row_changes_of r (journal ++ entry_of s v ∷ []))
event_tells r rows held s journal pending v b =
    let new = rows_at s v in
    newest_tell_all held pending new b.held_rises b.rises
    ∙ ap (λ rs. changed_rows rs new) b.tells
    ∙ sym (changed_joined rows (row_changes_of r journal) new)
    ∙ ap (changed_rows rows) (
    sym (subst (λ (t : JarState). row_changes_of r (journal ++ entry_of t v ∷ []) ≡ row_changes_of r journal ++ rows_at t v) b.state (row_changes_go_on r journal v))
    )

event_beside : (r : Rules) (rows held : List Row) (s : JarState) (journal : List Entry) (pending : List RowChange) (v : Event) → Beside r rows held s journal pending
    → Leaves r rows s v → Beside r rows held (after s v) (journal ++ entry_of s v ∷ []) (newest_over pending (rows_at s v))
event_beside r rows held s journal pending v b leaves = record {
  state = subst (λ (t : JarState). state_of (stored_keys r) (journal ++ entry_of t v ∷ []) ≡ after t v) b.state (state_push (stored_keys r) journal v);
  there = leaves.there;
  keys = leaves.keys;
  held_rises = b.held_rises;
  rises = newest_rise pending (rows_at s v) b.rises;
  untouched = λ i e. none_newer i pending (rows_at s v) (b.untouched i (leaves.were i e)) (leaves.none i e);
  left = λ i e. b.left i (leaves.were i e);
  tells = event_tells r rows held s journal pending v b;
  honest = all_append (EntryIsHonest r rows) journal (entry_of s v ∷ []) b.honest (leaves.honest, tt);
}

-- ---- a call

there_from : (there lost : Bool) (what : Awaited) (rest : Option CoreRefusal)
    → option_or (option_map (λ w. Pending w) (cond (not there && not lost) (Some what) None)) rest ≡ None
    → cond (not there && lost) (Some what) None ≡ None → there ≡ true
there_from true lost what rest waits fault = refl
there_from false true what rest waits fault = absurd cc
there_from false false what rest waits fault = absurd cc

op_has : (r : Rules) (s : JarState) (now : ℕ) (op : Op) → OpIsOwn r now op → op_waits s op ≡ None → faulted s.loads (needs op) ≡ None
    → OpHas (IsThere r s.loads.keys.unloaded) now op
op_has r s now (Bind key) own waits fault = tt
op_has r s now (Set cookie script secure) own waits fault =
    let what = awaited.Key cookie.key in
    let there = there_from (is_there s.loads what) (is_lost s.loads what) what (option_map (λ found. NotYet found) (op_wanting s (Set cookie script secure))) waits fault in
    (own.0, not-true (has_text cookie.key s.loads.keys.unloaded) there)
op_has r s now (Get request) own waits fault = λ c is. is
op_has r s now (Delete key id) own waits fault = tt
op_has r s now All own waits fault = tt
op_has r s now Clear own waits fault = tt
op_has r s now (Listen scope) own waits fault = tt
op_has r s now (Changes number) own waits fault = tt
op_has r s now (Unlisten number) own waits fault = tt
op_has r s now Post own waits fault = tt
op_has r s now (Hear actor n) own waits fault = tt

call_there : (r : Rules) (fault : Option Awaited) (s : JarState) (caller now : ℕ) (op : Op) → (fault ≡ None → OpHas (IsThere r s.loads.keys.unloaded) now op)
    → AllThere r s.loads.keys.unloaded s.cookies → AllThere r s.loads.keys.unloaded (call_where fault s caller now op).state.cookies
call_there r (Some what) s caller now op has all = all
call_there r None s caller now op has all = op_each (IsThere r s.loads.keys.unloaded) (λ old c was is. is) s caller now op (has refl) all

call_leaves : (r : Rules) (rows : List Row) (s : JarState) (caller now : ℕ) (op : Op) → AllThere r s.loads.keys.unloaded s.cookies → AreUnloaded s.loads.keys
    → OpIsOwn r now op → op_waits s op ≡ None → Leaves r rows s (CallEvent caller now op)
call_leaves r rows s caller now op there keys own waits =
    let fault = faulted s.loads (needs op) in
    let step = call_where fault s caller now op in
    let same = call_keys fault s caller now op in
    let all = call_there r fault s caller now op (λ none. op_has r s now op own waits none) there in
    let were : (i : CookieId) → IsLeft r step.state.loads.keys.unloaded i → IsLeft r s.loads.keys.unloaded i =
    λ i e. ap (has_text (key_at r i.host)) (sym same.unloaded) ∙ e in
    record {
      there = subst (λ us. AllThere r us step.state.cookies) (sym same.unloaded) all;
      keys = still_unloaded s.loads.keys step.state.loads.keys same keys;
      were = were;
      none = λ i e. changes_left r s.loads.keys.unloaded s.cookies step.state.cookies i there all (were i e);
      honest = tt;
    }

pub call_beside : (r : Rules) (rows held : List Row) (s : JarState) (journal : List Entry) (pending : List RowChange) (caller now : ℕ) (op : Op)
    → Beside r rows held s journal pending → OpIsOwn r now op → op_waits s op ≡ None
    → Beside r rows held (after s (CallEvent caller now op)) (journal ++ entry_of s (CallEvent caller now op) ∷ []) (newest_over pending (rows_at s (CallEvent caller now op)))
call_beside r rows held s journal pending caller now op b own waits =
    event_beside r rows held s journal pending (CallEvent caller now op) b (call_leaves r rows s caller now op b.there b.keys own waits)

-- ---- what the jar does itself

-- it loads nothing, and changes neither cookies nor rows
pub record IsStill (s : JarState) (own : Own) : Type 0 where
  pub rows : rows_at s (JarEvent own) ≡ []
  pub cookies : (own_changed own s.cookies).cookies ≡ s.cookies
  pub unloaded : (own_loads own s.loads).keys.unloaded ≡ s.loads.keys.unloaded
  pub keys : AreUnloaded (own_loads own s.loads).keys

pub still_beside : (r : Rules) (rows held : List Row) (s : JarState) (journal : List Entry) (pending : List RowChange) (own : Own)
    → Beside r rows held s journal pending → IsStill s own → OwnIsHonest r rows own
    → Beside r rows held (after s (JarEvent own)) (journal ++ entry_of s (JarEvent own) ∷ []) (newest_over pending (rows_at s (JarEvent own)))
still_beside r rows held s journal pending own b still honest =
    event_beside r rows held s journal pending (JarEvent own) b (record {
      there = rw (still.unloaded, still.cookies) b.there;
      keys = still.keys;
      were = λ i e. ap (has_text (key_at r i.host)) (sym still.unloaded) ∙ e;
      none = λ i e. ap (found change_id i) still.rows;
      honest = honest;
    })

-- the jar becomes whole
pub whole_beside : (r : Rules) (rows held : List Row) (s : JarState) (journal : List Entry) (pending : List RowChange) (now : ℕ)
    → Beside r rows held s journal pending
    → Beside r rows held (after s (JarEvent (Whole now))) (journal ++ entry_of s (JarEvent (Whole now)) ∷ []) (newest_over pending (rows_at s (JarEvent (Whole now))))
whole_beside r rows held s journal pending now b =
    let all = swept_each (IsThere r s.loads.keys.unloaded) (λ old c was is. is) now s.cookies b.there in
    event_beside r rows held s journal pending (JarEvent (Whole now)) b (record {
      there = all;
      keys = b.keys;
      were = λ i e. e;
      none = λ i e. changes_left r s.loads.keys.unloaded s.cookies (swept now s.cookies).cookies i b.there all e;
      honest = tt;
    })

-- a key is loaded, of which just what is stored is listed
pub loaded_beside : (r : Rules) (rows held : List Row) (s : JarState) (journal : List Entry) (pending : List RowChange) (key : List ℕ) (cookies : List Cookie)
    → Beside r rows held s journal pending → cookies ≡ stored_cookies r rows key
    → Beside r rows held (after s (JarEvent (Loaded key cookies))) (journal ++ entry_of s (JarEvent (Loaded key cookies)) ∷ []) (newest_over pending (rows_at s (JarEvent (Loaded key cookies))))
loaded_beside r rows held s journal pending key cookies b honest =
    let unloaded = s.loads.keys.unloaded in
    let left = without_text key unloaded in
    let loaded : AllThere r left cookies = subst (AllThere r left) (sym honest) (stored_there r rows key unloaded) in
    event_beside r rows held s journal pending (JarEvent (Loaded key cookies)) b (record {
      there = loaded_each (IsThere r left) (λ old c was is. is) cookies s.cookies loaded (still_there r key unloaded s.cookies b.there);
      keys = loaded_unloaded key s.loads.keys b.keys;
      were = λ i e. was_left r key unloaded i e;
      none = λ i e. refl;
      honest = honest;
    })

-- ---- a commit

-- what was pending is held
pub committed_beside : (r : Rules) (rows held : List Row) (s : JarState) (journal : List Entry) (kept pending : List RowChange) → kept ≡ []
    → Beside r rows held s journal pending → Beside r rows (changed_rows held (newest_over kept pending)) s journal []
committed_beside r rows held s journal kept pending none b =
    let same : changed_rows held (newest_over kept pending) ≡ changed_rows held pending =
    ap (λ ks. changed_rows held (newest_over ks pending)) none ∙ newest_tell_all held [] pending b.held_rises none_rise in
    record {
      state = b.state;
      there = b.there;
      keys = b.keys;
      held_rises = changed_rows_rise held (newest_over kept pending) b.held_rises;
      rises = none_rise;
      untouched = λ i e. refl;
      left =
          λ i e.
          ap (found row_id i) same
          ∙ found_changed i held pending b.rises
          ∙ ap (λ o. told o (found row_id i held)) (b.untouched i e)
          ∙ b.left i e;
      tells = same ∙ b.tells;
      honest = b.honest;
    }
