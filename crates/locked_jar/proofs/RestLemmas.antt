-- What always holds of a locked jar, before its first entry and after each.
use Rattle.std.proofs.Common.{◌≡◌, ◌+◌, ◌≤◌, ℕ, List, [], ◌∷◌, ◌++◌, true, false, None, Option, length, map, refl, ap, sym, ◌∙◌, subst, arith, length-append}
use Rattle.std.proofs.lemmas.List.{map-append}
use Rattle.jar_types.specs.declared.entry.Entry.{Entry}
use Rattle.jar_types.specs.declared.entry.Event.{Event}
use Rattle.jar_types.specs.declared.entry.Event.TheVariants.{Call as CallEvent, Jar as JarEvent}
use Rattle.jar_types.specs.declared.entry.Own.{Own}
use Rattle.jar_types.specs.declared.entry.Own.TheVariants.{Want, WantAll, Begun, Loaded, Lost, Whole, Taken, Acked, CommitLost}
use Rattle.jar_types.specs.declared.jar_core.Awaited.{Awaited}
use Rattle.jar_types.specs.declared.jar_core.Awaited.TheVariants as awaited
use Rattle.jar_types.specs.declared.row.RowChange.{RowChange}
use Rattle.jar_types.specs.Batches.{Batches, own_batches}
use Rattle.jar_types.specs.Counts.{IsCounted}
use Rattle.jar_types.specs.RowChanges.{change_id, newest_over}
use Rattle.jar_types.specs.States.{JarState, opening}
use Rattle.jar_types.specs.Steps.{after, call_step, changes_at, entry_of, event_of, rows_at}
use Rattle.jar_types.proofs.CountLemmas.{entries_count}
use Rattle.jar_types.proofs.JournalLemmas.{event_back}
use Rattle.stored_law.proofs.ChangeLemmas.{newest_are_touched}
use Rattle.version_cells.specs.declared.view.View.{View}
use Rattle.version_cells.specs.Lists.{cells_moved}
use Rattle.version_cells.specs.Standing.{BatonStanding, baton_with_listing, listing_of}
use Rattle.locked_jar.specs.Calls.{want_of}
use Rattle.locked_jar.specs.Entering.{HasEntered, HasListed}
use Rattle.locked_jar.specs.LockedJars.{IsAtRest, LockedJar, event_pending, journal_of, listing_at}
use Rattle.locked_jar.specs.LockedJars as jars
use Rattle.locked_jar.specs.Owns.{is_ending, is_taking}
use Rattle.locked_jar.proofs.SameLemmas.{call_batches, event_entries}

-- ---- before the first entry

opening_counted : (keys : List (List ℕ)) → IsCounted (opening keys)
opening_counted keys = record { calls = omega arith; posts = tt; listens = tt; versions = tt; cells = omega arith }

-- at the opening state, without an entry
pub opened_rests : (keys : List (List ℕ)) (baton : View) (journal : List Entry) (j : LockedJar) → baton.pending ≡ [] → baton.permit ≡ None
    → journal ≡ [] → j.state ≡ opening keys → j.seen ≡ [] → j.pending ≡ [] → IsAtRest 0 baton journal j
opened_rests keys baton journal j cells permit empty state seen pending = record {
  no_cell = cells;
  no_permit = permit;
  journal_is = empty ∙ ap journal_of (sym seen);
  calls_are = ap (λ (s : JarState). s.calls) (sym state);
  few_calls = let none = ap (λ (s : JarState). s.calls) state in omega (arith, none);
  counted = rw state (opening_counted keys);
  entries_are = ap length seen ∙ ap (λ (s : JarState). s.entries) (sym state);
  touched = ap (map change_id) pending ∙ ap (λ (s : JarState). s.batches.touched) (sym state);
}

-- ---- the changes that wait

own_touched : (s : JarState) (own : Own) (pending : List RowChange) → map change_id pending ≡ s.batches.touched
    → map change_id (event_pending s (JarEvent own) pending) ≡ (after s (JarEvent own)).batches.touched
own_touched s (Want key) pending e = newest_are_touched pending (rows_at s (JarEvent (Want key))) s.batches e
own_touched s WantAll pending e = newest_are_touched pending (rows_at s (JarEvent WantAll)) s.batches e
own_touched s (Begun key) pending e = newest_are_touched pending (rows_at s (JarEvent (Begun key))) s.batches e
own_touched s (Loaded key cookies) pending e = newest_are_touched pending (rows_at s (JarEvent (Loaded key cookies))) s.batches e
own_touched s (Lost key) pending e = newest_are_touched pending (rows_at s (JarEvent (Lost key))) s.batches e
own_touched s (Whole now) pending e = newest_are_touched pending (rows_at s (JarEvent (Whole now))) s.batches e
own_touched s Taken pending e = refl
own_touched s (Acked place) pending e = newest_are_touched pending (rows_at s (JarEvent (Acked place))) (own_batches (s.entries + 1) (Acked place) s.batches) e
own_touched s (CommitLost place) pending e = newest_are_touched pending (rows_at s (JarEvent (CommitLost place))) (own_batches (s.entries + 1) (CommitLost place) s.batches) e

-- the changes that wait are of the touched ids after each event
pub event_touched : (s : JarState) (v : Event) (pending : List RowChange) → map change_id pending ≡ s.batches.touched
    → map change_id (event_pending s v pending) ≡ (after s v).batches.touched
event_touched s (CallEvent caller now op) pending e =
    newest_are_touched pending (rows_at s (CallEvent caller now op)) (call_step s caller now op).state.batches
    (e ∙ ap (λ (b : Batches). b.touched) (sym (call_batches s caller now op)))
event_touched s (JarEvent own) pending e = own_touched s own pending e

-- ---- one entry more

-- whatever the new baton and journal are called: calls are as many as the state says
pub entered_rests : (calls calls' : ℕ) (baton baton' : View) (journal journal' : List Entry) (j : LockedJar) (owner : Option ℕ) (v : Event)
    → baton'.pending ≡ [] → baton'.permit ≡ None → journal' ≡ journal ++ (listing_at owner j.state v).about ∷ []
    → calls' ≡ (after j.state v).calls → (after j.state v).calls ≤ j.limit
    → IsAtRest calls baton journal j → IsAtRest calls' baton' journal' (jars.entered j owner v)
entered_rests calls calls' baton baton' journal journal' j owner v cells permit longer count few rest = record {
  no_cell = cells;
  no_permit = permit;
  journal_is = longer ∙ (ap (λ l. l ++ (listing_at owner j.state v).about ∷ []) rest.journal_is ∙ sym (map-append _ j.seen (listing_at owner j.state v ∷ [])));
  calls_are = count;
  few_calls = few;
  counted = entries_count j.state v rest.counted;
  entries_are =
      length-append j.seen (listing_at owner j.state v ∷ []) ∙ (ap (λ n. n + 1) rest.entries_are ∙ sym (event_entries j.state v));
  touched = event_touched j.state v j.pending rest.touched;
}

-- ---- an entry that was made ready

-- the listing of an entry that is that of an event, with its cells
pub listing_is : (s : JarState) (owner : Option ℕ) (v : Event) (entry : Entry) (cells : List ℕ) → entry ≡ entry_of s v
    → cells ≡ cells_moved s.bound (changes_at s v) → listing_of cells owner entry ≡ listing_at owner s v
listing_is s owner v entry cells is moved = rw (is, moved) refl

event_is : (s : JarState) (v : Event) (entry : Entry) → entry ≡ entry_of s v → event_of entry ≡ v
event_is s v entry is = ap event_of is ∙ event_back s v

module _ (baton baton' : BatonStanding) (s s0 s' : JarState) (journal journal0 journal' : List Entry) (pending pending0 pending' : List RowChange)
    (owner : Option ℕ) (v : Event) (entry : Entry) (cells : List ℕ)
    (is : entry ≡ entry_of s v) (moved : cells ≡ cells_moved s.bound (changes_at s v))
    (same : s0 ≡ s) (same_journal : journal0 ≡ journal) (same_pending : pending0 ≡ pending)
    (listed : HasListed (listing_of cells owner entry) baton baton')
    (entered : HasEntered entry s0 s' journal0 journal' pending0 pending') where
  pub state_is : s' ≡ after s v
  state_is = entered.step ∙ (ap (λ t. after t (event_of entry)) same ∙ ap (after s) (event_is s v entry is))

  pub seen_is : baton'.view.own.seen ≡ baton.view.own.seen ++ listing_at owner s v ∷ []
  seen_is = listed.seen ∙ ap (λ l. baton.view.own.seen ++ l ∷ []) (listing_is s owner v entry cells is moved)

  pub pending_is : pending' ≡ newest_over pending (rows_at s v)
  pending_is =
      entered.waits
      ∙ (ap (λ p. newest_over p (rows_at s0 (event_of entry))) same_pending
      ∙ (ap (λ t. newest_over pending (rows_at t (event_of entry))) same ∙ ap (λ u. newest_over pending (rows_at s u)) (event_is s v entry is)))

  journal_on : journal' ≡ journal ++ (listing_at owner s v).about ∷ []
  journal_on = entered.stands ∙ (ap (λ l. l ++ entry ∷ []) same_journal ∙ ap (λ e. journal ++ e ∷ []) is)

  -- where the changes that wait are then called `waiting`
  pub jar_is : (limit : ℕ) (waiting : List RowChange) → waiting ≡ event_pending s v pending
      → record { table = baton'.table; state = s'; seen = baton'.view.own.seen; pending = waiting; limit = limit }
      ≡ jars.entered (record { table = baton.table; state = s; seen = baton.view.own.seen; pending = pending; limit = limit }) owner v
  jar_is limit waiting waits = rw (listed.table_is, state_is, seen_is, waits) refl

  pub rests_on : (calls calls' limit : ℕ) (waiting : List RowChange) → waiting ≡ event_pending s v pending
      → calls' ≡ (after s v).calls → (after s v).calls ≤ limit
      → IsAtRest calls baton.view journal (record { table = baton.table; state = s; seen = baton.view.own.seen; pending = pending; limit = limit })
      → IsAtRest calls' baton'.view journal' (record { table = baton'.table; state = s'; seen = baton'.view.own.seen; pending = waiting; limit = limit })
  rests_on calls calls' limit waiting waits count few rest =
      subst (IsAtRest calls' baton'.view journal') (sym (jar_is limit waiting waits))
      (entered_rests calls calls' baton.view baton'.view journal journal'
      (record { table = baton.table; state = s; seen = baton.view.own.seen; pending = pending; limit = limit }) owner v
      listed.no_cell listed.no_permit journal_on count few rest)

-- what the jar does itself but for taking a batch waits as it comes
pub own_waits : (s : JarState) (own : Own) (pending : List RowChange) → is_taking own ≡ false
    → newest_over pending (rows_at s (JarEvent own)) ≡ event_pending s (JarEvent own) pending
own_waits s (Want key) pending e = refl
own_waits s WantAll pending e = refl
own_waits s (Begun key) pending e = refl
own_waits s (Loaded key cookies) pending e = refl
own_waits s (Lost key) pending e = refl
own_waits s (Whole now) pending e = refl
own_waits s Taken pending e = absurd cc
own_waits s (Acked place) pending e = refl
own_waits s (CommitLost place) pending e = refl

-- a want waits as it comes
pub want_waits : (s : JarState) (what : Awaited) (own : Own) (pending : List RowChange) → own ≡ want_of what
    → newest_over pending (rows_at s (JarEvent own)) ≡ event_pending s (JarEvent own) pending
want_waits s what own pending is = own_waits s own pending (ap is_taking is ∙ no_taking what)
  where
    no_taking : (what : Awaited) → is_taking (want_of what) ≡ false
    no_taking (awaited.Key key) = refl
    no_taking awaited.All = refl

-- an entry of nobody was committed by a baton without a permit
pub listed_for_none : (baton baton' : BatonStanding) (cells : List ℕ) (entry : Entry) → baton' ≡ baton_with_listing baton (listing_of cells None entry)
    → baton.view.permit ≡ None → HasListed (listing_of cells None entry) baton baton'
listed_for_none baton baton' cells entry is free = rw is (record { table_is = refl; no_cell = refl; no_permit = free; seen = refl })

-- a batch that ends waits as it comes
pub ending_waits : (own : Own) → is_ending own ≡ true → is_taking own ≡ false
ending_waits (Want key) e = refl
ending_waits WantAll e = refl
ending_waits (Begun key) e = refl
ending_waits (Loaded key cookies) e = refl
ending_waits (Lost key) e = refl
ending_waits (Whole now) e = refl
ending_waits Taken e = absurd cc
ending_waits (Acked place) e = refl
ending_waits (CommitLost place) e = refl
