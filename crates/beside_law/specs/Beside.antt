-- The changes of rows that wait beside a journal: the newest ones, those that were taken and aren't
-- committed, and how far the last batch that was committed goes; and the laws of these. This jar's
-- own rule: docs/DEFINITIONS.md.
use Rattle.std.specs.Prelude.{◌≡◌, ℕ, List, [], ◌∷◌, ◌++◌, map, false, None}
use Rattle.jar_types.specs.declared.entry.Entry.{Entry}
use Rattle.jar_types.specs.declared.entry.Event.{Event}
use Rattle.jar_types.specs.declared.entry.Event.TheVariants.{Call as CallEvent, Jar as JarEvent}
use Rattle.jar_types.specs.declared.entry.Own.{Own}
use Rattle.jar_types.specs.declared.entry.Own.TheVariants.{Want, WantAll, Begun, Loaded, Lost, Whole, Taken, Acked, CommitLost}
use Rattle.jar_types.specs.declared.row.RowChange.{RowChange}
use Rattle.jar_types.specs.Journals.{Rules, events, state_of, stored_keys}
use Rattle.jar_types.specs.RowChanges.{change_id, newest_over}
use Rattle.jar_types.specs.States.{JarState, opening}
use Rattle.jar_types.specs.Steps.{after, entry_of, rows_at}
use Rattle.stored_law.specs.Coalescing.{ChangesRise}

-- ---- what waits beside a journal

-- the newest changes since a batch was taken; the newest of those that were taken and aren't
-- committed; and the place of the last batch that was committed, 0 for none
pub record Beside : Type 0 where
  pub pending : List RowChange
  pub kept : List RowChange
  pub acked : ℕ

-- nothing changed
abbrev pub nothing_beside : Beside
nothing_beside = record { pending = []; kept = []; acked = 0 }

-- these rows changed
abbrev pub with_pending : List RowChange → Beside → Beside
with_pending rows b = record b { pending = newest_over b.pending rows }

-- what the jar does itself, where it changes these rows: a batch is taken of what is pending, over
-- what was kept; its commit keeps nothing; and what a lost one was to make is kept
abbrev pub own_beside : Own → List RowChange → Beside → Beside
own_beside (Want key) rows b = with_pending rows b
own_beside WantAll rows b = with_pending rows b
own_beside (Begun key) rows b = with_pending rows b
own_beside (Loaded key cookies) rows b = with_pending rows b
own_beside (Lost key) rows b = with_pending rows b
own_beside (Whole now) rows b = with_pending rows b
own_beside Taken rows b = record b { pending = []; kept = newest_over b.kept b.pending }
own_beside (Acked place) rows b = record b { kept = []; acked = place }
own_beside (CommitLost place) rows b = with_pending rows b

-- what an event does, from a state
abbrev pub event_beside : JarState → Event → Beside → Beside
event_beside s (CallEvent caller now op) b = with_pending (rows_at s (CallEvent caller now op)) b
event_beside s (JarEvent own) b = own_beside own (rows_at s (JarEvent own)) b

-- what these events do, one after another
abbrev pub beside_from : JarState → List Event → Beside → Beside
beside_from s [] b = b
beside_from s (v ∷ vs) b = beside_from (after s v) vs (event_beside s v b)

-- what waits after a journal
unfoldable pub beside_of : Rules → List Entry → Beside
beside_of r journal = beside_from (opening (stored_keys r)) (events journal) nothing_beside

-- ---- laws

-- nothing waits after no entry
abbrev pub BesideBegins : Type 0
BesideBegins = (r : Rules) → beside_of r [] ≡ nothing_beside

-- the entry of an event takes what waits one step on
abbrev pub BesideGoesOn : Type 0
BesideGoesOn =
    (r : Rules) (journal : List Entry) (v : Event)
    → beside_of r (journal ++ entry_of (state_of (stored_keys r) journal) v ∷ [])
    ≡ event_beside (state_of (stored_keys r) journal) v (beside_of r journal)

-- the ids of what is pending rise
abbrev pub PendingRises : Type 0
PendingRises = (r : Rules) (journal : List Entry) → ChangesRise (beside_of r journal).pending

-- and so do those of what is kept
abbrev pub KeptRises : Type 0
KeptRises = (r : Rules) (journal : List Entry) → ChangesRise (beside_of r journal).kept

-- what is pending is of the touched ids
abbrev pub PendingIsTouched : Type 0
PendingIsTouched =
    (r : Rules) (journal : List Entry)
    → map change_id (beside_of r journal).pending ≡ (state_of (stored_keys r) journal).batches.touched

-- nothing is kept where no batch is out, and the last one wasn't lost
abbrev pub KeptWhereOut : Type 0
KeptWhereOut =
    (r : Rules) (journal : List Entry)
    → (state_of (stored_keys r) journal).batches.out ≡ None
    → (state_of (stored_keys r) journal).batches.lost ≡ false
    → (beside_of r journal).kept ≡ []
