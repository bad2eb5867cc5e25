-- What lies under the jar's lock, and what an event makes of it. This jar's own rule: docs/DEFINITIONS.md.
use Rattle.std.specs.Prelude.{◌≡◌, ◌<◌, ◌≤◌, ℕ, List, [], ◌∷◌, ◌++◌, length, map, Option, None}
use Rattle.atomic_table.specs.Seated.{TableId}
use Rattle.jar_types.specs.declared.entry.Entry.{Entry}
use Rattle.jar_types.specs.declared.entry.Event.{Event}
use Rattle.jar_types.specs.declared.entry.Event.TheVariants.{Call as CallEvent, Jar as JarEvent}
use Rattle.jar_types.specs.declared.entry.Own.{Own}
use Rattle.jar_types.specs.declared.entry.Own.TheVariants.{Want, WantAll, Begun, Loaded, Lost, Whole, Taken, Acked, CommitLost}
use Rattle.jar_types.specs.declared.row.RowChange.{RowChange}
use Rattle.jar_types.specs.Counts.{IsCounted}
use Rattle.jar_types.specs.RowChanges.{change_id, newest_over}
use Rattle.jar_types.specs.States.{JarState, opening}
use Rattle.jar_types.specs.Steps.{after, changes_at, entry_of, rows_at}
use Rattle.version_cells.specs.declared.cells.TheConstants.{MOST_ENTRIES}
use Rattle.version_cells.specs.declared.listing.Listing.{Listing}
use Rattle.version_cells.specs.declared.view.View.{View}
use Rattle.version_cells.specs.Lists.{cells_moved}

-- the words that it goes to; the state of the jar; the history, of which each entry has a listing; the changes of rows
-- since a batch was taken; and how many entries callers may have
pub record LockedJar : Type 0 where
  pub table : TableId
  pub state : JarState
  pub seen : List Listing
  pub pending : List RowChange
  pub limit : ℕ

-- a locked jar, and for how many entries its journal has room without more memory
pub record LockedView : Type 0 where
  pub jar : LockedJar
  pub spare : ℕ

-- the entry of a listing
abbrev pub about_of : Listing → Entry
about_of l = l.about

-- the journal of a history
abbrev pub journal_of : List Listing → List Entry
journal_of seen = map about_of seen

-- the jar before its first entry, where these keys aren't loaded
abbrev pub opened : TableId → List (List ℕ) → ℕ → LockedJar
opened table keys limit = record { table = table; state = opening keys; seen = []; pending = []; limit = limit }

-- ---- an event

-- the listing of an event's entry for an owner: the cells of the bound keys that it moves, and the entry
abbrev pub listing_at : Option ℕ → JarState → Event → Listing
listing_at owner s v = record { cells = cells_moved s.bound (changes_at s v); owner = owner; about = entry_of s v }

-- the changes of rows that wait once the jar did this itself, which changed these rows: none once a batch is taken
abbrev pub own_pending : Own → List RowChange → List RowChange → List RowChange
own_pending (Want key) rows pending = newest_over pending rows
own_pending WantAll rows pending = newest_over pending rows
own_pending (Begun key) rows pending = newest_over pending rows
own_pending (Loaded key cookies) rows pending = newest_over pending rows
own_pending (Lost key) rows pending = newest_over pending rows
own_pending (Whole now) rows pending = newest_over pending rows
own_pending Taken rows pending = []
own_pending (Acked place) rows pending = newest_over pending rows
own_pending (CommitLost place) rows pending = newest_over pending rows

-- the changes of rows that wait once an event happened
abbrev pub event_pending : JarState → Event → List RowChange → List RowChange
event_pending s (CallEvent caller now op) pending = newest_over pending (rows_at s (CallEvent caller now op))
event_pending s (JarEvent own) pending = own_pending own (rows_at s (JarEvent own)) pending

-- an event happened for an owner: its entry stands in the history, the state takes its step, and its changes of rows wait
abbrev pub entered : LockedJar → Option ℕ → Event → LockedJar
entered j owner v = record j {
  state = after j.state v;
  seen = j.seen ++ listing_at owner j.state v ∷ [];
  pending = event_pending j.state v j.pending;
}

-- ---- what always holds

-- one more entry may stand in the history
abbrev pub HasRoom : LockedJar → Type 0
HasRoom j = j.state.entries < MOST_ENTRIES

-- Whenever the lock is free: no cell is pending and no permit is with the baton, the journal is that of the history, the
-- calls are counted and no more than they may be, as is each entry, and the changes that wait are of the touched ids
pub record IsAtRest (calls : ℕ) (baton : View) (journal : List Entry) (j : LockedJar) : Type 0 where
  pub no_cell : baton.pending ≡ []
  pub no_permit : baton.permit ≡ None
  pub journal_is : journal ≡ journal_of j.seen
  pub calls_are : calls ≡ j.state.calls
  pub few_calls : j.state.calls ≤ j.limit
  pub counted : IsCounted j.state
  pub entries_are : length j.seen ≡ j.state.entries
  pub touched : map change_id j.pending ≡ j.state.batches.touched
