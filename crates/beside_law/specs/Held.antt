-- The rows that a keeper holds beside a journal, where it carried out just the batches that the
-- journal says were committed; and the laws of these: its sound rows are those that were to be
-- stored when the last such batch was taken, and of a key that isn't loaded it holds what was
-- stored. This jar's own rule: docs/DEFINITIONS.md.
use Rattle.std.specs.Prelude.{◌≡◌, ℕ, ◌≤◌, List, [], ◌∷◌, ◌++◌, length, take, true, false, Some}
use Rattle.jar_types.specs.declared.entry.Entry.{Entry}
use Rattle.jar_types.specs.declared.entry.Event.{Event}
use Rattle.jar_types.specs.declared.entry.Event.TheVariants.{Call as CallEvent, Jar as JarEvent}
use Rattle.jar_types.specs.declared.entry.Own.{Own}
use Rattle.jar_types.specs.declared.entry.Own.TheVariants.{Want, WantAll, Begun, Loaded, Lost, Whole, Taken, Acked, CommitLost}
use Rattle.jar_types.specs.declared.row.Row.{Row}
use Rattle.jar_types.specs.declared.row.RowChange.{RowChange}
use Rattle.jar_types.specs.Batches.{no_batch}
use Rattle.jar_types.specs.Journals.{IsLegal, Rules, events, state_of, stored_keys}
use Rattle.jar_types.specs.Loads.{is_begun, is_loaded}
use Rattle.jar_types.specs.RowChanges.{RowsRise, changed_rows, newest_over}
use Rattle.jar_types.specs.States.{JarState, opening}
use Rattle.jar_types.specs.Steps.{after, entry_of}
use Rattle.jar_types.specs.Stored.{IsHonest, sound_rows, stored_cookies, stored_rows}
use Rattle.stored_law.specs.HostLoads.{cookies_of_hosts, hosts_of_key}
use Rattle.stored_law.specs.Keeping.{AllStorable, row_changes_of}
use Rattle.beside_law.specs.Beside.{Beside, beside_of, event_beside, nothing_beside}

-- ---- what is held beside a journal

-- what the jar does itself, where these changes are kept: a commit makes them of the rows
abbrev pub own_held : Own → List RowChange → List Row → List Row
own_held (Want key) kept held = held
own_held WantAll kept held = held
own_held (Begun key) kept held = held
own_held (Loaded key cookies) kept held = held
own_held (Lost key) kept held = held
own_held (Whole now) kept held = held
own_held Taken kept held = held
own_held (Acked place) kept held = changed_rows held kept
own_held (CommitLost place) kept held = held

-- what an event does
abbrev pub event_held : Event → List RowChange → List Row → List Row
event_held (CallEvent caller now op) kept held = held
event_held (JarEvent own) kept held = own_held own kept held

-- what these events do, one after another, from a state and what waits beside it
abbrev pub held_from : JarState → List Event → Beside → List Row → List Row
held_from s [] b held = held
held_from s (v ∷ vs) b held =
    held_from (after s v) vs (event_beside s v b) (event_held v b.kept held)

-- the rows that are held after a journal, where these were before it
unfoldable pub held_of : Rules → List Row → List Entry → List Row
held_of r rows journal = held_from (opening (stored_keys r)) (events journal) nothing_beside rows

-- ---- laws of the changes

-- what was held before it is held after no entry
abbrev pub HeldBegins : Type 0
HeldBegins = (r : Rules) (rows : List Row) → held_of r rows [] ≡ rows

-- the entry of an event takes what is held one step on
abbrev pub HeldGoesOn : Type 0
HeldGoesOn =
    (r : Rules) (rows : List Row) (journal : List Entry) (v : Event)
    → held_of r rows (journal ++ entry_of (state_of (stored_keys r) journal) v ∷ [])
    ≡ event_held v (beside_of r journal).kept (held_of r rows journal)

-- the ids of what is held rise where they did
abbrev pub HeldRises : Type 0
HeldRises =
    (r : Rules) (rows : List Row) (journal : List Entry) → RowsRise rows
    → RowsRise (held_of r rows journal)

-- what is kept and what is pending make of what is held what all changes of the journal make of the
-- rows
abbrev pub AllIsHeld : Type 0
AllIsHeld =
    (r : Rules) (rows : List Row) (journal : List Entry) → RowsRise rows
    → changed_rows (held_of r rows journal)
    (newest_over (beside_of r journal).kept (beside_of r journal).pending)
    ≡ changed_rows rows (row_changes_of r journal)

-- the place of the last batch that was committed is within the journal
abbrev pub AckedIsThere : Type 0
AckedIsThere =
    (r : Rules) (journal : List Entry) → IsLegal r journal
    → (beside_of r journal).acked ≤ length journal

-- what is held is what all changes made of the rows up to the taking of the last batch that was
-- committed
abbrev pub HeldIsAcked : Type 0
HeldIsAcked =
    (r : Rules) (rows : List Row) (journal : List Entry) → RowsRise rows → IsLegal r journal
    → held_of r rows journal
    ≡ changed_rows rows (row_changes_of r (take (beside_of r journal).acked journal))

-- ---- laws of what is stored

-- the sound rows that are held are those that were to be stored when the last batch that was
-- committed was taken
abbrev pub HeldIsStored : Type 0
HeldIsStored =
    (r : Rules) (rows : List Row) (journal : List Entry)
    → RowsRise rows → IsLegal r journal → IsHonest r rows journal → AllStorable journal
    → sound_rows (held_of r rows journal)
    ≡ stored_rows r rows (take (beside_of r journal).acked journal)

-- where a batch is out, its changes make of them those that were to be stored when it was taken
abbrev pub BatchIsStored : Type 0
BatchIsStored =
    (r : Rules) (rows : List Row) (journal : List Entry) (place : ℕ)
    → RowsRise rows → IsLegal r journal → IsHonest r rows journal → AllStorable journal
    → (state_of (stored_keys r) journal).batches.out ≡ Some place
    → sound_rows (changed_rows (held_of r rows journal) (beside_of r journal).kept)
    ≡ stored_rows r rows (take place journal)

-- where nothing is kept or pending, they are those that are to be stored after the journal
abbrev pub AllAckedIsStored : Type 0
AllAckedIsStored =
    (r : Rules) (rows : List Row) (journal : List Entry)
    → RowsRise rows → IsLegal r journal → IsHonest r rows journal → AllStorable journal
    → (beside_of r journal).kept ≡ [] → (beside_of r journal).pending ≡ []
    → sound_rows (held_of r rows journal) ≡ stored_rows r rows journal

-- and so they are where no row was touched, no batch is out, and the last one wasn't lost
abbrev pub SettledIsStored : Type 0
SettledIsStored =
    (r : Rules) (rows : List Row) (journal : List Entry)
    → RowsRise rows → IsLegal r journal → IsHonest r rows journal → AllStorable journal
    → (state_of (stored_keys r) journal).batches ≡ no_batch
    → sound_rows (held_of r rows journal) ≡ stored_rows r rows journal

-- ---- laws of loads

-- a key that isn't loaded: its hosts' cookies are held as they were stored
abbrev pub LeftIsHeld : Type 0
LeftIsHeld =
    (r : Rules) (rows : List Row) (journal : List Entry) (key : List ℕ)
    → RowsRise rows → IsLegal r journal → IsHonest r rows journal
    → is_loaded key (state_of (stored_keys r) journal).loads.keys ≡ false
    → cookies_of_hosts r (held_of r rows journal) (hosts_of_key r key r.hosts)
    ≡ stored_cookies r rows key

-- so the load of a key that has begun lists just what was stored
abbrev pub LoadsStayHonest : Type 0
LoadsStayHonest =
    (r : Rules) (rows : List Row) (journal : List Entry) (key : List ℕ)
    → RowsRise rows → IsLegal r journal → IsHonest r rows journal
    → is_begun key (state_of (stored_keys r) journal).loads.keys ≡ true
    → cookies_of_hosts r (held_of r rows journal) (hosts_of_key r key r.hosts)
    ≡ stored_cookies r rows key
