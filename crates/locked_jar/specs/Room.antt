-- How many entries a jar can have: those of callers and those that its loads and commits make, and no more wants than these
-- allow. This jar's own rule: docs/DEFINITIONS.md.
use Rattle.std.specs.Prelude.{◌≡◌, ◌≤◌, ◌+◌, ◌*◌, ℕ, List, length, Bool, true, false}
use Rattle.jar_types.specs.declared.entry.Own.{Own}
use Rattle.jar_types.specs.declared.entry.Own.TheVariants.{Want, WantAll, Begun, Loaded, Lost, Whole, Taken, Acked, CommitLost}
use Rattle.jar_types.specs.declared.entry.Entry.{Entry}
use Rattle.jar_types.specs.declared.entry.Entry.TheVariants.{Call, Jar}
use Rattle.jar_types.specs.Journals.{Rules, IsLegal, state_of, stored_keys}
use Rattle.version_cells.specs.declared.listing.Listing.{Listing}
use Rattle.version_cells.specs.Listings.{one, owned, total}
use Rattle.locked_jar.specs.History.{IsHistory}
use Rattle.locked_jar.specs.LockedJars.{journal_of}

-- a load or a commit makes the entry, and no call
abbrev pub is_served : Own → Bool
is_served (Want key) = false
is_served WantAll = false
is_served (Begun key) = true
is_served (Loaded key cookies) = true
is_served (Lost key) = true
is_served (Whole now) = true
is_served Taken = true
is_served (Acked place) = true
is_served (CommitLost place) = true

abbrev pub is_serving : Entry → Bool
is_serving (Call caller now op reply) = false
is_serving (Jar own) = is_served own

-- how many entries of a journal loads and commits made
abbrev pub served_in : List Entry → ℕ
served_in journal = total (λ e. one (is_serving e)) journal

-- A legal journal has no more entries than its callers', three for each that a load or a commit made, and one for each
-- stored key and one: a want stands at most once for each load and once more
abbrev pub JournalsHaveRoom : Type 0
JournalsHaveRoom =
    (r : Rules) (journal : List Entry) → IsLegal r journal
    → length journal ≤ (state_of (stored_keys r) journal).calls + 3 * served_in journal + length (stored_keys r) + 1

-- the pass that owns what loads and commits make, which is no caller's, owns just these entries of a history
abbrev pub ServedAreOwned : Type 0
ServedAreOwned =
    (r : Rules) (cutter : ℕ) (history : List Listing) → IsHistory r cutter history → r.callers ≤ cutter
    → owned cutter history ≡ served_in (journal_of history)
