-- The jar in which everything is loaded from the start: what it begins with, and the journal that
-- it makes of the same events. This jar's own rule: docs/DEFINITIONS.md.
use Rattle.std.specs.Prelude.{List, [], ◌∷◌, filter, fold, map}
use Rattle.jar_types.specs.declared.change.Change.{Change}
use Rattle.jar_types.specs.declared.entry.Own.{Own}
use Rattle.jar_types.specs.declared.entry.Own.TheVariants.{Want, WantAll, Begun, Loaded, Lost, Whole, Taken, Acked, CommitLost}
use Rattle.jar_types.specs.declared.entry.Event.{Event}
use Rattle.jar_types.specs.declared.entry.Entry.{Entry}
use Rattle.jar_types.specs.declared.entry.Entry.TheVariants.{Call, Jar}
use Rattle.jar_types.specs.declared.row.Row.{Row}
use Rattle.jar_types.specs.declared.row.RowChange.{RowChange}
use Rattle.jar_types.specs.Journals.{Rules, events, stored_keys}
use Rattle.jar_types.specs.Loads.{is_loaded}
use Rattle.jar_types.specs.States.{JarState, opening}
use Rattle.jar_types.specs.Steps.{after, changes_at, rows_at}
use Rattle.jar_types.specs.Stored.{cookies_of_rows}

-- the state that a jar begins with which has all cookies that these rows stand for
abbrev pub eager_opening : Rules → List Row → JarState
eager_opening r rows = record (opening (stored_keys r)) { cookies = cookies_of_rows r rows }

-- the same of the jar's own, but a load that lists nothing
abbrev pub unlisted_own : Own → Own
unlisted_own (Want key) = Want key
unlisted_own WantAll = WantAll
unlisted_own (Begun key) = Begun key
unlisted_own (Loaded key cookies) = Loaded key []
unlisted_own (Lost key) = Lost key
unlisted_own (Whole now) = Whole now
unlisted_own Taken = Taken
unlisted_own (Acked place) = Acked place
unlisted_own (CommitLost place) = CommitLost place

-- the entry, where its load lists nothing
abbrev pub unlisted_entry : Entry → Entry
unlisted_entry (Call caller now op reply) = Call caller now op reply
unlisted_entry (Jar own) = Jar (unlisted_own own)

-- the journal, in which each load lists nothing
abbrev pub unlisted : List Entry → List Entry
unlisted journal = map unlisted_entry journal

-- the state of the eager jar after the events of a journal
abbrev pub eager_state : Rules → List Row → List Entry → JarState
eager_state r rows journal = fold after (eager_opening r rows) (events (unlisted journal))

-- the state without the cookies of keys that aren't loaded
abbrev pub loaded_part : JarState → JarState
loaded_part s = record s { cookies = filter (λ c. is_loaded c.key s.loads.keys) s.cookies }

-- the changes that each of these events makes of the cookies, from a state on
abbrev pub change_lists : JarState → List Event → List (List Change)
change_lists s [] = []
change_lists s (v ∷ vs) = changes_at s v ∷ change_lists (after s v) vs

-- the changes that each of these events makes of the stored rows, from a state on
abbrev pub row_lists : JarState → List Event → List (List RowChange)
row_lists s [] = []
row_lists s (v ∷ vs) = rows_at s v ∷ row_lists (after s v) vs
