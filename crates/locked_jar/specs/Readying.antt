-- Entries that are made ready. This jar's own rule: docs/DEFINITIONS.md.
use Rattle.std.specs.Prelude.{◌≡◌, ◌≤◌, ℕ, List, true, Option, None, Some, length}
use Rattle.jar_types.specs.declared.entry.Entry.{Entry}
use Rattle.jar_types.specs.declared.entry.Entry.TheVariants.{Call, Jar}
use Rattle.jar_types.specs.declared.entry.Event.{Event}
use Rattle.jar_types.specs.declared.entry.Event.TheVariants.{Call as CallEvent, Jar as JarEvent}
use Rattle.jar_types.specs.declared.jar_core.CoreRefusal.{CoreRefusal}
use Rattle.jar_types.specs.declared.jar_core.CoreRefusal.TheVariants.{Pending, NotYet, NoMemory}
use Rattle.jar_types.specs.declared.op.Reply.{Reply}
use Rattle.jar_types.specs.declared.row.RowChange.{RowChange}
use Rattle.jar_types.specs.States.{JarState}
use Rattle.jar_types.specs.Steps.{changes_at, entry_of, rows_at}
use Rattle.jar_types.specs.Waits.{waits}
use Rattle.version_cells.specs.Lists.{cells_moved}
use Rattle.version_cells.specs.Standing.{BatonStanding}
use Rattle.locked_jar.specs.declared.ready.Ready.{Ready}
use Rattle.locked_jar.specs.Owns.{is_ending}

-- the entry is that of the event, with the cells of the bound keys that it moves, and there is room for it and for its
-- changes of rows
pub record ReadyFor (s : JarState) (v : Event) (ready : Ready) (journal_spare pending_spare : ℕ) : Type 0 where
  pub entry : ready.prepared.entry ≡ entry_of s v
  pub cells : ready.cells.items ≡ cells_moved s.bound (changes_at s v)
  pub room : 1 ≤ journal_spare
  pub row_room : length (rows_at s v) ≤ pending_spare

-- why an event didn't happen: it waits; or memory was wanting
abbrev pub IsRefused : JarState → Event → CoreRefusal → Type 0
IsRefused s v (Pending what) = waits s v ≡ Some (Pending what)
IsRefused s v (NotYet found) = waits s v ≡ Some (NotYet found)
IsRefused s v NoMemory = Unit {0}

-- the reply in a caller's entry
abbrev pub reply_in : Entry → Option Reply
reply_in (Call caller now op reply) = Some reply
reply_in (Jar own) = None

-- the event ends a batch
abbrev pub EndsBatch : Event → Type 0
EndsBatch (CallEvent caller now op) = ⊥
EndsBatch (JarEvent own) = is_ending own ≡ true

-- the jar stays: its content, its baton, its journal and the changes that wait
pub record IsSame (state state' : JarState) (baton baton' : BatonStanding) (journal journal' : List Entry) (pending pending' : List RowChange) : Type 0 where
  pub content : state' ≡ state
  pub words : baton' ≡ baton
  pub journal_is : journal' ≡ journal
  pub pending_is : pending' ≡ pending
