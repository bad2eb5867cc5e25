-- The law that loading changes no answer. This jar's own rule: docs/DEFINITIONS.md.
use Rattle.std.specs.Prelude.{◌≡◌, List, true}
use Rattle.jar_types.specs.declared.entry.Entry.{Entry}
use Rattle.jar_types.specs.declared.row.Row.{Row}
use Rattle.jar_types.specs.Journals.{Rules, IsLegal, all_stand, events, run, state_of, stored_keys}
use Rattle.jar_types.specs.RowChanges.{RowsRise}
use Rattle.jar_types.specs.States.{opening}
use Rattle.jar_types.specs.Stored.{IsHonest}
use Rattle.eager_law.specs.Eager.{eager_opening, eager_state, unlisted, loaded_part, change_lists, row_lists}

-- the journal is that of a jar in which all cookies of the rows are loaded from the start: each
-- event may come there too, each reply is the same, and so are the changes of cookies and of stored
-- rows that each entry makes; and its state is that jar's, less the cookies of keys that aren't
-- loaded
pub record IsAsEager (r : Rules) (rows : List Row) (journal : List Entry) : Type 0 where
  pub standing : all_stand r (eager_opening r rows) (events (unlisted journal)) ≡ true
  pub replies : run (eager_opening r rows) (events (unlisted journal)) ≡ unlisted journal
  pub cookie_changes : change_lists (eager_opening r rows) (events (unlisted journal))
      ≡ change_lists (opening (stored_keys r)) (events journal)
  pub row_changes : row_lists (eager_opening r rows) (events (unlisted journal))
      ≡ row_lists (opening (stored_keys r)) (events journal)
  pub state : state_of (stored_keys r) journal ≡ loaded_part (eager_state r rows journal)

-- loading stored cookies a key at a time changes no answer
abbrev pub LoadingChangesNoAnswer : Type 0
LoadingChangesNoAnswer =
    (r : Rules) (rows : List Row) (journal : List Entry)
    → RowsRise rows → IsLegal r journal → IsHonest r rows journal → IsAsEager r rows journal
