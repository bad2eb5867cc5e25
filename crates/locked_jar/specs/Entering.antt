-- One entry more, in the words, in the core and in the journal. This jar's own rule: docs/DEFINITIONS.md.
use Rattle.std.specs.Prelude.{◌≡◌, ◌<◌, List, [], ◌∷◌, ◌++◌, length, None}
use Rattle.atomic_table.specs.Seated.{TableId}
use Rattle.jar_types.specs.declared.entry.Entry.{Entry}
use Rattle.jar_types.specs.declared.row.RowChange.{RowChange}
use Rattle.jar_types.specs.RowChanges.{newest_over}
use Rattle.jar_types.specs.States.{JarState}
use Rattle.jar_types.specs.Steps.{after, event_of, rows_at}
use Rattle.version_cells.specs.declared.cells.TheConstants.{MOST_ENTRIES}
use Rattle.version_cells.specs.declared.listing.Listing.{Listing}
use Rattle.version_cells.specs.Standing.{BatonStanding}

-- the baton goes to these words, and has no pending cell and no permit
pub record IsFree (table : TableId) (baton : BatonStanding) : Type 0 where
  pub table_is : baton.table ≡ table
  pub no_cell : baton.view.pending ≡ []
  pub no_permit : baton.view.permit ≡ None

-- one more entry may be committed
abbrev pub MayEnter : BatonStanding → Type 0
MayEnter baton = length baton.view.own.seen < MOST_ENTRIES

-- the baton committed one listing more, and has no pending cell and no permit
pub record HasListed (l : Listing) (old new : BatonStanding) : Type 0 where
  pub table_is : new.table ≡ old.table
  pub no_cell : new.view.pending ≡ []
  pub no_permit : new.view.permit ≡ None
  pub seen : new.view.own.seen ≡ old.view.own.seen ++ l ∷ []

-- the core took the step of the entry's event, the entry stands in the journal, and its changes of rows wait
pub record HasEntered (entry : Entry) (old new : JarState) (journal journal' : List Entry) (pending pending' : List RowChange) : Type 0 where
  pub step : new ≡ after old (event_of entry)
  pub stands : journal' ≡ journal ++ entry ∷ []
  pub waits : pending' ≡ newest_over pending (rows_at old (event_of entry))
