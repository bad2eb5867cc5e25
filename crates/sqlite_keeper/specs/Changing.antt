-- What the statements of a commit make of a connection inside its transaction. This jar's own rule: docs/DEFINITIONS.md.
use Rattle.std.specs.Prelude.{◌≡◌, ◌⊎◌, List, [], true, Bool, false, Result, Ok, Err}
use Rattle.jar_types.specs.declared.row.Row.{Row}
use Rattle.jar_types.specs.declared.row.RowChange.{RowChange}
use Rattle.jar_types.specs.RowChanges.{changed_rows}
use Rattle.sqlite.specs.declared.error.ErrorCode.TheVariants.{OutOfMemory}
use Rattle.sqlite.specs.declared.error.Error.{Error}
use Rattle.sqlite.specs.declared.error.Error.TheVariants.{SqliteFailure}
use Rattle.sqlite.specs.State.{State, Shows, KeepsCommit, IsRolledBack, ExecutesInside}
use Rattle.sqlite.specs.Steps.{FailsToCommit}
use Rattle.sqlite.specs.Held.{Held, state}
use Rattle.sqlite_trees.specs.declared.store.Store.{Ghosts}
use Rattle.sqlite_keeper.specs.CookieTable.{create_text}
use Rattle.sqlite_keeper.specs.TableRows.{HoldsRows}

-- it was open and is, nothing was committed, and rows that it held are changed
pub record Makes (changes : List RowChange) (old new : State) : Type 0 where
  pub shows : Shows old new new.now old.committed true
  pub makes : (rows : List Row) → HoldsRows old.now rows → HoldsRows new.now (changed_rows rows changes)

-- the changes were made; at a refusal nothing was committed
abbrev pub MakesOrKeeps : {X : Type 0} → List RowChange → State → State → Result X Error → Type 0
MakesOrKeeps changes old new (Ok done) = Makes changes old new
MakesOrKeeps changes old new (Err refusal) = KeepsCommit old new

-- a connection that began a transaction
abbrev pub begun : State → State
begun s = record s { in_transaction = true }

-- memory was wanting
abbrev pub is_memory : Error → Bool
is_memory (SqliteFailure OutOfMemory) = true
is_memory _ = false

-- the creation text was refused for this cause, or the commit behind it
abbrev pub RefusesTable : {S : Type 0} → Ghosts S → State → State → Error → Type 0
RefusesTable {S} g old new refusal =
    (mid : Held S) × ((ExecutesInside 0 create_text [] (begun old) (state g mid) (Err refusal) × IsRolledBack (state g mid) new)
    ⊎ FailsToCommit (state g mid) new refusal)

-- one of the two was refused for another cause than memory
abbrev pub RefusesOver : {S : Type 0} → Ghosts S → State → State → Type 0
RefusesOver g old new = (why : Error) × (is_memory why ≡ false) × RefusesTable g old new why
