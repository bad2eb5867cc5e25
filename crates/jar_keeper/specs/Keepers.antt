-- How the calls of a keeper change what it tells, what a crash may leave, and its count of faults.
-- A keeper tells lists of rows, one at most, and a crash may leave lists of rows, some or more.
-- This jar's own rule: docs/DEFINITIONS.md.
use Rattle.std.specs.Prelude.{◌≡◌, ◌⊎◌, ◌↔◌, ℕ, List, Result, Ok, Err}
use Rattle.jar_edge.specs.Faults.{Rose}
use Rattle.jar_types.specs.RowChanges.{changed_rows}
use Rattle.jar_types.specs.declared.row.Row.{Row}
use Rattle.jar_types.specs.declared.row.RowChange.{RowChange}
use Rattle.jar_keeper.specs.declared.refusal.KeeperRefusal.{KeeperRefusal}
use Rattle.jar_keeper.specs.declared.refusal.KeeperRefusal.TheVariants.{Failed, NoMemory}

-- the count rose exactly where the store failed
abbrev pub CountsFault : {T : Type 0} → ℕ → ℕ → Result T KeeperRefusal → Type 0
CountsFault before now (Ok value) = now ≡ before
CountsFault before now (Err Failed) = Rose before now
CountsFault before now (Err NoMemory) = now ≡ before

-- the value is that of the rows that were told
abbrev pub Gives : {T : Type 0} → (List Row → T) → (List Row → Type 0) → T → Type 0
Gives value_of told value = (rows : List Row) → told rows → value ≡ value_of rows

-- the same lists are told as before
abbrev pub TellsSame : (List Row → Type 0) → (List Row → Type 0) → Type 0
TellsSame old new = (rows : List Row) → old rows ↔ new rows

-- just the lists are told that these changes make of those that were told
pub record TellsChanged (changes : List RowChange) (old new : List Row → Type 0) : Type 0 where
  pub changed : (rows : List Row) → old rows → new (changed_rows rows changes)
  pub alone : (rows : List Row) → new rows
      → (before : List Row) × old before × (rows ≡ changed_rows before changes)

-- a crash leaves nothing that it couldn't leave before
abbrev pub LeavesNoMore : (List Row → Type 0) → (List Row → Type 0) → Type 0
LeavesNoMore old new = (left : List Row) → new left → old left

-- a crash leaves these rows, and no others
abbrev pub LeavesJust : List Row → (List Row → Type 0) → Type 0
LeavesJust rows leaves = (left : List Row) → leaves left ↔ (left ≡ rows)

-- a crash leaves what it could leave before, or these rows
abbrev pub LeavesMaybe : List Row → (List Row → Type 0) → (List Row → Type 0) → Type 0
LeavesMaybe rows old new = (left : List Row) → new left → old left ⊎ (left ≡ rows)

-- what is told after a commit: the changed rows, or at a refusal the same
abbrev pub CommitTells : List RowChange → (List Row → Type 0) → (List Row → Type 0)
    → Result (Unit {0}) KeeperRefusal → Type 0
CommitTells changes old new (Ok done) = TellsChanged changes old new
CommitTells changes old new (Err refusal) = TellsSame old new

-- what a crash leaves after a commit, where rows were told: just the changed rows, or at a refusal
-- also what it could leave before
abbrev pub CommitLeaves : List RowChange → (List Row → Type 0) → (List Row → Type 0)
    → (List Row → Type 0) → Result (Unit {0}) KeeperRefusal → Type 0
CommitLeaves changes told old new (Ok done) =
    (rows : List Row) → told rows → LeavesJust (changed_rows rows changes) new
CommitLeaves changes told old new (Err refusal) =
    (rows : List Row) → told rows → LeavesMaybe (changed_rows rows changes) old new
