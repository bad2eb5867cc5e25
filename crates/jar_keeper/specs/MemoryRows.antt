-- What contracts see of a keeper in memory. Its calls are numbered from 1; the number stands still at
-- the last value of a u64. This jar's own rule: docs/DEFINITIONS.md.
use Rattle.std.specs.Prelude.{◌≡◌, ◌⊎◌, ℕ, List, [], ◌∷◌, ◌++◌, Contains, Result, Ok, Err}
use Rattle.jar_edge.specs.Faults.{one_more}
use Rattle.jar_types.specs.RowChanges.{RowsRise, changed_rows}
use Rattle.jar_types.specs.declared.row.Row.{Row}
use Rattle.jar_types.specs.declared.row.RowChange.{RowChange}
use Rattle.jar_keeper.specs.declared.refusal.KeeperRefusal.{KeeperRefusal}
use Rattle.jar_keeper.specs.declared.refusal.KeeperRefusal.TheVariants.{Failed, NoMemory}

-- the rows, the lists besides that a crash may leave, the numbers of the calls that fail, and how
-- many were made and failed
pub record MemoryRows : Type 0 where
  pub rows : List Row
  pub also_leaves : List (List Row)
  pub failing : List ℕ
  pub calls : ℕ
  pub faults : ℕ

-- the keeper tells these rows: its own
abbrev pub KeepsRows : MemoryRows → List Row → Type 0
KeepsRows keeper rows = (rows ≡ keeper.rows) × RowsRise rows

-- a crash may leave these rows: its own, or another list that it has noted
abbrev pub MayLeaveRows : MemoryRows → List Row → Type 0
MayLeaveRows keeper rows = ((rows ≡ keeper.rows) ⊎ Contains keeper.also_leaves rows) × RowsRise rows

-- the next call fails, by its number
abbrev pub IsCallFailing : MemoryRows → Type 0
IsCallFailing keeper = Contains keeper.failing (one_more keeper.calls)

-- the keeper after a call that changed nothing
abbrev pub called : MemoryRows → MemoryRows
called keeper = record keeper { calls = one_more keeper.calls }

-- the keeper after a call that failed and changed nothing
abbrev pub faulted : MemoryRows → MemoryRows
faulted keeper = record keeper { calls = one_more keeper.calls; faults = one_more keeper.faults }

-- the keeper after a call that only reads
abbrev pub AfterLook : {T : Type 0} → MemoryRows → MemoryRows → Result T KeeperRefusal → Type 0
AfterLook old new (Ok value) = new ≡ called old
AfterLook old new (Err Failed) = new ≡ faulted old
AfterLook old new (Err NoMemory) = new ≡ called old

-- the keeper after a commit: the rows are changed, or a crash may leave the changed rows
abbrev pub AfterCommit : List RowChange → MemoryRows → MemoryRows → Result (Unit {0}) KeeperRefusal → Type 0
AfterCommit changes old new (Ok done) =
    new ≡ record (called old) { rows = changed_rows old.rows changes; also_leaves = [] }
AfterCommit changes old new (Err Failed) =
    new ≡ record (faulted old) { also_leaves = old.also_leaves ++ changed_rows old.rows changes ∷ [] }
AfterCommit changes old new (Err NoMemory) = new ≡ called old
