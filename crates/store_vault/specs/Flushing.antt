-- Commits of changed rows from a locked jar, a batch at a time. This jar's own rule: docs/DEFINITIONS.md.
use Rattle.std.specs.Prelude.{◌≡◌, ◌⊎◌, ◌≤◌, ◌<◌, ◌+◌, ℕ, List, [], Bool, true, false, length, Result, Ok, Err}
use Rattle.jar_edge.specs.Faults.{Rose}
use Rattle.jar_keeper.specs.Keepers.{LeavesJust, LeavesMaybe, LeavesNoMore}
use Rattle.jar_types.specs.declared.entry.Own.TheVariants.{Taken, Acked, CommitLost}
use Rattle.jar_types.specs.declared.row.Row.{Row}
use Rattle.jar_types.specs.declared.row.RowChange.{RowChange}
use Rattle.jar_types.specs.RowChanges.{changed_rows, newest_over}
use Rattle.version_cells.specs.Standing.{PassStanding}
use Rattle.locked_jar.specs.LockedJars.{LockedJar, LockedView}
use Rattle.locked_jar.specs.Owns.{is_batch_due}
use Rattle.store_vault.specs.declared.refusal.FlushRefusal.{FlushRefusal}
use Rattle.store_vault.specs.declared.refusal.FlushRefusal.TheVariants.{StoreFault, NoMemory, Spent}
use Rattle.store_vault.specs.declared.vault.TheConstants.{MOST_OWNS}
use Rattle.store_vault.specs.Cutting.{HasCut, HasDone, Stays, did}

-- what the vault keeps of batches: the changes that were taken and aren't committed, and the place of the last batch that
-- was committed, 0 for none
pub record Kept : Type 0 where
  pub changes : List RowChange
  pub acked : ℕ

-- the place of a batch that is taken next
abbrev pub taken_at : LockedJar → ℕ
taken_at j = length j.seen + 1

-- the changes of a batch that is taken next
abbrev pub batch_of : Kept → LockedJar → List RowChange
batch_of kept j = newest_over kept.changes j.pending

-- a batch was taken and committed
pub record Commits (old new : LockedJar) (p q : PassStanding) (kept kept' : Kept) : Type 0 where
  pub is : new ≡ did p.view.number (did p.view.number old Taken) (Acked (taken_at old))
  pub cut : HasCut 2 old new p q
  pub kept_is : kept' ≡ record { changes = []; acked = taken_at old }

-- a batch was taken and lost, and its changes are kept
pub record Loses (old new : LockedJar) (p q : PassStanding) (kept kept' : Kept) : Type 0 where
  pub is : new ≡ did p.view.number (did p.view.number old Taken) (CommitLost (taken_at old))
  pub cut : HasCut 2 old new p q
  pub kept_is : kept' ≡ record kept { changes = batch_of kept old }

-- what a flush did, by its answer: the place of the batch that it committed, or where none was due the last such place;
-- where one was due and it wasn't spent, the vault owned fewer entries than it may before
abbrev pub IsFlush : Bool → ℕ → LockedJar → LockedJar → PassStanding → PassStanding → Kept → Kept → Result ℕ FlushRefusal → Type 0
IsFlush force owns old new p q kept kept' (Ok place) =
    ((is_batch_due force old.state ≡ false) × Stays old new p q × (kept' ≡ kept) × (place ≡ kept.acked))
    ⊎ ((is_batch_due force old.state ≡ true) × (owns < MOST_OWNS) × Commits old new p q kept kept' × (place ≡ kept'.acked))
IsFlush force owns old new p q kept kept' (Err StoreFault) =
    (is_batch_due force old.state ≡ true) × (owns < MOST_OWNS) × Loses old new p q kept kept'
IsFlush force owns old new p q kept kept' (Err NoMemory) =
    (is_batch_due force old.state ≡ true) × (owns < MOST_OWNS)
    × ((Stays old new p q × (kept' ≡ kept)) ⊎ Loses old new p q kept kept')
IsFlush force owns old new p q kept kept' (Err Spent) =
    (is_batch_due force old.state ≡ true) × (MOST_OWNS ≤ owns) × Stays old new p q × (kept' ≡ kept)

-- the rows that are held once a batch was committed, or wasn't
abbrev pub held_where : Bool → List RowChange → List Row → List Row
held_where true batch held = changed_rows held batch
held_where false batch held = held

-- the rows that the keeper tells then, where a batch was due or wasn't: those of the batch too, where it was committed
abbrev pub FlushTells : Bool → List RowChange → (List Row → Type 0) → (List Row → Type 0) → Result ℕ FlushRefusal → Type 0
FlushTells due batch old new (Ok place) = (held : List Row) → old held → new (held_where due batch held)
FlushTells due batch old new (Err refusal) = (held : List Row) → old held → new held

-- what a crash leaves once a batch was committed, where rows were told: just the changed rows; and no more than before where
-- none was due
abbrev pub LeavesWhere : Bool → List RowChange → (List Row → Type 0) → (List Row → Type 0) → (List Row → Type 0) → Type 0
LeavesWhere true batch told old new = (held : List Row) → told held → LeavesJust (changed_rows held batch) new
LeavesWhere false batch told old new = LeavesNoMore old new

-- what a crash leaves after a flush: at a refusal what it could leave before, or the changed rows
abbrev pub FlushLeaves : Bool → List RowChange → (List Row → Type 0) → (List Row → Type 0) → (List Row → Type 0)
    → Result ℕ FlushRefusal → Type 0
FlushLeaves due batch told old new (Ok place) = LeavesWhere due batch told old new
FlushLeaves due batch told old new (Err refusal) = (held : List Row) → told held → LeavesMaybe (changed_rows held batch) old new

-- the keeper's count rose just at a StoreFault; and where memory was wanting once the cutter had entered what it took, so
-- in the keeper's commit, the vault is starved
abbrev pub CountsFlush : ℕ → ℕ → ℕ → ℕ → Bool → Bool → Result ℕ FlushRefusal → Type 0
CountsFlush before now calls calls' starved starved' (Ok place) = (now ≡ before) × (starved' ≡ starved)
CountsFlush before now calls calls' starved starved' (Err StoreFault) = Rose before now × (starved' ≡ starved)
CountsFlush before now calls calls' starved starved' (Err NoMemory) =
    (now ≡ before) × (((calls' ≡ calls) × (starved' ≡ starved)) ⊎ ((calls' ≡ calls + 2) × (starved' ≡ true)))
CountsFlush before now calls calls' starved starved' (Err Spent) = (now ≡ before) × (starved' ≡ starved)

-- ---- that no public clause cites

-- a batch was taken at its place, over what was kept, and is kept; there is room for its end
pub record HasTaken (old : LockedJar) (new : LockedView) (p q : PassStanding) (kept kept' : List RowChange) (place : ℕ) : Type 0 where
  pub done : HasDone Taken old new.jar p q
  pub kept_is : kept' ≡ newest_over kept old.pending
  pub place_is : place ≡ taken_at old
  pub counted : place ≡ old.state.entries + 1
  pub room : 1 ≤ new.spare
