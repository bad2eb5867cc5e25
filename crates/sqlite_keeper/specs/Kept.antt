-- What contracts see of a keeper over SQLite. This jar's own rule: docs/DEFINITIONS.md.
use Rattle.std.specs.Prelude.{◌≡◌, ℕ, List, None, false, refl}
use Rattle.std.specs.Coded.{Coded, code_by, coded×, coded_ℕ, coded_list}
use Rattle.sqlite_trees.specs.Tree.{Trees}
use Rattle.sqlite_trees.specs.declared.store.Store.{Ghosts}
use Rattle.sqlite.specs.Held.{Held, held_code, state}
use Rattle.sqlite.specs.State.{HasCleanDisk}
use Rattle.jar_types.specs.declared.row.Row.{Row}
use Rattle.jar_types.specs.declared.row.RowChange.{RowChange}
use Rattle.jar_types.specs.contracts.row.RowChange as change
use Rattle.jar_types.specs.RowChanges.{changed_rows}
use Rattle.sqlite_keeper.specs.TableRows.{FindsRows, TreesHold, ShowsIfOpen}

-- the connection, what it was when the keeper was made over it, the changes that were committed since, and how many calls
-- failed
pub record KeptTable (S : Type 0) : Type 0 where
  pub conn : Held S
  pub found : Held S
  pub committed : List RowChange
  pub faults : ℕ

-- it is stored as its fields
abbrev pub kept_code : {S : Type 0} → Coded S → Coded (KeptTable S)
kept_code {S} code =
    code_by (Held S × (Held S × (List RowChange × ℕ)))
    (coded× (held_code code) (coded× (held_code code) (coded× (coded_list change.the_row.coded) coded_ℕ)))
    (λ k. (k.conn, (k.found, (k.committed, k.faults))))
    (λ p. record { conn = p.0; found = p.1.0; committed = p.1.1.0; faults = p.1.1.1 }) (λ _. refl)

module _ {S : Type 0} (g : Ghosts S) (keeper : KeptTable S) where
  -- the keeper tells these rows: those that it found, with the changes that were committed since
  abbrev pub TellsTable : List Row → Type 0
  TellsTable rows =
      (first : List Row) × FindsRows (state g keeper.found).now first × (rows ≡ changed_rows first keeper.committed)

  -- so far nobody else wrote the file, and the disk gave back what was written
  abbrev pub IsUndisturbed : Type 0
  IsUndisturbed = HasCleanDisk (state g keeper.conn)

  -- a crash may leave these rows
  abbrev pub MayLeaveTable : List Row → Type 0
  MayLeaveTable rows = (trees : Trees) × (state g keeper.conn).may_leave trees × TreesHold trees rows

  -- no transaction is open, there is no limit of steps, and the table holds what the keeper tells
  pub record IsKept : Type 0 where
    pub autocommit : keeper.conn.in_transaction ≡ false
    pub unlimited : keeper.conn.step_limit ≡ None
    pub holds : IsUndisturbed → (rows : List Row) → TellsTable rows → ShowsIfOpen (state g keeper.conn) rows
