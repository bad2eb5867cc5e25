-- The rows that a database holds as the cells of the table of cookies. This jar's own rule: docs/DEFINITIONS.md.
use Rattle.std.specs.Prelude.{◌≡◌, ◌⊎◌, ℤ, List, [], ◌∷◌, map, IsTrue, IsUtf8, IsPermutation}
use Rattle.std.specs.List.{AllByRecursion}
use Rattle.sqlite_keyed.specs.Keyed.{IsKeyedBy}
use Rattle.sqlite.specs.declared.types.Value.TheVariants.{Int, Text}
use Rattle.sqlite.specs.Order.{Row as Cells}
use Rattle.sqlite.specs.Effect.{Database}
use Rattle.sqlite.specs.State.{State}
use Rattle.sqlite_trees.specs.Tree.{Trees}
use Rattle.jar_types.specs.declared.row.Row.{Row}
use Rattle.jar_types.specs.RowChanges.{RowsRise}
use Rattle.sqlite_keeper.specs.CookieTable.{no_schema, cookie_schema}

-- ---- cells

-- what a load shows of a row: all but its host
abbrev pub shown_cells : Row → Cells
shown_cells row =
    Text row.name ∷ Text row.path ∷ Text row.value ∷ Int row.creation ∷ Int row.expiry ∷ Int row.access ∷ Int row.secure
    ∷ Int row.http_only ∷ Int row.same_site ∷ Int row.priority ∷ []

-- the cells of a row
abbrev pub row_cells : Row → Cells
row_cells row = Text row.host ∷ shown_cells row

-- what the list of hosts shows of a row
abbrev pub host_cells : Row → Cells
host_cells row = Text row.host ∷ []

-- a row as it is stored, behind its rowid
abbrev pub stored_cells : ℤ × Row → Cells
stored_cells numbered = Int numbered.0 ∷ row_cells numbered.1

-- ---- rows

-- the texts of a row are UTF-8
abbrev pub HasUtf8 : Row → Type 0
HasUtf8 row = IsUtf8 row.host × (IsUtf8 row.name × (IsUtf8 row.path × IsUtf8 row.value))

-- the database has the table of cookies alone, with these rows in the order of their ids; the rowids rise
pub record HoldsRows (db : Database) (rows : List Row) : Type 0 where
  pub schema : db.schema ≡ cookie_schema
  pub numbered : List (ℤ × Row)
  pub stores : db.trees 0 ≡ map stored_cells numbered
  pub keyed : IsKeyedBy (λ n. n.0) numbered
  pub same : IsPermutation (map (λ n. n.1) numbered) rows
  pub rise : RowsRise rows
  pub texts : AllByRecursion HasUtf8 rows

-- a keeper that is made over this database begins with these rows: none where nothing is there
abbrev pub FindsRows : Database → List Row → Type 0
FindsRows db rows = ((db.schema ≡ no_schema) × (rows ≡ [])) ⊎ HoldsRows db rows

-- the trees of the table of cookies alone hold these rows
abbrev pub TreesHold : Trees → List Row → Type 0
TreesHold trees rows = HoldsRows (record { schema = cookie_schema; trees = trees }) rows

-- the database of a connection holds these rows, and they are committed
pub record ShowsRows (s : State) (rows : List Row) : Type 0 where
  pub holds : HoldsRows s.now rows
  pub settled : s.now ≡ s.committed

-- it does so unless it is shut
abbrev pub ShowsIfOpen : State → List Row → Type 0
ShowsIfOpen s rows = IsTrue s.is_open → ShowsRows s rows
