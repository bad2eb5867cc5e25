-- Laws of changes of rows: what they make of the rows, and that the newest of each id tells all of them. This jar's own
-- rule: docs/DEFINITIONS.md.
use Rattle.std.specs.Prelude.{◌≡◌, List, find, map, Bool, false}
use Rattle.std.specs.List.{list_any}
use Rattle.std.specs.List.Sorted.{IsStrictlySortedBy}
use Rattle.std.specs.Ordering.{is_eq}
use Rattle.jar_types.specs.declared.cookie.CookieId.{CookieId}
use Rattle.jar_types.specs.declared.row.Row.{Row}
use Rattle.jar_types.specs.declared.row.RowChange.{RowChange}
use Rattle.jar_types.specs.Batches.{Batches, touching}
use Rattle.jar_types.specs.Ids.{id_cmp}
use Rattle.jar_types.specs.RowChanges.{row_id, change_id, change_cmp, changed_rows, newest_over, RowsRise}

-- the ids of the changes rise strictly, so each id has one at most
abbrev pub ChangesRise : List RowChange → Type 0
ChangesRise changes = IsStrictlySortedBy change_cmp changes

-- the row has the id
abbrev pub is_row_of : CookieId → Row → Bool
is_row_of id row = is_eq (id_cmp id (row_id row))

-- the change is of the id
abbrev pub is_change_of : CookieId → RowChange → Bool
is_change_of id change = is_eq (id_cmp id (change_id change))

-- rows that rise still do so after changes
abbrev pub ChangedRowsRise : Type 0
ChangedRowsRise = (rows : List Row) (changes : List RowChange) → RowsRise rows → RowsRise (changed_rows rows changes)

-- a row stays as it is where no change is of its id
abbrev pub OtherRowsStay : Type 0
OtherRowsStay =
    (rows : List Row) (changes : List RowChange) (id : CookieId) → list_any (is_change_of id) changes ≡ false
    → find (is_row_of id) (changed_rows rows changes) ≡ find (is_row_of id) rows

-- changes that rise still do so where newer ones came
abbrev pub NewestRise : Type 0
NewestRise = (older newer : List RowChange) → ChangesRise older → ChangesRise (newest_over older newer)

-- their ids are then those of the older ones, touched by the newer
abbrev pub NewestAreTouched : Type 0
NewestAreTouched =
    (older newer : List RowChange) (b : Batches) → map change_id older ≡ b.touched
    → map change_id (newest_over older newer) ≡ (touching newer b).touched

-- the newest changes make of rows what the older ones and then the newer ones make of them
abbrev pub NewestTellAll : Type 0
NewestTellAll =
    (rows : List Row) (older newer : List RowChange) → RowsRise rows → ChangesRise older
    → changed_rows rows (newest_over older newer) ≡ changed_rows (changed_rows rows older) newer
