-- Changes of stored rows that wait for a commit. This jar's own rule: docs/DEFINITIONS.md.
use Rattle.std.specs.Prelude.{◌≡◌, ℕ, List, Ok, Err, slice_set, insert}
use Rattle.std.specs.declared.result.Result.{Result}
use Rattle.std.specs.List.Sorted.{IsStrictlySortedBy}
use Rattle.jar_types.specs.declared.row.RowChange.{RowChange}
use Rattle.jar_types.specs.Orders.{put_by}
use Rattle.jar_types.specs.RowChanges.{change_cmp}

-- the changes that wait, and for how many more there is room
pub record Waiting : Type 0 where
  pub list : List RowChange
  pub spare : ℕ

-- the ids of the changes rise strictly, so each id has one change
abbrev pub ChangesRise : List RowChange → Type 0
ChangesRise changes = IsStrictlySortedBy change_cmp changes

-- ---- where a change goes, that no public clause cites

-- where one of the id stands, it takes that place; where none does, it goes between those at a place
abbrev pub IsPlaceOf : RowChange → List RowChange → Result ℕ ℕ → Type 0
IsPlaceOf change changes (Ok i) = put_by change_cmp change changes ≡ slice_set changes i change
IsPlaceOf change changes (Err i) = put_by change_cmp change changes ≡ insert changes i change
