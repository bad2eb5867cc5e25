-- Rows in the order of their ids, which their changes keep.
use Rattle.std.proofs.Common.{◌≡◌, List, [], ◌∷◌, ◌++◌, Bool, true, false, cond, refl, ap, ◌∙◌}
use Rattle.std.specs.Prelude.{filter, not}
use Rattle.std.specs.Cmp.{IsTotalOrder}
use Rattle.std.specs.Cmp.Lexicographic.{on_texts}
use Rattle.std.specs.List.{AllByRecursion}
use Rattle.std.specs.List.Sorted.{IsStrictlySortedBy}
use Rattle.std.specs.Ordering.{is_lt, is_gt, is_eq, ordering_reverse}
use Rattle.std.specs.declared.cmp.Ordering.{Ordering}
use Rattle.std.specs.declared.cmp.Ordering.TheVariants.{Less, Equal, Greater}
use Rattle.std.proofs.lemmas.Cmp.{then_total}
use Rattle.std.proofs.lemmas.List.Kept.{IsStrictlySortedBy-filter}
use Rattle.jar_types.specs.declared.row.Row.{Row}
use Rattle.jar_types.specs.declared.row.RowChange.{RowChange}
use Rattle.jar_types.specs.declared.row.RowChange.TheVariants.{Put, Drop}
use Rattle.jar_types.specs.Ids.{id_cmp}
use Rattle.jar_types.specs.Orders.{put_by}
use Rattle.jar_types.specs.RowChanges.{row_id, row_cmp, RowsRise, rows_after, changed_rows}

pub row_total : IsTotalOrder row_cmp
row_total =
    then_total (on_texts (λ (row : Row). row.host)) (then_total (on_texts (λ (row : Row). row.name)) (on_texts (λ (row : Row). row.path)))

-- no rows are in order
pub none_rise : (rows : List Row) → rows ≡ [] → RowsRise rows
unfolding IsStrictlySortedBy
none_rise [] none = tt
none_rise (row ∷ rows) none = absurd cc

less_from : (w : Ordering) → is_lt w ≡ true → w ≡ Less
less_from Less e = refl
less_from Equal e = absurd cc
less_from Greater e = absurd cc

greater_from : (w : Ordering) → is_gt w ≡ true → w ≡ Greater
greater_from Less e = absurd cc
greater_from Equal e = absurd cc
greater_from Greater e = refl

passing_at : (P : Row → Type 0) (row : Row) (rows : List Row) (b : Bool) → (b ≡ true → P row) → AllByRecursion P rows
    → AllByRecursion P (cond b (row ∷ rows) rows)
passing_at P row rows true holds all = (holds refl, all)
passing_at P row rows false holds all = all

-- what a test says holds of all that pass it
pub passing : (P : Row → Type 0) (p : Row → Bool) → ((row : Row) → p row ≡ true → P row) → (rows : List Row)
    → AllByRecursion P (filter p rows)
passing P p holds [] = tt
passing P p holds (row ∷ rows) = passing_at P row (filter p rows) (p row) (holds row) (passing P p holds rows)

after_all : (row next : Row) (rows : List Row) → row_cmp row next ≡ Less → AllByRecursion (λ other. row_cmp next other ≡ Less) rows
    → AllByRecursion (λ other. row_cmp row other ≡ Less) rows
after_all row next [] less all = tt
after_all row next (other ∷ rows) less all = (row_total.trans row next other less all.0, after_all row next rows less all.1)

append_all : (P : Row → Type 0) (rows more : List Row) → AllByRecursion P rows → AllByRecursion P more → AllByRecursion P (rows ++ more)
append_all P [] more all others = others
append_all P (row ∷ rows) more all others = (all.0, append_all P rows more all.1 others)

joined_rise : (row : Row) (rows more : List Row) → RowsRise rows → RowsRise (row ∷ more)
    → AllByRecursion (λ other. row_cmp other row ≡ Less) rows → RowsRise (rows ++ (row ∷ more))
unfolding IsStrictlySortedBy
joined_rise row [] more rises others all = others
joined_rise row (first ∷ rows) more rises others all = (
  append_all (λ other. row_cmp first other ≡ Less) rows (row ∷ more) rises.0 (all.0, after_all first row more all.0 others.0),
  joined_rise row rows more rises.1 others all.1,
)

-- a row comes in the place of its id
pub put_rises : (row : Row) (rows : List Row) → RowsRise rows → RowsRise (put_by row_cmp row rows)
unfolding IsStrictlySortedBy
put_rises row rows rises =
    let lesser = filter (λ other. is_lt (row_cmp other row)) rows in
    let greater = filter (λ other. is_gt (row_cmp other row)) rows in
    joined_rise row lesser greater (IsStrictlySortedBy-filter row_cmp (λ other. is_lt (row_cmp other row)) rows rises) (
      passing (λ other. row_cmp row other ≡ Less) (λ other. is_gt (row_cmp other row))
          (λ other e. row_total.antisymm row other ∙ ap ordering_reverse (greater_from (row_cmp other row) e)) rows,
      IsStrictlySortedBy-filter row_cmp (λ other. is_gt (row_cmp other row)) rows rises,
    )
    (passing (λ other. row_cmp other row ≡ Less) (λ other. is_lt (row_cmp other row)) (λ other e. less_from (row_cmp other row) e) rows)

pub after_rises : (rows : List Row) (change : RowChange) → RowsRise rows → RowsRise (rows_after rows change)
after_rises rows (Put row) rises = put_rises row rows rises
after_rises rows (Drop id) rises = IsStrictlySortedBy-filter row_cmp (λ row. not (is_eq (id_cmp id (row_id row)))) rows rises

-- changed rows are in the order of their ids
pub changed_rise : (rows : List Row) (changes : List RowChange) → RowsRise rows → RowsRise (changed_rows rows changes)
changed_rise rows [] rises = rises
changed_rise rows (change ∷ changes) rises = changed_rise (rows_after rows change) changes (after_rises rows change rises)
