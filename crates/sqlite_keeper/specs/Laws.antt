-- The laws of what a keeper over SQLite tells.
use Rattle.std.proofs.Common.{◌≡◌, inl, inr, zero, suc, false, List, [], ◌∷◌, map, refl, sym, ap, subst, ◌∙◌, arith, IsPermutation, IsSorted, ℕ, ℤ, pos, add-one}
use Rattle.std.specs.Cmp.{IsTotalOrder}
use Rattle.std.specs.List.Sorted.{IsStrictlySortedBy}
use Rattle.std.specs.Ordering.{is_lt, ordering_reverse}
use Rattle.std.specs.declared.cmp.Ordering.{Ordering}
use Rattle.std.specs.declared.cmp.Ordering.TheVariants.{Less}
use Rattle.std.proofs.lemmas.List.Sorted.{IsPermutation-sym, IsPermutation-trans}
use Rattle.sqlite.specs.Effect.{Database}
use Rattle.sqlite_trees.specs.Tree.{IsAscending}
use Rattle.sqlite_keyed.proofs.SortLemmas.{sorted_unique}
use Rattle.sqlite_keyed.proofs.ListLemmas.{map_back}
use Rattle.jar_types.specs.declared.row.Row.{Row}
use Rattle.jar_types.specs.declared.row.RowChange.{RowChange}
use Rattle.jar_types.specs.RowChanges.{RowsRise, row_cmp, changed_rows}
use Rattle.jar_keeper.proofs.RowLemmas.{row_total, none_rise, changed_rise}
use Rattle.sqlite.specs.declared.types.Value.{Value}
use Rattle.sqlite.specs.declared.types.Value.TheVariants.{Int, Text}
use Rattle.sqlite.specs.Order.{Row as Cells, column}
use Rattle.sqlite_keeper.specs.CookieTable.{no_schema, cookie_table}
use Rattle.sqlite.specs.Table.{Table}
use Rattle.sqlite.specs.Schema.{Schema}
use Rattle.sqlite_keeper.specs.TableRows.{HoldsRows, FindsRows, stored_cells}

-- ---- strictly sorted lists

module _ {X : Type 0} (cmp : X → X → Ordering) where
  abbrev pub IsBelow : X → X → Type 0
  IsBelow x y = cmp x y ≡ Less

  pub ascending : (xs : List X) → IsStrictlySortedBy cmp xs → IsAscending IsBelow xs
  unfolding IsStrictlySortedBy
  ascending [] rise = tt
  ascending (x ∷ xs) rise = (rise.0, ascending xs rise.1)

  module _ (total : IsTotalOrder cmp) where
    not_below : (x y : X) → cmp x y ≡ Less → is_lt (cmp y x) ≡ false
    not_below x y less = ap is_lt (total.antisymm y x ∙ ap ordering_reverse less)

    sorted : (xs : List X) → IsAscending IsBelow xs → IsSorted cmp xs
    sorted [] up k d low high = absurd (omega arith)
    sorted (x ∷ []) up k d low high = absurd (omega arith)
    sorted (x ∷ y ∷ ys) up zero d low high = not_below x y up.0.0
    sorted (x ∷ y ∷ ys) up (suc k) d low high = rw add-one (rw add-one at (sorted (y ∷ ys) up.1 k d (omega arith) (omega arith)))

    -- a list has one strict order
    pub one_order : (xs ys : List X) → IsStrictlySortedBy cmp xs → IsStrictlySortedBy cmp ys → IsPermutation xs ys → xs ≡ ys
    one_order xs ys rise also same =
        sym (sorted_unique cmp total xs ys (ascending xs rise) same (sorted ys (ascending ys also)))

-- ---- a database holds one list of rows

abbrev text_in : Value → List ℕ
text_in (Text bytes) = bytes
text_in _ = []

abbrev number_in : Value → ℤ
number_in (Int number) = number
number_in _ = pos 0

-- the row that is stored as these cells
abbrev read_back : Cells → ℤ × Row
read_back cells = (
  number_in (column cells 0),
  record {
    host = text_in (column cells 1);
    name = text_in (column cells 2);
    path = text_in (column cells 3);
    value = text_in (column cells 4);
    creation = number_in (column cells 5);
    expiry = number_in (column cells 6);
    access = number_in (column cells 7);
    secure = number_in (column cells 8);
    http_only = number_in (column cells 9);
    same_site = number_in (column cells 10);
    priority = number_in (column cells 11);
  },
)

all_same : (ns ms : List (ℤ × Row)) → map stored_cells ns ≡ map stored_cells ms → ns ≡ ms
all_same ns ms same =
    sym (map_back stored_cells read_back (λ n. refl) ns) ∙ ap (map read_back) same ∙ map_back stored_cells read_back (λ n. refl) ms

pub holds_once : (db : Database) (rows others : List Row) → HoldsRows db rows → HoldsRows db others → rows ≡ others
holds_once db rows others holds also =
    let numbers : holds.numbered ≡ also.numbered = all_same holds.numbered also.numbered (sym holds.stores ∙ also.stores) in
    one_order row_cmp row_total rows others holds.rise also.rise
    (IsPermutation-trans _ _ _ (IsPermutation-sym _ _ holds.same)
    (subst (λ ns. IsPermutation (map (λ n. n.1) ns) others) (sym numbers) also.same))

never_both : (db : Database) (rows : List Row) → db.schema ≡ no_schema → HoldsRows db rows → ⊥
never_both db rows none holds =
    absurd (let e : ◌≡◌ {A = List Table} [] (cookie_table ∷ []) = ap (λ (s : Schema). s.tables) (sym none ∙ holds.schema) in cc)

pub finds_once : (db : Database) (rows others : List Row) → FindsRows db rows → FindsRows db others → rows ≡ others
finds_once db rows others (inl none) (inl also) = none.1 ∙ sym also.1
finds_once db rows others (inl none) (inr holds) = absurd (never_both db others none.0 holds)
finds_once db rows others (inr holds) (inl none) = absurd (never_both db rows none.0 holds)
finds_once db rows others (inr holds) (inr also) = holds_once db rows others holds also

found_rise : (db : Database) (rows : List Row) → FindsRows db rows → RowsRise rows
found_rise db rows (inl none) = none_rise rows none.1
found_rise db rows (inr holds) = holds.rise

-- ---- the laws of the trait

module _ {db : Database} (done : List RowChange) where
  pub told_rise : (rows : List Row) → (first : List Row) × FindsRows db first × (rows ≡ changed_rows first done) → RowsRise rows
  told_rise rows told = subst RowsRise (sym told.2) (changed_rise told.0 done (found_rise db told.0 told.1))

  pub told_once : (rows others : List Row) → (first : List Row) × FindsRows db first × (rows ≡ changed_rows first done)
      → (first : List Row) × FindsRows db first × (others ≡ changed_rows first done) → rows ≡ others
  told_once rows others told also =
      told.2 ∙ ap (λ first. changed_rows first done) (finds_once db told.0 also.0 told.1 also.1) ∙ sym also.2
