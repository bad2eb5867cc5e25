-- The order of rows by their ids, as the store's lemmas speak of it.
use Rattle.std.proofs.Common.{◌≡◌, ℕ, Bool, not, cond, ◌&&◌, List, [], ◌∷◌, ◌++◌, filter, refl, sym, ap, subst, ◌∙◌, IsPermutation}
use Rattle.std.specs.Cmp.Lexicographic.{nat_list_cmp_total}
use Rattle.std.specs.Ordering.{is_lt, is_gt, is_eq, ordering_then, ordering_reverse}
use Rattle.std.specs.declared.cmp.Ordering.{Ordering}
use Rattle.std.specs.declared.cmp.Ordering.TheVariants.{Less, Equal, Greater}
use Rattle.std.proofs.lemmas.List.Sorted.{IsPermutation-refl, IsPermutation-cons, IsPermutation-trans, IsPermutation-sym, IsPermutation-middle}
use Rattle.jar_types.specs.declared.row.Row.{Row}
use Rattle.jar_types.specs.declared.cookie.CookieId.{CookieId}
use Rattle.jar_types.specs.Ids.{text_cmp, id_cmp}
use Rattle.jar_types.specs.Orders.{put_by}
use Rattle.jar_types.specs.RowChanges.{row_id, row_cmp}

-- ---- ids

abbrev pub same_texts : List ℕ → List ℕ → Bool
same_texts a b = is_eq (text_cmp a b)

-- a row has the id, as the statements test it
abbrev pub has_texts : CookieId → Row → Bool
has_texts id row = same_texts row.host id.host && (same_texts row.name id.name && same_texts row.path id.path)

three_equal : (a b c : Ordering) → is_eq (ordering_then a (ordering_then b c)) ≡ (is_eq a && (is_eq b && is_eq c))
three_equal Less b c = refl
three_equal Greater b c = refl
three_equal Equal Less c = refl
three_equal Equal Greater c = refl
three_equal Equal Equal c = refl

-- the order of ids tells them apart just as that test
pub tied_is : (id : CookieId) (row : Row) → is_eq (id_cmp (row_id row) id) ≡ has_texts id row
tied_is id row = three_equal (text_cmp row.host id.host) (text_cmp row.name id.name) (text_cmp row.path id.path)

reversed : (a : Ordering) → is_eq (ordering_reverse a) ≡ is_eq a
reversed Less = refl
reversed Equal = refl
reversed Greater = refl

same_back : (a b : List ℕ) → same_texts a b ≡ same_texts b a
same_back a b = ap is_eq (nat_list_cmp_total.antisymm a b) ∙ reversed (text_cmp b a)

-- the same from the other side
pub tied_back : (id : CookieId) (row : Row) → is_eq (id_cmp id (row_id row)) ≡ has_texts id row
tied_back id row =
    three_equal (text_cmp id.host row.host) (text_cmp id.name row.name) (text_cmp id.path row.path)
    ∙ rw (same_back id.host row.host, same_back id.name row.name, same_back id.path row.path) refl

-- ---- a row that is put

three_ways : (p q : Row → Bool) (new row : Row) (rows : List Row) (o : Ordering) → p row ≡ is_lt o → q row ≡ is_gt o
    → IsPermutation (filter (λ r. not (is_eq (row_cmp r new))) rows) (filter p rows ++ filter q rows)
    → IsPermutation (cond (not (is_eq o)) (row ∷ filter (λ r. not (is_eq (row_cmp r new))) rows) (filter (λ r. not (is_eq (row_cmp r new))) rows))
    (cond (is_lt o) (row ∷ filter p rows) (filter p rows) ++ cond (is_gt o) (row ∷ filter q rows) (filter q rows))
three_ways p q new row rows Less e f more = IsPermutation-cons row _ _ more
three_ways p q new row rows Equal e f more = more
three_ways p q new row rows Greater e f more =
    IsPermutation-trans _ _ _ (IsPermutation-cons row _ _ more) (IsPermutation-sym _ _ (IsPermutation-middle (filter p rows) row (filter q rows)))

others : (new : Row) (rows : List Row)
    → IsPermutation (filter (λ r. not (is_eq (row_cmp r new))) rows)
    (filter (λ r. is_lt (row_cmp r new)) rows ++ filter (λ r. is_gt (row_cmp r new)) rows)
others new [] = IsPermutation-refl _
others new (row ∷ rows) =
    three_ways (λ r. is_lt (row_cmp r new)) (λ r. is_gt (row_cmp r new)) new row rows (row_cmp row new) refl refl (others new rows)

-- the row and those of other ids
pub put_mixed : (new : Row) (rows : List Row)
    → IsPermutation (new ∷ filter (λ r. not (has_texts (row_id new) r)) rows) (put_by row_cmp new rows)
put_mixed new rows =
    let lesser = filter (λ r. is_lt (row_cmp r new)) rows in
    let greater = filter (λ r. is_gt (row_cmp r new)) rows in
    IsPermutation-trans _ _ _ (IsPermutation-cons new _ _ (IsPermutation-trans _ _ _ (same_rest rows) (others new rows)))
    (IsPermutation-sym _ _ (IsPermutation-middle lesser new greater))
  where
    same_rest : (rows : List Row)
        → IsPermutation (filter (λ r. not (has_texts (row_id new) r)) rows) (filter (λ r. not (is_eq (row_cmp r new))) rows)
    same_rest rows =
        subst (λ l. IsPermutation (filter (λ r. not (has_texts (row_id new) r)) rows) l)
        (Rattle.sqlite_keyed.proofs.ListLemmas.filter_same (λ r. not (has_texts (row_id new) r)) (λ r. not (is_eq (row_cmp r new)))
        (λ r. ap not (sym (tied_is (row_id new) r))) rows) (IsPermutation-refl _)
