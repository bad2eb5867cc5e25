-- Rows under their rowids.
use Rattle.std.proofs.Common.{◌≡◌, ℤ, ◌<ℤ◌, Bool, true, false, not, cond, ◌&&◌, ◌||◌, List, [], ◌∷◌, map, filter, refl, sym, ap, subst, ◌∙◌, is_eq, int_cmp, IsPermutation, true≢false}
use Rattle.std.specs.List.{AllByRecursion, list_any}
use Rattle.std.specs.Ordering.{ordering_reverse, match_ordering}
use Rattle.std.specs.declared.cmp.Ordering.{Ordering}
use Rattle.std.specs.declared.cmp.Ordering.TheVariants.{Less, Equal, Greater}
use Rattle.std.proofs.lemmas.Cmp.{int_cmp_total, tied_itself}
use Rattle.std.proofs.lemmas.List.Sorted.{list_any-IsPermutation, IsPermutation-refl, IsPermutation-cons, IsPermutation-trans, IsPermutation-middle}
use Rattle.sqlite.specs.Edit.{without_all, is_taken}
use Rattle.sqlite_trees.specs.Tree.{without_rowid, put_row}
use Rattle.sqlite_trees.proofs.ListLemmas as lists
use Rattle.sqlite_value.proofs.OrderLemmas.{value_cmp-Int}
use Rattle.sqlite_keyed.specs.Keyed.{IsKeyedBy, insert_by}
use Rattle.sqlite_keyed.proofs.KeyedLemmas.{Less-from_lt}
use Rattle.sqlite_keyed.proofs.ListLemmas.{filter-map, filter_same, all_weaker, all_map, all-filter}
use Rattle.sqlite_keeper.specs.TableRows.{stored_cells}
use Rattle.sqlite_keeper.proofs.ReadLemmas.{Numbered}

abbrev pub same_number : ℤ → ℤ → Bool
same_number i j = is_eq (int_cmp i j)

abbrev pub is_among : List ℤ → ℤ → Bool
is_among ids i = list_any (λ j. same_number i j) ids

abbrev pub numbers : List Numbered → List ℤ
numbers = map (λ n. n.0)

-- ---- rows taken out by their rowids

passed_both : {X : Type 0} (p q r : X → Bool) → ((x : X) → r x ≡ (q x && p x)) → (xs : List X) → filter p (filter q xs) ≡ filter r xs
passed_both p q r same [] = refl
passed_both {X} p q r same (x ∷ xs) = go (q x) (p x) (r x) refl refl (same x) (passed_both p q r same xs)
  where
    go : (a b c : Bool) → q x ≡ a → p x ≡ b → c ≡ (a && b) → filter p (filter q xs) ≡ filter r xs
        → filter p (cond a (x ∷ filter q xs) (filter q xs)) ≡ cond c (x ∷ filter r xs) (filter r xs)
    go true true c e f g more = rw (f, g) (ap (λ l. x ∷ l) more)
    go true false c e f g more = rw (f, g) more
    go false b c e f g more = rw g more

one_gone : (id : ℤ) (all : List Numbered)
    → without_rowid id (map stored_cells all) ≡ map stored_cells (filter (λ n. not (same_number n.0 id)) all)
one_gone id all =
    filter-map _ stored_cells all ∙ ap (map stored_cells) (filter_same _ _ (λ n. ap (λ o. not (is_eq o)) (value_cmp-Int n.0 id)) all)

neither : (a b : Bool) → not (a || b) ≡ (not a && not b)
neither true b = refl
neither false b = refl

all_gone : (ids : List ℤ) (all : List Numbered)
    → without_all (map stored_cells all) ids ≡ map stored_cells (filter (λ n. not (is_among ids n.0)) all)
all_gone [] all =
    ap (map stored_cells) (sym (lists.filter_all (λ n. true) all (lists.all_of (λ n. true ≡ true) (λ n. refl) all)))
all_gone (id ∷ ids) all =
    ap (λ rows. without_all rows ids) (one_gone id all) ∙ all_gone ids (filter (λ n. not (same_number n.0 id)) all)
    ∙ ap (map stored_cells) (passed_both (λ n. not (is_among ids n.0)) (λ n. not (same_number n.0 id))
    (λ n. not (is_among (id ∷ ids) n.0)) (λ n. neither (same_number n.0 id) (is_among ids n.0)) all)

apart : (a b : ℤ) → a <ℤ b → (same_number a b ≡ false) × (same_number b a ≡ false)
apart a b low =
    let less = Less-from_lt a b low in (ap is_eq less, ap is_eq (int_cmp_total.antisymm b a ∙ ap ordering_reverse less))

not_among : (ids : List ℤ) (i : ℤ) → AllByRecursion (λ j. i <ℤ j) ids → is_among ids i ≡ false
not_among [] i above = refl
not_among (j ∷ ids) i above = rw (apart i j above.0).0 (not_among ids i above.1)

-- a rowid is among those of the rows that pass just where its row passes
met : (p : Numbered → Bool) (all : List Numbered) → IsKeyedBy (λ n. n.0) all
    → AllByRecursion (λ n. is_among (numbers (filter p all)) n.0 ≡ p n) all
met p [] keyed = tt
met p (x ∷ xs) keyed = go (p x) refl (met p xs keyed.1)
  where
    none : is_among (numbers (filter p xs)) x.0 ≡ false
    none = not_among _ x.0 (all_map (λ j. x.0 <ℤ j) (λ n. n.0) (filter p xs) (all-filter _ p xs keyed.0))

    go : (b : Bool) → p x ≡ b → AllByRecursion (λ n. is_among (numbers (filter p xs)) n.0 ≡ p n) xs
        → AllByRecursion (λ n. is_among (numbers (cond b (x ∷ filter p xs) (filter p xs))) n.0 ≡ p n) (x ∷ xs)
    go true e later = (
      rw (ap is_eq (tied_itself int_cmp_total x.0)) (sym e),
      lists.all_both (λ n. x.0 <ℤ n.0) (λ n. is_among (numbers (filter p xs)) n.0 ≡ p n)
          (λ n. is_among (x.0 ∷ numbers (filter p xs)) n.0 ≡ p n) (λ n low same. rw (apart x.0 n.0 low).1 same) xs keyed.0 later,
    )
    go false e later = (none ∙ sym e, later)

-- the rows that are left where those that pass are taken out
pub left : (p : Numbered → Bool) (all : List Numbered) (gone : List ℤ) → IsKeyedBy (λ n. n.0) all
    → IsPermutation (numbers (filter p all)) gone
    → without_all (map stored_cells all) gone ≡ map stored_cells (filter (λ n. not (p n)) all)
left p all gone keyed mixed =
    all_gone gone all
    ∙ ap (map stored_cells) (lists.filter_same (λ n. not (is_among gone n.0)) (λ n. not (p n)) all
    (all_weaker _ (λ n. not (is_among gone n.0) ≡ not (p n))
    (λ n same. ap not (sym (list_any-IsPermutation (λ j. same_number n.0 j) _ gone mixed) ∙ same)) all (met p all keyed)))

-- ---- a row put under its rowid

abbrev putting : Numbered → Numbered → List Numbered → Ordering → Type 0
putting new x xs o =
    match_ordering o (stored_cells x ∷ put_row (stored_cells new) (map stored_cells xs)) (stored_cells new ∷ map stored_cells xs)
    (stored_cells new ∷ stored_cells x ∷ map stored_cells xs)
    ≡ map stored_cells (match_ordering o (x ∷ insert_by (λ n. n.0) xs new) (new ∷ xs) (new ∷ x ∷ xs))

pub put_is_insert : (new : Numbered) (all : List Numbered)
    → put_row (stored_cells new) (map stored_cells all) ≡ map stored_cells (insert_by (λ n. n.0) all new)
put_is_insert new [] = refl
put_is_insert new (x ∷ xs) =
    ap (λ o. match_ordering o (stored_cells x ∷ put_row (stored_cells new) (map stored_cells xs)) (stored_cells new ∷ map stored_cells xs)
    (stored_cells new ∷ stored_cells x ∷ map stored_cells xs)) (value_cmp-Int x.0 new.0)
    ∙ elim (int_cmp x.0 new.0) as (putting new x xs)
    [ Less ↦ ap (λ l. stored_cells x ∷ l) (put_is_insert new xs) | Equal ↦ refl | Greater ↦ refl ]

pub insert_mixed : (new : Numbered) (all : List Numbered) → AllByRecursion (λ n. same_number n.0 new.0 ≡ false) all
    → IsPermutation (new ∷ all) (insert_by (λ n. n.0) all new)
insert_mixed new [] free = IsPermutation-refl _
insert_mixed new (x ∷ xs) free = go (int_cmp x.0 new.0) refl (insert_mixed new xs free.1)
  where
    go : (o : Ordering) → int_cmp x.0 new.0 ≡ o → IsPermutation (new ∷ xs) (insert_by (λ n. n.0) xs new)
        → IsPermutation (new ∷ x ∷ xs) (match_ordering o (x ∷ insert_by (λ n. n.0) xs new) (new ∷ xs) (new ∷ x ∷ xs))
    go Less e more = IsPermutation-trans _ _ _ (IsPermutation-middle (new ∷ []) x _) (IsPermutation-cons x _ _ more)
    go Equal e more = absurd (true≢false (ap is_eq (sym e) ∙ free.0))
    go Greater e more = IsPermutation-refl _

pub free_of : (new : Numbered) (all : List Numbered) → is_taken (map stored_cells all) (stored_cells new) ≡ false
    → AllByRecursion (λ n. same_number n.0 new.0 ≡ false) all
free_of new [] free = tt
free_of new (x ∷ xs) free =
    go (same_number x.0 new.0) refl
    (subst (λ o. (is_eq o || is_taken (map stored_cells xs) (stored_cells new)) ≡ false) (value_cmp-Int x.0 new.0) free)
    (λ rest. free_of new xs rest)
  where
    go : (b : Bool) → same_number x.0 new.0 ≡ b → (b || is_taken (map stored_cells xs) (stored_cells new)) ≡ false
        → (is_taken (map stored_cells xs) (stored_cells new) ≡ false → AllByRecursion (λ n. same_number n.0 new.0 ≡ false) xs)
        → AllByRecursion (λ n. same_number n.0 new.0 ≡ false) (x ∷ xs)
    go true e rest more = absurd (true≢false rest)
    go false e rest more = (e, more rest)
