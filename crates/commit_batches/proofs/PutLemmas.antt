-- A list in strict order with an element in the place of its equals.
use Rattle.std.proofs.Common.{◌≡◌, ℕ, ◌+◌, ◌<◌, ◌≤◌, List, [], ◌∷◌, ◌++◌, Bool, true, false, cond, refl, sym, ap, ◌∙◌, zero, suc, length, get_or, set, arith}
use Rattle.std.specs.Prelude.{filter, insert, Err}
use Rattle.std.specs.Cmp.{IsTotalOrder}
use Rattle.std.specs.List.{AllByRecursion}
use Rattle.std.specs.List.Sorted.{IsStrictlySortedBy, IsSortedBy, IsBinarySearchResult}
use Rattle.std.specs.Ordering.{is_lt, is_gt, ordering_reverse}
use Rattle.std.specs.declared.cmp.Ordering.{Ordering}
use Rattle.std.specs.declared.cmp.Ordering.TheVariants.{Less, Equal, Greater}
use Rattle.std.proofs.lemmas.Cmp.{tied_back, alike_right}
use Rattle.std.proofs.lemmas.List.Sorted.{searchable_from_sorted}
use Rattle.std.proofs.lemmas.Map.Keys.{Less-from_sorted}
use Rattle.jar_types.specs.Orders.{put_by}

-- ---- all elements

all_filter : {X : Type 0} (P : X → Type 0) (p : X → Bool) (xs : List X) → AllByRecursion P xs → AllByRecursion P (filter p xs)
all_filter P p [] all = tt
all_filter P p (x ∷ xs) all =
    elim (p x) as (λ b. AllByRecursion P (cond b (x ∷ filter p xs) (filter p xs)))
    [ true ↦ (all.0, all_filter P p xs all.1) | false ↦ all_filter P p xs all.1 ]

all_joined : {X : Type 0} (P : X → Type 0) (xs ys : List X) → AllByRecursion P xs → AllByRecursion P ys → AllByRecursion P (xs ++ ys)
all_joined P [] ys all more = more
all_joined P (x ∷ xs) ys all more = (all.0, all_joined P xs ys all.1 more)

all_put : {X : Type 0} (cmp : X → X → Ordering) (P : X → Type 0) (x : X) (xs : List X) → P x → AllByRecursion P xs → AllByRecursion P (put_by cmp x xs)
all_put cmp P x xs here all =
    all_joined P (filter (λ y. is_lt (cmp y x)) xs) (x ∷ filter (λ y. is_gt (cmp y x)) xs)
    (all_filter P (λ y. is_lt (cmp y x)) xs all)
    (here, all_filter P (λ y. is_gt (cmp y x)) xs all)

pub all_at : {X : Type 0} (P : X → Type 0) (xs : List X) (i : ℕ) (d : X) → AllByRecursion P xs → i < length xs → P (get_or xs i d)
all_at P [] i d all within = absurd (omega arith)
all_at P (x ∷ xs) zero d all within = all.0
all_at P (x ∷ xs) (suc i) d all within = all_at P xs i d all.1 (omega arith)

-- what is below one that is below all is below all
pub below_all : {X : Type 0} {cmp : X → X → Ordering} (o : IsTotalOrder cmp) (x y : X) (ys : List X) → cmp x y ≡ Less
    → AllByRecursion (λ z. cmp y z ≡ Less) ys → AllByRecursion (λ z. cmp x z ≡ Less) ys
below_all o x y [] less all = tt
below_all o x y (z ∷ zs) less all = (o.trans x y z less all.0, below_all o x y zs less all.1)

-- what is equal to one that is below all is below all
pub equal_all : {X : Type 0} {cmp : X → X → Ordering} (o : IsTotalOrder cmp) (x y : X) (ys : List X) → cmp x y ≡ Equal
    → AllByRecursion (λ z. cmp y z ≡ Less) ys → AllByRecursion (λ z. cmp x z ≡ Less) ys
equal_all o x y [] same all = tt
equal_all o x y (z ∷ zs) same all = (o.congr x y z same ∙ all.0, equal_all o x y zs same all.1)

-- ---- the place of an element

none_less : {X : Type 0} {cmp : X → X → Ordering} (o : IsTotalOrder cmp) (x : X) (ys : List X) → AllByRecursion (λ y. cmp x y ≡ Less) ys
    → filter (λ y. is_lt (cmp y x)) ys ≡ []
none_less o x [] all = refl
none_less {X} {cmp} o x (y ∷ ys) all =
    let e : cmp y x ≡ Greater = o.antisymm y x ∙ ap ordering_reverse all.0 in
    rw e (none_less o x ys all.1)

all_greater : {X : Type 0} {cmp : X → X → Ordering} (o : IsTotalOrder cmp) (x : X) (ys : List X) → AllByRecursion (λ y. cmp x y ≡ Less) ys
    → filter (λ y. is_gt (cmp y x)) ys ≡ ys
all_greater o x [] all = refl
all_greater {X} {cmp} o x (y ∷ ys) all =
    let e : cmp y x ≡ Greater = o.antisymm y x ∙ ap ordering_reverse all.0 in
    rw e (ap (λ zs. y ∷ zs) (all_greater o x ys all.1))

-- it comes after what is less
pub put_after : {X : Type 0} (cmp : X → X → Ordering) (x y : X) (ys : List X) → cmp y x ≡ Less → put_by cmp x (y ∷ ys) ≡ y ∷ put_by cmp x ys
put_after cmp x y ys e = rw e refl

-- it comes before all that it is below
pub put_before : {X : Type 0} {cmp : X → X → Ordering} (o : IsTotalOrder cmp) (x : X) (ys : List X) → AllByRecursion (λ y. cmp x y ≡ Less) ys
    → put_by cmp x ys ≡ x ∷ ys
put_before o x ys all = rw (none_less o x ys all, all_greater o x ys all) refl

-- it takes the place of its equal
pub put_over : {X : Type 0} {cmp : X → X → Ordering} (o : IsTotalOrder cmp) (x y : X) (ys : List X) → cmp y x ≡ Equal
    → AllByRecursion (λ z. cmp y z ≡ Less) ys → put_by cmp x (y ∷ ys) ≡ x ∷ ys
put_over {X} {cmp} o x y ys e all = rw e (put_before o x ys (equal_all o x y ys (tied_back o y x e) all))

-- ---- the order stays

put_rises_at : {X : Type 0} {cmp : X → X → Ordering} (o : IsTotalOrder cmp) (x y : X) (ys : List X) (r : Ordering) → cmp y x ≡ r
    → AllByRecursion (λ z. cmp y z ≡ Less) ys → IsStrictlySortedBy cmp ys → IsStrictlySortedBy cmp (put_by cmp x ys)
    → IsStrictlySortedBy cmp (put_by cmp x (y ∷ ys))
unfolding IsStrictlySortedBy
put_rises_at {X} {cmp} o x y ys Less e all rises more =
    rw (put_after cmp x y ys e) (all_put cmp (λ z. cmp y z ≡ Less) x ys e all, more)
put_rises_at {X} {cmp} o x y ys Equal e all rises more =
    rw (put_over o x y ys e all) (equal_all o x y ys (tied_back o y x e) all, rises)
put_rises_at {X} {cmp} o x y ys Greater e all rises more =
    let less : cmp x y ≡ Less = o.antisymm x y ∙ ap ordering_reverse e in
    let below : AllByRecursion (λ z. cmp x z ≡ Less) (y ∷ ys) = (less, below_all o x y ys less all) in
    rw (put_before o x (y ∷ ys) below) (below, (all, rises))

pub put_rises : {X : Type 0} {cmp : X → X → Ordering} (o : IsTotalOrder cmp) (x : X) (xs : List X) → IsStrictlySortedBy cmp xs
    → IsStrictlySortedBy cmp (put_by cmp x xs)
unfolding IsStrictlySortedBy
put_rises o x [] rises = (tt, tt)
put_rises {X} {cmp} o x (y ∷ ys) rises = put_rises_at o x y ys (cmp y x) refl rises.0 rises.1 (put_rises o x ys rises.1)

-- ---- the place by a search

-- where an equal stands, it is replaced
pub put_found : {X : Type 0} {cmp : X → X → Ordering} (o : IsTotalOrder cmp) (x : X) (xs : List X) (i : ℕ) → IsStrictlySortedBy cmp xs
    → i < length xs → ((d : X) → cmp (get_or xs i d) x ≡ Equal) → put_by cmp x xs ≡ set xs i x
unfolding IsStrictlySortedBy
put_found o x [] i rises within same = absurd (omega arith)
put_found o x (y ∷ ys) zero rises within same = put_over o x y ys (same x) rises.0
put_found {X} {cmp} o x (y ∷ ys) (suc i) rises within same =
    let inside : i < length ys = omega arith in
    let less : cmp y x ≡ Less =
    sym (alike_right o (get_or ys i x) x y (same x)) ∙ all_at (λ z. cmp y z ≡ Less) ys i x rises.0 inside in
    put_after cmp x y ys less ∙ ap (λ zs. y ∷ zs) (put_found o x ys i rises.1 inside same)

all_from : {X : Type 0} {cmp : X → X → Ordering} (o : IsTotalOrder cmp) (x : X) (xs : List X)
    → ((k : ℕ) (d : X) → k < length xs → cmp (get_or xs k d) x ≡ Greater) → AllByRecursion (λ y. cmp x y ≡ Less) xs
all_from o x [] above = tt
all_from o x (y ∷ ys) above =
    (o.antisymm x y ∙ ap ordering_reverse (above 0 x (omega arith)), all_from o x ys λ k d within. above (suc k) d (omega arith))

-- between those that are less and those that are greater, it is inserted
pub put_between : {X : Type 0} {cmp : X → X → Ordering} (o : IsTotalOrder cmp) (x : X) (xs : List X) (i : ℕ) → i ≤ length xs
    → ((k : ℕ) (d : X) → k < i → cmp (get_or xs k d) x ≡ Less)
    → ((k : ℕ) (d : X) → i ≤ k → k < length xs → cmp (get_or xs k d) x ≡ Greater)
    → put_by cmp x xs ≡ insert xs i x
put_between o x [] zero within below above = refl
put_between o x [] (suc i) within below above = absurd (omega arith)
put_between o x (y ∷ ys) zero within below above =
    put_before o x (y ∷ ys) (all_from o x (y ∷ ys) λ k d inside. above k d (omega arith) inside)
put_between {X} {cmp} o x (y ∷ ys) (suc i) within below above =
    put_after cmp x y ys (below 0 x (omega arith))
    ∙ ap (λ zs. y ∷ zs) (
    put_between o x ys i (omega arith)
    (λ k d less. below (suc k) d (omega arith))
    (λ k d low inside. above (suc k) d (omega arith) (omega arith))
    )

strictly_sorted : {X : Type 0} {cmp : X → X → Ordering} (o : IsTotalOrder cmp) (xs : List X) → IsStrictlySortedBy cmp xs
    → IsSortedBy (λ x y. is_lt (cmp x y)) xs
strictly_sorted {X} {cmp} o xs rises k d low high =
    let next = get_or xs (k + 1) d in
    let less : cmp (get_or xs k d) next ≡ Less = Less-from_sorted cmp xs k (k + 1) d rises (omega arith) high in
    let greater : cmp next (get_or xs k d) ≡ Greater = o.antisymm next (get_or xs k d) ∙ ap ordering_reverse less in
    rw greater refl

-- where none was found, it is inserted at the place that the search tells
pub put_missed : {X : Type 0} {cmp : X → X → Ordering} (o : IsTotalOrder cmp) (x : X) (xs : List X) (i : ℕ) → IsStrictlySortedBy cmp xs
    → i ≤ length xs → IsBinarySearchResult {X = X} (λ y. cmp y x) xs (Err i) → put_by cmp x xs ≡ insert xs i x
put_missed {X} {cmp} o x xs i rises within missed =
    let point = missed (searchable_from_sorted o (λ (y : X). y) xs x (strictly_sorted o xs rises)) in
    put_between o x xs i within (λ k d less. point.0 k d (omega arith) less) point.1
