-- What is left of a list from a place on.
use Rattle.std.proofs.Common.{◌≡◌, ℕ, zero, suc, ◌+◌, ◌-◌, ◌<◌, List, [], ◌∷◌, length, get_or, take, drop, sym, ap, ◌∙◌, subst, arith}
use Rattle.std.specs.List.Sorted.{IsStrictlySortedBy}
use Rattle.std.specs.declared.cmp.Ordering.{Ordering}
use Rattle.std.proofs.lemmas.List.{drop_more, length-drop, take_all}

-- no element is out of order
pub none_rise : {X : Type 0} (cmp : X → X → Ordering) → IsStrictlySortedBy cmp []
unfolding IsStrictlySortedBy
none_rise cmp = tt

-- the element at a place is the first of those from there on
pub from_place : {X : Type 0} (xs : List X) (i : ℕ) (x : X) → i < length xs → x ≡ get_or xs i x → drop i xs ≡ x ∷ drop (i + 1) xs
from_place xs i x low is = drop_more xs i x low ∙ ap (λ y. y ∷ drop (i + 1) xs) (sym is)

-- what rises rises from a place on
pub drop_rises : {X : Type 0} (cmp : X → X → Ordering) (xs : List X) (i : ℕ) → IsStrictlySortedBy cmp xs → IsStrictlySortedBy cmp (drop i xs)
unfolding IsStrictlySortedBy
drop_rises cmp xs zero rises = rises
drop_rises cmp [] (suc i) rises = tt
drop_rises cmp (x ∷ xs) (suc i) rises = drop_rises cmp xs i rises.1

pub rises_from : {X : Type 0} (cmp : X → X → Ordering) (xs : List X) (i : ℕ) (x : X) → i < length xs → x ≡ get_or xs i x
    → IsStrictlySortedBy cmp xs → IsStrictlySortedBy cmp (x ∷ drop (i + 1) xs)
rises_from cmp xs i x low is rises = subst (IsStrictlySortedBy cmp) (from_place xs i x low is) (drop_rises cmp xs i rises)

-- those from a place on, as a slice
pub rest_whole : {X : Type 0} (xs : List X) (i : ℕ) → take (length xs - i) (drop i xs) ≡ drop i xs
rest_whole xs i = let long = length-drop i xs in take_all (length xs - i) (drop i xs) (omega (arith, long))

pub rest_rises : {X : Type 0} (cmp : X → X → Ordering) (xs : List X) (i : ℕ) → IsStrictlySortedBy cmp xs
    → IsStrictlySortedBy cmp (take (length xs - i) (drop i xs))
rest_rises cmp xs i rises = subst (IsStrictlySortedBy cmp) (sym (rest_whole xs i)) (drop_rises cmp xs i rises)
