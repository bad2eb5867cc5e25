-- Lists put in a total order, each element once: they rise, and the same elements are there.
use Rattle.std.proofs.Common.{◌≡◌, List, [], ◌∷◌, Bool, true, false, cond, refl, sym, ap, ◌∙◌}
use Rattle.std.specs.Prelude.{◌||◌}
use Rattle.std.specs.Cmp.{IsTotalOrder}
use Rattle.std.specs.List.{AllByRecursion, list_any}
use Rattle.std.specs.List.Sorted.{IsStrictlySortedBy}
use Rattle.std.specs.Ordering.{is_lt, is_eq, ordering_reverse}
use Rattle.std.specs.declared.cmp.Ordering.{Ordering}
use Rattle.std.specs.declared.cmp.Ordering.TheVariants.{Less, Equal, Greater}
use Rattle.jar_types.specs.Orders.{placed_once, ascending}
use Rattle.stored_law.proofs.FoundLemmas.{all_weaker}

twice : (a b : Bool) → (a || b) ≡ (a || (a || b))
twice true b = refl
twice false b = refl

turned : (a b c : Bool) → (a || (b || c)) ≡ (b || (a || c))
turned true true c = refl
turned true false c = refl
turned false b c = refl

module _ {K : Type 0} {R : K → K → Ordering} (o : IsTotalOrder R) where
  -- all of these are greater
  abbrev pub Under : K → List K → Type 0
  Under x ys = AllByRecursion (λ y. R x y ≡ Less) ys

  under_more : (x y : K) (ys : List K) → R x y ≡ Less → Under y ys → Under x ys
  under_more x y ys less all = all_weaker (λ z. R y z ≡ Less) (λ z. R x z ≡ Less) (λ z e. o.trans x y z less e) ys all

  once_all_at : (P : K → Type 0) (x y : K) (ys zs : List K) (b c : Bool) → P x → AllByRecursion P (y ∷ ys) → AllByRecursion P zs
      → AllByRecursion P (cond b (x ∷ y ∷ ys) (cond c (y ∷ ys) (y ∷ zs)))
  once_all_at P x y ys zs true c holds all all' = (holds, all)
  once_all_at P x y ys zs false true holds all all' = all
  once_all_at P x y ys zs false false holds all all' = (all.0, all')

  once_all : (P : K → Type 0) (x : K) (ys : List K) → P x → AllByRecursion P ys → AllByRecursion P (placed_once R x ys)
  once_all P x [] holds all = (holds, tt)
  once_all P x (y ∷ ys) holds all =
      once_all_at P x y ys (placed_once R x ys) (is_lt (R x y)) (is_eq (R x y)) holds all (once_all P x ys holds all.1)

  once_rises_at : (x y : K) (ys : List K) (w : Ordering) → R x y ≡ w → IsStrictlySortedBy R (y ∷ ys) → IsStrictlySortedBy R (placed_once R x ys)
      → IsStrictlySortedBy R (cond (is_lt w) (x ∷ y ∷ ys) (cond (is_eq w) (y ∷ ys) (y ∷ placed_once R x ys)))
  unfolding IsStrictlySortedBy
  once_rises_at x y ys Less e rises rest = ((e, under_more x y ys e rises.0), rises)
  once_rises_at x y ys Equal e rises rest = rises
  once_rises_at x y ys Greater e rises rest =
      (once_all (λ z. R y z ≡ Less) x ys (o.antisymm y x ∙ ap ordering_reverse e) rises.0, rest)

  once_rises : (x : K) (ys : List K) → IsStrictlySortedBy R ys → IsStrictlySortedBy R (placed_once R x ys)
  unfolding IsStrictlySortedBy
  once_rises x [] rises = (tt, tt)
  once_rises x (y ∷ ys) rises = once_rises_at x y ys (R x y) refl rises (once_rises x ys rises.1)

  pub ascending_rises : (xs : List K) → IsStrictlySortedBy R (ascending R xs)
  unfolding IsStrictlySortedBy
  ascending_rises [] = tt
  ascending_rises (x ∷ xs) = once_rises x (ascending R xs) (ascending_rises xs)

  -- ---- a test that tells no two that tie

  module _ (p : K → Bool) (tied : (x y : K) → R x y ≡ Equal → p x ≡ p y) where
    once_any_at : (x y : K) (ys zs : List K) (w : Ordering) → R x y ≡ w → list_any p zs ≡ (p x || list_any p ys)
        → list_any p (cond (is_lt w) (x ∷ y ∷ ys) (cond (is_eq w) (y ∷ ys) (y ∷ zs))) ≡ (p x || (p y || list_any p ys))
    once_any_at x y ys zs Less is e = refl
    once_any_at x y ys zs Equal is e =
        twice (p y) (list_any p ys) ∙ ap (λ b. b || (p y || list_any p ys)) (sym (tied x y is))
    once_any_at x y ys zs Greater is e = ap (λ b. p y || b) e ∙ turned (p y) (p x) (list_any p ys)

    once_any : (x : K) (ys : List K) → list_any p (placed_once R x ys) ≡ (p x || list_any p ys)
    once_any x [] = refl
    once_any x (y ∷ ys) = once_any_at x y ys (placed_once R x ys) (R x y) refl (once_any x ys)

    pub ascending_any : (xs : List K) → list_any p (ascending R xs) ≡ list_any p xs
    ascending_any [] = refl
    ascending_any (x ∷ xs) = once_any x (ascending R xs) ∙ ap (λ b. p x || b) (ascending_any xs)
