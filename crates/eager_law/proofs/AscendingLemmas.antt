-- Lists put in their order, each element once: what a filter keeps of them, and whether some pass a
-- test.
use Rattle.std.proofs.Common.{◌≡◌, List, [], ◌∷◌, Bool, true, false, cond, refl, sym, ap, ◌∙◌}
use Rattle.std.specs.Prelude.{filter, ◌||◌}
use Rattle.std.specs.Cmp.{IsTotalOrder}
use Rattle.std.specs.List.{AllByRecursion, list_any}
use Rattle.std.specs.List.Sorted.{IsStrictlySortedBy}
use Rattle.std.specs.Ordering.{is_lt, is_eq}
use Rattle.std.specs.declared.cmp.Ordering.{Ordering}
use Rattle.std.specs.declared.cmp.Ordering.TheVariants.{Less, Equal, Greater}
use Rattle.jar_types.specs.Orders.{placed_once, ascending}
use Rattle.eager_law.proofs.MemberLemmas.{kept_all}
use Rattle.eager_law.proofs.PlacedLemmas.{flipped, all_after}

-- ---- tests

either_at : (b c any : Bool) → c ≡ b → c || any ≡ b || (c || any)
either_at true c any e = ap (λ d. d || any) e
either_at false c any e = refl

swap : (b c any : Bool) → c || (b || any) ≡ b || (c || any)
swap true true any = refl
swap true false any = refl
swap false c any = refl

module _ {X : Type 0} (R : X → X → Ordering) (t : X → Bool) (same : (x y : X) → R x y ≡ Equal → t y ≡ t x) where
  any_at : (x y : X) (ys : List X) (w : Ordering) → R x y ≡ w → list_any t (placed_once R x ys) ≡ t x || list_any t ys
      → list_any t (cond (is_lt w) (x ∷ y ∷ ys) (cond (is_eq w) (y ∷ ys) (y ∷ placed_once R x ys)))
      ≡ t x || (t y || list_any t ys)
  any_at x y ys Less e rest = refl
  any_at x y ys Equal e rest = either_at (t x) (t y) (list_any t ys) (same x y e)
  any_at x y ys Greater e rest = ap (λ b. t y || b) rest ∙ swap (t x) (t y) (list_any t ys)

  any_placed : (x : X) (ys : List X) → list_any t (placed_once R x ys) ≡ t x || list_any t ys
  any_placed x [] = refl
  any_placed x (y ∷ ys) = any_at x y ys (R x y) refl (any_placed x ys)

  -- some pass just where some did
  pub any_ascending : (xs : List X) → list_any t (ascending R xs) ≡ list_any t xs
  any_ascending [] = refl
  any_ascending (x ∷ xs) = any_placed x (ascending R xs) ∙ ap (λ b. t x || b) (any_ascending xs)

-- ---- filters

module _ {X : Type 0} {R : X → X → Ordering} (o : IsTotalOrder R) where
  once_at : (P : X → Type 0) (x y : X) (ys : List X) (w : Ordering) → P x → P y → AllByRecursion P ys
      → AllByRecursion P (placed_once R x ys)
      → AllByRecursion P (cond (is_lt w) (x ∷ y ∷ ys) (cond (is_eq w) (y ∷ ys) (y ∷ placed_once R x ys)))
  once_at P x y ys Less p q all rest = (p, (q, all))
  once_at P x y ys Equal p q all rest = (q, all)
  once_at P x y ys Greater p q all rest = (q, rest)

  once_all : (P : X → Type 0) (x : X) (ys : List X) → P x → AllByRecursion P ys
      → AllByRecursion P (placed_once R x ys)
  once_all P x [] p all = (p, tt)
  once_all P x (y ∷ ys) p all = once_at P x y ys (R x y) p all.0 all.1 (once_all P x ys p all.1)

  rises_at : (x y : X) (ys : List X) (w : Ordering) → R x y ≡ w → IsStrictlySortedBy R (y ∷ ys)
      → IsStrictlySortedBy R (placed_once R x ys)
      → IsStrictlySortedBy R (cond (is_lt w) (x ∷ y ∷ ys) (cond (is_eq w) (y ∷ ys) (y ∷ placed_once R x ys)))
  unfolding IsStrictlySortedBy
  rises_at x y ys Less e rises rest = ((e, all_after o x y ys e rises.0), rises)
  rises_at x y ys Equal e rises rest = rises
  rises_at x y ys Greater e rises rest = (once_all (λ z. R y z ≡ Less) x ys (flipped o x y Greater e) rises.0, rest)

  placed_rises : (x : X) (ys : List X) → IsStrictlySortedBy R ys → IsStrictlySortedBy R (placed_once R x ys)
  unfolding IsStrictlySortedBy
  placed_rises x [] rises = (tt, tt)
  placed_rises x (y ∷ ys) rises = rises_at x y ys (R x y) refl rises (placed_rises x ys rises.1)

  pub ascending_rises : (xs : List X) → IsStrictlySortedBy R (ascending R xs)
  unfolding IsStrictlySortedBy
  ascending_rises [] = tt
  ascending_rises (x ∷ xs) = placed_rises x (ascending R xs) (ascending_rises xs)

  placed_least : (x : X) (ys : List X) → AllByRecursion (λ y. R x y ≡ Less) ys → placed_once R x ys ≡ x ∷ ys
  placed_least x [] all = refl
  placed_least x (y ∷ ys) all =
      ap (λ w. cond (is_lt w) (x ∷ y ∷ ys) (cond (is_eq w) (y ∷ ys) (y ∷ placed_once R x ys))) all.0

  module _ (p : X → Bool) (same : (x y : X) → R x y ≡ Equal → p y ≡ p x) where
    passes_on : (x y : X) (ys : List X) (b : Bool) → R x y ≡ Greater
        → cond b (y ∷ placed_once R x ys) (placed_once R x ys) ≡ placed_once R x (cond b (y ∷ ys) ys)
    passes_on x y ys true e =
        sym (ap (λ w. cond (is_lt w) (x ∷ y ∷ ys) (cond (is_eq w) (y ∷ ys) (y ∷ placed_once R x ys))) e)
    passes_on x y ys false e = refl

    passes_equal : (x y : X) (ys : List X) (b : Bool) → b ≡ true → R x y ≡ Equal
        → cond b (y ∷ ys) ys ≡ placed_once R x (cond b (y ∷ ys) ys)
    passes_equal x y ys true t e =
        sym (ap (λ w. cond (is_lt w) (x ∷ y ∷ ys) (cond (is_eq w) (y ∷ ys) (y ∷ placed_once R x ys))) e)
    passes_equal x y ys false t e = absurd cc

    passes_at : (x y : X) (ys : List X) (w : Ordering) → R x y ≡ w → p x ≡ true
        → AllByRecursion (λ z. R y z ≡ Less) ys
        → filter p (placed_once R x ys) ≡ placed_once R x (filter p ys)
        → filter p (cond (is_lt w) (x ∷ y ∷ ys) (cond (is_eq w) (y ∷ ys) (y ∷ placed_once R x ys)))
        ≡ placed_once R x (cond (p y) (y ∷ filter p ys) (filter p ys))
    passes_at x y ys Less e t after rest =
        ap (λ b. cond b (x ∷ filter p (y ∷ ys)) (filter p (y ∷ ys))) t
        ∙ sym (placed_least x (filter p (y ∷ ys)) (kept_all (λ z. R x z ≡ Less) p (y ∷ ys) (e, all_after o x y ys e after)))
    passes_at x y ys Equal e t after rest = passes_equal x y (filter p ys) (p y) (same x y e ∙ t) e
    passes_at x y ys Greater e t after rest =
        ap (λ zs. cond (p y) (y ∷ zs) zs) rest ∙ passes_on x y (filter p ys) (p y) e

    passes : (x : X) (ys : List X) → p x ≡ true → IsStrictlySortedBy R ys
        → filter p (placed_once R x ys) ≡ placed_once R x (filter p ys)
    unfolding IsStrictlySortedBy
    passes x [] t rises = ap (λ b. cond b (x ∷ []) []) t
    passes x (y ∷ ys) t rises = passes_at x y ys (R x y) refl t rises.0 (passes x ys t rises.1)

    bars_at : (x y : X) (ys : List X) (w : Ordering) → p x ≡ false → filter p (placed_once R x ys) ≡ filter p ys
        → filter p (cond (is_lt w) (x ∷ y ∷ ys) (cond (is_eq w) (y ∷ ys) (y ∷ placed_once R x ys)))
        ≡ cond (p y) (y ∷ filter p ys) (filter p ys)
    bars_at x y ys Less t rest = ap (λ b. cond b (x ∷ filter p (y ∷ ys)) (filter p (y ∷ ys))) t
    bars_at x y ys Equal t rest = refl
    bars_at x y ys Greater t rest = ap (λ zs. cond (p y) (y ∷ zs) zs) rest

    bars : (x : X) (ys : List X) → p x ≡ false → filter p (placed_once R x ys) ≡ filter p ys
    bars x [] t = ap (λ b. cond b (x ∷ []) []) t
    bars x (y ∷ ys) t = bars_at x y ys (R x y) t (bars x ys t)

    ascends_at : (x : X) (xs : List X) (b : Bool) → p x ≡ b → filter p (ascending R xs) ≡ ascending R (filter p xs)
        → filter p (placed_once R x (ascending R xs)) ≡ ascending R (cond b (x ∷ filter p xs) (filter p xs))
    ascends_at x xs true e rest = passes x (ascending R xs) e (ascending_rises xs) ∙ ap (placed_once R x) rest
    ascends_at x xs false e rest = bars x (ascending R xs) e ∙ rest

    -- a filter that can't tell equals apart is over it what it is under it
    pub ascending_kept : (xs : List X) → filter p (ascending R xs) ≡ ascending R (filter p xs)
    ascending_kept [] = refl
    ascending_kept (x ∷ xs) = ascends_at x xs (p x) refl (ascending_kept xs)
