-- Things put in the order of their ids, where no two have one id: they rise, and the same is found.
use Rattle.std.proofs.Common.{◌≡◌, List, [], ◌∷◌, ◌++◌, Bool, true, false, cond, refl, ap, ◌∙◌}
use Rattle.std.specs.Prelude.{Option, None, Some}
use Rattle.std.specs.List.{AllByRecursion}
use Rattle.std.specs.List.Sorted.{IsStrictlySortedBy}
use Rattle.std.specs.Option.{option_or}
use Rattle.std.specs.Ordering.{is_lt, is_eq}
use Rattle.std.specs.declared.cmp.Ordering.{Ordering}
use Rattle.std.specs.declared.cmp.Ordering.TheVariants.{Less, Equal, Greater}
use Rattle.jar_types.specs.declared.cookie.CookieId.{CookieId}
use Rattle.jar_types.specs.Orders.{placed, in_order}
use Rattle.stored_law.proofs.FoundLemmas.{find_append}
use Rattle.stored_law.proofs.AtLemmas.{at, by, found, Rises, at_same, at_itself, none_below, after_all, flipped}

module _ {X : Type 0} (k : X → CookieId) where
  -- each one isn't found among those behind it
  abbrev pub Apart : List X → Type 0
  Apart [] = Unit {0}
  Apart (x ∷ xs) = (found k (k x) xs ≡ None) × Apart xs

  placed_at : (i : CookieId) (x y : X) (ys zs : List X) (b : Bool) → (at k i x ≡ true → found k i (y ∷ ys) ≡ None)
      → found k i zs ≡ cond (at k i x) (Some x) (found k i ys)
      → found k i (cond b (x ∷ y ∷ ys) (y ∷ zs)) ≡ cond (at k i x) (Some x) (found k i (y ∷ ys))
  placed_at i x y ys zs true alone e = refl
  placed_at i x y ys zs false alone e = swapped (at k i x) (at k i y) x y (found k i ys) (found k i zs) alone e
    where
      swapped : (a b : Bool) (x y : X) (o o' : Option X) → (a ≡ true → cond b (Some y) o ≡ None) → o' ≡ cond a (Some x) o
          → cond b (Some y) o' ≡ cond a (Some x) (cond b (Some y) o)
      swapped true true x y o o' alone e = let no : Some y ≡ None = alone refl in absurd cc
      swapped true false x y o o' alone e = e
      swapped false true x y o o' alone e = refl
      swapped false false x y o o' alone e = e

  rest_none : (i : CookieId) (y : X) (ys : List X) → found k i (y ∷ ys) ≡ None → found k i ys ≡ None
  rest_none i y ys e = none_at (at k i y) y (found k i ys) e
    where
      none_at : (b : Bool) (y : X) (o : Option X) → cond b (Some y) o ≡ None → o ≡ None
      none_at true y o e = absurd cc
      none_at false y o e = e

  head_none : (i : CookieId) (y : X) (ys : List X) → found k i (y ∷ ys) ≡ None → at k i y ≡ false
  head_none i y ys e = none_at (at k i y) y (found k i ys) e
    where
      none_at : (b : Bool) (y : X) (o : Option X) → cond b (Some y) o ≡ None → b ≡ false
      none_at true y o e = absurd cc
      none_at false y o e = refl

  found_placed : (i : CookieId) (x : X) (ys : List X) → (at k i x ≡ true → found k i ys ≡ None)
      → found k i (placed (by k) x ys) ≡ cond (at k i x) (Some x) (found k i ys)
  found_placed i x [] alone = refl
  found_placed i x (y ∷ ys) alone =
      placed_at i x y ys (placed (by k) x ys) (is_lt (by k x y)) alone (found_placed i x ys (λ has. rest_none i y ys (alone has)))

  pub found_ordered : (i : CookieId) (xs : List X) → Apart xs → found k i (in_order (by k) xs) ≡ found k i xs
  found_ordered i [] apart = refl
  found_ordered i (x ∷ xs) apart =
      found_placed i x (in_order (by k) xs) (λ has. found_ordered i xs apart.1 ∙ ap (λ j. found k j xs) (at_same k i x has) ∙ apart.0)
      ∙ ap (cond (at k i x) (Some x)) (found_ordered i xs apart.1)

  placed_all : (P : X → Type 0) (x : X) (ys : List X) → P x → AllByRecursion P ys → AllByRecursion P (placed (by k) x ys)
  placed_all P x [] holds all = (holds, tt)
  placed_all P x (y ∷ ys) holds all =
      elim (is_lt (by k x y)) as (λ b. AllByRecursion P (cond b (x ∷ y ∷ ys) (y ∷ placed (by k) x ys)))
      [ true ↦ (holds, all) | false ↦ (all.0, placed_all P x ys holds all.1) ]

  placed_rises_at : (x y : X) (ys : List X) (w : Ordering) → by k x y ≡ w → is_eq w ≡ false → Rises k (y ∷ ys) → Rises k (placed (by k) x ys)
      → Rises k (cond (is_lt w) (x ∷ y ∷ ys) (y ∷ placed (by k) x ys))
  unfolding IsStrictlySortedBy
  placed_rises_at x y ys Less e apart rises rest = ((e, after_all k x y ys e rises.0), rises)
  placed_rises_at x y ys Equal e apart rises rest = absurd cc
  placed_rises_at x y ys Greater e apart rises rest =
      (placed_all (λ z. by k y z ≡ Less) x ys (flipped (k x) (k y) Greater e) rises.0, rest)

  placed_rises : (x : X) (ys : List X) → found k (k x) ys ≡ None → Rises k ys → Rises k (placed (by k) x ys)
  unfolding IsStrictlySortedBy
  placed_rises x [] alone rises = (tt, tt)
  placed_rises x (y ∷ ys) alone rises =
      placed_rises_at x y ys (by k x y) refl (head_none (k x) y ys alone) rises (placed_rises x ys (rest_none (k x) y ys alone) rises.1)

  pub ordered_rises : (xs : List X) → Apart xs → Rises k (in_order (by k) xs)
  unfolding IsStrictlySortedBy
  ordered_rises [] apart = tt
  ordered_rises (x ∷ xs) apart =
      placed_rises x (in_order (by k) xs) (found_ordered (k x) xs apart.1 ∙ apart.0) (ordered_rises xs apart.1)

  -- ---- two lists, one behind the other

  pub apart_joined : (xs ys : List X) → Rises k xs → Apart ys → AllByRecursion (λ x. found k (k x) ys ≡ None) xs → Apart (xs ++ ys)
  unfolding IsStrictlySortedBy
  apart_joined [] ys rises apart none = apart
  apart_joined (x ∷ xs) ys rises apart none = (
    find_append (at k (k x)) xs ys
        ∙ ap (λ o. option_or o (found k (k x) ys)) (none_below k (k x) x xs (at_itself k x) rises.0)
        ∙ none.0,
    apart_joined xs ys rises.1 apart none.1,
  )

  pub apart_from : (xs : List X) → Rises k xs → Apart xs
  unfolding IsStrictlySortedBy
  apart_from [] rises = tt
  apart_from (x ∷ xs) rises = (none_below k (k x) x xs (at_itself k x) rises.0, apart_from xs rises.1)
