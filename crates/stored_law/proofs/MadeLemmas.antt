-- What is found by its id among things that a filter leaves, or that are made of others and have their ids.
use Rattle.std.proofs.Common.{◌≡◌, List, [], ◌∷◌, Bool, true, false, cond, refl, sym, ap, ◌∙◌}
use Rattle.std.specs.Prelude.{filter, filter_map, Option, None, Some, option_and_then}
use Rattle.std.specs.List.{cons_option}
use Rattle.std.specs.List.Sorted.{IsStrictlySortedBy}
use Rattle.std.specs.Ordering.{is_eq}
use Rattle.std.specs.declared.cmp.Ordering.TheVariants.{Less}
use Rattle.jar_types.specs.declared.cookie.CookieId.{CookieId}
use Rattle.jar_types.specs.Ids.{id_cmp}
use Rattle.stored_law.proofs.FoundLemmas.{all_left, kept_where}
use Rattle.stored_law.proofs.AtLemmas.{at, by, found, Rises, Below, none_below}

module _ {X : Type 0} (k : X → CookieId) where
  found_filter_at : (i : CookieId) (q : X → Bool) (x : X) (left : List X) (found' : Option X) (a b : Bool) → at k i x ≡ a → q x ≡ b → (a ≡ true → found k i left ≡ None)
      → found k i left ≡ kept_where q found' → found k i (cond b (x ∷ left) left) ≡ kept_where q (cond a (Some x) found')
  found_filter_at i q x left found' true true is is' alone e =
      ap (λ c. cond c (Some x) (found k i left)) is ∙ sym (ap (λ c. cond c (Some x) None) is')
  found_filter_at i q x left found' true false is is' alone e = alone refl ∙ sym (ap (λ c. cond c (Some x) None) is')
  found_filter_at i q x left found' false true is is' alone e = ap (λ c. cond c (Some x) (found k i left)) is ∙ e
  found_filter_at i q x left found' false false is is' alone e = e

  pub found_filter : (i : CookieId) (q : X → Bool) (xs : List X) → Rises k xs → found k i (filter q xs) ≡ kept_where q (found k i xs)
  unfolding IsStrictlySortedBy
  found_filter i q [] rises = refl
  found_filter i q (x ∷ xs) rises =
      found_filter_at i q x (filter q xs) (found k i xs) (at k i x) (q x) refl refl
      (λ has. none_below k i x (filter q xs) has (all_left (λ y. by k x y ≡ Less) q xs rises.0))
      (found_filter i q xs rises.1)

-- ---- things made of things, with their ids

module _ {X Y : Type 0} (k : X → CookieId) (k' : Y → CookieId) (h : X → Option Y) (keeps : (x : X) (y : Y) → h x ≡ Some y → k' y ≡ k x) where
  made_at : (i : CookieId) (x : X) (made : Option Y) (left : List Y) (found' : Option X) (a : Bool) → h x ≡ made → at k i x ≡ a
      → (a ≡ true → found' ≡ None) → found k' i left ≡ option_and_then h found'
      → found k' i (cons_option made left) ≡ option_and_then h (cond a (Some x) found')
  made_at i x None left found' true is has alone e = e ∙ ap (option_and_then h) (alone refl) ∙ sym is
  made_at i x None left found' false is has alone e = e
  made_at i x (Some y) left found' true is has alone e =
      ap (λ j. cond (is_eq (id_cmp i j)) (Some y) (found k' i left)) (keeps x y is)
      ∙ ap (λ b. cond b (Some y) (found k' i left)) has
      ∙ sym is
  made_at i x (Some y) left found' false is has alone e =
      ap (λ j. cond (is_eq (id_cmp i j)) (Some y) (found k' i left)) (keeps x y is)
      ∙ ap (λ b. cond b (Some y) (found k' i left)) has
      ∙ e

  pub found_made : (i : CookieId) (xs : List X) → Rises k xs → found k' i (filter_map h xs) ≡ option_and_then h (found k i xs)
  unfolding IsStrictlySortedBy
  found_made i [] rises = refl
  found_made i (x ∷ xs) rises =
      made_at i x (h x) (filter_map h xs) (found k i xs) (at k i x) refl refl (λ has. none_below k i x xs has rises.0) (found_made i xs rises.1)

  below_made_at : (y : Y) (x : X) (made : Option Y) (left : List Y) → h x ≡ made → id_cmp (k' y) (k x) ≡ Less → Below k' y left → Below k' y (cons_option made left)
  below_made_at y x None left is less below = below
  below_made_at y x (Some z) left is less below = (ap (id_cmp (k' y)) (keeps x z is) ∙ less, below)

  below_made : (y : Y) (x : X) (xs : List X) → k' y ≡ k x → Below k x xs → Below k' y (filter_map h xs)
  below_made y x [] same below = tt
  below_made y x (z ∷ zs) same below =
      below_made_at y z (h z) (filter_map h zs) refl (ap (λ i. id_cmp i (k z)) same ∙ below.0) (below_made y x zs same below.1)

  made_rises_at : (x : X) (made : Option Y) (xs : List X) → h x ≡ made → Below k x xs → Rises k' (filter_map h xs) → Rises k' (cons_option made (filter_map h xs))
  unfolding IsStrictlySortedBy
  made_rises_at x None xs is below rises = rises
  made_rises_at x (Some y) xs is below rises = (below_made y x xs (keeps x y is) below, rises)

  pub made_rises : (xs : List X) → Rises k xs → Rises k' (filter_map h xs)
  unfolding IsStrictlySortedBy
  made_rises [] rises = tt
  made_rises (x ∷ xs) rises = made_rises_at x (h x) xs refl rises.0 (made_rises xs rises.1)
