-- An element put into the place of its equals in a list that rises.
use Rattle.std.proofs.Common.{◌≡◌, List, [], ◌∷◌, ◌++◌, Bool, true, false, cond, inl, inr, refl, sym, ap, ◌∙◌, subst}
use Rattle.std.specs.Prelude.{filter, ◌||◌}
use Rattle.std.specs.Cmp.{IsTotalOrder}
use Rattle.std.specs.List.{AllByRecursion}
use Rattle.std.specs.List.Sorted.{IsStrictlySortedBy}
use Rattle.std.specs.Ordering.{is_lt, is_gt, is_eq, ordering_reverse}
use Rattle.std.specs.declared.cmp.Ordering.{Ordering}
use Rattle.std.specs.declared.cmp.Ordering.TheVariants.{Less, Equal, Greater}
use Rattle.std.proofs.lemmas.Cmp.{tied_itself}
use Rattle.std.proofs.lemmas.List.Elements.{filter-append}
use Rattle.jar_types.specs.Orders.{put_by}
use Rattle.eager_law.proofs.MemberLemmas.{Member, every_member, weaker, kept_all, append_all, or_false, or_true}
use Rattle.eager_law.proofs.FilterLemmas.{swapped, agreeing, every_kept, none_kept}

module _ {X : Type 0} {R : X → X → Ordering} (o : IsTotalOrder R) where
  pub flipped : (x y : X) (w : Ordering) → R x y ≡ w → R y x ≡ ordering_reverse w
  flipped x y w e = o.antisymm y x ∙ ap ordering_reverse e

  pub all_after : (x y : X) (ys : List X) → R x y ≡ Less → AllByRecursion (λ z. R y z ≡ Less) ys
      → AllByRecursion (λ z. R x z ≡ Less) ys
  all_after x y ys e all = weaker (λ z. R y z ≡ Less) (λ z. R x z ≡ Less) (λ z h. o.trans x y z e h) ys all

  -- the elements that come before x, and those that come after it
  abbrev below : X → List X → List X
  below x ys = filter (λ y. is_lt (R y x)) ys

  abbrev above : X → List X → List X
  above x ys = filter (λ y. is_gt (R y x)) ys

  none_below : (x : X) (ys : List X) → AllByRecursion (λ y. R x y ≡ Less) ys → below x ys ≡ []
  none_below x ys all =
      none_kept (λ y. is_lt (R y x)) ys
      (weaker (λ y. R x y ≡ Less) (λ y. is_lt (R y x) ≡ false) (λ y e. ap is_lt (flipped x y Less e)) ys all)

  all_above : (x : X) (ys : List X) → AllByRecursion (λ y. R x y ≡ Less) ys → above x ys ≡ ys
  all_above x ys all =
      every_kept (λ y. is_gt (R y x)) ys
      (weaker (λ y. R x y ≡ Less) (λ y. is_gt (R y x) ≡ true) (λ y e. ap is_gt (flipped x y Less e)) ys all)

  pub put_all : (P : X → Type 0) (x : X) (xs : List X) → P x → AllByRecursion P xs → AllByRecursion P (put_by R x xs)
  put_all P x xs h all =
      append_all P (below x xs) (x ∷ above x xs) (kept_all P (λ y. is_lt (R y x)) xs all) (h, kept_all P (λ y. is_gt (R y x)) xs all)

  -- ---- what a filter keeps of a list with x put into it

  -- one that passes x
  pub put_kept : (q : X → Bool) (x : X) (xs : List X) → q x ≡ true
      → filter q (put_by R x xs) ≡ put_by R x (filter q xs)
  put_kept q x xs e =
      filter-append q (below x xs) (x ∷ above x xs)
      ∙ ap (λ b. filter q (below x xs) ++ cond b (x ∷ filter q (above x xs)) (filter q (above x xs))) e
      ∙ ap (λ ys. ys ++ x ∷ filter q (above x xs)) (swapped q (λ y. is_lt (R y x)) xs)
      ∙ ap (λ ys. below x (filter q xs) ++ x ∷ ys) (swapped q (λ y. is_gt (R y x)) xs)

  joined_at : (y : X) (zs bs ys : List X) (b : Bool) → zs ++ bs ≡ ys → cond b (y ∷ zs) zs ++ bs ≡ cond b (y ∷ ys) ys
  joined_at y zs bs ys true e = ap (λ us. y ∷ us) e
  joined_at y zs bs ys false e = e

  left_at : (y : X) (zs ys : List X) (b : Bool) → (b ≡ true → true ≡ false) → zs ≡ ys → zs ≡ cond b (y ∷ ys) ys
  left_at y zs ys true h e = let no : true ≡ false = h refl in absurd cc
  left_at y zs ys false h e = e

  apart_at : (q : X → Bool) (x y : X) (ys : List X) (w : Ordering) → R y x ≡ w → (q y ≡ true → is_eq w ≡ false)
      → AllByRecursion (λ z. R y z ≡ Less) ys → filter q (below x ys) ++ filter q (above x ys) ≡ filter q ys
      → filter q (cond (is_lt w) (y ∷ below x ys) (below x ys)) ++ filter q (cond (is_gt w) (y ∷ above x ys) (above x ys))
      ≡ cond (q y) (y ∷ filter q ys) (filter q ys)
  apart_at q x y ys Less e h after rest = joined_at y (filter q (below x ys)) (filter q (above x ys)) (filter q ys) (q y) rest
  apart_at q x y ys Equal e h after rest = left_at y (filter q (below x ys) ++ filter q (above x ys)) (filter q ys) (q y) h rest
  apart_at q x y ys Greater e h after rest =
      let all = all_after x y ys (flipped y x Greater e) after in
      ap (λ zs. filter q zs ++ cond (q y) (y ∷ filter q (above x ys)) (filter q (above x ys))) (none_below x ys all)
      ∙ ap (λ zs. cond (q y) (y ∷ filter q zs) (filter q zs)) (all_above x ys all)

  split : (q : X → Bool) (x : X) (xs : List X) → AllByRecursion (λ y. q y ≡ true → is_eq (R y x) ≡ false) xs
      → IsStrictlySortedBy R xs → filter q (below x xs) ++ filter q (above x xs) ≡ filter q xs
  unfolding IsStrictlySortedBy
  split q x [] apart rises = refl
  split q x (y ∷ ys) apart rises = apart_at q x y ys (R y x) refl apart.0 rises.0 (split q x ys apart.1 rises.1)

  -- one that passes neither x nor an equal of it
  pub put_apart : (q : X → Bool) (x : X) (xs : List X) → q x ≡ false
      → AllByRecursion (λ y. q y ≡ true → is_eq (R y x) ≡ false) xs
      → IsStrictlySortedBy R xs → filter q (put_by R x xs) ≡ filter q xs
  put_apart q x xs e apart rises =
      filter-append q (below x xs) (x ∷ above x xs)
      ∙ ap (λ b. filter q (below x xs) ++ cond b (x ∷ filter q (above x xs)) (filter q (above x xs))) e
      ∙ split q x xs apart rises

  -- ---- an element put among some of the others

  first_below : (y : X) (ys : List X) (b : Bool) → AllByRecursion (λ z. R y z ≡ Less) ys
      → below y (cond b (y ∷ ys) ys) ≡ []
  first_below y ys true all = ap (λ w. cond (is_lt w) (y ∷ below y ys) (below y ys)) (tied_itself o y) ∙ none_below y ys all
  first_below y ys false all = none_below y ys all

  first_above : (y : X) (ys : List X) (b : Bool) → AllByRecursion (λ z. R y z ≡ Less) ys
      → above y (cond b (y ∷ ys) ys) ≡ ys
  first_above y ys true all = ap (λ w. cond (is_gt w) (y ∷ above y ys) (above y ys)) (tied_itself o y) ∙ all_above y ys all
  first_above y ys false all = all_above y ys all

  no_equal : (p : X → Bool) (y : X) (ys : List X) → AllByRecursion (λ z. R y z ≡ Less) ys
      → filter (λ z. p z || is_eq (R y z)) ys ≡ filter p ys
  no_equal p y ys all =
      agreeing (λ z. p z || is_eq (R y z)) p ys
      (weaker (λ z. R y z ≡ Less) (λ z. (p z || is_eq (R y z)) ≡ p z) (λ z e. ap (λ w. p z || is_eq w) e ∙ or_false (p z)) ys all)

  put_first : (p : X → Bool) (y : X) (ys : List X) → AllByRecursion (λ z. R y z ≡ Less) ys
      → put_by R y (filter p (y ∷ ys)) ≡ filter (λ z. p z || is_eq (R y z)) (y ∷ ys)
  put_first p y ys all =
      let kept = kept_all (λ z. R y z ≡ Less) p ys all in
      let equal = λ (z : X). p z || is_eq (R y z) in
      ap (λ zs. zs ++ y ∷ above y (filter p (y ∷ ys))) (first_below y (filter p ys) (p y) kept)
      ∙ ap (λ zs. y ∷ zs) (first_above y (filter p ys) (p y) kept)
      ∙ ap (λ zs. y ∷ zs) (sym (no_equal p y ys all))
      ∙ sym (ap (λ b. cond b (y ∷ filter equal ys) (filter equal ys)) (ap (λ w. p y || is_eq w) (tied_itself o y) ∙ or_true (p y)))

  later_put : (x y : X) (ys : List X) (b : Bool) → R y x ≡ Less
      → put_by R x (cond b (y ∷ ys) ys) ≡ cond b (y ∷ put_by R x ys) (put_by R x ys)
  later_put x y ys true e = ap (λ w. cond (is_lt w) (y ∷ below x ys) (below x ys) ++ x ∷ cond (is_gt w) (y ∷ above x ys) (above x ys)) e
  later_put x y ys false e = refl

  -- an element of a list that rises, put among those that a test keeps, is kept too
  pub put_member : (p : X → Bool) (x : X) (xs : List X) → IsStrictlySortedBy R xs → Member xs x
      → put_by R x (filter p xs) ≡ filter (λ z. p z || is_eq (R x z)) xs
  unfolding IsStrictlySortedBy
  put_member p x [] rises i = absurd i
  put_member p x (y ∷ ys) rises (inl e) =
      subst (λ z. put_by R z (filter p (y ∷ ys)) ≡ filter (λ u. p u || is_eq (R z u)) (y ∷ ys)) (sym e) (put_first p y ys rises.0)
  put_member p x (y ∷ ys) rises (inr i) =
      let less : R y x ≡ Less = every_member (λ z. R y z ≡ Less) ys x rises.0 i in
      let equal = λ (z : X). p z || is_eq (R x z) in
      later_put x y (filter p ys) (p y) less
      ∙ ap (λ zs. cond (p y) (y ∷ zs) zs) (put_member p x ys rises.1 i)
      ∙ sym (ap (λ b. cond b (y ∷ filter equal ys) (filter equal ys)) (ap (λ w. p y || is_eq w) (flipped y x Less less) ∙ or_false (p y)))
