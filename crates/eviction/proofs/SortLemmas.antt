-- Lists in a total order that tells their elements apart: there is one way to put such a list in order, and a part of it is in the order of the whole.
use Rattle.std.proofs.Common.{Bool, ◌≡◌, ◌≢◌, ℕ, suc, ◌+◌, ◌≤◌, List, [], ◌∷◌, true, false, cond, inl, inr, get_or, refl, sym, ap, ◌∙◌, subst, arith, lit≤}
use Rattle.std.specs.Bool.{⊤}
use Rattle.std.specs.Prelude.{filter}
use Rattle.std.specs.List.{AllByRecursion, sum_by}
use Rattle.std.specs.List.Sorted.{IsPermutation, IsSorted}
use Rattle.std.specs.Cmp.{IsTotalOrder}
use Rattle.std.specs.Ordering.{is_lt, ordering_reverse}
use Rattle.std.specs.declared.cmp.Ordering.{Ordering}
use Rattle.std.specs.declared.cmp.Ordering.TheVariants.{Less, Equal, Greater}
use Rattle.std.proofs.lemmas.Bool.{false≢true}
use Rattle.std.proofs.lemmas.Cmp.{tied_itself}
use Rattle.std.proofs.lemmas.List.Sums.{sum_by-cons}
use Rattle.std.proofs.lemmas.List.Elements.{recursion_from_All}
use Rattle.std.proofs.lemmas.List.Sorted.{IsPermutation-refl, IsPermutation-sym, IsPermutation-trans, IsPermutation-cons, IsPermutation-swap, sum_by-IsPermutation, sorted_far, ranks_by}
use Rattle.jar_types.specs.Orders.{placed, in_order}
use Rattle.eviction.proofs.MemberLemmas.{Member, Same, every_member, weaker, moved_members, moved_same, same_sym, same_trans, kept_all, kept_same}

-- 1 where two elements tie
abbrev tie : Ordering → ℕ
tie Less = 0
tie Equal = 1
tie Greater = 0

exchanged : {X : Type 0} (x y : X) (ys : List X) → IsPermutation (x ∷ y ∷ ys) (y ∷ x ∷ ys)
exchanged x y ys = IsPermutation-swap (x ∷ y ∷ ys) (y ∷ x ∷ ys) 0 1 (omega arith) (omega arith) refl

module _ {X : Type 0} {R : X → X → Ordering} (o : IsTotalOrder R) where
  -- each element comes before all later ones
  abbrev pub Rises : List X → Type 0
  Rises [] = ⊤
  Rises (x ∷ xs) = AllByRecursion (λ y. R x y ≡ Less) xs × Rises xs

  -- no two elements tie
  abbrev pub Apart : List X → Type 0
  Apart [] = ⊤
  Apart (x ∷ xs) = AllByRecursion (λ y. R x y ≢ Equal) xs × Apart xs

  -- no element comes after a later one
  abbrev pub Climbs : List X → Type 0
  Climbs [] = ⊤
  Climbs (x ∷ xs) = AllByRecursion (λ y. is_lt (R y x) ≡ false) xs × Climbs xs

  -- how many elements tie with a
  abbrev ties : X → List X → ℕ
  ties a xs = sum_by (λ z. tie (R a z)) xs

  pub flipped : (x y : X) (w : Ordering) → R x y ≡ w → R y x ≡ ordering_reverse w
  flipped x y w e = o.antisymm y x ∙ ap ordering_reverse e

  placed_all : (P : X → Type 0) (x : X) (ys : List X) → P x → AllByRecursion P ys → AllByRecursion P (placed R x ys)
  placed_all P x [] p all = (p, tt)
  placed_all P x (y ∷ ys) p all =
      elim (is_lt (R x y)) as (λ b. AllByRecursion P (cond b (x ∷ y ∷ ys) (y ∷ placed R x ys)))
      [ true ↦ (p, all) | false ↦ (all.0, placed_all P x ys p all.1) ]

  all_after : (x y : X) (ys : List X) → R x y ≡ Less → AllByRecursion (λ z. R y z ≡ Less) ys → AllByRecursion (λ z. R x z ≡ Less) ys
  all_after x y ys e all = weaker (λ z. R y z ≡ Less) (λ z. R x z ≡ Less) (λ z h. o.trans x y z e h) ys all

  placed_at : (x y : X) (ys : List X) (w : Ordering) → R x y ≡ w → w ≢ Equal → Rises (y ∷ ys) → Rises (placed R x ys) → Rises (cond (is_lt w) (x ∷ y ∷ ys) (y ∷ placed R x ys))
  placed_at x y ys Less e apart rises rest = ((e, all_after x y ys e rises.0), rises)
  placed_at x y ys Equal e apart rises rest = absurd (apart refl)
  placed_at x y ys Greater e apart rises rest = (placed_all (λ z. R y z ≡ Less) x ys (flipped x y Greater e) rises.0, rest)

  placed_rises : (x : X) (ys : List X) → AllByRecursion (λ y. R x y ≢ Equal) ys → Rises ys → Rises (placed R x ys)
  placed_rises x [] apart rises = (tt, tt)
  placed_rises x (y ∷ ys) apart rises = placed_at x y ys (R x y) refl apart.0 rises (placed_rises x ys apart.1 rises.1)

  in_order_all : (P : X → Type 0) (xs : List X) → AllByRecursion P xs → AllByRecursion P (in_order R xs)
  in_order_all P [] all = tt
  in_order_all P (x ∷ xs) all = placed_all P x (in_order R xs) all.0 (in_order_all P xs all.1)

  pub in_order_rises : (xs : List X) → Apart xs → Rises (in_order R xs)
  in_order_rises [] apart = tt
  in_order_rises (x ∷ xs) apart =
      placed_rises x (in_order R xs) (in_order_all (λ y. R x y ≢ Equal) xs apart.0) (in_order_rises xs apart.1)

  placed_moves : (x : X) (ys : List X) → IsPermutation (x ∷ ys) (placed R x ys)
  placed_moves x [] = IsPermutation-refl (x ∷ [])
  placed_moves x (y ∷ ys) =
      elim (is_lt (R x y)) as (λ b. IsPermutation (x ∷ y ∷ ys) (cond b (x ∷ y ∷ ys) (y ∷ placed R x ys))) [
        | true ↦ IsPermutation-refl (x ∷ y ∷ ys)
        | false ↦ IsPermutation-trans (x ∷ y ∷ ys) (y ∷ x ∷ ys) (y ∷ placed R x ys) (exchanged x y ys) (IsPermutation-cons y (x ∷ ys) (placed R x ys) (placed_moves x ys))
      ]

  pub in_order_moves : (xs : List X) → IsPermutation xs (in_order R xs)
  in_order_moves [] = IsPermutation-refl []
  in_order_moves (x ∷ xs) =
      IsPermutation-trans (x ∷ xs) (x ∷ in_order R xs) (placed R x (in_order R xs)) (IsPermutation-cons x xs (in_order R xs) (in_order_moves xs)) (placed_moves x (in_order R xs))

  pub sorted_climbs : (xs : List X) → IsSorted R xs → Climbs xs
  sorted_climbs [] sorted = tt
  sorted_climbs (x ∷ xs) sorted = (
    recursion_from_All (λ y. is_lt (R y x) ≡ false) xs
        (λ k d h. sorted_far (λ y z. is_lt (R y z)) (ranks_by o (λ y. y)) (x ∷ xs) sorted 0 (suc k) d (omega arith) (omega arith)),
    sorted_climbs xs
        (λ k d low high.
        let e : suc k + 1 ≡ suc (k + 1) = omega arith in
        subst (λ n. is_lt (R (get_or (x ∷ xs) n d) (get_or xs k d)) ≡ false) e (sorted (suc k) d (omega arith) (omega arith))),
  )

  none_tied : (a : X) (xs : List X) → ties a xs ≡ 0 → AllByRecursion (λ z. R a z ≢ Equal) xs
  none_tied a [] none = tt
  none_tied a (x ∷ xs) none =
      let sum = sum_by-cons (λ z. tie (R a z)) x xs in
      ((λ e. absurd (omega (arith, sum, ap tie e))), none_tied a xs (omega (arith, sum)))

  untied : (w : Ordering) → w ≢ Equal → tie w ≡ 0
  untied Less ne = refl
  untied Equal ne = absurd (ne refl)
  untied Greater ne = refl

  no_ties : (a : X) (xs : List X) → AllByRecursion (λ z. R a z ≢ Equal) xs → ties a xs ≡ 0
  no_ties a [] apart = refl
  no_ties a (x ∷ xs) apart =
      let sum = sum_by-cons (λ z. tie (R a z)) x xs in
      omega (arith, sum, untied (R a x) apart.0, no_ties a xs apart.1)

  few_at : (a x : X) (xs : List X) (w : Ordering) → R a x ≡ w → Apart (x ∷ xs) → ties a xs ≤ 1 → tie w + ties a xs ≤ 1
  few_at a x xs Less e apart few = omega arith
  few_at a x xs Equal e apart few =
      let none = no_ties a xs (weaker (λ z. R x z ≢ Equal) (λ z. R a z ≢ Equal) (λ z ne tied. ne (sym (o.congr a x z e) ∙ tied)) xs apart.0) in
      omega (arith, none)
  few_at a x xs Greater e apart few = omega arith

  few_ties : (a : X) (xs : List X) → Apart xs → ties a xs ≤ 1
  few_ties a [] apart = lit≤ tt
  few_ties a (x ∷ xs) apart =
      let sum = sum_by-cons (λ z. tie (R a z)) x xs in
      omega (arith, sum, few_at a x xs (R a x) refl apart (few_ties a xs apart.1))

  less_at : (x y : X) (w : Ordering) → R x y ≡ w → is_lt (R y x) ≡ false → w ≢ Equal → w ≡ Less
  less_at x y Less e up ne = refl
  less_at x y Equal e up ne = absurd (ne refl)
  less_at x y Greater e up ne = let back = flipped x y Greater e in absurd (false≢true (sym up ∙ ap is_lt back))

  climbing_apart : (x : X) (xs : List X) → AllByRecursion (λ y. is_lt (R y x) ≡ false) xs → AllByRecursion (λ y. R x y ≢ Equal) xs → AllByRecursion (λ y. R x y ≡ Less) xs
  climbing_apart x [] up apart = tt
  climbing_apart x (y ∷ ys) up apart =
      (less_at x y (R x y) refl up.0 apart.0, climbing_apart x ys up.1 apart.1)

  pub climbs_rises : (xs : List X) → Climbs xs → ((a : X) → ties a xs ≤ 1) → Rises xs
  climbs_rises [] up few = tt
  climbs_rises (x ∷ xs) up few =
      let sum = sum_by-cons (λ z. tie (R x z)) x xs in
      let none : ties x xs ≡ 0 = omega (arith, sum, few x, ap tie (tied_itself o x)) in (
        climbing_apart x xs up.0 (none_tied x xs none),
        climbs_rises xs up.1 (λ a. omega (arith, sum_by-cons (λ z. tie (R a z)) x xs, few a)),
      )

  -- sorted elements that are apart rise
  pub sorted_rises : (xs ys : List X) → Apart xs → IsPermutation xs ys → IsSorted R ys → Rises ys
  sorted_rises xs ys apart moved sorted =
      climbs_rises ys (sorted_climbs ys sorted)
      (λ a. let h = few_ties a xs apart in omega (arith, sum_by-IsPermutation (λ z. tie (R a z)) xs ys moved))

  head_in : (x y : X) (xs ys : List X) → AllByRecursion (λ z. R x z ≡ Less) xs → AllByRecursion (λ z. R y z ≡ Less) ys → Member (y ∷ ys) x → Member (x ∷ xs) y → x ≡ y
  head_in x y xs ys up down (inl e) j = e
  head_in x y xs ys up down (inr i) (inl e) = sym e
  head_in x y xs ys up down (inr i) (inr j) =
      let back = every_member (λ z. R y z ≡ Less) ys x down i in
      let front = flipped x y Less (every_member (λ z. R x z ≡ Less) xs y up j) in absurd cc

  later_in : (x y z : X) (ys : List X) → x ≡ y → R x z ≡ Less → Member (y ∷ ys) z → Member ys z
  later_in x y z ys e less (inl same) =
      let itself = tied_itself o x in
      let here : R x z ≡ R x x = ap (R x) (same ∙ sym e) in absurd cc
  later_in x y z ys e less (inr i) = i

  all_later_in : (x y : X) (zs ys : List X) → x ≡ y → AllByRecursion (λ z. R x z ≡ Less) zs → AllByRecursion (Member (y ∷ ys)) zs → AllByRecursion (Member ys) zs
  all_later_in x y [] ys e less all = tt
  all_later_in x y (z ∷ zs) ys e less all =
      (later_in x y z ys e less.0 all.0, all_later_in x y zs ys e less.1 all.1)

  pub same_members : (xs ys : List X) → Rises xs → Rises ys → AllByRecursion (Member ys) xs → AllByRecursion (Member xs) ys → xs ≡ ys
  same_members [] [] up down there back = refl
  same_members [] (y ∷ ys) up down there back = absurd back.0
  same_members (x ∷ xs) [] up down there back = absurd there.0
  same_members (x ∷ xs) (y ∷ ys) up down there back =
      let e = head_in x y xs ys up.0 down.0 there.0 back.0 in
      let rest = same_members xs ys up.1 down.1 (all_later_in x y xs ys e up.0 there.1) (all_later_in y x ys xs (sym e) down.0 back.1) in
      ap (λ h. h ∷ xs) e ∙ ap (λ t. y ∷ t) rest

  -- of elements that are apart, the only order is that of `in_order`
  pub one_order : (xs ys : List X) → Apart xs → IsPermutation xs ys → IsSorted R ys → ys ≡ in_order R xs
  one_order xs ys apart moved sorted =
      let few : (a : X) → ties a ys ≤ 1 = λ a. let h = few_ties a xs apart in omega (arith, sum_by-IsPermutation (λ z. tie (R a z)) xs ys moved) in
      let zs = in_order R xs in
      let ordered = in_order_moves xs in
      let there = IsPermutation-trans zs xs ys (IsPermutation-sym xs zs ordered) moved in
      same_members ys zs (climbs_rises ys (sorted_climbs ys sorted) few) (in_order_rises xs apart)
      (moved_members zs ys there) (moved_members ys zs (IsPermutation-sym zs ys there))

  pub kept_apart : (p : X → Bool) (xs : List X) → Apart xs → Apart (filter p xs)
  kept_apart p [] apart = tt
  kept_apart p (x ∷ xs) apart =
      elim (p x) as (λ b. Apart (cond b (x ∷ filter p xs) (filter p xs)))
      [ true ↦ (kept_all (λ y. R x y ≢ Equal) p xs apart.0, kept_apart p xs apart.1) | false ↦ kept_apart p xs apart.1 ]

  kept_rises : (p : X → Bool) (xs : List X) → Rises xs → Rises (filter p xs)
  kept_rises p [] up = tt
  kept_rises p (x ∷ xs) up =
      elim (p x) as (λ b. Rises (cond b (x ∷ filter p xs) (filter p xs)))
      [ true ↦ (kept_all (λ y. R x y ≡ Less) p xs up.0, kept_rises p xs up.1) | false ↦ kept_rises p xs up.1 ]

  few_apart : (xs : List X) → ((a : X) → ties a xs ≤ 1) → Apart xs
  few_apart [] few = tt
  few_apart (x ∷ xs) few =
      let sum = sum_by-cons (λ z. tie (R x z)) x xs in
      let none : ties x xs ≡ 0 = omega (arith, sum, few x, ap tie (tied_itself o x)) in
      (none_tied x xs none, few_apart xs (λ a. omega (arith, sum_by-cons (λ z. tie (R a z)) x xs, few a)))

  -- elements stay apart in another order
  pub moved_apart : (xs ys : List X) → Apart xs → IsPermutation xs ys → Apart ys
  moved_apart xs ys apart moved =
      few_apart ys (λ a. let h = few_ties a xs apart in omega (arith, sum_by-IsPermutation (λ z. tie (R a z)) xs ys moved))

  -- rising lists of the same elements are one
  pub one_rising : (xs ys : List X) → Rises xs → Rises ys → Same xs ys → xs ≡ ys
  one_rising xs ys up down same = same_members xs ys up down same.0 same.1

  -- and so there is one order of the same elements
  pub same_in_order : (xs ys : List X) → Apart xs → Apart ys → Same xs ys → in_order R xs ≡ in_order R ys
  same_in_order xs ys apart apart' same =
      one_rising (in_order R xs) (in_order R ys) (in_order_rises xs apart) (in_order_rises ys apart')
      (same_trans (in_order R xs) xs (in_order R ys) (same_sym xs (in_order R xs) (moved_same xs (in_order R xs) (in_order_moves xs))) (same_trans xs ys (in_order R ys) same (moved_same ys (in_order R ys) (in_order_moves ys))))

  -- a part of the elements is in the order of all
  pub part_in_order : (p : X → Bool) (xs : List X) → Apart xs → in_order R (filter p xs) ≡ filter p (in_order R xs)
  part_in_order p xs apart =
      let kept = filter p xs in
      one_rising (in_order R kept) (filter p (in_order R xs)) (in_order_rises kept (kept_apart p xs apart))
      (kept_rises p (in_order R xs) (in_order_rises xs apart))
      (same_trans (in_order R kept) kept (filter p (in_order R xs)) (same_sym kept (in_order R kept) (moved_same kept (in_order R kept) (in_order_moves kept))) (kept_same p xs (in_order R xs) (moved_same xs (in_order R xs) (in_order_moves xs))))

  -- elements of a list that tie are one
  pub apart_same : (xs : List X) (x y : X) → Apart xs → Member xs x → Member xs y → R x y ≡ Equal → x ≡ y
  apart_same [] x y apart i j e = absurd i
  apart_same (z ∷ zs) x y apart (inl a) (inl b) e = a ∙ sym b
  apart_same (z ∷ zs) x y apart (inl a) (inr j) e =
      absurd (every_member (λ w. R z w ≢ Equal) zs y apart.0 j (sym (ap (λ w. R w y) a) ∙ e))
  apart_same (z ∷ zs) x y apart (inr i) (inl b) e =
      absurd (every_member (λ w. R z w ≢ Equal) zs x apart.0 i (sym (ap (λ w. R w x) b) ∙ flipped x y Equal e))
  apart_same (z ∷ zs) x y apart (inr i) (inr j) e = apart_same zs x y apart.1 i j e
