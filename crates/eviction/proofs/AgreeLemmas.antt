-- Orders and tests that agree on a list, and fronts of a list.
use Rattle.std.proofs.Common.{◌≡◌, ℕ, zero, suc, List, [], ◌∷◌, Bool, true, false, cond, inl, inr, take, map, refl, ap, ◌∙◌, arith}
use Rattle.std.specs.List.{AllByRecursion, count_by}
use Rattle.std.specs.Ordering.{is_lt}
use Rattle.std.specs.declared.cmp.Ordering.{Ordering}
use Rattle.std.proofs.lemmas.List.Sums.{sum_by-cons}
use Rattle.jar_types.specs.Orders.{placed, in_order}
use Rattle.eviction.proofs.MemberLemmas.{Member, weaker, own_members}
use Rattle.eviction.proofs.LeftLemmas.{take_all}

-- ---- orders that agree on a list

module _ {X : Type 0} (R S : X → X → Ordering) where
  placed_all : (P : X → Type 0) (x : X) (ys : List X) → P x → AllByRecursion P ys → AllByRecursion P (placed R x ys)
  placed_all P x [] p all = (p, tt)
  placed_all P x (y ∷ ys) p all =
      elim (is_lt (R x y)) as (λ b. AllByRecursion P (cond b (x ∷ y ∷ ys) (y ∷ placed R x ys)))
      [ true ↦ (p, all) | false ↦ (all.0, placed_all P x ys p all.1) ]

  pub order_all : (P : X → Type 0) (xs : List X) → AllByRecursion P xs → AllByRecursion P (in_order R xs)
  order_all P [] all = tt
  order_all P (x ∷ xs) all = placed_all P x (in_order R xs) all.0 (order_all P xs all.1)

  placed_agree : (x : X) (ys : List X) → AllByRecursion (λ y. R x y ≡ S x y) ys → placed R x ys ≡ placed S x ys
  placed_agree x [] all = refl
  placed_agree x (y ∷ ys) all =
      ap (λ w. cond (is_lt w) (x ∷ y ∷ ys) (y ∷ placed R x ys)) all.0
      ∙ ap (λ zs. cond (is_lt (S x y)) (x ∷ y ∷ ys) (y ∷ zs)) (placed_agree x ys all.1)

  pub order_agree : (xs : List X) → ((x y : X) → Member xs x → Member xs y → R x y ≡ S x y) → in_order R xs ≡ in_order S xs
  order_agree [] same = refl
  order_agree (x ∷ xs) same =
      placed_agree x (in_order R xs) (order_all (λ y. R x y ≡ S x y) xs (weaker (Member xs) (λ y. R x y ≡ S x y) (λ y j. same x y (inl refl) (inr j)) xs (own_members xs)))
      ∙ ap (placed S x) (order_agree xs (λ y z i j. same y z (inr i) (inr j)))

abbrev one_where : Bool → ℕ
one_where b = cond b 1 0

pub count_agree : {X : Type 0} (p q : X → Bool) (xs : List X) → AllByRecursion (λ x. p x ≡ q x) xs → count_by p xs ≡ count_by q xs
count_agree p q [] all = refl
count_agree p q (x ∷ xs) all =
    omega (arith, sum_by-cons (λ y. cond (p y) 1 0) x xs, sum_by-cons (λ y. cond (q y) 1 0) x xs, ap one_where all.0, count_agree p q xs all.1)

-- ---- fronts

map_take : {X Y : Type 0} (f : X → Y) (n : ℕ) (xs : List X) → map f (take n xs) ≡ take n (map f xs)
map_take f zero xs = refl
map_take f (suc n) [] = refl
map_take f (suc n) (x ∷ xs) = ap (λ ys. f x ∷ ys) (map_take f n xs)

-- a front of the row, where it is asked for
abbrev pub front : {X : Type 0} → Bool → ℕ → List X → List X
front b n row = cond b [] (take n row)

pub map_front : {X Y : Type 0} (f : X → Y) (b : Bool) (n : ℕ) (row : List X) → map f (front b n row) ≡ front b n (map f row)
map_front f true n row = refl
map_front f false n row = map_take f n row

pub front_all : {X : Type 0} (P : X → Type 0) (b : Bool) (n : ℕ) (row : List X) → AllByRecursion P row → AllByRecursion P (front b n row)
front_all P true n row all = tt
front_all P false n row all = take_all P n row all
