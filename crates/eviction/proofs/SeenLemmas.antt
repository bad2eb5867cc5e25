-- Orders of things that are seen by way of a function: those of what it gives.
use Rattle.std.proofs.Common.{◌≡◌, ℕ, List, [], ◌∷◌, Bool, true, false, cond, refl, ap, ◌∙◌, arith}
use Rattle.std.specs.Prelude.{filter, map, not, nat_lt}
use Rattle.std.specs.List.{count_by}
use Rattle.std.specs.Ordering.{is_lt}
use Rattle.std.specs.declared.cmp.Ordering.{Ordering}
use Rattle.std.proofs.lemmas.List.Sums.{sum_by-cons}
use Rattle.std.proofs.lemmas.List.Elements.{filter_agree}
use Rattle.jar_types.specs.Orders.{placed, in_order}
use Rattle.jar_types.specs.Plans.{Looks, is_ahead, is_spared, is_stale, quota, key_rounds, jar_rounds}
use Rattle.eviction.specs.Orders.{plan_cmp, seen_by, key_order, jar_order}

module _ {X Y : Type 0} (f : X → Y) where
  map_cond : (b : Bool) (xs ys : List X) → map f (cond b xs ys) ≡ cond b (map f xs) (map f ys)
  map_cond true xs ys = refl
  map_cond false xs ys = refl

  pub filter_seen : (p : Y → Bool) (xs : List X) → map f (filter (λ x. p (f x)) xs) ≡ filter p (map f xs)
  filter_seen p [] = refl
  filter_seen p (x ∷ xs) =
      map_cond (p (f x)) (x ∷ filter (λ y. p (f y)) xs) (filter (λ y. p (f y)) xs) ∙ ap (λ ys. cond (p (f x)) (f x ∷ ys) ys) (filter_seen p xs)

  placed_seen : (R : Y → Y → Ordering) (x : X) (ys : List X) → map f (placed (λ x y. R (f x) (f y)) x ys) ≡ placed R (f x) (map f ys)
  placed_seen R x [] = refl
  placed_seen R x (y ∷ ys) =
      map_cond (is_lt (R (f x) (f y))) (x ∷ y ∷ ys) (y ∷ placed (λ x y. R (f x) (f y)) x ys)
      ∙ ap (λ zs. cond (is_lt (R (f x) (f y))) (f x ∷ f y ∷ map f ys) (f y ∷ zs)) (placed_seen R x ys)

  pub in_order_seen : (R : Y → Y → Ordering) (xs : List X) → map f (in_order (λ x y. R (f x) (f y)) xs) ≡ in_order R (map f xs)
  in_order_seen R [] = refl
  in_order_seen R (x ∷ xs) =
      placed_seen R x (in_order (λ x y. R (f x) (f y)) xs) ∙ ap (placed R (f x)) (in_order_seen R xs)

  pub count_seen : (p : Y → Bool) (xs : List X) → count_by (λ x. p (f x)) xs ≡ count_by p (map f xs)
  count_seen p [] = refl
  count_seen p (x ∷ xs) =
      omega (arith, sum_by-cons (λ y. cond (p (f y)) 1 0) x xs, sum_by-cons (λ y. cond (p y) 1 0) (f x) (map f xs), count_seen p xs)

  spared_seen : (l : Looks Y) (xs : List X) (x : X) → not (is_spared (seen_by f l) xs x) ≡ not (is_spared l (map f xs) (f x))
  spared_seen l xs x = ap (λ n. not (nat_lt n (quota (l.priority (f x))))) (count_seen (is_ahead l (f x)) xs)

  pub key_order_seen : (l : Looks Y) (xs : List X) → map f (key_order (seen_by f l) xs) ≡ key_order l (map f xs)
  key_order_seen l xs =
      let unspared = λ (y : Y). not (is_spared l (map f xs) y) in
      let rounds = key_rounds l in
      in_order_seen (plan_cmp l rounds) (filter (λ x. not (is_spared (seen_by f l) xs x)) xs)
      ∙ ap (λ ys. in_order (plan_cmp l rounds) (map f ys)) (filter_agree (λ x. not (is_spared (seen_by f l) xs x)) (λ x. unspared (f x)) (spared_seen l xs) xs)
      ∙ ap (in_order (plan_cmp l rounds)) (filter_seen unspared xs)

  pub jar_order_seen : (l : Looks Y) (now : ℕ) (xs : List X) → map f (jar_order (seen_by f l) now xs) ≡ jar_order l now (map f xs)
  jar_order_seen l now xs =
      in_order_seen (plan_cmp l (jar_rounds l)) (filter (λ x. is_stale l now (f x)) xs)
      ∙ ap (in_order (plan_cmp l (jar_rounds l))) (filter_seen (is_stale l now) xs)
