-- The plan of a jar: who is stale stays so where another goes.
use Rattle.std.proofs.Common.{◌≡◌, ℕ, ◌-◌, List, [], ◌∷◌, Bool, true, false, cond, length, take, refl, sym, ap}
use Rattle.std.specs.Prelude.{filter, not, nat_le}
use Rattle.std.specs.List.{AllByRecursion}
use Rattle.std.specs.Cmp.{IsTotalOrder}
use Rattle.std.specs.List.Sorted.{IsPermutation}
use Rattle.jar_types.specs.declared.limits.TheConstants.{MOST_OF_JAR, LEFT_OF_JAR}
use Rattle.jar_types.specs.Plans.{Looks, access_cmp, is_stale, jar_rounds, jar_plan}
use Rattle.eviction.specs.Orders.{jar_order}
use Rattle.eviction.proofs.MemberLemmas.{moved_same, kept_same}
use Rattle.eviction.proofs.SortLemmas.{Apart, moved_apart, kept_apart, same_in_order}
use Rattle.eviction.proofs.GoingLemmas.{MayGo, going_is, plan_total, plan_apart}

rounded_by : (s : Bool) → cond (not s) true true ≡ true
rounded_by true = refl
rounded_by false = refl

same_all : {X : Type 0} (p : X → Bool) (xs : List X) → AllByRecursion (λ x. p x ≡ p x) xs
same_all p [] = tt
same_all p (x ∷ xs) = (refl, same_all p xs)

module _ {X : Type 0} (l : Looks X) (o : IsTotalOrder (access_cmp l)) (now : ℕ) where
  jar_may : MayGo l o (jar_rounds l) (λ xs x. is_stale l now x)
  jar_may = record { rounded = λ xs x t. rounded_by (l.secure x); stable = λ xs x apart i t. same_all (is_stale l now) xs }

  -- the plan of a jar is a front of the stale ones, in their order
  pub jar_plan_is : (xs : List X) → Apart o xs → jar_plan l now xs ≡ cond (nat_le (length xs) MOST_OF_JAR) [] (take (length xs - LEFT_OF_JAR) (jar_order l now xs))
  jar_plan_is xs apart =
      ap (cond (nat_le (length xs) MOST_OF_JAR) [])
      (going_is l o (jar_rounds l) (λ ys y. is_stale l now y) jar_may (length xs - LEFT_OF_JAR) xs apart)

  -- the order doesn't depend on that of the list
  pub jar_order_moved : (xs ys : List X) → Apart o xs → IsPermutation xs ys → jar_order l now ys ≡ jar_order l now xs
  jar_order_moved xs ys apart moved =
      let stale = is_stale l now in
      let apart' = moved_apart o xs ys apart moved in
      sym (same_in_order (plan_total l (jar_rounds l) o) (filter stale xs) (filter stale ys)
      (plan_apart l (jar_rounds l) o (filter stale xs) (kept_apart o stale xs apart))
      (plan_apart l (jar_rounds l) o (filter stale ys) (kept_apart o stale ys apart'))
      (kept_same stale xs ys (moved_same xs ys moved)))
