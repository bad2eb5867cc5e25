-- No more are spared than the quotas say, so that enough of a key may go.
use Rattle.std.proofs.Common.{◌≡◌, ◌≢◌, ℕ, zero, suc, ◌+◌, ◌-◌, ◌≤◌, List, [], ◌∷◌, Bool, true, false, cond, length, refl, sym, ap, subst, arith, lit≤}
use Rattle.std.specs.Prelude.{filter, not, nat_lt, ◌&&◌}
use Rattle.std.specs.List.{AllByRecursion, count_by}
use Rattle.std.specs.Cmp.{IsTotalOrder}
use Rattle.std.specs.Ordering.{is_lt}
use Rattle.std.specs.declared.cmp.Ordering.TheVariants.{Less, Equal}
use Rattle.std.proofs.lemmas.Bool.Decides.{nat_tests}
use Rattle.std.proofs.lemmas.Cmp.{back_total}
use Rattle.std.proofs.lemmas.List.Sums.{sum_by-cons, length-filter}
use Rattle.std.proofs.lemmas.List.Filters.{length-filter_both}
use Rattle.std.proofs.lemmas.List.Sorted.{sum_by-IsPermutation, length_permutation}
use Rattle.jar_values.specs.declared.attributes.Priority.{Priority}
use Rattle.jar_values.specs.declared.attributes.Priority.TheVariants.{Low, Medium, High}
use Rattle.jar_types.specs.declared.limits.TheConstants.{LEFT_OF_KEY}
use Rattle.jar_types.specs.Orders.{in_order}
use Rattle.jar_types.specs.Plans.{Looks, access_cmp, same_priority, quota, is_ahead, is_spared, key_rounds}
use Rattle.eviction.specs.Orders.{key_order}
use Rattle.eviction.proofs.MemberLemmas.{weaker}
use Rattle.eviction.proofs.SortLemmas.{Apart, Rises, flipped, in_order_rises, in_order_moves}
use Rattle.eviction.proofs.GoingLemmas.{plan_total}
use Rattle.eviction.proofs.KeyLemmas.{count_le, one_priority, both_true, and_true, all_of}

and_false : (b : Bool) → (b && false) ≡ false
and_false true = refl
and_false false = refl

one_below : (k q : ℕ) → nat_lt (1 + k) q ≡ true → nat_lt k (q - 1) ≡ true
one_below k q h = grind (arith, nat_tests)

none_below : (k : ℕ) → nat_lt k 0 ≡ true → ⊥
none_below k h = grind (arith, nat_tests)

abbrev one_where : Bool → ℕ
one_where b = cond b 1 0

at_most_one : (b : Bool) → cond b 1 0 ≤ 1
at_most_one true = lit≤ tt
at_most_one false = lit≤ tt

one_of : (p : Priority) (b : Bool) → one_where b ≡ one_where (same_priority Low p && b) + one_where (same_priority Medium p && b) + one_where (same_priority High p && b)
one_of Low true = refl
one_of Low false = refl
one_of Medium true = refl
one_of Medium false = refl
one_of High true = refl
one_of High false = refl

module _ {X : Type 0} (l : Looks X) (o : IsTotalOrder (access_cmp l)) where
  back : IsTotalOrder (λ x y. access_cmp l y x)
  back = back_total o

  abbrev Falls : List X → Type 0
  Falls xs = Rises back xs

  apart_back : (x : X) (ys : List X) → AllByRecursion (λ y. access_cmp l x y ≢ Equal) ys → AllByRecursion (λ y. access_cmp l y x ≢ Equal) ys
  apart_back x ys all =
      weaker (λ y. access_cmp l x y ≢ Equal) (λ y. access_cmp l y x ≢ Equal) (λ y ne e. ne (flipped o y x Equal e)) ys all

  back_apart : (xs : List X) → Apart o xs → Apart back xs
  back_apart [] apart = tt
  back_apart (x ∷ xs) apart = (apart_back x xs apart.0, back_apart xs apart.1)

  abbrev has : Priority → X → Bool
  has p x = same_priority p (l.priority x)

  -- how many of xs x has ahead of it
  abbrev ahead : List X → X → ℕ
  ahead xs x = count_by (is_ahead l x) xs

  -- x is of the priority, and has fewer than q ahead
  abbrev within : Priority → ℕ → List X → X → Bool
  within p q xs x = has p x && nat_lt (ahead xs x) q

  one_ahead : (p : Priority) (x y : X) → has p x ≡ true → has p y ≡ true → access_cmp l x y ≡ Less → cond (is_ahead l x y) 1 0 ≡ suc zero
  one_ahead p x y a b less =
      let e = one_priority p (l.priority x) a in
      ap (λ c. cond c 1 0) (and_true (same_priority (l.priority x) (l.priority y)) (is_lt (access_cmp l x y)) (subst (λ r. same_priority r (l.priority y) ≡ true) e b) (ap is_lt less))

  later_within : (p : Priority) (q : ℕ) (y : X) (ys : List X) (x : X) → has p y ≡ true → access_cmp l x y ≡ Less → within p q (y ∷ ys) x ≡ true → within p (q - 1) ys x ≡ true
  later_within p q y ys x b less t =
      let h = both_true (has p x) (nat_lt (ahead (y ∷ ys) x) q) t in
      let more = sum_by-cons (λ z. cond (is_ahead l x z) 1 0) y ys in
      let one = one_ahead p x y h.0 b less in
      let sum : ahead (y ∷ ys) x ≡ 1 + ahead ys x = omega (arith, more, one) in
      and_true (has p x) (nat_lt (ahead ys x) (q - 1)) h.0 (one_below (ahead ys x) q (subst (λ n. nat_lt n q ≡ true) sum h.1))

  still_within : (p : Priority) (q : ℕ) (y : X) (ys : List X) (x : X) → within p q (y ∷ ys) x ≡ true → within p q ys x ≡ true
  still_within p q y ys x t =
      let h = both_true (has p x) (nat_lt (ahead (y ∷ ys) x) q) t in
      let more = sum_by-cons (λ z. cond (is_ahead l x z) 1 0) y ys in
      let less : ahead ys x ≤ ahead (y ∷ ys) x = omega (arith, more) in
      and_true (has p x) (nat_lt (ahead ys x) q) h.0 (grind (arith, nat_tests, h.1, less))

  none_at : (p : Priority) (xs : List X) (y : X) (b : Bool) → within p 0 xs y ≡ b → within p 0 xs y ≡ false
  none_at p xs y true e = absurd (none_below (ahead xs y) (both_true (has p y) (nat_lt (ahead xs y) 0) e).1)
  none_at p xs y false e = e

  none_within : (p : Priority) (xs ys : List X) → count_by (within p 0 xs) ys ≡ 0
  none_within p xs [] = refl
  none_within p xs (y ∷ ys) =
      let off = none_at p xs y (within p 0 xs y) refl in
      let none : cond (within p 0 xs y) 1 0 ≡ zero = ap (λ b. cond b 1 0) off in
      omega (arith, sum_by-cons (λ z. cond (within p 0 xs z) 1 0) y ys, none, none_within p xs ys)

  falling_few_at : (p : Priority) (q : ℕ) (y : X) (ys : List X) (b : Bool) → has p y ≡ b → AllByRecursion (λ x. access_cmp l x y ≡ Less) ys
      → ((r : ℕ) → count_by (within p r ys) ys ≤ r) → count_by (within p q (y ∷ ys)) (y ∷ ys) ≤ q
  falling_few_at p zero y ys true e all rest = omega (arith, none_within p (y ∷ ys) (y ∷ ys))
  falling_few_at p (suc q) y ys true e all rest =
      let more = sum_by-cons (λ x. cond (within p (suc q) (y ∷ ys) x) 1 0) y ys in
      let fewer = count_le (within p (suc q) (y ∷ ys)) (within p (suc q - 1) ys) ys (weaker (λ x. access_cmp l x y ≡ Less) (λ x. within p (suc q) (y ∷ ys) x ≡ true → within p (suc q - 1) ys x ≡ true) (λ x less t. later_within p (suc q) y ys x e less t) ys all) in
      omega (arith, more, fewer, rest (suc q - 1), at_most_one (within p (suc q) (y ∷ ys) y))
  falling_few_at p q y ys false e all rest =
      let more = sum_by-cons (λ x. cond (within p q (y ∷ ys) x) 1 0) y ys in
      let off : within p q (y ∷ ys) y ≡ false = ap (λ b. b && nat_lt (ahead (y ∷ ys) y) q) e in
      let none : cond (within p q (y ∷ ys) y) 1 0 ≡ zero = ap (λ b. cond b 1 0) off in
      let fewer = count_le (within p q (y ∷ ys)) (within p q ys) ys (all_of {P = λ x. within p q (y ∷ ys) x ≡ true → within p q ys x ≡ true} (λ x t. still_within p q y ys x t) ys) in
      omega (arith, more, none, fewer, rest q)

  falling_few : (p : Priority) (ys : List X) → Falls ys → (q : ℕ) → count_by (within p q ys) ys ≤ q
  falling_few p [] falls q = omega arith
  falling_few p (y ∷ ys) falls q = falling_few_at p q y ys (has p y) refl falls.0 (falling_few p ys falls.1)

  count_same : (a b : X → Bool) → ((x : X) → a x ≡ b x) → (xs : List X) → count_by a xs ≡ count_by b xs
  count_same a b same [] = refl
  count_same a b same (x ∷ xs) =
      omega (arith, sum_by-cons (λ y. cond (a y) 1 0) x xs, sum_by-cons (λ y. cond (b y) 1 0) x xs, ap (λ c. one_where c) (same x), count_same a b same xs)

  -- of a priority no more than q have fewer than q ahead
  few_within : (p : Priority) (q : ℕ) (xs : List X) → Apart o xs → count_by (within p q xs) xs ≤ q
  few_within p q xs apart =
      let ys = in_order (λ x y. access_cmp l y x) xs in
      let moved = in_order_moves back xs in
      let few = falling_few p ys (in_order_rises back xs (back_apart xs apart)) q in
      let one = count_same (within p q xs) (within p q ys) (λ x. ap (λ n. has p x && nat_lt n q) (sym (sum_by-IsPermutation (λ y. cond (is_ahead l x y) 1 0) xs ys moved))) ys in
      omega (arith, few, one, sum_by-IsPermutation (λ x. cond (within p q xs x) 1 0) xs ys moved)

  own_quota : (p : Priority) (xs : List X) (x : X) → (has p x && is_spared l xs x) ≡ true → within p (quota p) xs x ≡ true
  own_quota p xs x t =
      let h = both_true (has p x) (is_spared l xs x) t in
      let e = one_priority p (l.priority x) h.0 in
      and_true (has p x) (nat_lt (ahead xs x) (quota p)) h.0 (subst (λ r. nat_lt (ahead xs x) (quota r) ≡ true) (sym e) h.1)

  few_spared : (p : Priority) (xs : List X) → Apart o xs → count_by (λ x. has p x && is_spared l xs x) xs ≤ quota p
  few_spared p xs apart =
      let fewer = count_le (λ x. has p x && is_spared l xs x) (within p (quota p) xs) xs (all_of {P = λ x. (has p x && is_spared l xs x) ≡ true → within p (quota p) xs x ≡ true} (λ x t. own_quota p xs x t) xs) in
      omega (arith, fewer, few_within p (quota p) xs apart)

  by_priority : (f : X → Bool) (xs : List X) → count_by f xs ≡ count_by (λ x. has Low x && f x) xs + count_by (λ x. has Medium x && f x) xs + count_by (λ x. has High x && f x) xs
  by_priority f [] = refl
  by_priority f (x ∷ xs) =
      omega (arith, sum_by-cons (λ y. cond (f y) 1 0) x xs, sum_by-cons (λ y. cond (has Low y && f y) 1 0) x xs, sum_by-cons (λ y. cond (has Medium y && f y) 1 0) x xs, sum_by-cons (λ y. cond (has High y && f y) 1 0) x xs, one_of (l.priority x) (f x), by_priority f xs)

  -- no more than 150 are spared, and so all others make up the rest
  pub enough_unspared : (xs : List X) → Apart o xs → length xs ≤ length (key_order l xs) + LEFT_OF_KEY
  enough_unspared xs apart =
      let unspared = filter (λ x. not (is_spared l xs x)) xs in
      let both = length-filter_both (λ x. is_spared l xs x) (λ x. not (is_spared l xs x)) (λ x. refl) xs in
      let counted = length-filter (λ x. is_spared l xs x) xs in
      let moved = length_permutation unspared (key_order l xs) (in_order_moves (plan_total l (key_rounds l) o) unspared) in
      omega (arith, both, counted, moved, by_priority (λ x. is_spared l xs x) xs, few_spared Low xs apart, few_spared Medium xs apart, few_spared High xs apart)
