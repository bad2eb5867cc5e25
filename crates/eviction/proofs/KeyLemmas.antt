-- The plan of a key: who is spared stays so where another goes, and so do the others.
use Rattle.std.proofs.Common.{◌≡◌, ℕ, zero, ◌-◌, ◌≤◌, List, [], ◌∷◌, Bool, true, false, cond, length, take, refl, sym, ap, ◌∙◌, subst, arith, lit≤}
use Rattle.std.specs.Prelude.{filter, not, nat_lt, nat_le, ◌&&◌}
use Rattle.std.specs.List.{AllByRecursion, count_by}
use Rattle.std.specs.Cmp.{IsTotalOrder}
use Rattle.std.specs.Ordering.{is_lt, is_eq}
use Rattle.std.specs.List.Sorted.{IsPermutation}
use Rattle.std.specs.declared.cmp.Ordering.{Ordering}
use Rattle.std.specs.declared.cmp.Ordering.TheVariants.{Less, Equal, Greater}
use Rattle.std.proofs.lemmas.Bool.Decides.{nat_tests}
use Rattle.std.proofs.lemmas.List.Sums.{sum_by-cons}
use Rattle.std.proofs.lemmas.List.Sorted.{sum_by-IsPermutation}
use Rattle.std.proofs.lemmas.List.Elements.{filter_agree}
use Rattle.jar_values.specs.declared.attributes.Priority.{Priority}
use Rattle.jar_values.specs.declared.attributes.Priority.TheVariants.{Low, Medium, High}
use Rattle.jar_types.specs.declared.limits.TheConstants.{MOST_OF_KEY, LEFT_OF_KEY}
use Rattle.jar_types.specs.Plans.{Looks, access_cmp, is_low, is_medium, is_high, same_priority, quota, is_ahead, is_spared, key_rounds, others, key_plan}
use Rattle.jar_types.specs.Orders.{in_order}
use Rattle.eviction.specs.Orders.{plan_cmp, key_order}
use Rattle.eviction.proofs.MemberLemmas.{Member, weaker, own_members, moved_same, kept_same}
use Rattle.eviction.proofs.SortLemmas.{Apart, apart_same, moved_apart, kept_apart, same_in_order}
use Rattle.eviction.proofs.GoingLemmas.{MayGo, going_is, plan_total, plan_apart}

-- ---- counts

one_le : (b c : Bool) → (b ≡ true → c ≡ true) → cond b 1 0 ≤ cond c 1 0
one_le true c h = subst (λ d. 1 ≤ cond d 1 0) (sym (h refl)) (lit≤ tt)
one_le false true h = lit≤ tt
one_le false false h = lit≤ tt

pub count_le : {X : Type 0} (p q : X → Bool) (xs : List X) → AllByRecursion (λ x. p x ≡ true → q x ≡ true) xs → count_by p xs ≤ count_by q xs
count_le p q [] all = lit≤ tt
count_le p q (x ∷ xs) all =
    omega (arith, sum_by-cons (λ y. cond (p y) 1 0) x xs, sum_by-cons (λ y. cond (q y) 1 0) x xs, one_le (p x) (q x) all.0, count_le p q xs all.1)

count_kept_at : {X : Type 0} (p q : X → Bool) (x : X) (xs : List X) (b c : Bool) → p x ≡ b → q x ≡ c → (b ≡ true → c ≡ true) → count_by p (filter q xs) ≡ count_by p xs → count_by p (cond c (x ∷ filter q xs) (filter q xs)) ≡ count_by p (x ∷ xs)
count_kept_at p q x xs b true e f h rest =
    omega (arith, sum_by-cons (λ y. cond (p y) 1 0) x xs, sum_by-cons (λ y. cond (p y) 1 0) x (filter q xs), rest)
count_kept_at p q x xs true false e f h rest = let g = h refl in absurd cc
count_kept_at p q x xs false false e f h rest =
    let none : cond (p x) 1 0 ≡ zero = ap (λ b. cond b 1 0) e in
    omega (arith, sum_by-cons (λ y. cond (p y) 1 0) x xs, none, rest)

-- none that counts is left out
count_kept : {X : Type 0} (p q : X → Bool) (xs : List X) → AllByRecursion (λ x. p x ≡ true → q x ≡ true) xs → count_by p (filter q xs) ≡ count_by p xs
count_kept p q [] all = refl
count_kept p q (x ∷ xs) all =
    count_kept_at p q x xs (p x) (q x) refl refl all.0 (count_kept p q xs all.1)

count_part_at : {X : Type 0} (p q : X → Bool) (x : X) (xs : List X) (c : Bool) → count_by p (filter q xs) ≤ count_by p xs → count_by p (cond c (x ∷ filter q xs) (filter q xs)) ≤ count_by p (x ∷ xs)
count_part_at p q x xs true rest =
    omega (arith, sum_by-cons (λ y. cond (p y) 1 0) x xs, sum_by-cons (λ y. cond (p y) 1 0) x (filter q xs), rest)
count_part_at p q x xs false rest = omega (arith, sum_by-cons (λ y. cond (p y) 1 0) x xs, rest)

count_part : {X : Type 0} (p q : X → Bool) (xs : List X) → count_by p (filter q xs) ≤ count_by p xs
count_part p q [] = lit≤ tt
count_part p q (x ∷ xs) = count_part_at p q x xs (q x) (count_part p q xs)

-- ---- priorities

pub one_priority : (p q : Priority) → same_priority p q ≡ true → p ≡ q
one_priority Low Low e = refl
one_priority Low Medium e = absurd cc
one_priority Low High e = absurd cc
one_priority Medium Low e = absurd cc
one_priority Medium Medium e = refl
one_priority Medium High e = absurd cc
one_priority High Low e = absurd cc
one_priority High Medium e = absurd cc
one_priority High High e = refl

pub own_priority : (p : Priority) → same_priority p p ≡ true
own_priority Low = refl
own_priority Medium = refl
own_priority High = refl

pub both_true : (b c : Bool) → (b && c) ≡ true → (b ≡ true) × (c ≡ true)
both_true true true e = (refl, refl)
both_true true false e = absurd cc
both_true false c e = absurd cc

pub and_true : (b c : Bool) → b ≡ true → c ≡ true → (b && c) ≡ true
and_true true true e f = refl
and_true true false e f = absurd cc
and_true false c e f = absurd cc

is_less : (w : Ordering) → is_lt w ≡ true → w ≡ Less
is_less Less e = refl
is_less Equal e = absurd cc
is_less Greater e = absurd cc

not_equal : (w : Ordering) → is_lt w ≡ true → not (is_eq w) ≡ true
not_equal Less e = refl
not_equal Equal e = absurd cc
not_equal Greater e = absurd cc

at_least : (n m : ℕ) → not (nat_lt n m) ≡ true → m ≤ n
at_least n m e = grind (arith, nat_tests)

not_below : (n m : ℕ) → m ≤ n → nat_lt n m ≡ false
not_below n m h = grind (arith, nat_tests)

rounded_by : (p : Priority) (s : Bool) → cond (is_low p && not s) true (cond (is_low p) true (cond (is_medium p && not s) true (cond (is_high p && not s) true (cond (is_medium p) true (cond (is_high p) true false))))) ≡ true
rounded_by Low true = refl
rounded_by Low false = refl
rounded_by Medium true = refl
rounded_by Medium false = refl
rounded_by High true = refl
rounded_by High false = refl

pub all_of : {X : Type 0} {P : X → Type 0} → ((x : X) → P x) → (xs : List X) → AllByRecursion P xs
all_of h [] = tt
all_of h (x ∷ xs) = (h x, all_of h xs)

module _ {X : Type 0} (l : Looks X) (o : IsTotalOrder (access_cmp l)) where
  -- whoever is ahead of one ahead is ahead
  ahead_more : (x y z : X) → is_ahead l y x ≡ true → is_ahead l x z ≡ true → is_ahead l y z ≡ true
  ahead_more x y z a b =
      let h = both_true (same_priority (l.priority y) (l.priority x)) (is_lt (access_cmp l y x)) a in
      let k = both_true (same_priority (l.priority x) (l.priority z)) (is_lt (access_cmp l x z)) b in
      let e = one_priority (l.priority y) (l.priority x) h.0 in
      let less = o.trans y x z (is_less (access_cmp l y x) h.1) (is_less (access_cmp l x z) k.1) in
      and_true (same_priority (l.priority y) (l.priority z)) (is_lt (access_cmp l y z)) (ap (λ p. same_priority p (l.priority z)) e ∙ k.0) (ap is_lt less)

  ahead_is_other : (x z : X) → is_ahead l x z ≡ true → not (is_eq (access_cmp l x z)) ≡ true
  ahead_is_other x z a =
      not_equal (access_cmp l x z) (both_true (same_priority (l.priority x) (l.priority z)) (is_lt (access_cmp l x z)) a).1

  still_other : (xs : List X) (x y z : X) → Apart o xs → Member xs x → is_ahead l y x ≡ false → Member xs z → is_ahead l y z ≡ true → (w : Ordering) → access_cmp l x z ≡ w → not (is_eq w) ≡ true
  still_other xs x y z apart i free j a Less e = refl
  still_other xs x y z apart i free j a Greater e = refl
  still_other xs x y z apart i free j a Equal e =
      let same = apart_same o xs x z apart i j e in
      let h : is_ahead l y x ≡ is_ahead l y z = ap (is_ahead l y) same in absurd cc

  -- who stands ahead of y is left where one goes that doesn't
  steady_behind : (xs : List X) (x y : X) → Apart o xs → Member xs x → is_ahead l y x ≡ false → count_by (is_ahead l y) (others l x xs) ≡ count_by (is_ahead l y) xs
  steady_behind xs x y apart i free =
      count_kept (is_ahead l y) (λ z. not (is_eq (access_cmp l x z))) xs
      (weaker (Member xs) (λ z. is_ahead l y z ≡ true → not (is_eq (access_cmp l x z)) ≡ true)
      (λ z j a. still_other xs x y z apart i free j a (access_cmp l x z) refl) xs (own_members xs))

  -- and where one goes that does, as many are ahead of y as were ahead of it
  many_ahead : (xs : List X) (x y : X) → is_ahead l y x ≡ true → count_by (is_ahead l x) xs ≤ count_by (is_ahead l y) (others l x xs)
  many_ahead xs x y a =
      let all = count_kept (is_ahead l x) (λ z. not (is_eq (access_cmp l x z))) xs (all_of {P = λ z. is_ahead l x z ≡ true → not (is_eq (access_cmp l x z)) ≡ true} (ahead_is_other x) xs) in
      let more = count_le (is_ahead l x) (is_ahead l y) (others l x xs) (all_of {P = λ z. is_ahead l x z ≡ true → is_ahead l y z ≡ true} (λ z b. ahead_more x y z a b) (others l x xs)) in
      omega (arith, all, more)

  steady_at : (xs : List X) (x y : X) (b : Bool) → is_ahead l y x ≡ b → Apart o xs → Member xs x → not (is_spared l xs x) ≡ true → is_spared l (others l x xs) y ≡ is_spared l xs y
  steady_at xs x y false e apart i t = ap (λ n. nat_lt n (quota (l.priority y))) (steady_behind xs x y apart i e)
  steady_at xs x y true e apart i t =
      let h = both_true (same_priority (l.priority y) (l.priority x)) (is_lt (access_cmp l y x)) e in
      let p = ap quota (one_priority (l.priority y) (l.priority x) h.0) in
      let enough = at_least (count_by (is_ahead l x) xs) (quota (l.priority x)) t in
      let many = many_ahead xs x y e in
      let part = count_part (is_ahead l y) (λ z. not (is_eq (access_cmp l x z))) xs in
      not_below (count_by (is_ahead l y) (others l x xs)) (quota (l.priority y)) (omega (arith, p, enough, many))
      ∙ sym (not_below (count_by (is_ahead l y) xs) (quota (l.priority y)) (omega (arith, p, enough, many, part)))

  key_may : MayGo l o (key_rounds l) (λ xs x. not (is_spared l xs x))
  key_may = record {
    rounded = λ xs x t. rounded_by (l.priority x) (l.secure x);
    stable = λ xs x apart i t. all_of {P = λ y. not (is_spared l (others l x xs) y) ≡ not (is_spared l xs y)} (λ y. ap not (steady_at xs x y (is_ahead l y x) refl apart i t)) xs;
  }

  -- the plan of a key is a front of those who aren't spared, in their order
  pub key_plan_is : (xs : List X) → Apart o xs → key_plan l xs ≡ cond (nat_le (length xs) MOST_OF_KEY) [] (take (length xs - LEFT_OF_KEY) (key_order l xs))
  key_plan_is xs apart =
      ap (cond (nat_le (length xs) MOST_OF_KEY) [])
      (going_is l o (key_rounds l) (λ ys y. not (is_spared l ys y)) key_may (length xs - LEFT_OF_KEY) xs apart)

  spared_moved : (xs ys : List X) → IsPermutation xs ys → (x : X) → not (is_spared l ys x) ≡ not (is_spared l xs x)
  spared_moved xs ys moved x =
      ap (λ n. not (nat_lt n (quota (l.priority x)))) (sum_by-IsPermutation (λ y. cond (is_ahead l x y) 1 0) xs ys moved)

  -- the order doesn't depend on that of the list
  pub key_order_moved : (xs ys : List X) → Apart o xs → IsPermutation xs ys → key_order l ys ≡ key_order l xs
  key_order_moved xs ys apart moved =
      let unspared = λ (x : X). not (is_spared l xs x) in
      let apart' = moved_apart o xs ys apart moved in
      let t = plan_total l (key_rounds l) o in
      ap (in_order (plan_cmp l (key_rounds l))) (filter_agree (λ x. not (is_spared l ys x)) unspared (spared_moved xs ys moved) ys)
      ∙ sym (same_in_order t (filter unspared xs) (filter unspared ys)
      (plan_apart l (key_rounds l) o (filter unspared xs) (kept_apart o unspared xs apart))
      (plan_apart l (key_rounds l) o (filter unspared ys) (kept_apart o unspared ys apart'))
      (kept_same unspared xs ys (moved_same xs ys moved)))
