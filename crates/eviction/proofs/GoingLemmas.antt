-- Things that go one at a time, in rounds, go in one order, and how many go is a front of it.
use Rattle.std.proofs.Common.{◌≡◌, ◌≢◌, ℕ, zero, suc, ◌+◌, List, [], ◌∷◌, Bool, true, false, cond, ◌⊎◌, inl, inr, take, Option, None, Some, refl, sym, ap, ◌∙◌, subst, arith}
use Rattle.std.specs.Prelude.{filter, not}
use Rattle.std.specs.Option.{IfSome}
use Rattle.std.specs.List.{AllByRecursion}
use Rattle.std.specs.Cmp.{IsTotalOrder}
use Rattle.std.specs.Ordering.{is_lt, is_eq, nat_cmp, ordering_then}
use Rattle.std.specs.declared.cmp.Ordering.{Ordering}
use Rattle.std.specs.declared.cmp.Ordering.TheVariants.{Less, Equal, Greater}
use Rattle.std.proofs.lemmas.Bool.{false≢true}
use Rattle.std.proofs.lemmas.Bool.Decides.{nat_tests}
use Rattle.std.proofs.lemmas.Cmp.{tied_itself, then_total, on_total, nat_cmp_total}
use Rattle.jar_types.specs.Orders.{in_order}
use Rattle.jar_types.specs.Plans.{Looks, access_cmp, lesser, least, or_else, first_of, others, and_more, going}
use Rattle.eviction.specs.Orders.{round_of, plan_cmp}
use Rattle.eviction.proofs.MemberLemmas.{Member, Same, every_member, weaker, moved_same, kept_all, kept_member, all_pass, all_kept}
use Rattle.eviction.proofs.SortLemmas.{Rises, Apart, flipped, in_order_rises, in_order_moves, kept_apart, part_in_order, apart_same}

-- x is of one of the rounds
abbrev pub is_of : {X : Type 0} → List (X → Bool) → X → Bool
is_of [] x = false
is_of (round ∷ rounds) x = cond (round x) true (is_of rounds x)

-- ---- the least of a list

-- y is z, or comes after it
abbrev pub After : {X : Type 0} → (X → X → Ordering) → X → X → Type 0
After R z y = (z ≡ y) ⊎ (R z y ≡ Less)

lesser_all : {X : Type 0} (R : X → X → Ordering) (P : X → Type 0) (x : X) (m : Option X) → P x → IfSome m P → P (lesser R x m)
lesser_all R P x None p h = p
lesser_all R P x (Some y) p h = elim (is_lt (R y x)) as (λ b. P (cond b y x)) [ true ↦ h | false ↦ p ]

least_all : {X : Type 0} (R : X → X → Ordering) (P : X → Type 0) (xs : List X) → AllByRecursion P xs → IfSome (least R xs) P
least_all R P [] all = tt
least_all R P (x ∷ xs) all = lesser_all R P x (least R xs) all.0 (least_all R P xs all.1)

module _ {X : Type 0} {R : X → X → Ordering} (o : IsTotalOrder R) where
  lesser_first : (z : X) (m : Option X) → IfSome m (After R z) → lesser R z m ≡ z
  lesser_first z None h = refl
  lesser_first z (Some y) (inl e) = elim (is_lt (R y z)) as (λ b. cond b y z ≡ z) [ true ↦ sym e | false ↦ refl ]
  lesser_first z (Some y) (inr less) = ap (λ w. cond (is_lt w) y z) (flipped o z y Less less)

  lesser_later : (z y : X) → After R z y → lesser R y (Some z) ≡ z
  lesser_later z y (inl e) = elim (is_lt (R z y)) as (λ b. cond b z y ≡ z) [ true ↦ refl | false ↦ sym e ]
  lesser_later z y (inr less) = ap (λ w. cond (is_lt w) z y) less

  -- the least is the one that all others come after
  least_is : (ys : List X) (z : X) → Member ys z → AllByRecursion (After R z) ys → least R ys ≡ Some z
  least_is [] z i all = absurd i
  least_is (y ∷ ys) z (inl e) all =
      subst (λ w. Some (lesser R w (least R ys)) ≡ Some z) e (ap Some (lesser_first z (least R ys) (least_all R (After R z) ys all.1)))
  least_is (y ∷ ys) z (inr i) all =
      ap (λ m. Some (lesser R y m)) (least_is ys z i all.1) ∙ ap Some (lesser_later z y all.0)

-- ---- the first of the rounds

later_round : (n : ℕ) → nat_cmp (n + 1) 0 ≡ Greater
later_round n = grind (arith, nat_tests)

both_later : (m n : ℕ) → nat_cmp (m + 1) (n + 1) ≡ nat_cmp m n
both_later m n = grind (arith, nat_tests)

-- none passes
none_kept : {X : Type 0} (p : X → Bool) (xs : List X) → AllByRecursion (λ x. p x ≡ false) xs → filter p xs ≡ []
none_kept p [] none = refl
none_kept p (x ∷ xs) none = ap (λ b. cond b (x ∷ filter p xs) (filter p xs)) none.0 ∙ none_kept p xs none.1

-- all pass
pub every_kept : {X : Type 0} (p : X → Bool) (xs : List X) → AllByRecursion (λ x. p x ≡ true) xs → filter p xs ≡ xs
every_kept p [] all = refl
every_kept p (x ∷ xs) all =
    ap (λ b. cond b (x ∷ filter p xs) (filter p xs)) all.0 ∙ ap (λ ys. x ∷ ys) (every_kept p xs all.1)

later_at : (b c : Bool) (m n : ℕ) (w : Ordering) → b ≡ false → ordering_then (nat_cmp (cond b 0 (m + 1)) (cond c 0 (n + 1))) w ≡ Less → (c ≡ false) × (ordering_then (nat_cmp m n) w ≡ Less)
later_at true c m n w e less = absurd cc
later_at false true m n w e less = let h : Greater ≡ Less = sym (ap (λ v. ordering_then v w) (later_round m)) ∙ less in absurd cc
later_at false false m n w e less = (refl, sym (ap (λ v. ordering_then v w) (both_later m n)) ∙ less)

first_at : (b c : Bool) (m n : ℕ) (w : Ordering) → b ≡ true → c ≡ true → ordering_then (nat_cmp (cond b 0 (m + 1)) (cond c 0 (n + 1))) w ≡ Less → w ≡ Less
first_at true true m n w e f less = less
first_at true false m n w e f less = absurd cc
first_at false c m n w e f less = absurd cc

module _ {X : Type 0} (l : Looks X) (o : IsTotalOrder (access_cmp l)) where
  abbrev R : X → X → Ordering
  R = access_cmp l

  pub first_of_none : (rounds : List (X → Bool)) → first_of l rounds [] ≡ None
  first_of_none [] = refl
  first_of_none (round ∷ rounds) = first_of_none rounds

  in_round : (round : X → Bool) (rounds : List (X → Bool)) (z y : X) → round z ≡ true → After (plan_cmp l (round ∷ rounds)) z y → round y ≡ true → After R z y
  in_round round rounds z y t (inl e) s = inl e
  in_round round rounds z y t (inr less) s =
      inr (first_at (round z) (round y) (round_of rounds z) (round_of rounds y) (R z y) t s less)

  all_in_round : (round : X → Bool) (rounds : List (X → Bool)) (z : X) → round z ≡ true → (ys : List X) → AllByRecursion (After (plan_cmp l (round ∷ rounds)) z) ys → AllByRecursion (λ y. round y ≡ true) ys → AllByRecursion (After R z) ys
  all_in_round round rounds z t [] all pass = tt
  all_in_round round rounds z t (y ∷ ys) all pass =
      (in_round round rounds z y t all.0 pass.0, all_in_round round rounds z t ys all.1 pass.1)

  past_round : (round : X → Bool) (rounds : List (X → Bool)) (z y : X) → round z ≡ false → After (plan_cmp l (round ∷ rounds)) z y → (round y ≡ false) × After (plan_cmp l rounds) z y
  past_round round rounds z y f (inl e) = (ap round (sym e) ∙ f, inl e)
  past_round round rounds z y f (inr less) =
      let h = later_at (round z) (round y) (round_of rounds z) (round_of rounds y) (R z y) f less in (h.0, inr h.1)

  first_by : (round : X → Bool) (rounds : List (X → Bool)) (ys : List X) (z : X) (b : Bool) → round z ≡ b → Member ys z → AllByRecursion (After (plan_cmp l (round ∷ rounds)) z) ys
      → (b ≡ false → AllByRecursion (After (plan_cmp l rounds) z) ys → first_of l rounds ys ≡ Some z) → first_of l (round ∷ rounds) ys ≡ Some z
  first_by round rounds ys z true e i all later =
      let kept = filter round ys in
      let after = all_in_round round rounds z e kept (kept_all (After (plan_cmp l (round ∷ rounds)) z) round ys all) (all_pass round ys) in
      ap (λ m. or_else m (first_of l rounds ys)) (least_is o kept z (kept_member round ys z i e) after)
  first_by round rounds ys z false e i all later =
      let none = weaker (After (plan_cmp l (round ∷ rounds)) z) (λ y. round y ≡ false) (λ y a. (past_round round rounds z y e a).0) ys all in
      let after = weaker (After (plan_cmp l (round ∷ rounds)) z) (After (plan_cmp l rounds) z) (λ y a. (past_round round rounds z y e a).1) ys all in
      ap (λ kept. or_else (least R kept) (first_of l rounds ys)) (none_kept round ys none) ∙ later refl after

  -- the one whom all others come after is the least accessed of the first round that has one
  pub first_is : (rounds : List (X → Bool)) (ys : List X) (z : X) → Member ys z → AllByRecursion (After (plan_cmp l rounds) z) ys → is_of rounds z ≡ true → first_of l rounds ys ≡ Some z
  first_is [] ys z i all t = absurd (false≢true t)
  first_is (round ∷ rounds) ys z i all t =
      first_by round rounds ys z (round z) refl i all
      (λ f after. first_is rounds ys z i after (sym (ap (λ b. cond b true (is_of rounds z)) f) ∙ t))

-- ---- one at a time

-- a test of who may go, each of whom is of a round, and which says the same of those that are left where one goes
pub record MayGo {X : Type 0} (l : Looks X) (o : IsTotalOrder (access_cmp l)) (rounds : List (X → Bool)) (may : List X → X → Bool) : Type 0 where
  pub rounded : (xs : List X) (x : X) → may xs x ≡ true → is_of rounds x ≡ true
  pub stable : (xs : List X) (x : X) → Apart o xs → Member xs x → may xs x ≡ true → AllByRecursion (λ y. may (others l x xs) y ≡ may xs y) xs

pub plan_total : {X : Type 0} (l : Looks X) (rounds : List (X → Bool)) → IsTotalOrder (access_cmp l) → IsTotalOrder (plan_cmp l rounds)
plan_total l rounds o = then_total (on_total (round_of rounds) nat_cmp_total) o

then_equal : (v w : Ordering) → ordering_then v w ≡ Equal → w ≡ Equal
then_equal Less w e = absurd cc
then_equal Equal w e = e
then_equal Greater w e = absurd cc

all_apart : {X : Type 0} (l : Looks X) (rounds : List (X → Bool)) (x : X) (ys : List X) → AllByRecursion (λ y. access_cmp l x y ≢ Equal) ys → AllByRecursion (λ y. plan_cmp l rounds x y ≢ Equal) ys
all_apart l rounds x ys all =
    weaker (λ y. access_cmp l x y ≢ Equal) (λ y. plan_cmp l rounds x y ≢ Equal)
    (λ y ne e. ne (then_equal (nat_cmp (round_of rounds x) (round_of rounds y)) (access_cmp l x y) e)) ys all

-- what no access tells as one, no plan does
pub plan_apart : {X : Type 0} (l : Looks X) (rounds : List (X → Bool)) (o : IsTotalOrder (access_cmp l)) (xs : List X) → Apart o xs → Apart (plan_total l rounds o) xs
plan_apart l rounds o [] apart = tt
plan_apart l rounds o (x ∷ xs) apart = (all_apart l rounds x xs apart.0, plan_apart l rounds o xs apart.1)

pub agreeing : {X : Type 0} (p q : X → Bool) (xs : List X) → AllByRecursion (λ x. p x ≡ q x) xs → filter p xs ≡ filter q xs
agreeing p q [] all = refl
agreeing p q (x ∷ xs) all =
    ap (λ b. cond b (x ∷ filter p xs) (filter p xs)) all.0 ∙ ap (λ ys. cond (q x) (x ∷ ys) ys) (agreeing p q xs all.1)

swapped_at : {X : Type 0} (p q : X → Bool) (x : X) (xs : List X) (b c : Bool) → p x ≡ b → q x ≡ c → filter p (filter q xs) ≡ filter q (filter p xs) → filter p (cond c (x ∷ filter q xs) (filter q xs)) ≡ filter q (cond b (x ∷ filter p xs) (filter p xs))
swapped_at p q x xs true true e f rest =
    ap (λ b. cond b (x ∷ filter p (filter q xs)) (filter p (filter q xs))) e ∙ ap (λ ys. x ∷ ys) rest ∙ sym (ap (λ b. cond b (x ∷ filter q (filter p xs)) (filter q (filter p xs))) f)
swapped_at p q x xs true false e f rest = rest ∙ sym (ap (λ b. cond b (x ∷ filter q (filter p xs)) (filter q (filter p xs))) f)
swapped_at p q x xs false true e f rest = ap (λ b. cond b (x ∷ filter p (filter q xs)) (filter p (filter q xs))) e ∙ rest
swapped_at p q x xs false false e f rest = rest

pub swapped : {X : Type 0} (p q : X → Bool) (xs : List X) → filter p (filter q xs) ≡ filter q (filter p xs)
swapped p q [] = refl
swapped p q (x ∷ xs) = swapped_at p q x xs (p x) (q x) refl refl (swapped p q xs)

module _ {X : Type 0} (l : Looks X) (o : IsTotalOrder (access_cmp l)) (rounds : List (X → Bool)) (may : List X → X → Bool) (g : MayGo l o rounds may) where
  abbrev next : List X → Option X
  next xs = first_of l rounds (filter (may xs) xs)

  -- those who may go, in the order in which they do
  abbrev row : List X → List X
  row xs = in_order (plan_cmp l rounds) (filter (may xs) xs)

  row_rises : (xs : List X) → Apart o xs → Rises (plan_total l rounds o) (row xs)
  row_rises xs apart =
      in_order_rises (plan_total l rounds o) (filter (may xs) xs) (plan_apart l rounds o (filter (may xs) xs) (kept_apart o (may xs) xs apart))

  row_same : (xs : List X) → Same (filter (may xs) xs) (row xs)
  row_same xs = moved_same (filter (may xs) xs) (row xs) (in_order_moves (plan_total l rounds o) (filter (may xs) xs))

  no_members : (xs : List X) → AllByRecursion (Member []) xs → xs ≡ []
  no_members [] all = refl
  no_members (x ∷ xs) all = absurd all.0

  -- a later one of the row isn't the first
  not_first : (xs : List X) (z y : X) → Apart o xs → Member xs z → Member xs y → plan_cmp l rounds z y ≡ Less → (w : Ordering) → access_cmp l z y ≡ w → not (is_eq w) ≡ true
  not_first xs z y apart i j less Less e = refl
  not_first xs z y apart i j less Greater e = refl
  not_first xs z y apart i j less Equal e =
      let same = apart_same o xs z y apart i j e in
      let itself = tied_itself (plan_total l rounds o) z in
      let h : plan_cmp l rounds z z ≡ Less = subst (λ w. plan_cmp l rounds z w ≡ Less) (sym same) less in absurd cc

  none_is_first : (xs : List X) (z : X) (zs : List X) → Apart o xs → Member xs z → AllByRecursion (λ y. plan_cmp l rounds z y ≡ Less) zs → AllByRecursion (Member xs) zs → AllByRecursion (λ y. not (is_eq (access_cmp l z y)) ≡ true) zs
  none_is_first xs z [] apart i less all = tt
  none_is_first xs z (y ∷ ys) apart i less all =
      (not_first xs z y apart i all.0 less.0 (access_cmp l z y) refl, none_is_first xs z ys apart i less.1 all.1)

  others_of : (z : X) (zs : List X) → AllByRecursion (λ y. not (is_eq (access_cmp l z y)) ≡ true) zs → others l z (z ∷ zs) ≡ zs
  others_of z zs all =
      ap (λ w. cond (not (is_eq w)) (z ∷ others l z zs) (others l z zs)) (tied_itself o z) ∙ every_kept (λ y. not (is_eq (access_cmp l z y))) zs all

  -- the row of the others is the rest of the row
  row_rest : (xs : List X) (z : X) (zs : List X) → Apart o xs → Member xs z → may xs z ≡ true → AllByRecursion (Member xs) (row xs) → row xs ≡ z ∷ zs → row (others l z xs) ≡ zs
  row_rest xs z zs apart i t all e =
      let kept = filter (may xs) xs in
      let left = λ (y : X). not (is_eq (access_cmp l z y)) in
      let steady = kept_all (λ y. may (others l z xs) y ≡ may xs y) left xs (g.stable xs z apart i t) in
      let same : filter (may (others l z xs)) (others l z xs) ≡ filter left kept =
      agreeing (may (others l z xs)) (may xs) (others l z xs) steady ∙ swapped (may xs) left xs in
      let rises = subst (Rises (plan_total l rounds o)) e (row_rises xs apart) in
      let members = subst (AllByRecursion (Member xs)) e all in
      ap (in_order (plan_cmp l rounds)) same
      ∙ part_in_order (plan_total l rounds o) left kept (plan_apart l rounds o kept (kept_apart o (may xs) xs apart))
      ∙ ap (filter left) e ∙ others_of z zs (none_is_first xs z zs apart i rises.0 members.1)

  going_at : (n : ℕ) (xs zs : List X) → ((ys : List X) → Apart o ys → going l next n ys ≡ take n (row ys)) → Apart o xs → row xs ≡ zs → going l next (suc n) xs ≡ take (suc n) zs
  going_at n xs [] rest apart e =
      let kept = filter (may xs) xs in
      let none = no_members kept (subst (λ ys. AllByRecursion (Member ys) kept) e (row_same xs).0) in
      ap (λ m. and_more m (λ x. going l next n (others l x xs))) (ap (first_of l rounds) none ∙ first_of_none l o rounds)
  going_at n xs (z ∷ zs) rest apart e =
      let kept = filter (may xs) xs in
      let same = subst (Same kept) e (row_same xs) in
      let rises = subst (Rises (plan_total l rounds o)) e (row_rises xs apart) in
      let i : Member kept z = same.1.0 in
      let t : may xs z ≡ true = every_member (λ y. may xs y ≡ true) kept z (all_pass (may xs) xs) i in
      let j : Member xs z = every_member (Member xs) kept z (all_kept (may xs) xs) i in
      let after : AllByRecursion (After (plan_cmp l rounds) z) (z ∷ zs) = (inl refl, weaker (λ y. plan_cmp l rounds z y ≡ Less) (After (plan_cmp l rounds) z) (λ y less. inr less) zs rises.0) in
      let all : AllByRecursion (After (plan_cmp l rounds) z) kept = weaker (Member (z ∷ zs)) (After (plan_cmp l rounds) z) (λ y k. every_member (After (plan_cmp l rounds) z) (z ∷ zs) y after k) kept same.0 in
      let members : AllByRecursion (Member xs) (row xs) = weaker (Member kept) (Member xs) (λ y k. every_member (Member xs) kept y (all_kept (may xs) xs) k) (row xs) (row_same xs).1 in
      ap (λ m. and_more m (λ x. going l next n (others l x xs))) (first_is l o rounds kept z i all (g.rounded xs z t))
      ∙ ap (λ ys. z ∷ ys) (rest (others l z xs) (kept_apart o (λ y. not (is_eq (access_cmp l z y))) xs apart) ∙ ap (take n) (row_rest xs z zs apart j t members e))

  -- who goes one at a time are the first of the row
  pub going_is : (n : ℕ) (xs : List X) → Apart o xs → going l next n xs ≡ take n (row xs)
  going_is zero xs apart = refl
  going_is (suc n) xs apart = going_at n xs (row xs) (going_is n) apart refl
