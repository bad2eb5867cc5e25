-- The laws of the plans.
use Rattle.std.proofs.Common.{◌≡◌, ◌≢◌, ℕ, zero, suc, ◌+◌, ◌-◌, ◌<◌, ◌≤◌, List, [], ◌∷◌, Bool, true, false, cond, ◌⊎◌, inl, inr, length, take, refl, sym, ap, ◌∙◌, subst, arith}
use Rattle.std.specs.Prelude.{filter, not, nat_le}
use Rattle.std.specs.List.{AllByRecursion, IsDistinct, list_any}
use Rattle.std.specs.List.Sorted.{IsPermutation, IsStrictlySortedBy}
use Rattle.std.specs.Cmp.{IsTotalOrder}
use Rattle.std.specs.Ordering.{is_eq}
use Rattle.std.specs.declared.cmp.Ordering.{Ordering}
use Rattle.std.specs.declared.cmp.Ordering.TheVariants.{Less, Equal, Greater}
use Rattle.std.proofs.lemmas.Bool.Decides.{nat_tests}
use Rattle.std.proofs.lemmas.List.Sorted.{length_permutation}
use Rattle.jar_types.specs.declared.limits.TheConstants.{MOST_OF_KEY, LEFT_OF_KEY, MOST_OF_JAR, LEFT_OF_JAR}
use Rattle.jar_types.specs.Plans.{Looks, access_cmp, is_spared, is_stale, key_rounds, jar_rounds, key_plan, jar_plan}
use Rattle.eviction.specs.Orders.{key_order, jar_order}
use Rattle.eviction.specs.Laws.{without, KeepsEnough, KeysKeepEnough, KeysGoInRounds, NoSparedGoes, JarsAreSwept, PlansForgetOrder}
use Rattle.eviction.proofs.MemberLemmas.{Member, Same, every_member, weaker, moved_same, kept_member, all_pass, all_kept}
use Rattle.eviction.proofs.SortLemmas.{Apart, Rises, kept_apart, in_order_rises, in_order_moves, moved_apart}
use Rattle.eviction.proofs.GoingLemmas.{plan_total, plan_apart}
use Rattle.eviction.proofs.KeyLemmas.{key_plan_is, key_order_moved}
use Rattle.eviction.proofs.JarLemmas.{jar_plan_is, jar_order_moved}
use Rattle.eviction.proofs.EnoughLemmas.{enough_unspared}
use Rattle.eviction.proofs.LeftLemmas.{take_all, take_rises, fewer_left, row_apart, any_there}

apart_at : (w : Ordering) → is_eq w ≡ false → w ≢ Equal
apart_at Less f e = absurd cc
apart_at Equal f e = absurd cc
apart_at Greater f e = absurd cc

-- things that are told are apart
pub told_apart : {X : Type 0} (l : Looks X) (o : IsTotalOrder (access_cmp l)) (xs : List X) → IsDistinct (λ x y. is_eq (access_cmp l x y)) xs → Apart o xs
unfolding IsDistinct
told_apart l o [] differ = tt
told_apart l o (x ∷ xs) differ =
    (weaker (λ y. is_eq (access_cmp l x y) ≡ false) (λ y. access_cmp l x y ≢ Equal) (λ y f. apart_at (access_cmp l x y) f) xs differ.0, told_apart l o xs differ.1)

strictly : {X : Type 0} {R : X → X → Ordering} (o : IsTotalOrder R) (xs : List X) → Rises o xs → IsStrictlySortedBy R xs
unfolding IsStrictlySortedBy
strictly o [] up = tt
strictly o (x ∷ xs) up = (up.0, strictly o xs up.1)

up_to : (m n : ℕ) → m ≤ n → nat_le m n ≡ true
up_to m n h = grind (arith, nat_tests)

past : (m n : ℕ) → m < n → nat_le n m ≡ false
past m n h = grind (arith, nat_tests)

pub is_up_to : (m n : ℕ) → nat_le m n ≡ true → m ≤ n
is_up_to m n e = grind (arith, nat_tests)

pub is_past : (m n : ℕ) → nat_le n m ≡ false → m < n
is_past m n e = grind (arith, nat_tests)

take_none : {X : Type 0} (n : ℕ) → let none : List X = [] in take n none ≡ none
take_none zero = refl
take_none (suc n) = refl

length_front : {X : Type 0} (n : ℕ) (xs : List X) → n ≤ length xs → length (take n xs) ≡ n
length_front zero xs h = refl
length_front (suc n) [] h = absurd (omega arith)
length_front (suc n) (x ∷ xs) h = ap suc (length_front n xs (omega arith))

whole_front : {X : Type 0} (n : ℕ) (xs : List X) → length xs ≤ n → take n xs ≡ xs
whole_front n [] h = take_none n
whole_front zero (x ∷ xs) h = absurd (omega arith)
whole_front (suc n) (x ∷ xs) h = ap (λ ys. x ∷ ys) (whole_front n xs (omega arith))

module _ {X : Type 0} (l : Looks X) (o : IsTotalOrder (access_cmp l)) where
  -- ---- keys

  abbrev unspared : List X → List X
  unspared xs = filter (λ x. not (is_spared l xs x)) xs

  pub key_none : (xs : List X) → Apart o xs → length xs ≤ MOST_OF_KEY → key_plan l xs ≡ []
  key_none xs apart few =
      key_plan_is l o xs apart ∙ ap (λ b. cond b [] (take (length xs - LEFT_OF_KEY) (key_order l xs))) (up_to (length xs) MOST_OF_KEY few)

  pub key_front : (xs : List X) → Apart o xs → MOST_OF_KEY < length xs → key_plan l xs ≡ take (length xs - LEFT_OF_KEY) (key_order l xs)
  key_front xs apart more =
      key_plan_is l o xs apart ∙ ap (λ b. cond b [] (take (length xs - LEFT_OF_KEY) (key_order l xs))) (past MOST_OF_KEY (length xs) more)

  key_same : (xs : List X) → Same (unspared xs) (key_order l xs)
  key_same xs = moved_same (unspared xs) (key_order l xs) (in_order_moves (plan_total l (key_rounds l) o) (unspared xs))

  key_rises : (xs : List X) → Apart o xs → Rises (plan_total l (key_rounds l) o) (key_order l xs)
  key_rises xs apart =
      in_order_rises (plan_total l (key_rounds l) o) (unspared xs) (plan_apart l (key_rounds l) o (unspared xs) (kept_apart o (λ x. not (is_spared l xs x)) xs apart))

  -- what holds of all unspared ones holds of all who go
  key_all : (P : X → Type 0) (xs : List X) → Apart o xs → AllByRecursion P (unspared xs) → AllByRecursion P (key_plan l xs)
  key_all P xs apart all =
      let row = weaker (Member (unspared xs)) P (λ x i. every_member P (unspared xs) x all i) (key_order l xs) (key_same xs).1 in
      subst (AllByRecursion P) (sym (key_plan_is l o xs apart))
      (elim (nat_le (length xs) MOST_OF_KEY) as (λ b. AllByRecursion P (cond b [] (take (length xs - LEFT_OF_KEY) (key_order l xs))))
      [ true ↦ tt | false ↦ take_all P (length xs - LEFT_OF_KEY) (key_order l xs) row ])

  pub key_members : (xs : List X) → Apart o xs → AllByRecursion (Member xs) (key_plan l xs)
  key_members xs apart = key_all (Member xs) xs apart (all_kept (λ x. not (is_spared l xs x)) xs)

  pub key_plan_rises : (xs : List X) → Apart o xs → Rises (plan_total l (key_rounds l) o) (key_plan l xs)
  key_plan_rises xs apart =
      subst (Rises (plan_total l (key_rounds l) o)) (sym (key_plan_is l o xs apart))
      (elim (nat_le (length xs) MOST_OF_KEY) as (λ b. Rises (plan_total l (key_rounds l) o) (cond b [] (take (length xs - LEFT_OF_KEY) (key_order l xs))))
      [ true ↦ tt | false ↦ take_rises (plan_total l (key_rounds l) o) (length xs - LEFT_OF_KEY) (key_order l xs) (key_rises xs apart) ])

  pub key_many : (xs : List X) → Apart o xs → MOST_OF_KEY < length xs → length (key_plan l xs) ≡ length xs - LEFT_OF_KEY
  key_many xs apart more =
      ap length (key_front xs apart more)
      ∙ length_front (length xs - LEFT_OF_KEY) (key_order l xs) (omega (arith, enough_unspared l o xs apart))

  key_left : (xs : List X) → Apart o xs → MOST_OF_KEY < length xs → length (without l (key_plan l xs) xs) ≡ LEFT_OF_KEY
  key_left xs apart more =
      let members = key_members xs apart in
      let gone = row_apart o (plan_total l (key_rounds l) o) xs (key_plan l xs) apart members (key_plan_rises xs apart) in
      omega (arith, more, key_many xs apart more, fewer_left o (key_plan l xs) xs gone apart members)

  unspared_at : (b : Bool) → not b ≡ true → b ≡ false
  unspared_at true e = absurd cc
  unspared_at false e = refl

  key_unspared : (xs : List X) → Apart o xs → AllByRecursion (λ x. is_spared l xs x ≡ false) (key_plan l xs)
  key_unspared xs apart =
      key_all (λ x. is_spared l xs x ≡ false) xs apart
      (weaker (λ x. not (is_spared l xs x) ≡ true) (λ x. is_spared l xs x ≡ false) (λ x e. unspared_at (is_spared l xs x) e) (unspared xs) (all_pass (λ x. not (is_spared l xs x)) xs))

  pub key_keeps : (xs : List X) → Apart o xs → KeepsEnough l xs
  key_keeps xs apart = record { none = key_none xs apart; many = key_many xs apart; left = key_left xs apart }

  -- ---- jars

  module _ (now : ℕ) where
    abbrev stale : List X → List X
    stale xs = filter (is_stale l now) xs

    pub jar_none : (xs : List X) → Apart o xs → length xs ≤ MOST_OF_JAR → jar_plan l now xs ≡ []
    jar_none xs apart few =
        jar_plan_is l o now xs apart ∙ ap (λ b. cond b [] (take (length xs - LEFT_OF_JAR) (jar_order l now xs))) (up_to (length xs) MOST_OF_JAR few)

    pub jar_front : (xs : List X) → Apart o xs → MOST_OF_JAR < length xs → jar_plan l now xs ≡ take (length xs - LEFT_OF_JAR) (jar_order l now xs)
    jar_front xs apart more =
        jar_plan_is l o now xs apart ∙ ap (λ b. cond b [] (take (length xs - LEFT_OF_JAR) (jar_order l now xs))) (past MOST_OF_JAR (length xs) more)

    jar_same : (xs : List X) → Same (stale xs) (jar_order l now xs)
    jar_same xs = moved_same (stale xs) (jar_order l now xs) (in_order_moves (plan_total l (jar_rounds l) o) (stale xs))

    pub jar_rises : (xs : List X) → Apart o xs → Rises (plan_total l (jar_rounds l) o) (jar_order l now xs)
    jar_rises xs apart =
        in_order_rises (plan_total l (jar_rounds l) o) (stale xs) (plan_apart l (jar_rounds l) o (stale xs) (kept_apart o (is_stale l now) xs apart))

    pub jar_members : (xs : List X) → AllByRecursion (Member xs) (jar_order l now xs)
    jar_members xs =
        weaker (Member (stale xs)) (Member xs) (λ x i. every_member (Member xs) (stale xs) x (all_kept (is_stale l now) xs) i) (jar_order l now xs) (jar_same xs).1

    pub jar_plan_rises : (xs : List X) → Apart o xs → Rises (plan_total l (jar_rounds l) o) (jar_plan l now xs)
    jar_plan_rises xs apart =
        subst (Rises (plan_total l (jar_rounds l) o)) (sym (jar_plan_is l o now xs apart))
        (elim (nat_le (length xs) MOST_OF_JAR) as (λ b. Rises (plan_total l (jar_rounds l) o) (cond b [] (take (length xs - LEFT_OF_JAR) (jar_order l now xs))))
        [ true ↦ tt | false ↦ take_rises (plan_total l (jar_rounds l) o) (length xs - LEFT_OF_JAR) (jar_order l now xs) (jar_rises xs apart) ])

    pub jar_plan_members : (xs : List X) → Apart o xs → AllByRecursion (Member xs) (jar_plan l now xs)
    jar_plan_members xs apart =
        subst (AllByRecursion (Member xs)) (sym (jar_plan_is l o now xs apart))
        (elim (nat_le (length xs) MOST_OF_JAR) as (λ b. AllByRecursion (Member xs) (cond b [] (take (length xs - LEFT_OF_JAR) (jar_order l now xs))))
        [ true ↦ tt | false ↦ take_all (Member xs) (length xs - LEFT_OF_JAR) (jar_order l now xs) (jar_members xs) ])

    sweeps_by : (xs : List X) → Apart o xs → MOST_OF_JAR < length xs → (b : Bool) → nat_le (length (jar_order l now xs)) (length xs - LEFT_OF_JAR) ≡ b
        → (length xs ≤ length (jar_plan l now xs) + MOST_OF_JAR) ⊎ (jar_plan l now xs ≡ jar_order l now xs)
    sweeps_by xs apart more true e =
        inr (jar_front xs apart more ∙ whole_front (length xs - LEFT_OF_JAR) (jar_order l now xs) (is_up_to (length (jar_order l now xs)) (length xs - LEFT_OF_JAR) e))
    sweeps_by xs apart more false e =
        let h = is_past (length xs - LEFT_OF_JAR) (length (jar_order l now xs)) e in
        let n = ap length (jar_front xs apart more) ∙ length_front (length xs - LEFT_OF_JAR) (jar_order l now xs) (omega (arith, h)) in
        inl (omega (arith, n, more))

    sweeps_at : (xs : List X) → Apart o xs → (b : Bool) → nat_le (length xs) MOST_OF_JAR ≡ b
        → (length xs ≤ length (jar_plan l now xs) + MOST_OF_JAR) ⊎ (jar_plan l now xs ≡ jar_order l now xs)
    sweeps_at xs apart true e = inl (omega (arith, is_up_to (length xs) MOST_OF_JAR e))
    sweeps_at xs apart false e =
        sweeps_by xs apart (is_past MOST_OF_JAR (length xs) e) (nat_le (length (jar_order l now xs)) (length xs - LEFT_OF_JAR)) refl

    -- a sweep takes none of up to 3,300, or leaves 3,000, or takes all that are stale
    pub sweeps : (xs : List X) → Apart o xs
        → (length xs ≤ length (jar_plan l now xs) + MOST_OF_JAR) ⊎ (jar_plan l now xs ≡ jar_order l now xs)
    sweeps xs apart = sweeps_at xs apart (nat_le (length xs) MOST_OF_JAR) refl

    -- a stale one is in the order of all who may go
    pub stale_goes : (xs : List X) (x : X) → Member xs x → is_stale l now x ≡ true → Member (jar_order l now xs) x
    stale_goes xs x i t = every_member (Member (jar_order l now xs)) (stale xs) x (jar_same xs).0 (kept_member (is_stale l now) xs x i t)

-- ---- the laws

pub keys_keep_enough : (X : Type 0) → KeysKeepEnough X
keys_keep_enough X l xs told = key_keeps l told.total xs (told_apart l told.total xs told.differ)

pub keys_go_in_rounds : (X : Type 0) → KeysGoInRounds X
keys_go_in_rounds X l xs told =
    let o = told.total in
    strictly (plan_total l (key_rounds l) o) (key_plan l xs) (key_plan_rises l o xs (told_apart l o xs told.differ))

pub no_spared_goes : (X : Type 0) → NoSparedGoes X
no_spared_goes X l xs told = key_unspared l told.total xs (told_apart l told.total xs told.differ)

stale_at : (b : Bool) → (b ≡ true → ⊥) → b ≡ false
stale_at true h = absurd (h refl)
stale_at false h = refl

not_any : (b : Bool) → not b ≡ true → b ≡ true → ⊥
not_any true e f = absurd cc
not_any false e f = absurd cc

module _ {X : Type 0} {S : X → X → Ordering} (s : IsTotalOrder S) (l : Looks X) (o : IsTotalOrder (access_cmp l)) (now : ℕ) where
  abbrev among : List X → X → Bool
  among gone x = list_any (λ y. is_eq (S x y)) gone

  fresh_at : (xs : List X) (x : X) → Member xs x → not (among (jar_order l now xs) x) ≡ true → is_stale l now x ≡ false
  fresh_at xs x i t =
      stale_at (is_stale l now x)
      (λ e. not_any (among (jar_order l now xs) x) t (any_there s x (jar_order l now xs) (stale_goes l o now xs x i e)))

  all_fresh : (xs ys : List X) → AllByRecursion (Member xs) ys → AllByRecursion (λ x. not (among (jar_order l now xs) x) ≡ true) ys → AllByRecursion (λ x. is_stale l now x ≡ false) ys
  all_fresh xs [] members pass = tt
  all_fresh xs (y ∷ ys) members pass = (fresh_at xs y members.0 pass.0, all_fresh xs ys members.1 pass.1)

  -- where all stale ones go, the fresh ones are left
  none_stale : (xs : List X) → AllByRecursion (λ x. is_stale l now x ≡ false) (filter (λ x. not (among (jar_order l now xs) x)) xs)
  none_stale xs =
      all_fresh xs (filter (λ x. not (among (jar_order l now xs) x)) xs) (all_kept (λ x. not (among (jar_order l now xs) x)) xs) (all_pass (λ x. not (among (jar_order l now xs) x)) xs)

  swept_by : (xs : List X) → Apart o xs → Apart s xs → (length xs ≤ length (jar_plan l now xs) + MOST_OF_JAR) ⊎ (jar_plan l now xs ≡ jar_order l now xs)
      → (length (filter (λ x. not (among (jar_plan l now xs) x)) xs) ≤ MOST_OF_JAR) ⊎ AllByRecursion (λ x. is_stale l now x ≡ false) (filter (λ x. not (among (jar_plan l now xs) x)) xs)
  swept_by xs apart told (inl many) =
      let members = jar_plan_members l o now xs apart in
      let gone = row_apart s (plan_total l (jar_rounds l) o) xs (jar_plan l now xs) told members (jar_plan_rises l o now xs apart) in
      inl (omega (arith, many, fewer_left s (jar_plan l now xs) xs gone told members))
  swept_by xs apart told (inr all) =
      inr (subst (λ gone. AllByRecursion (λ x. is_stale l now x ≡ false) (filter (λ x. not (among gone x)) xs)) (sym all) (none_stale xs))

  -- what a sweep leaves, in whatever order the elements are told apart
  pub left_swept : (xs : List X) → Apart o xs → Apart s xs
      → (length (filter (λ x. not (among (jar_plan l now xs) x)) xs) ≤ MOST_OF_JAR) ⊎ AllByRecursion (λ x. is_stale l now x ≡ false) (filter (λ x. not (among (jar_plan l now xs) x)) xs)
  left_swept xs apart told = swept_by xs apart told (sweeps l o now xs apart)

pub jars_are_swept : (X : Type 0) → JarsAreSwept X
jars_are_swept X l now xs told =
    let o = told.total in
    let apart = told_apart l o xs told.differ in left_swept o l o now xs apart apart

same_key : {X : Type 0} (l : Looks X) (o : IsTotalOrder (access_cmp l)) (xs ys : List X) → Apart o xs → Apart o ys → IsPermutation xs ys → key_plan l ys ≡ key_plan l xs
same_key l o xs ys apart apart' moved =
    key_plan_is l o ys apart'
    ∙ ap (λ n. cond (nat_le n MOST_OF_KEY) [] (take (n - LEFT_OF_KEY) (key_order l ys))) (length_permutation xs ys moved)
    ∙ ap (λ row. cond (nat_le (length xs) MOST_OF_KEY) [] (take (length xs - LEFT_OF_KEY) row)) (key_order_moved l o xs ys apart moved)
    ∙ sym (key_plan_is l o xs apart)

same_jar : {X : Type 0} (l : Looks X) (o : IsTotalOrder (access_cmp l)) (xs ys : List X) → Apart o xs → Apart o ys → IsPermutation xs ys → (now : ℕ) → jar_plan l now ys ≡ jar_plan l now xs
same_jar l o xs ys apart apart' moved now =
    jar_plan_is l o now ys apart'
    ∙ ap (λ n. cond (nat_le n MOST_OF_JAR) [] (take (n - LEFT_OF_JAR) (jar_order l now ys))) (length_permutation xs ys moved)
    ∙ ap (λ row. cond (nat_le (length xs) MOST_OF_JAR) [] (take (length xs - LEFT_OF_JAR) row)) (jar_order_moved l o now xs ys apart moved)
    ∙ sym (jar_plan_is l o now xs apart)

pub plans_forget_order : (X : Type 0) → PlansForgetOrder X
plans_forget_order X l xs ys told moved =
    let o = told.total in
    let apart = told_apart l o xs told.differ in
    let apart' = moved_apart o xs ys apart moved in record { key = same_key l o xs ys apart apart' moved; jar = same_jar l o xs ys apart apart' moved }
