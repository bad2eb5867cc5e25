-- How often places are among others, and how many these are.
use Rattle.std.proofs.Common.{◌≡◌, ◌≢◌, ℕ, zero, suc, ◌<◌, ◌≤◌, List, [], ◌∷◌, ◌++◌, Bool, true, false, ◌||◌, not, cond, length, refl, sym, ap, ◌∙◌, arith}
use Rattle.std.specs.Prelude.{◌+◌, filter, nat_eq, nat_lt}
use Rattle.std.proofs.lemmas.Bool.{eqb-true, lt-ltb, ne_eqb}
use Rattle.std.proofs.lemmas.Bool.Decides.{nat_tests}
use Rattle.std.proofs.lemmas.List.{length-append}
use Rattle.std.proofs.lemmas.List.Elements.{filter-append}
use Rattle.key_loader.specs.Places.{has_place, without_place, times}
use Rattle.key_loader.proofs.PlaceLemmas.{AreBelow, one_if, times_first, first_below, rest_below}

there_at : (b rest : Bool) (n : ℕ) → (rest ≡ true → 0 < n) → (b || rest) ≡ true → 0 < one_if b + n
there_at true rest n more e = omega arith
there_at false rest n more e = let left : 0 < n = more e in omega arith

pub there : (p : ℕ) (ps : List ℕ) → has_place p ps ≡ true → 0 < times p ps
there p [] e = absurd cc
there p (q ∷ qs) e =
    let more : 0 < one_if (nat_eq p q) + times p qs = there_at (nat_eq p q) (has_place p qs) (times p qs) (there p qs) e in
    omega (arith, times_first p q qs)

missing_at : (b rest : Bool) (n : ℕ) → (rest ≡ false → n ≡ 0) → (b || rest) ≡ false → one_if b + n ≡ 0
missing_at true rest n none e = absurd cc
missing_at false rest n none e = let left : n ≡ 0 = none e in omega arith

pub missing : (p : ℕ) (ps : List ℕ) → has_place p ps ≡ false → times p ps ≡ 0
missing p [] e = refl
missing p (q ∷ qs) e =
    let none : one_if (nat_eq p q) + times p qs ≡ 0 = missing_at (nat_eq p q) (has_place p qs) (times p qs) (missing p qs) e in
    omega (arith, times_first p q qs)

pub times-append : (i : ℕ) (ps qs : List ℕ) → times i (ps ++ qs) ≡ times i ps + times i qs
times-append i ps qs = ap length (filter-append (nat_eq i) ps qs) ∙ length-append (filter (nat_eq i) ps) (filter (nat_eq i) qs)

-- one place
pub times_one : (i p : ℕ) → times i (p ∷ []) ≡ one_if (nat_eq i p)
times_one i p = omega (arith, times_first i p [])

-- ---- places without one

gone_at : (p q : ℕ) (qs : List ℕ) (b : Bool) → nat_eq p q ≡ b → times p (without_place p qs) ≡ 0
    → times p (cond (not b) (q ∷ without_place p qs) (without_place p qs)) ≡ 0
gone_at p q qs true e rest = rest
gone_at p q qs false e rest =
    let none : one_if (nat_eq p q) ≡ 0 = ap one_if e in
    omega (arith, times_first p q (without_place p qs))

pub gone : (p : ℕ) (ps : List ℕ) → times p (without_place p ps) ≡ 0
gone p [] = refl
gone p (q ∷ qs) = gone_at p q qs (nat_eq p q) refl (gone p qs)

left_at : (i p q : ℕ) (qs : List ℕ) (b : Bool) → nat_eq p q ≡ b → i ≢ p → times i (without_place p qs) ≡ times i qs
    → times i (cond (not b) (q ∷ without_place p qs) (without_place p qs)) ≡ times i (q ∷ qs)
left_at i p q qs true e other rest =
    let is_q : p ≡ q = eqb-true p q e in
    let none : one_if (nat_eq i q) ≡ 0 = ap one_if (ne_eqb i q (λ same. other (same ∙ sym is_q))) in
    omega (arith, times_first i q qs)
left_at i p q qs false e other rest = omega (arith, times_first i q qs, times_first i q (without_place p qs))

pub left : (i p : ℕ) (ps : List ℕ) → i ≢ p → times i (without_place p ps) ≡ times i ps
left i p [] other = refl
left i p (q ∷ qs) other = left_at i p q qs (nat_eq p q) refl other (left i p qs other)

-- ---- how many there are

abbrev below : ℕ → List ℕ → ℕ
below n places = length (filter (λ p. nat_lt p n) places)

below_first : (n p : ℕ) (ps : List ℕ) → below n (p ∷ ps) ≡ one_if (nat_lt p n) + below n ps
below_first n p ps =
    elim (nat_lt p n) as (λ b. length (cond b (p ∷ filter (λ q. nat_lt q n) ps) (filter (λ q. nat_lt q n) ps)) ≡ one_if b + below n ps)
    [ true ↦ omega arith | false ↦ omega arith ]

one_more : (n p : ℕ) → one_if (nat_lt p (n + 1)) ≡ one_if (nat_lt p n) + one_if (nat_eq n p)
one_more n p = grind (arith, nat_tests)

below_more : (n : ℕ) (ps : List ℕ) → below (n + 1) ps ≡ below n ps + times n ps
below_more n [] = refl
below_more n (p ∷ ps) =
    omega (arith, below_first (n + 1) p ps, below_first n p ps, times_first n p ps, one_more n p, below_more n ps)

below_none : (ps : List ℕ) → below 0 ps ≡ 0
below_none [] = refl
below_none (p ∷ ps) =
    let no : one_if (nat_lt p 0) ≡ 0 = grind (arith, nat_tests) in
    omega (arith, below_first 0 p ps, below_none ps)

all_below : (n : ℕ) (ps : List ℕ) → AreBelow n ps → below n ps ≡ length ps
all_below n [] at = refl
all_below n (p ∷ ps) at =
    let one : one_if (nat_lt p n) ≡ 1 = ap one_if (lt-ltb p n (first_below n p ps at)) in
    omega (arith, below_first n p ps, all_below n ps (rest_below n p ps at))

some_below : (n : ℕ) (ps : List ℕ) → below n ps ≤ length ps
some_below n [] = omega arith
some_below n (p ∷ ps) =
    let most : one_if (nat_lt p n) ≤ 1 = grind (arith, nat_tests) in
    omega (arith, below_first n p ps, some_below n ps)

-- where none of two lists together has a place more often than a third
abbrev pub AreAmong : List ℕ → List ℕ → List ℕ → Type 0
AreAmong xs ys zs = (i : ℕ) → times i xs + times i ys ≤ times i zs

fewer_below : (n : ℕ) (xs ys zs : List ℕ) → AreAmong xs ys zs → below n xs + below n ys ≤ below n zs
fewer_below zero xs ys zs among = omega (arith, below_none xs, below_none ys)
fewer_below (suc n) xs ys zs among =
    let e : suc n ≡ n + 1 = omega arith in
    rw e (omega (arith, below_more n xs, below_more n ys, below_more n zs, fewer_below n xs ys zs among, among n))

-- those two have no more than the third
pub fewer : (n : ℕ) (xs ys zs : List ℕ) → AreBelow n zs → AreAmong xs ys zs → length xs + length ys ≤ length zs
fewer n xs ys zs at among =
    let left_below : AreBelow n xs = λ i more. at i (omega (arith, among i)) in
    let right_below : AreBelow n ys = λ i more. at i (omega (arith, among i)) in
    omega (arith, all_below n xs left_below, all_below n ys right_below, some_below n zs, fewer_below n xs ys zs among)
