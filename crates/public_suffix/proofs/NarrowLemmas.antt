-- What a part of a list between two places has, and what lists in another order have.
use Rattle.std.proofs.Common.{◌≡◌, ℕ, zero, suc, ◌+◌, ◌-◌, ◌<◌, ◌≤◌, Bool, true, false, cond, List, [], ◌∷◌, length, get_or, take, drop, refl, sym, ap, ◌∙◌, arith}
use Rattle.std.specs.Prelude.{◌==◌, ◌&&◌, ◌||◌, not, nat_lt, nat_le, filter}
use Rattle.std.specs.List.{AllByRecursion, list_any}
use Rattle.std.specs.List.Sorted.{IsPermutation, IsNonDecreasingBy, IsPartitionedBy, IsPartitionPoint}
use Rattle.std.proofs.lemmas.Bool.Decides.{nat_tests}
use Rattle.std.proofs.lemmas.List.{length-drop, get_or-drop}
use Rattle.std.proofs.lemmas.List.Elements.{All-from_recursion, recursion_from_All}
use Rattle.std.proofs.lemmas.List.Sorted.{All-permutation, IsPermutation-sym}
use Rattle.public_suffix.specs.declared.rule.Mark.{Mark}
use Rattle.public_suffix.specs.declared.rule.Mark.TheVariants.{Plain, Wildcard, Exception}
use Rattle.public_suffix.specs.Steps.{mark_step}
use Rattle.public_suffix.specs.Tables.{has_mark}

not_none : (n : ℕ) → not (suc n == 0) ≡ true
not_none n = grind (arith, nat_tests)

module _ {X : Type 0} (p : X → Bool) where
  -- a part of a list is what passes where all in it pass and none outside
  pub window : (xs : List X) (s e : ℕ) → s + e ≤ length xs → ((k : ℕ) (d : X) → k < s → p (get_or xs k d) ≡ false) → ((k : ℕ) (d : X) → s ≤ k → k < s + e → p (get_or xs k d) ≡ true) → ((k : ℕ) (d : X) → s + e ≤ k → k < length xs → p (get_or xs k d) ≡ false) → take e (drop s xs) ≡ filter p xs
  window [] zero zero fits before inside after = refl
  window [] zero (suc e) fits before inside after = absurd (omega arith)
  window [] (suc s) e fits before inside after = absurd (omega arith)
  window (x ∷ xs) zero zero fits before inside after =
      let here = after 0 x (omega arith) (omega arith) in
      rw here (window xs zero zero (omega arith) (λ k d low. absurd (omega arith)) (λ k d low high. absurd (omega arith)) (λ k d low high. after (suc k) d (omega arith) (omega arith)))
  window (x ∷ xs) zero (suc e) fits before inside after =
      let here = inside 0 x (omega arith) (omega arith) in
      rw here (ap (λ (l : List X). x ∷ l) (window xs zero e (omega arith) (λ k d low. absurd (omega arith)) (λ k d low high. inside (suc k) d (omega arith) (omega arith)) (λ k d low high. after (suc k) d (omega arith) (omega arith))))
  window (x ∷ xs) (suc s) e fits before inside after =
      let here = before 0 x (omega arith) in
      rw here (window xs s e (omega arith) (λ k d low. before (suc k) d (omega arith)) (λ k d low high. inside (suc k) d (omega arith) (omega arith)) (λ k d low high. after (suc k) d (omega arith) (omega arith)))

  -- something passes where what passes isn't empty
  pub some_left : (xs : List X) → not (length (filter p xs) == 0) ≡ list_any p xs
  some_left [] = refl
  some_left (x ∷ xs) =
      elim (p x) as (λ b. not (length (cond b (x ∷ filter p xs) (filter p xs)) == 0) ≡ (b || list_any p xs)) [
        | true ↦ not_none (length (filter p xs))
        | false ↦ some_left xs
      ]

  none_all : (xs : List X) → list_any p xs ≡ false → AllByRecursion (λ x. p x ≡ false) xs
  none_all [] none = tt
  none_all (x ∷ xs) none = (or_first (p x) (list_any p xs) none, none_all xs (or_second (p x) (list_any p xs) none))
    where
      or_first : (a b : Bool) → (a || b) ≡ false → a ≡ false
      or_first true b e = absurd (cc)
      or_first false b e = refl

      or_second : (a b : Bool) → (a || b) ≡ false → b ≡ false
      or_second true b e = absurd (cc)
      or_second false b e = e

  all_none : (xs : List X) → AllByRecursion (λ x. p x ≡ false) xs → list_any p xs ≡ false
  all_none [] all = refl
  all_none (x ∷ xs) all = rw all.0 (all_none xs all.1)

  moved_none : (xs ys : List X) → IsPermutation xs ys → list_any p xs ≡ false → list_any p ys ≡ false
  moved_none xs ys moved none =
      all_none ys (recursion_from_All (λ x. p x ≡ false) ys (All-permutation (λ x. p x ≡ false) xs ys moved (All-from_recursion (λ x. p x ≡ false) xs (none_all xs none))))

  same_by_none : (a b : Bool) → (a ≡ false → b ≡ false) → (b ≡ false → a ≡ false) → b ≡ a
  same_by_none true true to from = refl
  same_by_none false b to from = to refl
  same_by_none true false to from = sym (from refl)

  -- in another order the same pass
  pub moved_any : (xs ys : List X) → IsPermutation xs ys → list_any p ys ≡ list_any p xs
  moved_any xs ys moved = same_by_none (list_any p xs) (list_any p ys) (moved_none xs ys moved) (moved_none ys xs (IsPermutation-sym xs ys moved))

-- what passes two tests is what passes one, of what passes the other
pub filter-both : {X : Type 0} (p q r : X → Bool) → ((x : X) → r x ≡ (p x && q x)) → (xs : List X) → filter q (filter p xs) ≡ filter r xs
filter-both p q r both [] = refl
filter-both {X} p q r both (x ∷ xs) = at (p x) (q x) (r x) (both x) (filter-both p q r both xs) refl
  where
    at : (a b c : Bool) → c ≡ (a && b) → filter q (filter p xs) ≡ filter r xs → q x ≡ b → filter q (cond a (x ∷ filter p xs) (filter p xs)) ≡ cond c (x ∷ filter r xs) (filter r xs)
    at false b c is rest here = rw is rest
    at true true c is rest here = rw (is, here) (ap (λ (l : List X). x ∷ l) rest)
    at true false c is rest here = rw (is, here) rest

-- what of some passes a test is any that passes both
pub any_filtered : {X : Type 0} (p q r : X → Bool) → ((x : X) → r x ≡ (p x && q x)) → (xs : List X) → list_any q (filter p xs) ≡ list_any r xs
any_filtered p q r both [] = refl
any_filtered {X} p q r both (x ∷ xs) = at (p x) (r x) (both x) (any_filtered p q r both xs)
  where
    at : (a c : Bool) → c ≡ (a && q x) → list_any q (filter p xs) ≡ list_any r xs → list_any q (cond a (x ∷ filter p xs) (filter p xs)) ≡ (c || list_any r xs)
    at false c is rest = rw is rest
    at true c is rest = rw is (ap (λ (b : Bool). q x || b) rest)

lt_falls : (a b n : ℕ) → a ≤ b → nat_lt b n ≡ true → nat_lt a n ≡ true
lt_falls a b n le lt = grind (arith, nat_tests)

le_falls : (a b n : ℕ) → a ≤ b → nat_le b n ≡ true → nat_le a n ≡ true
le_falls a b n le up = grind (arith, nat_tests)

lt_other : (a n : ℕ) → nat_lt a n ≡ true → (a == n) ≡ false
lt_other a n lt = grind (arith, nat_tests)

gt_other : (a n : ℕ) → nat_le a n ≡ false → (a == n) ≡ false
gt_other a n gt = grind (arith, nat_tests)

between_same : (a n : ℕ) → nat_lt a n ≡ false → nat_le a n ≡ true → (a == n) ≡ true
between_same a n low high = grind (arith, nat_tests)

module _ {X : Type 0} (f : X → ℕ) (n : ℕ) where
  pub parted_lt : (xs : List X) → IsNonDecreasingBy f xs → IsPartitionedBy (λ x. nat_lt (f x) n) xs
  parted_lt xs up i j d le lt = lt_falls (f (get_or xs i d)) (f (get_or xs j d)) n (up i j d le lt)

  pub parted_le : (xs from : List X) (s : ℕ) → IsNonDecreasingBy f xs → s ≤ length xs → from ≡ drop s xs → IsPartitionedBy (λ x. nat_le (f x) n) from
  parted_le xs from s up fits is = rw is (λ i j d le lt. le_falls (f (get_or (drop s xs) i d)) (f (get_or (drop s xs) j d)) n
      (rw (get_or-drop s xs i d, get_or-drop s xs j d) (up (s + i) (s + j) d (omega arith) (omega (arith, length-drop s xs)))))

  -- between the first that isn't below a number and the first past it are those that have it
  pub narrowed : (xs : List X) (s e : ℕ) → s ≤ length xs → e ≤ length (drop s xs) → IsPartitionPoint (λ x. nat_lt (f x) n ≡ true) (λ x. nat_lt (f x) n ≡ false) xs s → IsPartitionPoint (λ x. nat_le (f x) n ≡ true) (λ x. nat_le (f x) n ≡ false) (drop s xs) e → take e (drop s xs) ≡ filter (λ x. f x == n) xs
  narrowed xs s e start end low high =
      let at : (k : ℕ) (d : X) → s ≤ k → get_or (drop s xs) (k - s) d ≡ get_or xs k d =
      λ k d from. get_or-drop s xs (k - s) d ∙ (let back : s + (k - s) ≡ k = omega arith in ap (λ (m : ℕ). get_or xs m d) back) in
      window (λ x. f x == n) xs s e (omega (arith, length-drop s xs))
      (λ k d below. lt_other (f (get_or xs k d)) n (low.0 k d (omega arith) below))
      (λ k d from below. between_same (f (get_or xs k d)) n (low.1 k d from (omega (arith, length-drop s xs))) (ap (λ (x : X). nat_le (f x) n) (sym (at k d from)) ∙ high.0 (k - s) d (omega arith) (omega arith)))
      (λ k d from below. gt_other (f (get_or xs k d)) n (ap (λ (x : X). nat_le (f x) n) (sym (at k d (omega arith))) ∙ high.1 (k - s) d (omega arith) (omega (arith, length-drop s xs))))

-- marks have one exactly where its step is had
pub marks_by : (has : ℕ → Bool) (plain wildcard exception : Bool) (mark : Mark) → plain ≡ has 1 → wildcard ≡ has 2 → exception ≡ has 3 → has_mark mark (record { plain = plain; wildcard = wildcard; exception = exception }) ≡ has (mark_step mark)
marks_by has plain wildcard exception Plain p w e = p
marks_by has plain wildcard exception Wildcard p w e = w
marks_by has plain wildcard exception Exception p w e = e
