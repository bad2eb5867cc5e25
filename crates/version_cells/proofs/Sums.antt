-- Sums over lists, words after a write, and cases on views.
use Rattle.std.proofs.Common.{◌≡◌, ◌≢◌, ◌<◌, ◌≤◌, ◌+◌, ℕ, zero, suc, List, [], ◌∷◌, ◌++◌, length, set, take, Bool, true, false, refl, sym, ap, subst, ⊎_elim, arith}
use Rattle.std.specs.Prelude.{slice_index}
use mathlib.Core.Option.{some, some-injective, some-ne-none}
use lib.ListN.{get_elem?}
use Rattle.atomic_table.proofs.Lists.{at_set, at_snoc}
use Rattle.version_cells.specs.Listings.{one, total}

module _ {A : Type 0} where
  pub total-append : (f : A → ℕ) (xs ys : List A) → total f (xs ++ ys) ≡ total f xs + total f ys
  total-append f [] ys = omega arith
  total-append f (x ∷ xs) ys = let ih = total-append f xs ys in omega arith

  pub total_push : (f : A → ℕ) (xs : List A) (x : A) → total f (xs ++ x ∷ []) ≡ total f xs + f x
  total_push f [] x = omega arith
  total_push f (y ∷ xs) x = let ih = total_push f xs x in omega arith

  pub total-set : (f : A → ℕ) (xs : List A) (i : ℕ) (v w : A) → get_elem? xs i ≡ some v
      → total f (set xs i w) + f v ≡ total f xs + f w
  total-set f [] i v w e = absurd (some-ne-none v (sym e))
  total-set f (x ∷ xs) zero v w e = let same : f x ≡ f v = ap f (some-injective x v e) in omega arith
  total-set f (x ∷ xs) (suc i) v w e = let ih = total-set f xs i v w e in omega arith

  pub total_take : (f : A → ℕ) (n : ℕ) (xs : List A) → total f (take n xs) ≤ total f xs
  total_take f zero xs = omega arith
  total_take f (suc n) [] = omega arith
  total_take f (suc n) (x ∷ xs) = let ih = total_take f n xs in omega arith

  pub total_of_ones : (t : A → Bool) (xs : List A) → total (λ (x : A). one (t x)) xs ≤ length xs
  total_of_ones t [] = omega arith
  total_of_ones t (x ∷ xs) = let ih = total_of_ones t xs in let b = one_le (t x) in omega arith
    where
      one_le : (b : Bool) → one b ≤ 1
      one_le true = omega arith
      one_le false = omega arith

  -- what holds of each item, after a write and at one item more
  pub each_set : (P : ℕ → A → Type 0) (xs : List A) (i : ℕ) (w : A)
      → ((by : ℕ) (v : A) → get_elem? xs by ≡ some v → P by v) → P i w → (by : ℕ) (v : A)
      → get_elem? (set xs i w) by ≡ some v → P by v
  each_set P xs i w old new by v e = ⊎_elim
      (λ (h : (by ≡ i) × (w ≡ v)). subst (λ j. P j v) (sym h.0) (subst (P i) h.1 new))
      (λ (h : (by ≢ i) × (get_elem? xs by ≡ some v)). old by v h.1)
      (at_set xs i by w v e)

  pub each_set_else : (P : ℕ → A → Type 0) (xs : List A) (i : ℕ) (w : A)
      → ((by : ℕ) (v : A) → by ≢ i → get_elem? xs by ≡ some v → P by v) → P i w → (by : ℕ) (v : A)
      → get_elem? (set xs i w) by ≡ some v → P by v
  each_set_else P xs i w old new by v e = ⊎_elim
      (λ (h : (by ≡ i) × (w ≡ v)). subst (λ j. P j v) (sym h.0) (subst (P i) h.1 new))
      (λ (h : (by ≢ i) × (get_elem? xs by ≡ some v)). old by v h.0 h.1)
      (at_set xs i by w v e)

module _ {A : Type 0} where
  pub each_push : (P : ℕ → A → Type 0) (xs : List A) (w : A)
      → ((by : ℕ) (v : A) → get_elem? xs by ≡ some v → P by v) → ((by : ℕ) → P by w)
      → (by : ℕ) (v : A) → get_elem? (xs ++ w ∷ []) by ≡ some v → P by v
  each_push P xs w old new by v e = ⊎_elim (λ (h : get_elem? xs by ≡ some v). old by v h) (λ (h : w ≡ v). subst (P by) h (new by)) (at_snoc xs w v by e)

  pub total_at : (f : A → ℕ) (xs : List A) (i : ℕ) (v : A) → get_elem? xs i ≡ some v
      → f v ≤ total f xs
  total_at f [] i v e = absurd (some-ne-none v (sym e))
  total_at f (x ∷ xs) zero v e = let same : f x ≡ f v = ap f (some-injective x v e) in omega arith
  total_at f (x ∷ xs) (suc i) v e = let ih = total_at f xs i v e in omega arith

  pub two_at : (f : A → ℕ) (xs : List A) (i j : ℕ) (v w : A) → get_elem? xs i ≡ some v
      → get_elem? xs j ≡ some w → j ≢ i → f v + f w ≤ total f xs
  two_at f [] i j v w e h n = absurd (some-ne-none v (sym e))
  two_at f (x ∷ xs) zero zero v w e h n = absurd (n refl)
  two_at f (x ∷ xs) zero (suc j) v w e h n = let same : f x ≡ f v = ap f (some-injective x v e) in let k = total_at f xs j w h in omega arith
  two_at f (x ∷ xs) (suc i) zero v w e h n = let same : f x ≡ f w = ap f (some-injective x w h) in let k = total_at f xs i v e in omega arith
  two_at f (x ∷ xs) (suc i) (suc j) v w e h n = let ih = two_at f xs i j v w e h (λ e. n (ap suc e)) in omega arith

  pub none_of : (f : A → ℕ) (xs : List A) → ((j : ℕ) (w : A) → get_elem? xs j ≡ some w → f w ≡ 0)
      → total f xs ≡ 0
  none_of f [] h = refl
  none_of f (x ∷ xs) h = let a = h 0 x refl in let b = none_of f xs (λ j w. h (suc j) w) in omega arith

  -- one item alone weighs anything
  pub alone : (f : A → ℕ) (xs : List A) (i : ℕ) (v : A) → get_elem? xs i ≡ some v
      → ((j : ℕ) (w : A) → j ≢ i → get_elem? xs j ≡ some w → f w ≡ 0) → total f xs ≡ f v
  alone f [] i v e h = absurd (some-ne-none v (sym e))
  alone f (x ∷ xs) zero v e h = let same : f x ≡ f v = ap f (some-injective x v e) in let b = none_of f xs (λ j w. h (suc j) w (λ e. omega arith)) in omega arith
  alone f (x ∷ xs) (suc i) v e h = let a = h 0 x (λ e. omega arith) refl in let b = alone f xs i v e (λ j w n. h (suc j) w (λ e. n (omega arith))) in omega arith

-- numbers that move together
pub balance : (t u a b o p : ℕ) → u + a ≡ t + b → t ≡ o → b + o ≡ a + p → u ≡ p
balance t u a b o p h e k = omega arith

pub here : (ws : List ℕ) (i n : ℕ) → i < length ws → slice_index (set ws i n) i ≡ n
here [] i n h = absurd (omega arith)
here (x ∷ xs) zero n h = refl
here (x ∷ xs) (suc i) n h = here xs i n (omega arith)

pub elsewhere : (ws : List ℕ) (i j n : ℕ) → j ≢ i → slice_index (set ws i n) j ≡ slice_index ws j
elsewhere [] i j n h = refl
elsewhere (x ∷ xs) zero zero n h = absurd (h refl)
elsewhere (x ∷ xs) zero (suc j) n h = refl
elsewhere (x ∷ xs) (suc i) zero n h = refl
elsewhere (x ∷ xs) (suc i) (suc j) n h = elsewhere xs i j n (λ e. h (ap suc e))

pub risen : (ws : List ℕ) (i n : ℕ) → slice_index ws i ≤ n → (j : ℕ)
    → slice_index ws j ≤ slice_index (set ws i n) j
risen [] i n h j = omega arith
risen (x ∷ xs) zero n h zero = h
risen (x ∷ xs) zero n h (suc j) = omega arith
risen (x ∷ xs) (suc i) n h zero = omega arith
risen (x ∷ xs) (suc i) n h (suc j) = risen xs i n h j

pub unchanged : (ws : List ℕ) (i : ℕ) → set ws i (slice_index ws i) ≡ ws
unchanged [] i = refl
unchanged (x ∷ xs) zero = refl
unchanged (x ∷ xs) (suc i) = ap (λ (l : List ℕ). x ∷ l) (unchanged xs i)

pub sized : (ws : List ℕ) (i n : ℕ) → length (set ws i n) ≡ length ws
sized [] i n = refl
sized (x ∷ xs) zero n = refl
sized (x ∷ xs) (suc i) n = ap suc (sized xs i n)
