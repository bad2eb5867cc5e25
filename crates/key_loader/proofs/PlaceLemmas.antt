-- Places of keys that rise: each tells its key from the others.
use Rattle.std.proofs.Common.{◌≡◌, ℕ, ◌<◌, List, [], ◌∷◌, Bool, true, false, ◌||◌, not, cond, ◌⊎◌, inl, inr, length, refl, sym, ap, ◌∙◌, subst, arith}
use Rattle.std.specs.Prelude.{◌+◌, filter, nat_eq}
use Rattle.std.specs.List.Sorted.{IsStrictlySortedBy}
use Rattle.std.specs.Str.{bytes_eq}
use Rattle.std.specs.declared.cmp.Ordering.TheVariants.{Less, Greater}
use Rattle.std.proofs.lemmas.Bool.{cases_order, eq-eqb, ne_eqb, false_from_ne_true}
use Rattle.std.proofs.lemmas.List.Folds.{list_any_at}
use Rattle.std.proofs.lemmas.Map.Keys.{Less-from_sorted}
use Rattle.jar_types.specs.Ids.{text_cmp}
use Rattle.jar_types.specs.Loads.{has_text, without_text}
use Rattle.key_loader.specs.Places.{key_at, keys_at, has_place, without_place, times}
use Rattle.key_loader.proofs.OrderLemmas.{apart, flipped, same_text, neither}

-- keys at two places are the same just where the places are
same_key_at : (keys : List (List ℕ)) (i j : ℕ) → IsStrictlySortedBy text_cmp keys → i < length keys → j < length keys
    → (i ≡ j) ⊎ ((i < j) ⊎ (j < i)) → bytes_eq (key_at keys i) (key_at keys j) ≡ nat_eq i j
same_key_at keys i j rises i_in j_in (inl e) =
    subst (λ k. bytes_eq (key_at keys i) (key_at keys k) ≡ nat_eq i k) e (same_text (key_at keys i) ∙ sym (eq-eqb i i refl))
same_key_at keys i j rises i_in j_in (inr (inl less)) =
    apart (key_at keys i) (key_at keys j) Less (Less-from_sorted text_cmp keys i j [] rises less j_in) refl
    ∙ sym (ne_eqb i j (λ e. absurd (omega arith)))
same_key_at keys i j rises i_in j_in (inr (inr more)) =
    apart (key_at keys i) (key_at keys j) Greater
    (flipped (key_at keys j) (key_at keys i) Less (Less-from_sorted text_cmp keys j i [] rises more i_in)) refl
    ∙ sym (ne_eqb i j (λ e. absurd (omega arith)))

pub same_key : (keys : List (List ℕ)) (i j : ℕ) → IsStrictlySortedBy text_cmp keys → i < length keys → j < length keys
    → bytes_eq (key_at keys i) (key_at keys j) ≡ nat_eq i j
same_key keys i j rises i_in j_in = same_key_at keys i j rises i_in j_in (cases_order i j)

-- ---- places below the number of keys

-- 1 where a test passes
abbrev pub one_if : Bool → ℕ
one_if b = cond b 1 0

-- each of these places is that of one of so many keys
abbrev pub AreBelow : ℕ → List ℕ → Type 0
AreBelow n places = (i : ℕ) → 0 < times i places → i < n

pub times_first : (i p : ℕ) (ps : List ℕ) → times i (p ∷ ps) ≡ one_if (nat_eq i p) + times i ps
times_first i p ps =
    elim (nat_eq i p) as (λ b. length (cond b (p ∷ filter (nat_eq i) ps) (filter (nat_eq i) ps)) ≡ one_if b + times i ps)
    [ true ↦ omega arith | false ↦ omega arith ]

pub times_own : (p : ℕ) (ps : List ℕ) → 0 < times p (p ∷ ps)
times_own p ps =
    let one : one_if (nat_eq p p) ≡ 1 = ap one_if (eq-eqb p p refl) in
    omega (arith, times_first p p ps)

pub first_below : (n p : ℕ) (ps : List ℕ) → AreBelow n (p ∷ ps) → p < n
first_below n p ps below = below p (times_own p ps)

pub rest_below : (n p : ℕ) (ps : List ℕ) → AreBelow n (p ∷ ps) → AreBelow n ps
rest_below n p ps below = λ i there. below i (omega (arith, times_first i p ps))

-- ---- a key at a place among others

pub any_at : (keys : List (List ℕ)) (p : ℕ) (ps : List ℕ) → IsStrictlySortedBy text_cmp keys → p < length keys
    → AreBelow (length keys) ps → has_text (key_at keys p) (keys_at keys ps) ≡ has_place p ps
any_at keys p [] rises p_in below = refl
any_at keys p (q ∷ qs) rises p_in below =
    ap (λ b. b || has_text (key_at keys p) (keys_at keys qs)) (same_key keys p q rises p_in (first_below (length keys) q qs below))
    ∙ ap (λ b. nat_eq p q || b) (any_at keys p qs rises p_in (rest_below (length keys) q qs below))

without_first : (keys : List (List ℕ)) (q : ℕ) (qs : List ℕ) (b : Bool)
    → cond (not b) (key_at keys q ∷ keys_at keys qs) (keys_at keys qs) ≡ keys_at keys (cond (not b) (q ∷ qs) qs)
without_first keys q qs true = refl
without_first keys q qs false = refl

pub without_at : (keys : List (List ℕ)) (p : ℕ) (ps : List ℕ) → IsStrictlySortedBy text_cmp keys → p < length keys
    → AreBelow (length keys) ps → without_text (key_at keys p) (keys_at keys ps) ≡ keys_at keys (without_place p ps)
without_at keys p [] rises p_in below = refl
without_at keys p (q ∷ qs) rises p_in below =
    let rest = without_text (key_at keys p) (keys_at keys qs) in
    ap (λ b. cond (not b) (key_at keys q ∷ rest) rest) (same_key keys p q rises p_in (first_below (length keys) q qs below))
    ∙ ap (λ ks. cond (not (nat_eq p q)) (key_at keys q ∷ ks) ks) (without_at keys p qs rises p_in (rest_below (length keys) q qs below))
    ∙ without_first keys q (without_place p qs) (nat_eq p q)

-- ---- a key that isn't there

other_at : (key : List ℕ) (keys : List (List ℕ)) (i : ℕ) → has_text key keys ≡ false → i < length keys
    → bytes_eq key (key_at keys i) ≡ false
other_at key keys i missing i_in =
    false_from_ne_true (bytes_eq key (key_at keys i))
    (λ e. let there : has_text key keys ≡ true = list_any_at (bytes_eq key) keys i [] i_in e in absurd cc)

pub none_at : (key : List ℕ) (keys : List (List ℕ)) (ps : List ℕ) → has_text key keys ≡ false → AreBelow (length keys) ps
    → has_text key (keys_at keys ps) ≡ false
none_at key keys [] missing below = refl
none_at key keys (p ∷ ps) missing below =
    neither (bytes_eq key (key_at keys p)) (has_text key (keys_at keys ps))
    (other_at key keys p missing (first_below (length keys) p ps below))
    (none_at key keys ps missing (rest_below (length keys) p ps below))

pub apart_from : (a b : Bool) → (a || b) ≡ false → (a ≡ false) × (b ≡ false)
apart_from false b e = (refl, e)
apart_from true b e = absurd cc

pub without_missing : (key : List ℕ) (texts : List (List ℕ)) → has_text key texts ≡ false → without_text key texts ≡ texts
without_missing key [] missing = refl
without_missing key (x ∷ xs) missing =
    let both = apart_from (bytes_eq key x) (has_text key xs) missing in
    ap (λ b. cond (not b) (x ∷ without_text key xs) (without_text key xs)) both.0 ∙ ap (λ ks. x ∷ ks) (without_missing key xs both.1)
