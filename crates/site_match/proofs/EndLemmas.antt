-- Texts that begin or end with another, and what stands before their last slash.
use Rattle.std.proofs.Common.{ℕ, ◌+◌, ◌-◌, ◌<◌, ◌≡◌, Bool, true, false, List, [], ◌∷◌, ◌++◌, length, take, drop, get_or, refl, ap, sym, ◌∙◌, eqb, arith, lit<}
use Rattle.std.specs.Prelude.{not, ◌≢◌, None}
use Rattle.std.specs.List.{starts_with, ends_with, suffix_len, before_last}
use Rattle.std.specs.Str.Pattern.{RFindsChar, SplitsAroundMatch}
use Rattle.std.proofs.lemmas.Bool.Decides.{Decides-eqb, nat_tests}
use Rattle.std.proofs.lemmas.List.{append_cancel_right, append_assoc}
use Rattle.std.proofs.lemmas.List.Sums.{suffix_len_is}
use Rattle.std.proofs.lemmas.Slice.Eq.{starts_is, ends_is}
use Rattle.std.proofs.lemmas.Str.Pattern.{NoCharPasses-char}
use Rattle.std.proofs.lemmas.List.{length-drop, get_or-drop}

-- two tests that agree where either is true are one
same_by : (a b : Bool) → (a ≡ true → b ≡ true) → (b ≡ true → a ≡ true) → a ≡ b
same_by true b to from = sym (to refl)
same_by false true to from = from refl
same_by false false to from = refl

-- a byte before an end is the last one before it
shifted : (front end : List ℕ) (c : ℕ) → (front ++ c ∷ []) ++ end ≡ front ++ c ∷ end
shifted front end c = append_assoc front (c ∷ []) end

-- a text with this end ends with a byte and it just where what stands before it ends with the byte
pub ends_with-cons : (c : ℕ) (text end front : List ℕ) → text ≡ front ++ end → ends_with eqb front (c ∷ []) ≡ ends_with eqb text (c ∷ end)
ends_with-cons c text end front whole =
    let below = ends_is Decides-eqb front (c ∷ []) (ends_with eqb front (c ∷ [])) refl in
    let all = ends_is Decides-eqb text (c ∷ end) (ends_with eqb text (c ∷ end)) refl in
    same_by (ends_with eqb front (c ∷ [])) (ends_with eqb text (c ∷ end))
    (λ ends. all.1 (take (length front - 1) front) (whole ∙ ap (λ (xs : List ℕ). xs ++ end) (below.0 ends) ∙ shifted (take (length front - 1) front) end c))
    (λ ends. below.1 (take (length text - length (c ∷ end)) text)
    (append_cancel_right front (take (length text - length (c ∷ end)) text ++ c ∷ []) end (sym whole ∙ all.0 ends ∙ sym (shifted (take (length text - length (c ∷ end)) text) end c))))

-- a text without this end doesn't end with a byte and it
pub ends_with-none : (c : ℕ) (text end : List ℕ) → ((front : List ℕ) → text ≢ front ++ end) → false ≡ ends_with eqb text (c ∷ end)
ends_with-none c text end other =
    let all = ends_is Decides-eqb text (c ∷ end) (ends_with eqb text (c ∷ end)) refl in
    let kept : List ℕ = take (length text - length (c ∷ end)) text in
    same_by false (ends_with eqb text (c ∷ end)) (λ e. absurd (cc)) (λ ends. absurd (other (take (length text - length (c ∷ end)) text ++ c ∷ []) (all.0 ends ∙ sym (shifted (take (length text - length (c ∷ end)) text) end c))))

-- a front and a rest begin with the front
pub starts_with-front : (text front rest : List ℕ) → text ≡ front ++ rest → starts_with eqb text front ≡ true
starts_with-front text front rest whole =
    (starts_is Decides-eqb text front (starts_with eqb text front) refl).1 rest whole

-- a text that isn't a front and a rest doesn't begin with the front
pub starts_with-none : (text front : List ℕ) → ((rest : List ℕ) → text ≢ front ++ rest) → false ≡ starts_with eqb text front
starts_with-none text front other =
    let all = starts_is Decides-eqb text front (starts_with eqb text front) refl in
    same_by false (starts_with eqb text front) (λ e. absurd (cc)) (λ starts. absurd (other (drop (length front) text) (all.0 starts)))

not_same : (x y : ℕ) → (x ≡ y → ⊥) → not (eqb x y) ≡ true
not_same x y other = grind (arith, nat_tests)

same : (x y : ℕ) → x ≡ y → not (eqb x y) ≡ false
same x y one = grind (arith, nat_tests)

-- what stands before the last slash, by its place
before_last-at : (path : List ℕ) (i : ℕ) → i < length path → get_or path i 0 ≡ 47 → ((k : ℕ) → i < k → k < length path → get_or path k 0 ≡ 47 → ⊥) → take i path ≡ before_last (λ b. eqb b 47) path
before_last-at path i within slash none =
    let back : i + 1 - 1 ≡ i = omega arith in
    let last : get_or path (i + 1 - 1) 0 ≡ 47 = ap (λ (k : ℕ). get_or path k 0) back ∙ slash in
    let len : suffix_len (λ b. not (eqb b 47)) path ≡ length path - (i + 1) =
    suffix_len_is (λ b. not (eqb b 47)) path (i + 1) 0 (omega arith) (λ k from below. not_same (get_or path k 0) 47 (none k (omega arith) below)) (λ _. same (get_or path (i + 1 - 1) 0) 47 last) in
    let end : i ≡ length path - suffix_len (λ b. not (eqb b 47)) path - 1 = omega arith in
    ap (λ (k : ℕ). take k path) end

-- what a split at the last slash has in front stands before it
pub before_last-split : (path front back : List ℕ) → SplitsAroundMatch (RFindsChar 47) path front back → front ≡ before_last (λ b. eqb b 47) path
before_last-split path front back (i, j, found, is_front, is_back, order, front_length, back_length) =
    let behind : j ≡ i + 1 = found.1.ends in
    let none : (k : ℕ) → i < k → k < length path → get_or path k 0 ≡ 47 → ⊥ =
    λ k after below slash.
    let place : j + (k - j) ≡ k = omega arith in
    NoCharPasses-char 47 (drop j path) (k - j) found.0 (lit< tt) (simp length-drop (omega arith)) (get_or-drop j path (k - j) 0 ∙ ap (λ (n : ℕ). get_or path n 0) place ∙ slash) in
    is_front ∙ before_last-at path i (omega arith) (found.1.byte (lit< tt)) none

-- nothing stands before the last slash where there is none
pub before_last-none : (path : List ℕ) → RFindsChar 47 path None → [] ≡ before_last (λ b. eqb b 47) path
before_last-none path none =
    let len : suffix_len (λ b. not (eqb b 47)) path ≡ length path - 0 =
    suffix_len_is (λ b. not (eqb b 47)) path 0 0 (omega arith) (λ k from below. not_same (get_or path k 0) 47 (NoCharPasses-char 47 path k none (lit< tt) below)) (λ some. absurd (omega arith)) in
    let end : 0 ≡ length path - suffix_len (λ b. not (eqb b 47)) path - 1 = omega arith in
    ap (λ (k : ℕ). take k path) end
