-- The text of an answer with one cookie more.
use Rattle.std.proofs.Common.{◌≡◌, ◌+◌, ◌<◌, ℕ, zero, suc, List, [], ◌∷◌, ◌++◌, length, get_or, take, true, refl, ap, ◌∙◌, sym, append_assoc, arith}
use Rattle.std.specs.Prelude.{codes, map, nat_lt, if◌then◌else◌}
use Rattle.jar_types.specs.declared.cookie.Cookie.{Cookie}
use Rattle.jar_types.specs.Answers.{joined, pair_text}

-- the parts, and one part more
joined_more : (x : List ℕ) (xs : List (List ℕ)) (y : List ℕ) → joined ((x ∷ xs) ++ y ∷ []) ≡ (joined (x ∷ xs) ++ codes "; ") ++ y
joined_more x [] y = refl
joined_more x (z ∷ zs) y =
    ap (λ more. (x ++ codes "; ") ++ more) (joined_more z zs y)
    ∙ sym (append_assoc (x ++ codes "; ") (joined (z ∷ zs) ++ codes "; ") y)
    ∙ ap (λ more. more ++ y) (sym (append_assoc (x ++ codes "; ") (joined (z ∷ zs)) (codes "; ")))

-- what was taken, and one more
taken_more : (cs : List Cookie) (i : ℕ) (c : Cookie) → i < length cs → c ≡ get_or cs i c
    → map pair_text (take (i + 1) cs) ≡ map pair_text (take i cs) ++ pair_text c ∷ []
taken_more [] i c fits is = absurd (omega (arith, fits))
taken_more (d ∷ ds) zero c fits is = ap (λ e. pair_text e ∷ []) (sym is)
taken_more (d ∷ ds) (suc i) c fits is =
    let one : suc i + 1 ≡ suc (i + 1) = omega arith in
    rw one (ap (λ rest. pair_text d ∷ rest) (taken_more ds i c (omega (arith, fits)) is))

-- what stands before the cookie at a place
abbrev pub separator : ℕ → List ℕ
separator place = if nat_lt 0 place then codes "; " else []

-- the text with one cookie more
pub text_more : (cs : List Cookie) (i : ℕ) (c : Cookie) → i < length cs → c ≡ get_or cs i c
    → (joined (map pair_text (take i cs)) ++ separator i) ++ pair_text c ≡ joined (map pair_text (take (i + 1) cs))
text_more [] i c fits is = absurd (omega (arith, fits))
text_more (d ∷ ds) zero c fits is = ap pair_text is
text_more (d ∷ ds) (suc i) c fits is =
    let some : nat_lt 0 (suc i) ≡ true = grind arith in
    rw some (sym (ap joined (taken_more (d ∷ ds) (suc i) c fits is) ∙ joined_more (pair_text d) (map pair_text (take i ds)) (pair_text c)))
