-- Escaping, character by character.
use Rattle.std.proofs.Common.{append-nil, refl, ◌≡◌, ◌≢◌, ℕ, suc, ◌<◌, List, [], ◌∷◌, ◌++◌, length, get_or, ap, sym, ◌∙◌, arith, append_assoc}
use Rattle.std.proofs.Math.Utf8.{encode}
use Rattle.std.proofs.lemmas.Str.{inside_one}
use Rattle.std.proofs.lemmas.Grind.{common_steps}
use Rattle.json_form.specs.Paths.{escape, escape_byte}

-- what stands behind one another is escaped apart
pub escape-append : (xs ys : List ℕ) → escape (xs ++ ys) ≡ escape xs ++ escape ys
escape-append [] ys = refl
escape-append (x ∷ xs) ys = ap (λ e. escape_byte x ++ e) (escape-append xs ys) ∙ sym (append_assoc (escape_byte x) (escape xs) (escape ys))

byte_plain : (b : ℕ) → b ≢ 126 → b ≢ 47 → escape_byte b ≡ b ∷ []
byte_plain b not_tilde not_slash = grind (arith, common_steps)

-- bytes that are neither `~` nor `/` stay
escape_plain : (bs : List ℕ) → ((k : ℕ) → k < length bs → (get_or bs k 0 ≢ 126) × (get_or bs k 0 ≢ 47)) → escape bs ≡ bs
escape_plain [] plain = refl
escape_plain (b ∷ bs) plain =
    let first = plain 0 (omega arith) in
    let rest : escape bs ≡ bs = escape_plain bs (λ k h. plain (suc k) (omega arith)) in
    rw (byte_plain b first.0 first.1, rest) refl

-- a character that is neither stays
pub escape_other : (c : ℕ) → c ≢ 126 → c ≢ 47 → escape (encode c) ≡ encode c
escape_other c not_tilde not_slash =
    escape_plain (encode c) (λ k h. (
      λ is. not_tilde (inside_one c [] (encode c) k (sym (append-nil (encode c))) h (omega (arith, is)) ∙ is),
      λ is. not_slash (inside_one c [] (encode c) k (sym (append-nil (encode c))) h (omega (arith, is)) ∙ is),
    ))

-- one more character is escaped, and what is left still gives the whole
pub one_more : (path next character left rest whole : List ℕ) → path ++ escape left ≡ whole → left ≡ character ++ rest → next ≡ path ++ escape character → next ++ escape rest ≡ whole
one_more path next character left rest whole before split pushed =
    rw (pushed, append_assoc path (escape character) (escape rest), ← escape-append character rest, ← split) before

-- nothing is left
pub none_left : (path left whole : List ℕ) → path ++ escape left ≡ whole → length left ≡ 0 → path ≡ whole
none_left path [] whole before none = sym (append-nil path) ∙ before
none_left path (b ∷ bs) whole before none = absurd (omega arith)
