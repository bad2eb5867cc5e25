-- Parts of texts: no byte of a part is what no byte of the text is, and a trimmed text is trimmed.
use Rattle.std.proofs.Common.{◌≡◌, ℕ, zero, suc, ◌+◌, ◌-◌, ◌<◌, ◌≤◌, ⊎_elim, Bool, true, false, ◌||◌, not, cond, List, [], ◌∷◌, ◌++◌, length, take, drop, reverse, Option, Some, None, refl, sym, ap, ◌∙◌, subst, arith}
use Rattle.std.specs.Prelude.{nat_lt}
use Rattle.std.specs.List.{list_any, list_all, prefix_len, suffix_len, position_or_len, slice_split, onto_first}
use Rattle.std.proofs.Math.Seq.{drop-append_seam}
use Rattle.std.proofs.lemmas.Bool.{cases_lt}
use Rattle.std.proofs.lemmas.Bool.Decides.{nat_tests}
use Rattle.std.proofs.lemmas.List.{take-append-drop, length-take, length-drop, length-reverse, get_or-take, reverse-append}
use Rattle.std.proofs.lemmas.List.Folds.{list_any-append, list_any_none}
use Rattle.std.proofs.lemmas.List.Sums.{suffix_len-le-length, prefix_len_stops, prefix_len-drop_all, prefix_len-drop_no, fails_before_first}
use Rattle.jar_values.specs.Bytes.{is_blank}
use Rattle.jar_types.specs.Rows.{is_trimmed}
use Rattle.set_cookie_line.specs.Blanks.{without_front, trimmed}
use Rattle.set_cookie_line.specs.Cut.{cut_at}

-- ---- what no byte of a text is

-- of two tests that are false together each is
pub neither : (a b : Bool) → (a || b) ≡ false → (a ≡ false) × (b ≡ false)
neither true b e = absurd (cc)
neither false b e = (refl, e)

halves : (p : ℕ → Bool) (n : ℕ) (text : List ℕ) → list_any p text ≡ false
    → (list_any p (take n text) ≡ false) × (list_any p (drop n text) ≡ false)
halves p n text none =
    neither (list_any p (take n text)) (list_any p (drop n text))
    (sym (list_any-append p (take n text) (drop n text)) ∙ ap (list_any p) (take-append-drop n text) ∙ none)

-- in front of a place
pub none_before : (p : ℕ → Bool) (n : ℕ) (text : List ℕ) → list_any p text ≡ false → list_any p (take n text) ≡ false
none_before p n text none = (halves p n text none).0

-- from a place on
pub none_behind : (p : ℕ → Bool) (n : ℕ) (text : List ℕ) → list_any p text ≡ false → list_any p (drop n text) ≡ false
none_behind p n text none = (halves p n text none).1

-- between the blanks
pub none_trimmed : (p : ℕ → Bool) (text : List ℕ) → list_any p text ≡ false → list_any p (trimmed text) ≡ false
none_trimmed p text none = none_before p _ (without_front text) (none_behind p _ text none)

-- before a separator
pub none_cut_before : (p : ℕ → Bool) (place : Option ℕ) (text : List ℕ) → list_any p text ≡ false → list_any p (cut_at text place).0 ≡ false
none_cut_before p None text none = none
none_cut_before p (Some i) text none = none_before p i text none

-- and behind it
pub none_cut_behind : (p : ℕ → Bool) (place : Option ℕ) (text rest : List ℕ) → list_any p text ≡ false → (cut_at text place).1 ≡ Some rest
    → list_any p rest ≡ false
none_cut_behind p None text rest none is = absurd (cc)
none_cut_behind p (Some i) text rest none is =
    let same : drop (i + 1) text ≡ rest = cc is in
    subst (λ (part : List ℕ). list_any p part ≡ false) same (none_behind p (i + 1) text none)

-- in each part between separators
none_first : (p : ℕ → Bool) (x : ℕ) (parts : List (List ℕ)) → p x ≡ false → list_all (λ part. not (list_any p part)) parts ≡ true
    → list_all (λ part. not (list_any p part)) (onto_first x parts) ≡ true
none_first p x [] one all = rw one refl
none_first p x (part ∷ parts) one all = rw one all

none_parts : (p q : ℕ → Bool) (here : Bool) (x : ℕ) (parts : List (List ℕ)) → p x ≡ false → list_all (λ part. not (list_any p part)) parts ≡ true
    → list_all (λ part. not (list_any p part)) (cond here ([] ∷ parts) (onto_first x parts)) ≡ true
none_parts p q true x parts one all = all
none_parts p q false x parts one all = none_first p x parts one all

pub none_split : (p q : ℕ → Bool) (text : List ℕ) → list_any p text ≡ false → list_all (λ part. not (list_any p part)) (slice_split q text) ≡ true
none_split p q [] none = refl
none_split p q (x ∷ xs) none =
    let each = neither (p x) (list_any p xs) none in
    none_parts p q (q x) x (slice_split q xs) each.0 (none_split p q xs each.1)

-- ---- in front of a separator

first_none : (p : ℕ → Bool) (n : ℕ) (text : List ℕ) → n ≤ position_or_len p text → list_any p (take n text) ≡ false
first_none p n text within =
    list_any_none p (take n text)
    (λ k d inside.
    let short = length-take n text in
    let before : k < n = omega arith in
    rw (get_or-take n text k d before) (fails_before_first p text k d (omega arith)))

none_at_all : (p : ℕ → Bool) (text : List ℕ) → length text ≤ position_or_len p text → list_any p text ≡ false
none_at_all p text beyond = list_any_none p text (λ k d inside. fails_before_first p text k d (omega arith))

-- the separator isn't in front of its first place
pub none_before_separator : (p : ℕ → Bool) (text : List ℕ) (found : Bool) → nat_lt (position_or_len p text) (length text) ≡ found
    → list_any p (cut_at text (cond found (Some (position_or_len p text)) None)).0 ≡ false
none_before_separator p text true is = first_none p (position_or_len p text) text (omega arith)
none_before_separator p text false is = none_at_all p text (grind (arith, nat_tests))

-- ---- trimmed texts

no_prefix : (here : Bool) (m n : ℕ) → cond here (1 + m) 0 ≡ 0 → cond here (1 + n) 0 ≡ 0
no_prefix true m n none = absurd (omega arith)
no_prefix false m n none = refl

-- where nothing in front passes, nothing does in front of a part at the start
front_before : (p : ℕ → Bool) (n : ℕ) (text : List ℕ) → prefix_len p text ≡ 0 → prefix_len p (take n text) ≡ 0
front_before p zero [] none = refl
front_before p zero (x ∷ xs) none = refl
front_before p (suc n) [] none = refl
front_before p (suc n) (x ∷ xs) none = no_prefix (p x) (prefix_len p xs) (prefix_len p (take n xs)) none

-- nothing passes in front of what is left without the front
front_gone : (p : ℕ → Bool) (text : List ℕ) → prefix_len p (drop (prefix_len p text) text) ≡ 0
front_gone p text =
    ⊎_elim
    (λ inside. prefix_len-drop_no p text (prefix_len p text) 0 inside (prefix_len_stops p text 0 inside))
    (λ beyond. prefix_len-drop_all p text (prefix_len p text) beyond) (cases_lt (prefix_len p text) (length text))

-- the end of a text, read from its last byte
reverse_front : (n k : ℕ) (text : List ℕ) → n + k ≡ length text → reverse (take n text) ≡ drop k (reverse text)
reverse_front n k text whole =
    let parts : reverse text ≡ reverse (drop n text) ++ reverse (take n text)
    = ap reverse (sym (take-append-drop n text)) ∙ reverse-append (take n text) (drop n text) in
    let long : k ≡ length (reverse (drop n text)) = omega (arith, length-reverse (drop n text), length-drop n text) in
    sym (ap (drop k) parts ∙ ap (λ (i : ℕ). drop i (reverse (drop n text) ++ reverse (take n text))) long
    ∙ drop-append_seam (reverse (drop n text)) (reverse (take n text)))

-- nothing passes at the end of what is left without the end
end_gone : (p : ℕ → Bool) (text : List ℕ) → suffix_len p (take (length text - suffix_len p text) text) ≡ 0
end_gone p text =
    let within = suffix_len-le-length p text in
    ap (prefix_len p) (reverse_front (length text - suffix_len p text) (suffix_len p text) text (omega arith)) ∙ front_gone p (reverse text)

-- a trimmed text has no blanks round it
pub trimmed_is_trimmed : (text : List ℕ) → is_trimmed (trimmed text) ≡ true
trimmed_is_trimmed text =
    let inner = without_front text in
    let front : prefix_len is_blank (trimmed text) ≡ 0 = front_before is_blank _ inner (front_gone is_blank text) in
    let end : suffix_len is_blank (trimmed text) ≡ 0 = end_gone is_blank inner in
    rw (front, end) refl
