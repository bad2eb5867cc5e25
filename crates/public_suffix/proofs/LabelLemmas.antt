-- Facts on labels.
use Rattle.std.proofs.Common.{length-drop, ℕ, ◌+◌, ◌-◌, ◌<◌, ◌≤◌, suc, ◌≡◌, Bool, true, false, cond, List, [], ◌∷◌, length, drop, refl, ap, sym, ◌∙◌, arith, Bor, Option, MatchOption, None, Some}
use Rattle.std.specs.Prelude.{◌==◌, not, ◌||◌, ◌&&◌}
use Rattle.std.specs.Bool.{Decides}
use Rattle.std.specs.List.{slice_split, onto_first, position_or_len, after_first, list_any}
use Rattle.std.proofs.lemmas.List.Splits.{slice_split_first, slice_split-cons_no, join_with_byte-slice_split}
use Rattle.std.proofs.lemmas.Str.Pattern.{IsSplitOnceResult, split_once_first}
use Rattle.std.proofs.lemmas.Slice.Eq.{slice_eq-Decides, bytes_eq-Decides}
use Rattle.std.proofs.lemmas.Grind.{common_steps}
use Rattle.std.specs.Str.{bytes_eq}
use Rattle.public_suffix.specs.Labels.{has_suffix, labels_of, dotted, same_labels, is_empty, last_labels}
use Rattle.public_suffix.specs.Rule.{rule_labels}
use Rattle.jar_values.specs.Hosts.{is_ip_host}

-- a text without the byte has one part
pub split_none : (p : ℕ → Bool) (xs : List ℕ) → position_or_len p xs ≡ length xs → slice_split p xs ≡ xs ∷ []
split_none p [] none = refl
split_none p (x ∷ xs) none =
    elim (p x) as (λ b. p x ≡ b → cond (not b) (1 + position_or_len p xs) 0 ≡ length (x ∷ xs) → slice_split p (x ∷ xs) ≡ (x ∷ xs) ∷ []) [
      | true ↦ λ hit e. absurd (omega arith)
      | false ↦ λ miss e. slice_split-cons_no p x xs miss ∙ ap (onto_first x) (split_none p xs (omega arith))
    ] refl none

-- what follows the byte is shorter than the text
pub after_shorter : (p : ℕ → Bool) (xs : List ℕ) → position_or_len p xs < length xs → length (after_first p xs) < length xs
after_shorter p xs found = grind (arith, common_steps)

-- the parts round the first byte c, as `split_once` gives them
pub parts_once : (c : ℕ) (bs : List ℕ) (r : Option (Bor (List ℕ) × Bor (List ℕ))) → IsSplitOnceResult c bs r → c < 128 → MatchOption r (slice_split (λ b. b == c) bs ≡ bs ∷ []) (λ x. slice_split (λ b. b == c) bs ≡ x.0.now ∷ slice_split (λ b. b == c) x.1.now)
parts_once c bs None cut small = split_none (λ b. b == c) bs (split_once_first c bs None cut small)
parts_once c bs (Some x) cut small =
    let first = split_once_first c bs (Some x) cut small in
    rw (first.1, first.2) (slice_split_first (λ b. b == c) bs 0 first.0)

-- the parts of a list are never none
pub labels_some : (text : List ℕ) → (l : List ℕ) × (ls : List (List ℕ)) × (labels_of text ≡ l ∷ ls)
labels_some [] = ([], [], refl)
labels_some (c ∷ cs) =
    elim (c == 46) as (λ b. (l : List ℕ) × (ls : List (List ℕ)) × (cond b ([] ∷ labels_of cs) (onto_first c (labels_of cs)) ≡ l ∷ ls)) [
      | true ↦ ([], labels_of cs, refl)
      | false ↦ let rest = labels_some cs in (c ∷ rest.0, rest.1, ap (onto_first c) rest.2)
    ]

-- two lists of labels are the same as a test says
pub same_labels-Decides : (xs ys : List (List ℕ)) → Decides (same_labels xs ys) (xs ≡ ys)
same_labels-Decides xs ys = slice_eq-Decides bytes_eq-Decides xs ys (same_labels xs ys) refl

-- a text is the dotted text of its labels
pub dotted-labels_of : (text : List ℕ) → dotted (labels_of text) ≡ text
dotted-labels_of text = join_with_byte-slice_split 46 text

-- a rule's text is the dotted text of its labels
pub dotted-rule_labels : (text : List ℕ) → dotted (rule_labels text) ≡ text
dotted-rule_labels [] = refl
dotted-rule_labels (c ∷ cs) = dotted-labels_of (c ∷ cs)

-- two tests that agree where either is true are one
pub same_by : (a b : Bool) → (a ≡ true → b ≡ true) → (b ≡ true → a ≡ true) → a ≡ b
same_by true b to from = sym (to refl)
same_by false true to from = from refl
same_by false false to from = refl

-- two texts have the same labels only where they are one
pub same_labels-rule_labels : (x y : List ℕ) → same_labels (rule_labels x) (rule_labels y) ≡ bytes_eq x y
same_labels-rule_labels x y =
    same_by (same_labels (rule_labels x) (rule_labels y)) (bytes_eq x y)
    (λ same. (bytes_eq-Decides x y).1 (sym (dotted-rule_labels x) ∙ ap dotted ((same_labels-Decides (rule_labels x) (rule_labels y)).0 same) ∙ dotted-rule_labels y))
    (λ same. (same_labels-Decides (rule_labels x) (rule_labels y)).1 (ap rule_labels ((bytes_eq-Decides x y).0 same)))

-- labels of which none is empty are those of a text that isn't, so a rule's text would name the same
pub rule_labels-labels_of : (text : List ℕ) → list_any is_empty (labels_of text) ≡ false → rule_labels text ≡ labels_of text
rule_labels-labels_of [] full = absurd (cc)
rule_labels-labels_of (c ∷ cs) full = refl

-- the last n labels do without the first label where there are more
pub last_labels-cons : (n : ℕ) (l : List ℕ) (ls : List (List ℕ)) → n < length (l ∷ ls) → last_labels n (l ∷ ls) ≡ last_labels n ls
last_labels-cons n l ls more =
    let one_less : length (l ∷ ls) - n ≡ suc (length ls - n) = omega arith in ap (λ (k : ℕ). drop k (l ∷ ls)) one_less

-- the last n labels are all where there are no more
pub last_labels-all : (n : ℕ) (ls : List (List ℕ)) → length ls ≤ n → last_labels n ls ≡ ls
last_labels-all n ls few = let none : length ls - n ≡ 0 = omega arith in ap (λ (k : ℕ). drop k ls) none

-- where the last n labels are all, there are no more
pub last_labels-few : (n : ℕ) (ls : List (List ℕ)) → 0 < n → last_labels n ls ≡ ls → length ls ≤ n
last_labels-few n ls some same = omega (arith, ap length same ∙ refl, length-drop (length ls - n) ls)

-- where neither is true the second isn't
pub or_false : (a b : Bool) → (a || b) ≡ false → b ≡ false
or_false true b none = absurd (cc)
or_false false b none = none

-- a host with a suffix has no empty label
pub has_suffix-full : (host : List ℕ) → has_suffix host ≡ true → list_any is_empty (labels_of host) ≡ false
has_suffix-full host suffix = not_empty (is_ip_host host) (list_any is_empty (labels_of host)) suffix
  where
    not_empty : (ip empty : Bool) → (not ip && not empty) ≡ true → empty ≡ false
    not_empty true empty both = absurd (cc)
    not_empty false true both = absurd (cc)
    not_empty false false both = refl
