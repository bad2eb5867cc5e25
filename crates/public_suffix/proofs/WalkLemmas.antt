-- A host from its end, one byte more at a time: its labels, and the rules whose texts end alike.
use Rattle.std.proofs.Common.{◌≡◌, ℕ, zero, suc, ◌+◌, ◌-◌, ◌<◌, ◌≤◌, Bool, true, false, cond, List, [], ◌∷◌, ◌++◌, length, get_or, drop, map, reverse, refl, sym, ap, ◌∙◌, subst, arith}
use Rattle.std.specs.Prelude.{◌==◌, ◌&&◌, filter}
use Rattle.std.specs.List.{list_any, onto_first}
use Rattle.std.specs.Str.{bytes_eq}
use Rattle.std.proofs.lemmas.Bool.Decides.{nat_tests}
use Rattle.std.proofs.lemmas.List.{length-drop, reverse-append, reverse-reverse, map-append, drop_more}
use Rattle.std.proofs.lemmas.List.Splits.{slice_split-cons_no}
use Rattle.std.proofs.lemmas.Slice.Eq.{bytes_eq-Decides}
use Rattle.public_suffix.specs.declared.marks.Marks.{Marks}
use Rattle.public_suffix.specs.declared.rule.Mark.{Mark}
use Rattle.public_suffix.specs.declared.rule.Mark.TheVariants.{Plain, Wildcard, Exception}
use Rattle.public_suffix.specs.declared.rule.Rule.{Rule}
use Rattle.public_suffix.specs.declared.table.RuleTable.{RuleTable}
use Rattle.public_suffix.specs.Labels.{labels_of, is_empty}
use Rattle.public_suffix.specs.declared.found.Found.{Found}
use Rattle.public_suffix.specs.Rule.{SuffixRule, rule_labels}
use Rattle.public_suffix.specs.Suffix.{most_labels, exceptions, other_rules, suffix_len_by, suffix_len}
use Rattle.public_suffix.specs.Seen.{rule_seen}
use Rattle.public_suffix.specs.Steps.{byte_step, mark_step, text_steps, rule_steps, step_at, AreInOrder, RiseAt}
use Rattle.public_suffix.specs.Tables.{has_mark, same_mark, AreMarksOf, IsTableOf, IsFoundOf}
use Rattle.public_suffix.proofs.LabelLemmas.{labels_some, or_false, same_by, rule_labels-labels_of}
use Rattle.public_suffix.proofs.SuffixLemmas.{rules_seen, most_labels-le, suffix_len_by-le}
use Rattle.public_suffix.proofs.NarrowLemmas.{any_filtered, filter-both}
use Rattle.public_suffix.proofs.StepLemmas.{begins, begins-more, begun_rise, text_steps_length}

-- the last n bytes of a host
abbrev pub last_bytes : ℕ → List ℕ → List ℕ
last_bytes n host = drop (length host - n) host

pub last_bytes_length : (n : ℕ) (host : List ℕ) → n ≤ length host → length (last_bytes n host) ≡ n
last_bytes_length n host fits = omega (arith, length-drop (length host - n) host)

drop_end : {X : Type 0} (xs : List X) → drop (length xs) xs ≡ []
drop_end [] = refl
drop_end (x ∷ xs) = drop_end xs

pub last_bytes_none : (host : List ℕ) → last_bytes 0 host ≡ []
last_bytes_none host = let all : length host - 0 ≡ length host = omega arith in ap (λ (k : ℕ). drop k host) all ∙ drop_end host

pub last_bytes_all : (n : ℕ) (host : List ℕ) → length host ≤ n → last_bytes n host ≡ host
last_bytes_all n host all = let none : length host - n ≡ 0 = omega arith in ap (λ (k : ℕ). drop k host) none

pub last_bytes_more : (n : ℕ) (host : List ℕ) → n < length host → last_bytes (n + 1) host ≡ get_or host (length host - 1 - n) 0 ∷ last_bytes n host
last_bytes_more n host more =
    let at : length host - (n + 1) ≡ length host - 1 - n = omega arith in
    let next : length host - 1 - n + 1 ≡ length host - n = omega arith in
    ap (λ (k : ℕ). drop k host) at ∙ drop_more host (length host - 1 - n) 0 (omega arith)
    ∙ ap (λ (k : ℕ). get_or host (length host - 1 - n) 0 ∷ drop k host) next

-- ---- labels

onto_rest : (c : ℕ) (l : List ℕ) (ls labels : List (List ℕ)) → labels ≡ l ∷ ls → drop 1 (onto_first c labels) ≡ drop 1 labels
onto_rest c l ls labels is = rw is refl

-- a byte that is no dot leaves the labels after the first
pub rest_same : (c : ℕ) (tail : List ℕ) → (c == 46) ≡ false → drop 1 (labels_of (c ∷ tail)) ≡ drop 1 (labels_of tail)
rest_same c tail other =
    let some = labels_some tail in
    ap (λ (ls : List (List ℕ)). drop 1 ls) (slice_split-cons_no (λ b. b == 46) c tail other) ∙ onto_rest c some.0 some.1 (labels_of tail) some.2

-- a dot makes all the labels so far those after the first
pub rest_all : (c : ℕ) (tail : List ℕ) → (c == 46) ≡ true → drop 1 (labels_of (c ∷ tail)) ≡ labels_of tail
rest_all c tail dot = rw dot refl

-- the labels have a first
pub labels_first : (text : List ℕ) → (l : List ℕ) × (labels_of text ≡ l ∷ drop 1 (labels_of text))
labels_first text = let some = labels_some text in (some.0, some.2 ∙ ap (λ (ls : List (List ℕ)). some.0 ∷ drop 1 ls) (sym some.2))

rest_full : (labels : List (List ℕ)) → list_any is_empty labels ≡ false → list_any is_empty (drop 1 labels) ≡ false
rest_full [] full = refl
rest_full (l ∷ ls) full = or_false (is_empty l) (list_any is_empty ls) full

below_full : (host : List ℕ) (k : ℕ) → k < length host → (get_or host k 0 == 46) ≡ true → list_any is_empty (drop 1 (labels_of host)) ≡ false → list_any is_empty (labels_of (drop (k + 1) host)) ≡ false
below_full [] k within dot full = absurd (omega arith)
below_full (c ∷ cs) zero within dot full = ap (list_any is_empty) (sym (rest_all c cs dot)) ∙ full
below_full (c ∷ cs) (suc k) within dot full =
    let next : suc k + 1 ≡ suc (k + 1) = omega arith in
    rw next (elim (c == 46) as (λ b. (c == 46) ≡ b → list_any is_empty (labels_of (drop (k + 1) cs)) ≡ false) [
      | true ↦ λ here. below_full cs k (omega arith) dot (rest_full (labels_of cs) (ap (list_any is_empty) (sym (rest_all c cs here)) ∙ full))
      | false ↦ λ here. below_full cs k (omega arith) dot (ap (list_any is_empty) (sym (rest_same c cs here)) ∙ full)
    ] refl)

-- of a host without an empty label, what follows a dot has none
pub tail_full : (n : ℕ) (host : List ℕ) → n < length host → (get_or host (length host - 1 - n) 0 == 46) ≡ true → list_any is_empty (labels_of host) ≡ false → list_any is_empty (labels_of (last_bytes n host)) ≡ false
tail_full n host within dot full =
    let next : length host - 1 - n + 1 ≡ length host - n = omega arith in
    ap (λ (k : ℕ). list_any is_empty (labels_of (drop k host))) (sym next) ∙ below_full host (length host - 1 - n) (omega arith) dot (rest_full (labels_of host) full)

labels_short-onto : (c : ℕ) (l : List ℕ) (ls labels : List (List ℕ)) → labels ≡ l ∷ ls → length (onto_first c labels) ≡ length labels
labels_short-onto c l ls labels is = rw is refl

-- a text has one label more than bytes at most
pub labels_short : (text : List ℕ) → length (labels_of text) ≤ length text + 1
labels_short [] = omega arith
labels_short (c ∷ cs) =
    elim (c == 46) as (λ b. length (cond b ([] ∷ labels_of cs) (onto_first c (labels_of cs))) ≤ length (c ∷ cs) + 1) [
      | true ↦ omega (arith, labels_short cs)
      | false ↦ let some = labels_some cs in omega (arith, labels_short cs, labels_short-onto c some.0 some.1 (labels_of cs) some.2)
    ]

-- ---- rules whose texts end alike

-- those whose texts end with a text
abbrev pub ending_with : List ℕ → List Rule → List Rule
ending_with tail rules = filter (λ rule. begins (text_steps tail) (rule_steps rule)) rules

pub ending_with_none : (rules : List Rule) → ending_with [] rules ≡ rules
ending_with_none [] = refl
ending_with_none (rule ∷ rules) = ap (λ (rs : List Rule). rule ∷ rs) (ending_with_none rules)

text_steps-more : (c : ℕ) (tail : List ℕ) → text_steps (c ∷ tail) ≡ text_steps tail ++ byte_step c ∷ []
text_steps-more c tail = ap (map byte_step) (reverse-append (c ∷ []) tail) ∙ map-append byte_step (reverse tail) (c ∷ [])

-- with one byte more they are those that have its step next
pub ending_with_more : (c : ℕ) (tail : List ℕ) (n : ℕ) (rules : List Rule) → length tail ≡ n → filter (λ rule. step_at n rule == byte_step c) (ending_with tail rules) ≡ ending_with (c ∷ tail) rules
ending_with_more c tail n rules long =
    filter-both (λ rule. begins (text_steps tail) (rule_steps rule)) (λ rule. step_at n rule == byte_step c) (λ rule. begins (text_steps (c ∷ tail)) (rule_steps rule))
    (λ rule. ap (λ (ps : List ℕ). begins ps (rule_steps rule)) (text_steps-more c tail)
    ∙ begins-more (text_steps tail) (rule_steps rule) (byte_step c) (omega arith)
    ∙ ap (λ (k : ℕ). begins (text_steps tail) (rule_steps rule) && (step_at k rule == byte_step c)) (text_steps_length tail ∙ long)) rules

-- they rise at the next step
pub ending_rises : (tail : List ℕ) (n : ℕ) (rules : List Rule) → length tail ≡ n → AreInOrder rules → RiseAt n (ending_with tail rules)
ending_rises tail n rules long sorted = subst (λ (k : ℕ). RiseAt k (ending_with tail rules)) (text_steps_length tail ∙ long) (begun_rise (text_steps tail) rules sorted)

same_step : (n m : Mark) → (mark_step n == mark_step m) ≡ same_mark n m
same_step Plain Plain = refl
same_step Plain Wildcard = refl
same_step Plain Exception = refl
same_step Wildcard Plain = refl
same_step Wildcard Wildcard = refl
same_step Wildcard Exception = refl
same_step Exception Plain = refl
same_step Exception Wildcard = refl
same_step Exception Exception = refl

mark_small : (m : Mark) → mark_step m ≤ 3
mark_small Plain = omega arith
mark_small Wildcard = omega arith
mark_small Exception = omega arith

mark_some : (m : Mark) → 0 < mark_step m
mark_some Plain = omega arith
mark_some Wildcard = omega arith
mark_some Exception = omega arith

apart_numbers : (x y : ℕ) → y ≤ 3 → (x + 4 == y) ≡ false
apart_numbers x y small = grind (arith, nat_tests)

numbers_apart : (x y : ℕ) → y ≤ 3 → (y == x + 4) ≡ false
numbers_apart x y small = grind (arith, nat_tests)

same_past : (x y : ℕ) → (y + 4 == x + 4) ≡ (y == x)
same_past x y = grind (arith, nat_tests)

and_none : (a : Bool) → (a && false) ≡ false
and_none true = refl
and_none false = refl

and_swap : (a b c : Bool) → (a && (b && c)) ≡ (b && (a && c))
and_swap true true c = refl
and_swap true false c = refl
and_swap false true c = refl
and_swap false false c = refl

begins-exact : (m n : Mark) (xs ys : List ℕ) → begins (map byte_step xs ++ mark_step m ∷ []) (map byte_step ys ++ mark_step n ∷ []) ≡ (same_mark n m && bytes_eq ys xs)
begins-exact m n [] [] = ap (λ (b : Bool). b && true) (same_step n m)
begins-exact m n [] (y ∷ ys) = rw (apart_numbers y (mark_step m) (mark_small m)) (sym (and_none (same_mark n m)))
begins-exact m n (x ∷ xs) [] = rw (numbers_apart x (mark_step n) (mark_small n)) (sym (and_none (same_mark n m)))
begins-exact m n (x ∷ xs) (y ∷ ys) =
    ap (λ (b : Bool). (y + 4 == x + 4) && b) (begins-exact m n xs ys) ∙ ap (λ (b : Bool). b && (same_mark n m && bytes_eq ys xs)) (same_past x y)
    ∙ and_swap (y == x) (same_mark n m) (bytes_eq ys xs)

same_reversed : (xs ys : List ℕ) → bytes_eq (reverse xs) (reverse ys) ≡ bytes_eq xs ys
same_reversed xs ys =
    same_by (bytes_eq (reverse xs) (reverse ys)) (bytes_eq xs ys)
    (λ same. (bytes_eq-Decides xs ys).1 (sym (reverse-reverse xs) ∙ ap reverse ((bytes_eq-Decides (reverse xs) (reverse ys)).0 same) ∙ reverse-reverse ys))
    (λ same. (bytes_eq-Decides (reverse xs) (reverse ys)).1 (ap reverse ((bytes_eq-Decides xs ys).0 same)))

exact : (mark : Mark) (tail : List ℕ) (n : ℕ) (rule : Rule) → length tail ≡ n → (same_mark rule.mark mark && bytes_eq rule.text tail) ≡ (begins (text_steps tail) (rule_steps rule) && (step_at n rule == mark_step mark))
exact mark tail n rule long =
    ap (λ (b : Bool). same_mark rule.mark mark && b) (sym (same_reversed rule.text tail))
    ∙ sym (begins-exact mark rule.mark (reverse tail) (reverse rule.text))
    ∙ begins-more (text_steps tail) (rule_steps rule) (mark_step mark) (mark_some mark)
    ∙ ap (λ (k : ℕ). begins (text_steps tail) (rule_steps rule) && (step_at k rule == mark_step mark)) (text_steps_length tail ∙ long)

-- the marks of those that end where a text does are the marks of the text
pub marks_of_tail : (table : RuleTable) (rules : List Rule) (tail : List ℕ) (n : ℕ) (marks : Marks) → length tail ≡ n → IsTableOf table rules → ((mark : Mark) → has_mark mark marks ≡ list_any (λ rule. step_at n rule == mark_step mark) (ending_with tail table.sorted.items)) → AreMarksOf (map rule_seen rules) (rule_labels tail) marks
marks_of_tail table rules tail n marks long is has = λ mark.
    has mark
    ∙ any_filtered (λ rule. begins (text_steps tail) (rule_steps rule)) (λ rule. step_at n rule == mark_step mark) (λ rule. same_mark rule.mark mark && bytes_eq rule.text tail)
    (λ rule. exact mark tail n rule long) table.sorted.items
    ∙ is.1 mark tail ∙ sym (rules_seen mark tail rules)

pub marks_here : (table : RuleTable) (rules : List Rule) (tail : List ℕ) (n : ℕ) (marks : Marks) (ending : List Rule) → length tail ≡ n → IsTableOf table rules → ending ≡ ending_with tail table.sorted.items → ((mark : Mark) → has_mark mark marks ≡ list_any (λ rule. step_at n rule == mark_step mark) ending) → AreMarksOf (map rule_seen rules) (rule_labels tail) marks
marks_here table rules tail n marks ending long is end has =
    marks_of_tail table rules tail n marks long is (λ mark. has mark ∙ ap (list_any (λ rule. step_at n rule == mark_step mark)) end)

-- ---- what is found

module _ (rules : List SuffixRule) (tail : List ℕ) where
  -- of all the labels so far
  pub found_whole : (before after : Found) (marks : Marks) → list_any is_empty (labels_of tail) ≡ false → AreMarksOf rules (rule_labels tail) marks → IsFoundOf rules (drop 1 (labels_of tail)) before → ((label : List ℕ) (labels : List (List ℕ)) → IsFoundOf rules labels before → AreMarksOf rules (label ∷ labels) marks → IsFoundOf rules (label ∷ labels) after) → IsFoundOf rules (labels_of tail) after
  found_whole before after marks full are is more =
      let first = labels_first tail in
      subst (λ (ls : List (List ℕ)). IsFoundOf rules ls after) (sym first.1)
      (more first.0 (drop 1 (labels_of tail)) is (subst (λ (ls : List (List ℕ)). AreMarksOf rules ls marks) (rule_labels-labels_of tail full ∙ first.1) are))

  -- after a dot
  pub found_dot : (c : ℕ) (after : Found) → (c == 46) ≡ true → IsFoundOf rules (labels_of tail) after → IsFoundOf rules (drop 1 (labels_of (c ∷ tail))) after
  found_dot c after dot is = subst (λ (ls : List (List ℕ)). IsFoundOf rules ls after) (sym (rest_all c tail dot)) is

  -- after another byte
  pub found_same : (c : ℕ) (found : Found) → (c == 46) ≡ false → IsFoundOf rules (drop 1 (labels_of tail)) found → IsFoundOf rules (drop 1 (labels_of (c ∷ tail))) found
  found_same c found other is = subst (λ (ls : List (List ℕ)). IsFoundOf rules ls found) (sym (rest_same c tail other)) is

  -- how many labels the suffix has by what is found
  pub found_len : (labels : List (List ℕ)) (found : Found) → IsFoundOf rules labels found → suffix_len_by found.exception found.other ≡ suffix_len rules labels
  found_len labels found is = ap (λ (n : ℕ). suffix_len_by n found.other) is.exception ∙ ap (suffix_len_by (most_labels labels (exceptions rules))) is.other

  -- no more than bytes, and one
  pub found_bound : (found : Found) → IsFoundOf rules (labels_of tail) found → suffix_len_by found.exception found.other ≤ length tail + 1
  found_bound found is =
      let short = labels_short tail in
      suffix_len_by-le found.exception found.other (length tail + 1)
      (omega (arith, is.exception, most_labels-le (labels_of tail) (exceptions rules), short))
      (omega (arith, is.other, most_labels-le (labels_of tail) (other_rules rules), short)) (omega arith)
