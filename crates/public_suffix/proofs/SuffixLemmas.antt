-- The most labels of a matching rule, one last label at a time.
use Rattle.std.proofs.Common.{ℕ, zero, suc, ◌+◌, ◌≤◌, ◌≡◌, Bool, true, false, List, [], ◌∷◌, length, refl, ap, sym, ◌∙◌, arith}
use Rattle.std.specs.Prelude.{◌||◌, ◌&&◌, map, if◌then◌else◌}
use Rattle.std.specs.List.{list_any}
use Rattle.public_suffix.specs.declared.rule.Mark.{Mark}
use Rattle.public_suffix.specs.declared.rule.Mark.TheVariants.{Plain, Wildcard, Exception}
use Rattle.public_suffix.specs.Labels.{same_labels}
use Rattle.public_suffix.specs.Rule.{SuffixRule, rule_labels}
use Rattle.public_suffix.specs.declared.rule.Rule.{Rule}
use Rattle.public_suffix.specs.Seen.{rule_seen}
use Rattle.std.specs.Str.{bytes_eq}
use Rattle.public_suffix.specs.Suffix.{fits_by, fits, label_count, matched_labels, most_labels, exceptions, other_rules, suffix_len_by}
use Rattle.public_suffix.specs.declared.marks.Marks.{Marks}
use Rattle.public_suffix.specs.declared.found.Found.{Found}
use Rattle.public_suffix.specs.Tables.{AreMarksOf, IsFoundOf, same_mark, is_rule}
use Rattle.public_suffix.proofs.LabelLemmas.{same_labels-rule_labels, same_labels-Decides}

-- a rule whose labels those are has as many
pub fits_count : (mark : Mark) (rule labels : List (List ℕ)) → fits_by mark rule labels ≡ true → label_count mark rule ≡ length labels
fits_count Plain rule labels fit = ap length ((same_labels-Decides rule labels).0 fit)
fits_count Exception rule labels fit = ap length ((same_labels-Decides rule labels).0 fit)
fits_count Wildcard rule [] fit = absurd (cc)
fits_count Wildcard rule (l ∷ ls) fit = let same : length rule ≡ length ls = ap length ((same_labels-Decides rule ls).0 fit) in omega arith

-- with one label more, a rule that these labels are counts them all, and another rule counts as before
pub matched_labels-hit : (l : List ℕ) (ls : List (List ℕ)) (rule : SuffixRule) → fits (l ∷ ls) rule ≡ true → matched_labels (l ∷ ls) rule ≡ length ls + 1
matched_labels-hit l ls rule fit =
    let count : label_count rule.mark rule.labels ≡ length (l ∷ ls) = fits_count rule.mark rule.labels (l ∷ ls) fit in rw fit (omega arith)

pub matched_labels-miss : (l : List ℕ) (ls : List (List ℕ)) (rule : SuffixRule) → fits (l ∷ ls) rule ≡ false → matched_labels (l ∷ ls) rule ≡ matched_labels ls rule
matched_labels-miss l ls rule misfit = rw misfit

-- no rule counts more labels than the host has
pub matched_labels-le : (ls : List (List ℕ)) (rule : SuffixRule) → matched_labels ls rule ≤ length ls
matched_labels-le [] rule = omega arith
matched_labels-le (l ∷ ls) rule =
    elim (fits (l ∷ ls) rule) as (λ b. fits (l ∷ ls) rule ≡ b → matched_labels (l ∷ ls) rule ≤ length (l ∷ ls)) [
      | true ↦ λ fit. omega (arith, matched_labels-hit l ls rule fit)
      | false ↦ λ misfit. omega (arith, matched_labels-miss l ls rule misfit, matched_labels-le ls rule)
    ] refl

pub most_labels-le : (ls : List (List ℕ)) (rules : List SuffixRule) → most_labels ls rules ≤ length ls
most_labels-le ls [] = omega arith
most_labels-le ls (rule ∷ rules) = omega (arith, matched_labels-le ls rule, most_labels-le ls rules)

-- no rule matches a host without labels
pub most_labels-nil : (rules : List SuffixRule) → most_labels [] rules ≡ 0
most_labels-nil rules = omega (arith, most_labels-le [] rules)

-- where the labels are those of a rule, the most is all of them
pub most_labels-hit : (l : List ℕ) (ls : List (List ℕ)) (rules : List SuffixRule) → list_any (fits (l ∷ ls)) rules ≡ true → most_labels (l ∷ ls) rules ≡ length ls + 1
most_labels-hit l ls [] any = absurd (cc)
most_labels-hit l ls (rule ∷ rules) any =
    elim (fits (l ∷ ls) rule) as (λ b. fits (l ∷ ls) rule ≡ b → (b || list_any (fits (l ∷ ls)) rules) ≡ true → most_labels (l ∷ ls) (rule ∷ rules) ≡ length ls + 1) [
      | true ↦ λ fit _. omega (arith, matched_labels-hit l ls rule fit, most_labels-le (l ∷ ls) rules)
      | false ↦ λ misfit rest. omega (arith, most_labels-hit l ls rules rest, matched_labels-le (l ∷ ls) rule)
    ] refl any

-- where they are those of no rule, the most is that of the labels after the first
pub most_labels-miss : (l : List ℕ) (ls : List (List ℕ)) (rules : List SuffixRule) → list_any (fits (l ∷ ls)) rules ≡ false → most_labels (l ∷ ls) rules ≡ most_labels ls rules
most_labels-miss l ls [] none = refl
most_labels-miss l ls (rule ∷ rules) none =
    elim (fits (l ∷ ls) rule) as (λ b. fits (l ∷ ls) rule ≡ b → (b || list_any (fits (l ∷ ls)) rules) ≡ false → most_labels (l ∷ ls) (rule ∷ rules) ≡ most_labels ls (rule ∷ rules)) [
      | true ↦ λ _ e. absurd (cc)
      | false ↦ λ misfit rest. omega (arith, matched_labels-miss l ls rule misfit, most_labels-miss l ls rules rest)
    ] refl none

-- one rule more, among the exceptions
exceptions_more : (mark : Mark) (rule host : List (List ℕ)) (rules : List SuffixRule) (rest : Bool) → list_any (fits host) (exceptions rules) ≡ rest → list_any (fits host) (exceptions (record { mark = mark; labels = rule } ∷ rules)) ≡ (same_mark mark Exception && same_labels rule host || rest)
exceptions_more Plain rule host rules rest same = same
exceptions_more Wildcard rule host rules rest same = same
exceptions_more Exception rule host rules rest same = ap (λ b. same_labels rule host || b) same

-- labels are those of an exception exactly where the list has it
pub exceptions_fit : (host : List (List ℕ)) (rules : List SuffixRule) → list_any (fits host) (exceptions rules) ≡ list_any (is_rule Exception host) rules
exceptions_fit host [] = refl
exceptions_fit host (rule ∷ rules) = exceptions_more rule.mark rule.labels host rules (list_any (is_rule Exception host) rules) (exceptions_fit host rules)

or_left : (x a b : Bool) → (x || (a || b)) ≡ ((x || a) || b)
or_left true a b = refl
or_left false a b = refl

or_right : (x a b : Bool) → (x || (a || b)) ≡ (a || (x || b))
or_right true true b = refl
or_right true false b = refl
or_right false true b = refl
or_right false false b = refl

-- one rule more, among those that are no exceptions
others_more : (mark : Mark) (rule : List (List ℕ)) (l : List ℕ) (ls : List (List ℕ)) (rules : List SuffixRule) (plain wild : Bool) → list_any (fits (l ∷ ls)) (other_rules rules) ≡ (plain || wild) → list_any (fits (l ∷ ls)) (other_rules (record { mark = mark; labels = rule } ∷ rules)) ≡ ((same_mark mark Plain && same_labels rule (l ∷ ls) || plain) || (same_mark mark Wildcard && same_labels rule ls || wild))
others_more Plain rule l ls rules plain wild same = ap (λ b. same_labels rule (l ∷ ls) || b) same ∙ or_left (same_labels rule (l ∷ ls)) plain wild
others_more Wildcard rule l ls rules plain wild same = ap (λ b. same_labels rule ls || b) same ∙ or_right (same_labels rule ls) plain wild
others_more Exception rule l ls rules plain wild same = same

-- labels are those of another rule exactly where the list has them as a plain rule, or those after the first as a wildcard
pub others_fit : (l : List ℕ) (ls : List (List ℕ)) (rules : List SuffixRule) → list_any (fits (l ∷ ls)) (other_rules rules) ≡ (list_any (is_rule Plain (l ∷ ls)) rules || list_any (is_rule Wildcard ls) rules)
others_fit l ls [] = refl
others_fit l ls (rule ∷ rules) = others_more rule.mark rule.labels l ls rules (list_any (is_rule Plain (l ∷ ls)) rules) (list_any (is_rule Wildcard ls) rules) (others_fit l ls rules)

-- the rules that are seen are found by their marks and texts
pub rules_seen : (mark : Mark) (text : List ℕ) (rules : List Rule) → list_any (is_rule mark (rule_labels text)) (map rule_seen rules) ≡ list_any (λ rule. same_mark rule.mark mark && bytes_eq rule.text text) rules
rules_seen mark text [] = refl
rules_seen mark text (rule ∷ rules) = rw (same_labels-rule_labels rule.text text, rules_seen mark text rules)

-- with one label more the most is all of them where they are those of a rule, else as before
most_labels-one : (fit : Bool) (l : List ℕ) (ls : List (List ℕ)) (rules : List SuffixRule) (count before : ℕ) → count ≡ length ls + 1 → list_any (fits (l ∷ ls)) rules ≡ fit → before ≡ most_labels ls rules → (if fit then count else before) ≡ most_labels (l ∷ ls) rules
most_labels-one true l ls rules count before counted fit was = counted ∙ sym (most_labels-hit l ls rules fit)
most_labels-one false l ls rules count before counted misfit was = was ∙ sym (most_labels-miss l ls rules misfit)

-- what is found of no labels
pub found_none : (rules : List SuffixRule) (marks : Marks) → AreMarksOf rules [] marks → IsFoundOf rules [] (record { count = 0; exception = 0; other = 0; marks = marks })
found_none rules marks are = record {
  count = refl;
  exception = sym (most_labels-nil (exceptions rules));
  other = sym (most_labels-nil (other_rules rules));
  marks = are;
}

either : (a b : Bool) (x y : ℕ) → (if a then x else (if b then x else y)) ≡ (if a || b then x else y)
either true b x y = refl
either false b x y = refl

-- and of one label more
pub found_more : (rules : List SuffixRule) (l : List ℕ) (ls : List (List ℕ)) (found : Found) (marks : Marks) (exception other : ℕ) → exception ≡ (if marks.exception then found.count + 1 else found.exception) → other ≡ (if marks.plain then found.count + 1 else (if found.marks.wildcard then found.count + 1 else found.other)) → IsFoundOf rules ls found → AreMarksOf rules (l ∷ ls) marks → IsFoundOf rules (l ∷ ls) (record { count = found.count + 1; exception = exception; other = other; marks = marks })
found_more rules l ls found marks exception other excepted others is are =
    let counted : found.count + 1 ≡ length ls + 1 = ap (λ (n : ℕ). n + 1) is.count in record {
      count = counted ∙ (let more : length (l ∷ ls) ≡ length ls + 1 = omega arith in sym more);
      exception = excepted ∙ most_labels-one marks.exception l ls (exceptions rules) (found.count + 1) found.exception counted (exceptions_fit (l ∷ ls) rules ∙ sym (are Exception)) is.exception;
      other = others ∙ either marks.plain found.marks.wildcard (found.count + 1) found.other ∙ most_labels-one (marks.plain || found.marks.wildcard) l ls (other_rules rules) (found.count + 1) found.other counted
          (others_fit l ls rules ∙ ap (λ (b : Bool). b || list_any (is_rule Wildcard ls) rules) (sym (are Plain)) ∙ ap (λ (b : Bool). marks.plain || b) (sym (is.marks Wildcard))) is.other;
      marks = are;
    }

-- the suffix has no more labels than the most that match, or one
pub suffix_len_by-le : (exception other n : ℕ) → exception ≤ n → other ≤ n → 1 ≤ n → suffix_len_by exception other ≤ n
suffix_len_by-le zero other n a b c = omega arith
suffix_len_by-le (suc fewer) other n a b c = omega arith
