-- Rules of a suffix list, and what a line of one says. The Public Suffix List format; this jar lets
-- `*` stand only as a rule's first label.
use Rattle.std.specs.Prelude.{ℕ, ◌==◌, Bool, ◌&&◌, ◌||◌, not, nat_lt, List, [], ◌∷◌, length, drop, codes, Option, Some, None, if◌then◌else◌}
use Rattle.std.specs.Option.{option_and_then}
use Rattle.std.specs.Str.{bytes_eq}
use Rattle.std.specs.List.{starts_with, list_any, before_first}
use Rattle.idna.specs.Uts46.{domain_to_ascii}
use Rattle.idna.specs.declared.deny_list.TheConstants.AsciiDenyList.{URL}
use Rattle.public_suffix.specs.declared.rule.Mark.{Mark}
use Rattle.public_suffix.specs.declared.rule.Mark.TheVariants.{Plain, Wildcard, Exception}
use Rattle.public_suffix.specs.Labels.{labels_of, is_empty}

-- a rule: its mark, and its labels after the mark
pub record SuffixRule : Type 0 where
  pub mark : Mark
  pub labels : List (List ℕ)

-- what a line says
pub data Reading : Type 0 where
  Skipped : Reading
  Named : SuffixRule → Reading
  Bad : Reading

-- the labels that a rule's text names: none where it is empty
abbrev pub rule_labels : List ℕ → List (List ℕ)
rule_labels [] = []
rule_labels (c ∷ cs) = labels_of (c ∷ cs)

-- whether a byte ends a line's rule: a space, a tab or a CR
abbrev pub is_blank : ℕ → Bool
is_blank b = (b == 32) || ((b == 9) || (b == 13))

-- whether an ASCII form can be a rule: it has no `*` and no empty label
abbrev pub is_rule_text : List ℕ → Bool
is_rule_text ascii = not (list_any (λ b. b == 42) ascii) && not (list_any is_empty (labels_of ascii))

-- the ASCII form of a rule's text after its mark, where it can be a rule
abbrev pub rule_text : List ℕ → Option (List ℕ)
rule_text text = option_and_then (λ ascii. if is_rule_text ascii then Some ascii else None) (domain_to_ascii URL text)

-- the mark of a rule as it is written
abbrev pub mark_of : List ℕ → Mark
mark_of word = if starts_with ◌==◌ word (codes "!") then Exception else if starts_with ◌==◌ word (codes "*.") then Wildcard else Plain

-- how many bytes a mark takes, a wildcard's dot among them
abbrev pub mark_len : Mark → ℕ
mark_len Plain = 0
mark_len Wildcard = 2
mark_len Exception = 1

-- what a rule of a mark and a text says: an exception has two labels at least
abbrev pub reading_by : Mark → Option (List ℕ) → Reading
reading_by mark None = Bad
reading_by Plain (Some text) = Named (record { mark = Plain; labels = rule_labels text })
reading_by Wildcard (Some text) = Named (record { mark = Wildcard; labels = rule_labels text })
reading_by Exception (Some text) = if nat_lt (length (labels_of text)) 2 then Bad else Named (record { mark = Exception; labels = rule_labels text })

-- what a rule says as it is written; `*` alone stands for any one label
abbrev pub reading_of_rule : List ℕ → Reading
reading_of_rule word = if bytes_eq word (codes "*") then Named (record { mark = Wildcard; labels = [] }) else reading_by (mark_of word) (rule_text (drop (mark_len (mark_of word)) word))

-- what a line says: a rule up to its first blank, or nothing where that is empty or a comment
abbrev pub reading_of : List ℕ → Reading
reading_of line = let word = before_first is_blank line in if is_empty word || starts_with ◌==◌ word (codes "//") then Skipped else reading_of_rule word
