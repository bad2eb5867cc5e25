-- What a suffix list says as a whole. The Public Suffix List format; the forms of a bad line are
-- this jar's own.
use Rattle.std.specs.Prelude.{ℕ, ◌≡◌, ◌≤◌, ◌<◌, ◌==◌, Bool, true, false, List, length, Option, Some, None, Result, Ok, Err}
use Rattle.std.specs.List.{slice_split, filter_map, position_from}
use Rattle.public_suffix.specs.declared.refusal.TheConstants.{MAX_RULES}
use Rattle.public_suffix.specs.declared.refusal.SuffixRefusal.{SuffixRefusal}
use Rattle.public_suffix.specs.declared.refusal.SuffixRefusal.TheVariants.{BadRule, TooMany, NoMemory}
use Rattle.public_suffix.specs.Rule.{SuffixRule, Reading, Skipped, Named, Bad, reading_of}

-- the lines of a list, which LF parts
abbrev pub lines_of : List ℕ → List (List ℕ)
lines_of text = slice_split (λ b. b == 10) text

-- the rule of a reading, if it is one
abbrev pub named_rule : Reading → Option SuffixRule
named_rule Skipped = None
named_rule (Named rule) = Some rule
named_rule Bad = None

-- whether a reading is of a bad line
abbrev pub is_bad : Reading → Bool
is_bad Skipped = false
is_bad (Named rule) = false
is_bad Bad = true

-- the rules of a list, in the order of its lines
abbrev pub rules_of : List ℕ → List SuffixRule
rules_of text = filter_map (λ line. named_rule (reading_of line)) (lines_of text)

-- the number of the first bad line, counted from 1
abbrev pub first_bad_line : List ℕ → Option ℕ
first_bad_line text = position_from (λ line. is_bad (reading_of line)) 1 (lines_of text)

-- what reading a list gives: all its rules, or the first bad line, or too many rules where no line
-- is bad
abbrev pub ReadsList : List ℕ → Result (List SuffixRule) SuffixRefusal → Type 0
ReadsList text (Ok rules) = (first_bad_line text ≡ None) × (length (rules_of text) ≤ MAX_RULES) × (rules ≡ rules_of text)
ReadsList text (Err (BadRule line)) = first_bad_line text ≡ Some line
ReadsList text (Err TooMany) = (first_bad_line text ≡ None) × (MAX_RULES < length (rules_of text))
ReadsList text (Err NoMemory) = Unit {0}
