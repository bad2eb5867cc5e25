-- What a table of rules holds, and what a walk over it finds: that no public clause cites.
use Rattle.std.specs.Prelude.{ℕ, ◌≡◌, ◌&&◌, Bool, true, false, List, length}
use Rattle.std.specs.Str.{bytes_eq}
use Rattle.std.specs.List.{list_any}
use Rattle.public_suffix.specs.declared.found.Found.{Found}
use Rattle.public_suffix.specs.declared.marks.Marks.{Marks}
use Rattle.public_suffix.specs.declared.rule.Mark.{Mark}
use Rattle.public_suffix.specs.declared.rule.Mark.TheVariants.{Plain, Wildcard, Exception}
use Rattle.public_suffix.specs.declared.rule.Rule.{Rule}
use Rattle.public_suffix.specs.declared.table.RuleTable.{RuleTable}
use Rattle.public_suffix.specs.Rule.{SuffixRule}
use Rattle.public_suffix.specs.Labels.{same_labels}
use Rattle.public_suffix.specs.Steps.{AreInOrder}
use Rattle.public_suffix.specs.Suffix.{most_labels, exceptions, other_rules}

-- whether two marks are the same
abbrev pub same_mark : Mark → Mark → Bool
same_mark Plain Plain = true
same_mark Wildcard Wildcard = true
same_mark Exception Exception = true
same_mark _ _ = false

-- whether a rule is the one of a mark and labels
abbrev pub is_rule : Mark → List (List ℕ) → SuffixRule → Bool
is_rule mark labels rule = same_mark rule.mark mark && same_labels rule.labels labels

-- whether marks have one
abbrev pub has_mark : Mark → Marks → Bool
has_mark Plain marks = marks.plain
has_mark Wildcard marks = marks.wildcard
has_mark Exception marks = marks.exception

-- the marks are those that rules of a list with these labels have
abbrev pub AreMarksOf : List SuffixRule → List (List ℕ) → Marks → Type 0
AreMarksOf rules labels marks = (mark : Mark) → has_mark mark marks ≡ list_any (is_rule mark labels) rules

-- whether rules have one of a mark and a text
abbrev pub has_rule : List Rule → Mark → List ℕ → Bool
has_rule rules mark text = list_any (λ rule. same_mark rule.mark mark && bytes_eq rule.text text) rules

-- the table has the rules of a list, and no others, in the order of their steps
abbrev pub IsTableOf : RuleTable → List Rule → Type 0
IsTableOf table rules = AreInOrder table.sorted.items × ((mark : Mark) (text : List ℕ) → has_rule table.sorted.items mark text ≡ has_rule rules mark text)

-- what rules say of the last labels of a host
pub record IsFoundOf (rules : List SuffixRule) (labels : List (List ℕ)) (found : Found) : Type 0 where
  pub count : found.count ≡ length labels
  pub exception : found.exception ≡ most_labels labels (exceptions rules)
  pub other : found.other ≡ most_labels labels (other_rules rules)
  pub marks : AreMarksOf rules labels found.marks
