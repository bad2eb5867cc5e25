-- What the rules of the code stand for, and what its readers of a rule, a line and a list answer:
-- that no public clause cites, but for `rule_seen` under the view of a list.
use Rattle.std.specs.Prelude.{ℕ, ◌≡◌, ◌+◌, ◌++◌, true, false, List, map, take, Option, Some, None, Result, Ok, Err}
use Rattle.std.specs.Option.{option_to_list}
use Rattle.public_suffix.specs.declared.refusal.TheConstants.{MAX_RULES}
use Rattle.public_suffix.specs.declared.refusal.SuffixRefusal.{SuffixRefusal}
use Rattle.public_suffix.specs.declared.refusal.SuffixRefusal.TheVariants as refusal
use Rattle.public_suffix.specs.declared.rule.Rule.{Rule}
use Rattle.public_suffix.specs.declared.rule.RuleRefusal.{RuleRefusal}
use Rattle.public_suffix.specs.declared.rule.RuleRefusal.TheVariants.{NoRule, NoMemory}
use Rattle.public_suffix.specs.Rule.{SuffixRule, Reading, Skipped, Named, Bad, rule_labels}
use Rattle.public_suffix.specs.SuffixList.{named_rule, is_bad, rules_of, first_bad_line}

-- the rule that a mark and a text stand for
abbrev pub rule_seen : Rule → SuffixRule
rule_seen rule = record { mark = rule.mark; labels = rule_labels rule.text }

-- what reading a rule gives
abbrev pub ReadsRule : Reading → Result Rule RuleRefusal → Type 0
ReadsRule reading (Ok rule) = reading ≡ Named (rule_seen rule)
ReadsRule reading (Err NoRule) = reading ≡ Bad
ReadsRule reading (Err NoMemory) = Unit {0}

-- what reading a line gives
abbrev pub ReadsLine : Reading → Result (Option Rule) RuleRefusal → Type 0
ReadsLine reading (Ok None) = reading ≡ Skipped
ReadsLine reading (Ok (Some rule)) = reading ≡ Named (rule_seen rule)
ReadsLine reading (Err NoRule) = reading ≡ Bad
ReadsLine reading (Err NoMemory) = Unit {0}

-- what reading a rule's text gives
abbrev pub ReadsText : Option (List ℕ) → Result (List ℕ) RuleRefusal → Type 0
ReadsText answer (Ok text) = answer ≡ Some text
ReadsText answer (Err NoRule) = answer ≡ None
ReadsText answer (Err NoMemory) = Unit {0}

-- what reading keeps of some rules: no more than one past the limit, which tells that there are too
-- many
abbrev pub kept_rules : List SuffixRule → List SuffixRule
kept_rules rules = take (MAX_RULES + 1) rules

-- a line that isn't bad adds its rule, if it names one
abbrev pub AddsLine : Reading → List Rule → List Rule → Type 0
AddsLine reading old new = (is_bad reading ≡ false) × (map rule_seen new ≡ kept_rules (map rule_seen old ++ option_to_list (named_rule reading)))

-- why the line of a number is refused
abbrev pub RefusesLine : Reading → ℕ → SuffixRefusal → Type 0
RefusesLine reading number (refusal.BadRule line) = (line ≡ number) × (is_bad reading ≡ true)
RefusesLine reading number refusal.TooMany = ⊥
RefusesLine reading number refusal.NoMemory = Unit {0}

-- the rules of all lines of a list, none of which is bad
abbrev pub ReadsRules : List ℕ → List Rule → Type 0
ReadsRules text rules = (first_bad_line text ≡ None) × (map rule_seen rules ≡ kept_rules (rules_of text))

-- why the lines of a list are refused
abbrev pub RefusesRules : List ℕ → SuffixRefusal → Type 0
RefusesRules text (refusal.BadRule line) = first_bad_line text ≡ Some line
RefusesRules text refusal.TooMany = ⊥
RefusesRules text refusal.NoMemory = Unit {0}
