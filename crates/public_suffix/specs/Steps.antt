-- The steps of rules, by which a table is put in order and walked: that no public clause cites.
use Rattle.std.specs.Prelude.{ℕ, ◌+◌, List, [], ◌∷◌, ◌++◌, map, reverse, slice_index}
use Rattle.std.specs.Cmp.Lexicographic.{slice_cmp}
use Rattle.std.specs.Ordering.{nat_cmp}
use Rattle.std.specs.List.Sorted.{IsSortedByKey, IsNonDecreasingBy}
use Rattle.public_suffix.specs.declared.rule.Mark.{Mark}
use Rattle.public_suffix.specs.declared.rule.Mark.TheVariants.{Plain, Wildcard, Exception}
use Rattle.public_suffix.specs.declared.rule.Rule.{Rule}

-- the step of a mark, above 0
abbrev pub mark_step : Mark → ℕ
mark_step Plain = 1
mark_step Wildcard = 2
mark_step Exception = 3

-- the step of a byte, past those of marks
abbrev pub byte_step : ℕ → ℕ
byte_step byte = byte + 4

-- the steps of a text: those of its bytes from its end
abbrev pub text_steps : List ℕ → List ℕ
text_steps text = map byte_step (reverse text)

-- the steps of a rule: those of its text, and then its mark's
abbrev pub rule_steps : Rule → List ℕ
rule_steps rule = text_steps rule.text ++ mark_step rule.mark ∷ []

-- the step of a rule at a depth; 0 where it has none
abbrev pub step_at : ℕ → Rule → ℕ
step_at depth rule = slice_index (rule_steps rule) depth

-- rules in the order of their steps
abbrev pub AreInOrder : List Rule → Type 0
AreInOrder rules = IsSortedByKey rule_steps (slice_cmp nat_cmp) rules

-- no rule has a lesser step at a depth than one before it
abbrev pub RiseAt : ℕ → List Rule → Type 0
RiseAt depth rules = IsNonDecreasingBy (step_at depth) rules
