use Rattle.std.proofs.Common.{◌≡◌, ◌≤◌, ◌+◌, length, ◌++◌, map}
use denote.Text.{Utf8}
use denote.Shadow.{shadow}
use Rattle.std.specs.List.{position_from}
use Rattle.public_suffix.specs.Rule.{reading_of}
use Rattle.public_suffix.specs.SuffixList.{lines_of, rules_of, first_bad_line, is_bad}
use Rattle.public_suffix.specs.Seen.{rule_seen, kept_rules}
use Rattle.public_suffix.specs.declared.refusal.TheConstants.{MAX_RULES}
use Rattle.public_suffix.proofs.lines.read_rules.Given as goal

abbrev pub invariant-lines : goal.invariant-lines
invariant-lines l = record {
  text : shadow (Utf8 l.rest);
  rules : kept_rules (rules_of l.text) ≡ kept_rules (map rule_seen l.rules.items ++ rules_of l.rest);
  few : length l.rules.items ≤ MAX_RULES + 1;
  bad : first_bad_line l.text ≡ position_from (λ line. is_bad (reading_of line)) l.number (lines_of l.rest);
  number : l.number + length l.rest ≤ length l.text + 1;
}

abbrev pub decreases-lines : goal.decreases-lines
decreases-lines l = length l.rest
