use Rattle.std.proofs.Common.{rules, arith, ◌+◌, ◌∙◌, map}
use Rattle.public_suffix.specs.Seen.{rule_seen}
use Rattle.public_suffix.specs.SuffixList.{lines_of, rules_of}
use Rattle.public_suffix.proofs.ListLemmas.{rules_of-next, bad_line-next, kept-few}
use Rattle.public_suffix.specs.declared.refusal.TheConstants.{MAX_RULES}
use Rattle.public_suffix.proofs.lines.read_rules.Goals as goal

pub lines-preserved : goal.lines-preserved
lines-preserved c = record {
  text = search rules;
  rules = rules_of-next (MAX_RULES + 1) (rules_of c.args.text.now) (map rule_seen c.lines.rules.items) (map rule_seen c.add_line.new.rules.items) c.lines.rest.now c.in-Some.line.now c.in-Some.next.now c.lines.invariant.rules c.in-Some.ensures.parts c.in_ok-add_line.ensures.1;
  few = kept-few (MAX_RULES + 1) c.add_line.new.rules.items _ c.in_ok-add_line.ensures.1;
  bad = c.lines.invariant.bad ∙ bad_line-next c.lines.number c.lines.rest.now c.in-Some.line.now (lines_of c.in-Some.next.now) c.in-Some.ensures.parts c.in_ok-add_line.ensures.0;
  number = omega (arith, c.in-Some.ensures.shorter);
}
