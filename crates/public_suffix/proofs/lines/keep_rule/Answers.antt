use Rattle.std.proofs.Common.{arith, ◌+◌, ◌∙◌, ap, map}
use Rattle.public_suffix.specs.declared.refusal.TheConstants.{MAX_RULES}
use Rattle.public_suffix.specs.Seen.{rule_seen}
use Rattle.public_suffix.proofs.ListLemmas.{kept-push, kept-full}
use Rattle.public_suffix.proofs.lines.keep_rule.Goals as goal

pub returns-in_ok-push : goal.returns-in_ok-push
returns-in_ok-push c =
    ap (map rule_seen) c.in_ok-push.ensures.items ∙ kept-push (MAX_RULES + 1) c.args.rules.now.items c.args.rule (omega arith)

pub returns-else-len-le-MAX_RULES : goal.returns-else-len-le-MAX_RULES
returns-else-len-le-MAX_RULES c = kept-full (MAX_RULES + 1) c.args.rules.now.items c.args.rule (omega arith)
