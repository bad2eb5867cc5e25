use Rattle.std.proofs.Common.{arith}
use Rattle.public_suffix.specs.SuffixList.{rules_of}
use Rattle.public_suffix.specs.declared.refusal.TheConstants.{MAX_RULES}
use Rattle.public_suffix.proofs.ListLemmas.{kept-more, kept-whole}
use Rattle.public_suffix.proofs.suffixes.Suffixes.read.Goals as goal

pub returns-then-len-gt-MAX_RULES : goal.returns-then-len-gt-MAX_RULES
returns-then-len-gt-MAX_RULES c = (c.in_ok-rules.ensures.0, kept-more MAX_RULES c.in_ok-rules.rules.items (rules_of c.args.text.now) c.in_ok-rules.ensures.1 (omega arith))

pub returns : goal.returns
returns c =
    let whole = kept-whole MAX_RULES c.in_ok-rules.rules.items (rules_of c.args.text.now) c.in_ok-rules.ensures.1 (omega arith) in
    (c.in_ok-rules.ensures.0, whole.0, whole.1)
