use Rattle.std.proofs.Common.{◌∙◌, ap, List, length}
use Rattle.std.specs.Prelude.{◌==◌, not}
use Rattle.public_suffix.specs.declared.rule.Rule.{Rule}
use Rattle.public_suffix.specs.Steps.{step_at}
use Rattle.public_suffix.proofs.NarrowLemmas.{some_left}
use Rattle.public_suffix.proofs.ending.has_step.Goals as goal

pub returns : goal.returns
returns c =
    ap not c.is_empty.ensures ∙ ap (λ (rules : List Rule). not (length rules == 0)) c.narrow.ensures
    ∙ some_left (λ rule. step_at c.args.depth rule == c.args.step) c.args.rules.now
