use Rattle.std.proofs.Common.{◌∙◌, ℕ, ap}
use Rattle.std.specs.Prelude.{◌==◌}
use Rattle.std.specs.List.{list_any}
use Rattle.public_suffix.specs.Steps.{step_at}
use Rattle.public_suffix.proofs.NarrowLemmas.{marks_by}
use Rattle.public_suffix.proofs.ending.marks_at.Goals as goal

pub returns : goal.returns
returns c = λ mark.
    let has = λ (step : ℕ). list_any (λ rule. step_at c.args.depth rule == step) c.args.rules.now in
    marks_by has c.has_step.result c.has_step-2.result c.has_step-3.result mark
    (c.has_step.ensures ∙ ap has c.mark_step.ensures) (c.has_step-2.ensures ∙ ap has c.mark_step-2.ensures) (c.has_step-3.ensures ∙ ap has c.mark_step-3.ensures)
