use Rattle.std.proofs.Common.{ap, sym, ◌∙◌, subst}
use Rattle.std.specs.List.Sorted.{IsStrictlySortedBy}
use Rattle.std.proofs.lemmas.Result.{IfOk-weaker}
use Rattle.jar_types.specs.Ids.{text_cmp}
use Rattle.key_loader.specs.Groups.{keys_of}
use Rattle.key_loader.specs.Planned.{Planned}
use Rattle.key_loader.proofs.plan.Plan.keys.Goals as goal

pub returns-clause-value : goal.returns-clause-value
returns-clause-value c =
    IfOk-weaker c.keys_in.result _ _
    (λ keys are. are ∙ ap keys_of c.deref.ensures.value ∙ ap (λ (p : Planned). keys_of p.groups) c.self.view_is) c.keys_in.ensures

pub returns-clause-rises : goal.returns-clause-rises
returns-clause-rises c =
    IfOk-weaker c.keys_in.result _ _
    (λ keys are. subst (IsStrictlySortedBy text_cmp) (sym (are ∙ ap keys_of c.deref.ensures.value)) c.self.invariant.0.keys_rise) c.keys_in.ensures
