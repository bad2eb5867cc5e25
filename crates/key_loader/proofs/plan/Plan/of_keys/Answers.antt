use Rattle.std.proofs.Common.{sym, ap, ◌∙◌, subst}
use Rattle.std.specs.List.Sorted.{IsStrictlySortedBy}
use Rattle.std.proofs.lemmas.Result.{IfOk-weaker}
use Rattle.jar_types.specs.Ids.{text_cmp}
use Rattle.jar_types.specs.Loads.{none_loaded}
use Rattle.key_loader.specs.Groups.{keys_of}
use Rattle.key_loader.proofs.HostLemmas.{keys_without}
use Rattle.key_loader.proofs.plan.Plan.of_keys.Goals as goal

pub of_groups-requires : goal.of_groups-requires
of_groups-requires c =
    subst (IsStrictlySortedBy text_cmp) (sym (ap keys_of c.in_ok-groups.ensures ∙ keys_without c.args.keys)) c.requires

pub returns-clause-loads : goal.returns-clause-loads
returns-clause-loads c =
    IfOk-weaker c.of_groups.result _ _
    (λ p loads. loads ∙ ap none_loaded (ap keys_of c.in_ok-groups.ensures ∙ keys_without c.args.keys)) c.of_groups.ensures.loads

pub returns-clause-keys : goal.returns-clause-keys
returns-clause-keys c =
    IfOk-weaker c.of_groups.result _ _
    (λ p groups. ap keys_of (groups ∙ c.in_ok-groups.ensures) ∙ keys_without c.args.keys) c.of_groups.ensures.groups
