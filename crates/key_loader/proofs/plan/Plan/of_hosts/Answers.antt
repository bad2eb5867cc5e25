use Rattle.std.proofs.Common.{sym, ap, ◌∙◌, subst}
use Rattle.std.specs.List.Sorted.{IsStrictlySortedBy}
use Rattle.std.proofs.lemmas.Result.{IfOk-weaker}
use Rattle.jar_types.specs.Ids.{text_cmp}
use Rattle.jar_types.specs.Loads.{none_loaded}
use Rattle.public_suffix.specs.Suffix.{key_of}
use Rattle.key_loader.specs.Groups.{keys_among, keys_of}
use Rattle.key_loader.proofs.HostLemmas.{keys_in}
use Rattle.key_loader.proofs.OrderLemmas.{keys_rise}
use Rattle.key_loader.proofs.plan.Plan.of_hosts.Goals as goal

pub of_groups-requires : goal.of_groups-requires
of_groups-requires c =
    let key = key_of c.args.suffixes.now in
    let hosts = c.args.hosts.now in
    subst (IsStrictlySortedBy text_cmp) (sym (ap keys_of c.in_ok-groups.ensures ∙ keys_in key hosts (keys_among key hosts))) (keys_rise key hosts)

pub returns-clause-loads : goal.returns-clause-loads
returns-clause-loads c =
    let key = key_of c.args.suffixes.now in
    let hosts = c.args.hosts.now in
    IfOk-weaker c.of_groups.result _ _
    (λ p loads. loads ∙ ap none_loaded (ap keys_of c.in_ok-groups.ensures ∙ keys_in key hosts (keys_among key hosts))) c.of_groups.ensures.loads

pub returns-clause-keys : goal.returns-clause-keys
returns-clause-keys c =
    let key = key_of c.args.suffixes.now in
    let hosts = c.args.hosts.now in
    IfOk-weaker c.of_groups.result _ _
    (λ p groups. ap keys_of (groups ∙ c.in_ok-groups.ensures) ∙ keys_in key hosts (keys_among key hosts)) c.of_groups.ensures.groups
