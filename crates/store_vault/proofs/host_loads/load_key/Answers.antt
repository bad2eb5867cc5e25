use Rattle.std.proofs.Common.{◌≡◌, None, Some, ap, sym, ◌∙◌}
use Rattle.std.specs.Prelude.{option_copied}
use Rattle.key_loader.specs.Groups.{hosts_of}
use Rattle.store_vault.specs.Loading.{rules_of}
use Rattle.store_vault.proofs.HostLemmas.{none_fit, none_over, planned, some_fit, some_over}
use Rattle.store_vault.proofs.ResultLemmas.{if_ok}
use Rattle.store_vault.proofs.host_loads.load_key.Goals as goal

pub returns-in-Some-clause-fits : goal.returns-in-Some-clause-fits
returns-in-Some-clause-fits g c =
    let stored = c.args.stored.now in
    let r = rules_of stored 0 0 in
    let key = c.args.key.now in
    let asked = c.hosts_of.ensures ∙ (ap (λ k. hosts_of k stored.plan.groups) c.as_str.ensures ∙ ap (hosts_of key) stored.groups) in
    let there : planned r key ≡ Some c.in-Some.hosts.now = sym asked ∙ ap option_copied c.in-Some.is in
    if_ok c.load_hosts.result (λ cookies load. some_fit r key cookies c.in-Some.hosts.now stored.rises there load) c.load_hosts.ensures.load

pub returns-in-Some-clause-over : goal.returns-in-Some-clause-over
returns-in-Some-clause-over g c =
    let stored = c.args.stored.now in
    let r = rules_of stored 0 0 in
    let key = c.args.key.now in
    let asked = c.hosts_of.ensures ∙ (ap (λ k. hosts_of k stored.plan.groups) c.as_str.ensures ∙ ap (hosts_of key) stored.groups) in
    let there : planned r key ≡ Some c.in-Some.hosts.now = sym asked ∙ ap option_copied c.in-Some.is in
    if_ok c.load_hosts.result
    (λ cookies over undisturbed held told. some_over r key held cookies c.in-Some.hosts.now there (over undisturbed held told))
    c.load_hosts.ensures.over

pub returns-in-None-clause-fits : goal.returns-in-None-clause-fits
returns-in-None-clause-fits g c = none_fit (rules_of c.args.stored.now 0 0) c.args.key.now c.new.result c.new.ensures

pub returns-in-None-clause-over : goal.returns-in-None-clause-over
returns-in-None-clause-over g c =
    let stored = c.args.stored.now in
    let r = rules_of stored 0 0 in
    let key = c.args.key.now in
    let asked = c.hosts_of.ensures ∙ (ap (λ k. hosts_of k stored.plan.groups) c.as_str.ensures ∙ ap (hosts_of key) stored.groups) in
    let none : planned r key ≡ None = sym asked ∙ ap option_copied c.in-None.is in
    λ undisturbed held told. none_over r key held c.new.result none c.new.ensures
