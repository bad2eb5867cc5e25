use Rattle.std.proofs.Common.{◌≡◌, flat_map, take, ◌∙◌, ap}
use Rattle.std.proofs.lemmas.List.{take_all}
use Rattle.jar_types.specs.Stored.{hosts_of}
use Rattle.jar_keeper.specs.HostRows.{rows_of_host}
use Rattle.jar_keeper.proofs.tests.uses.load_all.Goals as goal

pub returns-clause-all : goal.returns-clause-all
returns-clause-all g c = λ undisturbed rows told.
    let items = c.as_slice-host-items.result.now in
    let seen : items ≡ c.in_ok-hosts.hosts = cc in
    let listed : take c.loop-host.host-index items ≡ hosts_of rows =
    take_all c.loop-host.host-index items c.loop-host-test.false ∙ seen
    ∙ c.in_ok-hosts.ensures.value (c.loop-host.invariant.since undisturbed) rows told in
    c.from_vec.ensures ∙ c.loop-host.invariant.all undisturbed rows told
    ∙ ap (λ hosts. flat_map (λ host. rows_of_host host rows) hosts) listed
