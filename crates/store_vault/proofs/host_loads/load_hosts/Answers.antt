use Rattle.std.proofs.Common.{rules, ◌≡◌, ◌<◌, length, get_or, ap, subst, ◌∙◌}
use Rattle.jar_types.specs.RowChanges.{RowsRise}
use Rattle.jar_keeper.specs.HostRows.{AreOfHost, rows_of_host}
use Rattle.store_vault.specs.Loading.{rules_of}
use Rattle.store_vault.proofs.HostLemmas.{held_on, load_on}
use Rattle.store_vault.proofs.LookLemmas.{looked_on}
use Rattle.store_vault.proofs.host_loads.load_hosts.Goals as goal

pub hosts-preserved : goal.hosts-preserved
hosts-preserved g c =
    let r = rules_of c.args.stored.now 0 0 in
    let hosts = c.args.hosts.now in
    let i = c.hosts.host-index in
    let host = c.host-item.result in
    let so_far = c.hosts.invariant in
    let same : c.as_slice-host-items.result.now ≡ hosts = c.as_slice-host-items.ensures in
    let within : i < length hosts = search rules in
    let read : host ≡ get_or hosts i host = search rules in
    let rows = c.in_ok-rows.rows in
    record {
      load = load_on r hosts i host c.hosts.cookies c.add_cookies.new.cookies rows within read so_far.load
          (subst (λ h. AreOfHost h rows × RowsRise rows) c.as_str.ensures c.in_ok-rows.ensures.rises) c.in_ok-add_cookies.ensures;
      over = λ undisturbed held tells.
          held_on r held hosts i host c.hosts.cookies c.add_cookies.new.cookies rows within read
          (so_far.over (c.load.ensures.since undisturbed) held tells)
          (c.in_ok-rows.ensures.value undisturbed held ((so_far.looked.told held).0 tells) ∙ ap (λ h. rows_of_host h held) c.as_str.ensures) c.in_ok-add_cookies.ensures;
      looked = looked_on so_far.looked (record { told = c.load.ensures.told; since = c.load.ensures.since; left = c.load.ensures.left });
      count = c.in_ok-rows.ensures.count ∙ so_far.count;
    }
