use Rattle.std.proofs.Common.{◌≡◌, false, true, drop, ◌+◌, sym, ◌∙◌}
use Rattle.jar_types.specs.Stored.{hosts_of}
use Rattle.jar_keeper.specs.HostRows.{begins_with}
use Rattle.jar_keeper.proofs.HostLemmas.{host_passed, host_noted, rest_of}
use Rattle.jar_keeper.proofs.host.hosts_in.Goals as goal
use Rattle.jar_keeper.proofs.host.hosts_in.Goals.{then-not-begins_with+in_ok-copy+in_ok-push, else-not-begins_with}

pub loop-place-preserved : goal.loop-place-preserved
loop-place-preserved c =
    let rows = c.args.rows.now in
    let row = c.index-rows-place.result in
    let place = c.loop-place.place in
    let hosts = c.loop-place.hosts.items in
    let tested = rw (rest_of rows (place + 1)) at c.begins_with.ensures in
    elim c.if-not-begins_with.branch [
      | then-not-begins_with+in_ok-copy+in_ok-push w ↦
          let other : begins_with row.host (drop (place + 1) rows) ≡ false = sym tested ∙ w.if-not-begins_with.true in
          rw (w.hosts-is, w.in_ok-push.ensures.items, w.in_ok-copy.ensures)
          (host_noted hosts (hosts_of rows) rows place row c.requires c.loop-place-test.true c.index-rows-place.is other c.loop-place.invariant)
      | else-not-begins_with w ↦
          let same : begins_with row.host (drop (place + 1) rows) ≡ true = sym tested ∙ w.if-not-begins_with.false in
          rw w.hosts-is
          (host_passed hosts (hosts_of rows) rows place row c.requires c.loop-place-test.true c.index-rows-place.is same c.loop-place.invariant)
    ]
