use Rattle.std.proofs.Common.{◌≡◌, ◌≤◌, length, drop}
use Rattle.std.specs.Prelude.{map}
use Rattle.jar_types.specs.Ids.{text_cmp}
use Rattle.jar_types.specs.Orders.{ascending}
use Rattle.plain_jar.proofs.moved.moved.Given as goal

abbrev pub invariant-changes : goal.invariant-changes
invariant-changes l = record {
  in_range : l.left ≤ length l.changes;
  placed : l.keys.items ≡ ascending text_cmp (map (λ c. c.cookie.key) (drop l.left l.changes));
}

abbrev pub decreases-changes : goal.decreases-changes
decreases-changes l = l.left
