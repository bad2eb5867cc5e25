use Rattle.std.proofs.Common.{◌≡◌, ◌≤◌, ◌++◌, ◌-◌, length, take, drop}
use Rattle.jar_types.specs.Ids.{text_cmp}
use Rattle.jar_types.specs.Orders.{placed_once}
use Rattle.plain_jar.proofs.moved.place_once.Given as goal

abbrev pub invariant-places : goal.invariant-places
invariant-places l = record {
  in_range : l.place ≤ length l.keys.items;
  left : take l.place l.keys.items ++ placed_once text_cmp l.key (drop l.place l.keys.items) ≡ placed_once text_cmp l.key l.keys.items;
}

abbrev pub decreases-places : goal.decreases-places
decreases-places l = length l.keys.items - l.place
