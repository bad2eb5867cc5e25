use Rattle.std.proofs.Common.{rules, arith, of_calls, ◌≡◌, ◌-◌, length, drop, take}
use Rattle.std.specs.Prelude.{nat_lt, nat_le}
use Rattle.std.proofs.lemmas.Fn.{always_returns_same}
use Rattle.std.proofs.lemmas.List.{length-drop, take_all}
use Rattle.public_suffix.specs.Steps.{step_at}
use Rattle.public_suffix.proofs.NarrowLemmas.{parted_lt, parted_le, narrowed}
use Rattle.public_suffix.proofs.ending.narrow.Goals as goal

pub returns : goal.returns
returns c =
    let xs = c.args.rules.now in
    let s = c.partition_point-start.result in
    let e = c.partition_point-end.result in
    let step = c.args.step in
    let f = step_at c.args.depth in
    let whole : take (length xs - s) (drop s xs) ≡ drop s xs = take_all (length xs - s) (drop s xs) (omega (arith, length-drop s xs)) in
    let low = c.partition_point-start.ensures.partitioned (λ rule. nat_lt (f rule) step) (always_returns_same _ _ _ (λ a r g k. search (rules, of_calls))) (parted_lt f step xs c.requires) in
    let high = c.partition_point-end.ensures.partitioned (λ rule. nat_le (f rule) step) (always_returns_same _ _ _ (λ a r g k. search (rules, of_calls)))
    (parted_le f step xs (take (length xs - s) (drop s xs)) s c.requires c.partition_point-start.ensures.bound whole) in
    rw whole (narrowed f step xs s e c.partition_point-start.ensures.bound (rw whole at c.partition_point-end.ensures.bound) low (rw whole at high))
