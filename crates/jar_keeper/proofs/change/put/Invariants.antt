use Rattle.std.proofs.Common.{◌≡◌}
use Rattle.std.specs.Prelude.{filter}
use Rattle.std.specs.Ordering.{is_lt, is_gt}
use Rattle.jar_types.specs.RowChanges.{row_cmp}
use Rattle.jar_keeper.proofs.change.put.Given as goal

abbrev pub invariant-loop-other : goal.invariant-loop-other
invariant-loop-other l = record {
  lesser : l.lesser.items ≡ filter (λ other. is_lt (row_cmp other l.row)) l.yielded;
  greater : l.greater.items ≡ filter (λ other. is_gt (row_cmp other l.row)) l.yielded;
}
