use Rattle.std.proofs.Common.{◌≡◌, take}
use Rattle.jar_types.specs.RowChanges.{changed_rows}
use Rattle.jar_keeper.proofs.change.changed.Given as goal

abbrev pub invariant-loop-change : goal.invariant-loop-change
invariant-loop-change l = l.after.items ≡ changed_rows l.fn.rows (take l.change-index l.changes)
