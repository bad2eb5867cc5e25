use Rattle.std.proofs.Common.{◌≡◌, ◌++◌, take}
use Rattle.std.specs.Prelude.{map}
use Rattle.jar_types.specs.RowChanges.{change_id}
use Rattle.plain_jar.proofs.touched.add_changed.Given as goal

abbrev pub invariant-loop-change : goal.invariant-loop-change
invariant-loop-change l = l.all.items ≡ l.initial.all.items ++ map change_id (take l.change-index l.changes)
