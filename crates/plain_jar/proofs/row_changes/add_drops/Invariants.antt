use Rattle.std.proofs.Common.{◌≡◌, ◌++◌, [], drop}
use Rattle.jar_types.specs.RowChanges.{row_changes}
use Rattle.plain_jar.proofs.row_changes.add_drops.Given as goal

abbrev pub invariant-loop-cookie : goal.invariant-loop-cookie
invariant-loop-cookie l =
    l.changes.items ++ row_changes (drop l.cookie-index l.before) []
    ≡ l.initial.changes.items ++ row_changes l.before []
