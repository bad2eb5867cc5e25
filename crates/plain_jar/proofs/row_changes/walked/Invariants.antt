use Rattle.std.proofs.Common.{◌≤◌, ◌+◌, ◌-◌, length}
use Rattle.plain_jar.proofs.WalkLemmas.{Walked}
use Rattle.plain_jar.proofs.row_changes.walked.Given as goal

abbrev pub invariant-ids : goal.invariant-ids
invariant-ids l = record {
  old : l.old ≤ length l.before;
  new : l.new ≤ length l.later;
  walked : Walked l.before l.later l.changes.items l.old l.new;
}

abbrev pub decreases-ids : goal.decreases-ids
decreases-ids l = (length l.before - l.old) + (length l.later - l.new)
