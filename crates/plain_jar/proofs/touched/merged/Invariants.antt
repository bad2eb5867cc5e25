use Rattle.std.proofs.Common.{◌≤◌, ◌+◌, ◌-◌, length}
use Rattle.plain_jar.proofs.TouchLemmas.{Merged}
use Rattle.plain_jar.proofs.touched.merged.Given as goal

abbrev pub invariant-ids : goal.invariant-ids
invariant-ids l = record {
  old : l.old ≤ length l.ids;
  new : l.new ≤ length l.changes;
  merged : Merged l.ids l.changes l.all.items l.old l.new;
}

abbrev pub decreases-ids : goal.decreases-ids
decreases-ids l = (length l.ids - l.old) + (length l.changes - l.new)
