use Rattle.std.proofs.Common.{◌≡◌, ◌≤◌, ◌++◌, ◌+◌, ◌-◌, length, drop}
use Rattle.jar_types.specs.RowChanges.{newest_over}
use Rattle.commit_batches.proofs.merge.merged.Given as goal

abbrev pub invariant-pairs : goal.invariant-pairs
invariant-pairs l = record {
  old_in_range : l.i ≤ length l.older;
  new_in_range : l.j ≤ length l.newer;
  left : l.changes ++ newest_over (drop l.i l.older) (drop l.j l.newer) ≡ newest_over l.older l.newer;
}

abbrev pub decreases-pairs : goal.decreases-pairs
decreases-pairs l = (length l.older - l.i) + (length l.newer - l.j)
