use Rattle.std.proofs.Common.{◌≡◌, ◌≤◌, ◌+◌, length}
use Rattle.jar_types.specs.RowChanges.{newest_over}
use Rattle.commit_batches.proofs.pending.Pending.add.Given as goal

abbrev pub invariant-loop-change : goal.invariant-loop-change
invariant-loop-change l = record {
  list : l.self.list ≡ newest_over l.initial.self.list l.yielded;
  spare : l.initial.self.spare ≤ l.self.spare + length l.yielded;
}
