use Rattle.std.proofs.Common.{◌≡◌, take}
use Rattle.commit_batches.proofs.pending.Pending.copy.Given as goal

abbrev pub invariant-loop-change : goal.invariant-loop-change
invariant-loop-change l = l.copies ≡ take l.change-index l.self.list
