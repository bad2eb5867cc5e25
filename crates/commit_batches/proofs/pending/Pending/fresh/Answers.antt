use Rattle.commit_batches.proofs.NewestLemmas.{none_rise}
use Rattle.commit_batches.proofs.pending.Pending.fresh.Goals as goal

pub invariant_of-result : goal.invariant_of-result
invariant_of-result c = rw c.new.ensures.items none_rise
