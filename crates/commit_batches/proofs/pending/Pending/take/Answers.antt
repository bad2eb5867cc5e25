use Rattle.commit_batches.proofs.NewestLemmas.{none_rise}
use Rattle.commit_batches.proofs.pending.Pending.take.Goals as goal

pub invariant_of-self : goal.invariant_of-self
invariant_of-self c = rw (c.replace-taken.ensures.after, c.new.ensures.items) none_rise
