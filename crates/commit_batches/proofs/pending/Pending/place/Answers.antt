use Rattle.commit_batches.proofs.NewestLemmas.{changes_total}
use Rattle.commit_batches.proofs.PutLemmas.{put_rises}
use Rattle.commit_batches.proofs.pending.Pending.place.Goals as goal

pub invariant_of-self : goal.invariant_of-self
invariant_of-self c = rw c.place_among.ensures.list (put_rises changes_total c.args.change _ c.self.invariant)
