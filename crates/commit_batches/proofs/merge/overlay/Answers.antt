use Rattle.std.proofs.lemmas.Result.{IfOk-weaker}
use Rattle.commit_batches.specs.Waiting.{ChangesRise}
use Rattle.commit_batches.proofs.NewestLemmas.{newest_rise}
use Rattle.commit_batches.proofs.merge.overlay.Goals as goal

pub returns-clause-rises : goal.returns-clause-rises
returns-clause-rises c =
    let older : ChangesRise c.as_slice.result.now = rw c.as_slice.ensures c.requires in
    IfOk-weaker _ _ ChangesRise (λ changes e. rw e (newest_rise c.as_slice.result.now c.as_slice-2.result.now older)) c.merged.ensures
