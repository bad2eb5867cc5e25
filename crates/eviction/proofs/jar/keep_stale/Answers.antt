use Rattle.std.proofs.Common.{rules}
use Rattle.std.proofs.lemmas.Fn.{filter_same}
use Rattle.jar_types.specs.Plans.{is_stale}
use Rattle.eviction.specs.Candidates.{candidate_looks}
use Rattle.eviction.proofs.jar.keep_stale.Goals as goal

pub returns : goal.returns
returns c =
    filter_same _ (is_stale candidate_looks c.args.now) _ (λ x b f' k. search rules) _ _ c.retain.ensures.filtered
