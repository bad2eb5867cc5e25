use Rattle.std.proofs.Common.{rules}
use Rattle.std.specs.Prelude.{not}
use Rattle.std.proofs.lemmas.Fn.{filter_same}
use Rattle.jar_types.specs.Ids.{same_id}
use Rattle.plain_jar.proofs.by_id.take_out.Goals as goal

pub returns : goal.returns
returns c =
    filter_same _ (λ d. not (same_id c.args.cookie.now d)) _ (λ x b f' k. search rules) _ _ c.retain.ensures.filtered
