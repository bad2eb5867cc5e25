use Rattle.std.proofs.Common.{rules}
use Rattle.std.specs.Prelude.{not}
use Rattle.std.proofs.lemmas.Fn.{filter_same}
use Rattle.jar_types.specs.RowChanges.{has_id}
use Rattle.plain_jar.proofs.by_id.take_out_id.Goals as goal

pub returns : goal.returns
returns c =
    filter_same _ (λ d. not (has_id c.args.id.now d)) _ (λ x b f' k. search rules) _ _ c.retain.ensures.filtered
