use Rattle.std.proofs.Common.{rules}
use Rattle.std.specs.Prelude.{not}
use Rattle.std.proofs.lemmas.Fn.{filter_same}
use Rattle.jar_types.specs.Purges.{is_spent}
use Rattle.plain_jar.proofs.purge.take_out_spent.Goals as goal

pub returns : goal.returns
returns c =
    filter_same _ (λ d. not (is_spent c.args.key.now c.args.now d)) _ (λ x b f' k. search rules) _ _ c.retain.ensures.filtered
