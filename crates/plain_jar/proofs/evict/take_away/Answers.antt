use Rattle.std.proofs.Common.{rules}
use Rattle.std.specs.Prelude.{not}
use Rattle.std.specs.List.{list_any}
use Rattle.std.proofs.lemmas.Fn.{filter_same}
use Rattle.jar_types.specs.Ids.{same_id}
use Rattle.plain_jar.proofs.evict.take_away.Goals as goal

pub returns : goal.returns
returns c =
    filter_same _ (λ d. not (list_any (same_id d) c.args.gone.now)) _ (λ x b f' k. search rules) _ _ c.retain.ensures.filtered
