use Rattle.std.proofs.Common.{rules}
use Rattle.std.specs.Prelude.{not}
use Rattle.std.proofs.lemmas.Fn.{filter_same}
use Rattle.jar_types.specs.Listeners.{is_listener}
use Rattle.plain_jar.proofs.listen.take_out.Goals as goal

pub returns : goal.returns
returns c =
    filter_same _ (λ l. not (is_listener c.args.caller c.args.number l)) _ (λ x b f' k. search rules) _ _ c.retain.ensures.filtered
