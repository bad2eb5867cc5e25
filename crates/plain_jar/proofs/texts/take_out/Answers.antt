use Rattle.std.proofs.Common.{rules}
use Rattle.std.specs.Prelude.{not, bytes_eq}
use Rattle.std.proofs.lemmas.Fn.{filter_same}
use Rattle.plain_jar.proofs.texts.take_out.Goals as goal

pub returns : goal.returns
returns c =
    filter_same _ (λ other. not (bytes_eq c.args.text.now other)) _ (λ x b f' k. search rules) _ _ c.retain.ensures.filtered
