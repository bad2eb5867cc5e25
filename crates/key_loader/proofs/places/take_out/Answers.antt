use Rattle.std.proofs.Common.{rules}
use Rattle.std.specs.Prelude.{not, nat_eq}
use Rattle.std.proofs.lemmas.Fn.{filter_same}
use Rattle.key_loader.proofs.places.take_out.Goals as goal

pub returns-clause-items : goal.returns-clause-items
returns-clause-items c =
    filter_same _ (λ other. not (nat_eq c.args.place other)) _ (λ x b f' k. search rules) _ _ c.retain.ensures.filtered
