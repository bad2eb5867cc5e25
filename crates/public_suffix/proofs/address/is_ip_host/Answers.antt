use Rattle.std.proofs.Common.{◌∷◌, [], ◌≡◌, false, ◌∙◌, ap, sym, eqb}
use Rattle.std.specs.List.{starts_with}
use Rattle.std.proofs.lemmas.Str.Pattern.{starts_text}
use Rattle.jar_values.specs.Hosts.{is_number}
use Rattle.public_suffix.proofs.address.is_ip_host.Goals as goal

pub returns-else-starts_with : goal.returns-else-starts_with
returns-else-starts_with c =
    let no_bracket : starts_with eqb c.args.host.now (91 ∷ []) ≡ false = sym (starts_text c.starts_with.result (91 ∷ []) c.args.host.now c.starts_with.ensures.cases) ∙ c.if-starts_with.false in
    rw no_bracket (c.is_number.ensures ∙ ap is_number c.last_label.ensures)
