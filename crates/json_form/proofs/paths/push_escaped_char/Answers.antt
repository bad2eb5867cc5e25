use Rattle.std.proofs.Common.{◌≢◌, rules}
use Rattle.json_form.proofs.PathLemmas.{escape_other}
use Rattle.json_form.proofs.paths.push_escaped_char.Goals as goal

pub returns-in_ok-push-in_default : goal.returns-in_ok-push-in_default
returns-in_ok-push-in_default c =
    let not_tilde : c.args.character ≢ 126 = search rules in
    let not_slash : c.args.character ≢ 47 = search rules in
    rw (escape_other c.args.character not_tilde not_slash) (search rules)
