use Rattle.std.proofs.Common.{sym, ap, ◌∙◌, arith}
use Rattle.std.specs.Prelude.{slice_set}
use Rattle.std.proofs.lemmas.List.Edits.{map_over_more}
use Rattle.jar_types.specs.Gets.{refreshed}
use Rattle.plain_jar.proofs.access.refresh_all.Goals as goal

pub loop-cookie-preserved : goal.loop-cookie-preserved
loop-cookie-preserved c =
    let f = refreshed c.args.now in
    let list = c.loop-cookie.cookies in
    let i = c.loop-cookie.cookie-index in
    ap (slice_set list i) (c.refresh.ensures ∙ ap f (sym c.cookie-item.is))
    ∙ map_over_more f c.args.cookies.now list i c.cookie-item.result (omega arith) c.loop-cookie.invariant c.cookie-item.is
