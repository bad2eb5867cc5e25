use Rattle.std.proofs.lemmas.Result.{err_from_is_err_and}
use Rattle.serde_json.specs.View.{view}
use Rattle.script_text.specs.Readings.{ask_of}
use Rattle.script_text.proofs.WalkLemmas.{site_refused, url_refused}
use Rattle.script_text.proofs.ask.ask_of.Goals as goal

pub returns-in_err-written-clause-err : goal.returns-in_err-written-clause-err
returns-in_err-written-clause-err c =
    let rules = c.args.suffixes.now in
    let draft = ask_of (view c.args.value.now) in
    let p = err_from_is_err_and c.from_residual-in_err-written.result c.from_residual-in_err-written.ensures.1 in
    rw (p.1, p.2) (site_refused rules c.args.spot draft c.in_ok-initiator.initiator c.in_err-written.field-0.0
    (rw c.text_if.ensures.value at c.in_ok-initiator.ensures.ok) (rw c.site_url.ensures.value at c.in_err-written.ensures.err))

pub returns-in_err-place-clause-err : goal.returns-in_err-place-clause-err
returns-in_err-place-clause-err c =
    let rules = c.args.suffixes.now in
    let draft = ask_of (view c.args.value.now) in
    let p = err_from_is_err_and c.from_residual-in_err-place.result c.from_residual-in_err-place.ensures.1 in
    rw (p.1, p.2) (url_refused rules c.args.spot draft c.in_ok-initiator.initiator c.in_ok-written.written c.in_err-place.field-0.0
    (rw c.text_if.ensures.value at c.in_ok-initiator.ensures.ok) (rw c.site_url.ensures.value at c.in_ok-written.ensures.ok)
    (rw c.text_at.ensures.value at c.in_err-place.ensures.err))
