use Rattle.serde_json.specs.View.{view}
use Rattle.script_text.specs.Readings.{view_of}
use Rattle.script_text.proofs.WalkLemmas.{document_refused, view_site_refused}
use Rattle.script_text.proofs.reader.renderer_view.Goals as goal

pub returns-in-Err-place_if : goal.returns-in-Err-place_if
returns-in-Err-place_if c =
    view_site_refused c.args.suffixes.now c.args.spot (view_of (view c.args.value.now)) c.in-Ok.document c.in-Err-place_if.refusal
    (rw c.text_at.ensures.value at c.in-Ok.ensures.ok) (rw c.site_url.ensures.value at c.in-Err-place_if.ensures.err)

pub returns-in-Err : goal.returns-in-Err
returns-in-Err c =
    document_refused c.args.suffixes.now c.args.spot (view_of (view c.args.value.now)) c.in-Err.refusal
    (rw c.text_at.ensures.value at c.in-Err.ensures.err)
