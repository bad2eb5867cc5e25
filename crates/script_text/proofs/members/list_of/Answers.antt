use Rattle.std.proofs.Common.{ap, sym, ◌∙◌, map}
use Rattle.std.specs.Prelude.{unwrap_or}
use Rattle.serde_json.specs.Data.{no_items}
use Rattle.serde_json.specs.View.{view}
use Rattle.script_text.specs.Members.{list_of}
use Rattle.script_text.proofs.MemberLemmas.{list_of-items_of}
use Rattle.script_text.proofs.members.list_of.Goals as goal

pub returns-in-Some : goal.returns-in-Some
returns-in-Some c =
    ap (map view) c.as_slice.ensures.value ∙ (sym (list_of-items_of (map view c.in-Some.list.now.items))
    ∙ ap (λ o. list_of (unwrap_or o no_items)) c.in-Some.ensures)
