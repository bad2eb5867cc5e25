use Rattle.std.proofs.Common.{None, Some, sym, ap, ◌∙◌}
use Rattle.jar_types.specs.Loads.{is_marked}
use Rattle.key_loader.specs.Places.{has_place}
use Rattle.key_loader.specs.Planned.{Planned}
use Rattle.key_loader.proofs.LoadLemmas.{is_marked_at, is_marked_none}
use Rattle.key_loader.proofs.SearchLemmas.{moved_place}
use Rattle.key_loader.proofs.plan.Plan.is_marked.Goals as goal

pub returns-in-Some : goal.returns-in-Some
returns-in-Some c =
    let key = c.args.key.now in
    let place = c.in-Some.place in
    let at = moved_place key (Some place) c.deref.result.now c.self.inside.groups.items c.deref.ensures.value c.in-Some.ensures in
    c.has_place.ensures ∙ ap (has_place place) c.deref-in-Some.ensures.value ∙ sym (is_marked_at c.self.invariant.0 key place at)
    ∙ ap (λ (p : Planned). is_marked key p.loads) c.self.view_is

pub returns-in-None : goal.returns-in-None
returns-in-None c =
    let key = c.args.key.now in
    let at = moved_place key None c.deref.result.now c.self.inside.groups.items c.deref.ensures.value c.in-None.ensures in
    sym (is_marked_none c.self.invariant.0 key at) ∙ ap (λ (p : Planned). is_marked key p.loads) c.self.view_is
