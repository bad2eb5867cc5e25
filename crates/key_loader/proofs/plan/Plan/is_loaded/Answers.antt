use Rattle.std.proofs.Common.{None, Some, not, sym, ap, ◌∙◌}
use Rattle.jar_types.specs.Loads.{is_loaded}
use Rattle.key_loader.specs.Places.{has_place}
use Rattle.key_loader.specs.Planned.{Planned}
use Rattle.key_loader.proofs.LoadLemmas.{is_loaded_at, is_loaded_none}
use Rattle.key_loader.proofs.SearchLemmas.{moved_place}
use Rattle.key_loader.proofs.plan.Plan.is_loaded.Goals as goal

pub returns-in-Some : goal.returns-in-Some
returns-in-Some c =
    let key = c.args.key.now in
    let place = c.in-Some.place in
    let at = moved_place key (Some place) c.deref.result.now c.self.inside.groups.items c.deref.ensures.value c.in-Some.ensures in
    ap not (c.is_unloaded.ensures ∙ ap (has_place place) c.deref-in-Some.ensures.value) ∙ sym (is_loaded_at c.self.invariant.0 key place at)
    ∙ ap (λ (p : Planned). is_loaded key p.loads) c.self.view_is

pub returns-in-None : goal.returns-in-None
returns-in-None c =
    let key = c.args.key.now in
    let at = moved_place key None c.deref.result.now c.self.inside.groups.items c.deref.ensures.value c.in-None.ensures in
    sym (is_loaded_none c.self.invariant.0 key at) ∙ ap (λ (p : Planned). is_loaded key p.loads) c.self.view_is
