use Rattle.std.proofs.Common.{ap, ◌∙◌}
use Rattle.jar_types.specs.Loads.{next_key, with_begun}
use Rattle.key_loader.specs.Planned.{Planned}
use Rattle.key_loader.proofs.NextLemmas.{begins_at, begins_planned}
use Rattle.key_loader.proofs.SearchLemmas.{moved_place}
use Rattle.key_loader.proofs.plan.Plan.begin_load.Goals as goal

pub invariant_of-self : goal.invariant_of-self
invariant_of-self c =
    let key = c.args.key.now in
    let at = moved_place key c.place_of-self-inside.result c.deref.result.now c.self.inside.groups.items c.deref.ensures.value c.place_of-self-inside.ensures in
    let next = ap (λ (p : Planned). next_key p.loads) c.self.view_is ∙ c.requires in
    (begins_planned c.self.invariant.0 key c.place_of-self-inside.result at next, c.self.invariant.1, c.self.invariant.2)

pub returns-clause-loads : goal.returns-clause-loads
returns-clause-loads c =
    let key = c.args.key.now in
    let at = moved_place key c.place_of-self-inside.result c.deref.result.now c.self.inside.groups.items c.deref.ensures.value c.place_of-self-inside.ensures in
    let next = ap (λ (p : Planned). next_key p.loads) c.self.view_is ∙ c.requires in
    begins_at c.self.invariant.0 key c.place_of-self-inside.result at next ∙ ap (λ (p : Planned). with_begun key p.loads) c.self.view_is
