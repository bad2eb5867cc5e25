use Rattle.std.proofs.Common.{◌≤◌, None, Some, length, ap, ◌∙◌, arith}
use Rattle.jar_types.specs.Loads.{is_begun, with_loaded}
use Rattle.key_loader.specs.Groups.{keys_of}
use Rattle.key_loader.specs.Planned.{Planned}
use Rattle.key_loader.proofs.PlanLemmas.{done_planned, fewer_places}
use Rattle.key_loader.proofs.LoadLemmas.{done_at}
use Rattle.key_loader.proofs.NextLemmas.{begun_is_there}
use Rattle.key_loader.proofs.SearchLemmas.{moved_place}
use Rattle.key_loader.proofs.plan.Plan.done.Goals as goal

pub invariant_of-self : goal.invariant_of-self
invariant_of-self c =
    let place = c.in-Some.place in
    let plan = c.self.inside in
    let keys = keys_of plan.groups.items in
    let less : length c.take_out-was_unloaded.new.places.items ≤ length plan.unloaded.items =
    rw c.take_out-was_unloaded.ensures.items (fewer_places place plan.unloaded.items) in (
      rw (c.take_out-was_unloaded.ensures.items, c.take_out-was_wanted.ensures.items, c.take_out-was_marked.ensures.items) (done_planned c.self.invariant.0 place),
      omega (arith, c.take_out-was_unloaded.new.places.ok.0, plan.unloaded.ok.0, c.self.invariant.1, c.take_out-was_wanted.ensures.capacity),
      omega (arith, c.take_out-was_unloaded.new.places.ok.0, plan.unloaded.ok.0, c.self.invariant.2, c.take_out-was_marked.ensures.capacity),
    )

pub returns-in-Some-clause-loads : goal.returns-in-Some-clause-loads
returns-in-Some-clause-loads c =
    let key = c.args.key.now in
    let place = c.in-Some.place in
    let plan = c.self.inside in
    let at = moved_place key (Some place) c.deref.result.now plan.groups.items c.deref.ensures.value c.in-Some.ensures in
    rw (c.take_out-was_unloaded.ensures.items, c.take_out-was_wanted.ensures.items, c.take_out-was_marked.ensures.items)
    (done_at c.self.invariant.0 key place at ∙ ap (λ (p : Planned). with_loaded key p.loads) c.self.view_is)

pub returns-in_default-clause-loads : goal.returns-in_default-clause-loads
returns-in_default-clause-loads c =
    let key = c.args.key.now in
    let at = moved_place key None c.deref.result.now c.self.inside.groups.items c.deref.ensures.value c.in_default.ensures in
    absurd (begun_is_there c.self.invariant.0 key (ap (λ (p : Planned). is_begun key p.loads) c.self.view_is ∙ c.requires) at)
