use Rattle.std.proofs.Common.{None, Some, sym, ap, ◌∙◌, arith}
use Rattle.jar_types.specs.Loads.{is_begun, is_wanted, with_lost}
use Rattle.key_loader.specs.Planned.{Planned}
use Rattle.key_loader.proofs.PlanLemmas.{lost_planned, mark_planned, mark_room}
use Rattle.key_loader.proofs.LoadLemmas.{is_wanted_at, is_wanted_none, lost_at, mark_at}
use Rattle.key_loader.proofs.NextLemmas.{begun_is_there}
use Rattle.key_loader.proofs.SearchLemmas.{moved_place}
use Rattle.key_loader.proofs.plan.Plan.lost.Goals as goal

pub push_reserved-requires : goal.push_reserved-requires
push_reserved-requires c =
    let place = c.in-Some.place in
    let plan = c.self.inside in
    let was_wanted = sym c.take_out-was_wanted.ensures.value ∙ c.if-was_wanted.true in
    omega (arith, mark_room c.self.invariant.0 place was_wanted, plan.lost.ok.0, plan.unloaded.ok.0, c.self.invariant.2)

pub invariant_of-self : goal.invariant_of-self
invariant_of-self c =
    let place = c.in-Some.place in
    let plan = c.self.inside in
    let was_wanted = sym c.take_out-was_wanted.ensures.value ∙ c.if-was_wanted.true in (
      rw (c.take_out-was_wanted.ensures.items, c.push_reserved.ensures.items) (mark_planned c.self.invariant.0 place was_wanted),
      rw c.take_out-was_wanted.ensures.capacity c.self.invariant.1,
      rw c.push_reserved.ensures.capacity c.self.invariant.2,
    )

pub invariant_of-self-else-was_wanted : goal.invariant_of-self-else-was_wanted
invariant_of-self-else-was_wanted c = (
  rw c.take_out-was_wanted.ensures.items (lost_planned c.self.invariant.0 c.in-Some.place),
  rw c.take_out-was_wanted.ensures.capacity c.self.invariant.1,
  c.self.invariant.2,
)

pub returns-then-was_wanted-clause-value : goal.returns-then-was_wanted-clause-value
returns-then-was_wanted-clause-value c =
    let key = c.args.key.now in
    let place = c.in-Some.place in
    let plan = c.self.inside in
    let at = moved_place key (Some place) c.deref.result.now plan.groups.items c.deref.ensures.value c.in-Some.ensures in
    c.take_out-was_wanted.ensures.value ∙ sym (is_wanted_at c.self.invariant.0 key place at) ∙ ap (λ (p : Planned). is_wanted key p.loads) c.self.view_is

pub returns-then-was_wanted-clause-loads : goal.returns-then-was_wanted-clause-loads
returns-then-was_wanted-clause-loads c =
    let key = c.args.key.now in
    let place = c.in-Some.place in
    let plan = c.self.inside in
    let at = moved_place key (Some place) c.deref.result.now plan.groups.items c.deref.ensures.value c.in-Some.ensures in
    let was_wanted = sym c.take_out-was_wanted.ensures.value ∙ c.if-was_wanted.true in
    rw (c.take_out-was_wanted.ensures.items, c.push_reserved.ensures.items)
    (mark_at c.self.invariant.0 key place at was_wanted ∙ ap (λ (p : Planned). with_lost key p.loads) c.self.view_is)

pub returns-else-was_wanted-clause-value : goal.returns-else-was_wanted-clause-value
returns-else-was_wanted-clause-value c =
    let key = c.args.key.now in
    let place = c.in-Some.place in
    let plan = c.self.inside in
    let at = moved_place key (Some place) c.deref.result.now plan.groups.items c.deref.ensures.value c.in-Some.ensures in
    c.take_out-was_wanted.ensures.value ∙ sym (is_wanted_at c.self.invariant.0 key place at) ∙ ap (λ (p : Planned). is_wanted key p.loads) c.self.view_is

pub returns-else-was_wanted-clause-loads : goal.returns-else-was_wanted-clause-loads
returns-else-was_wanted-clause-loads c =
    let key = c.args.key.now in
    let place = c.in-Some.place in
    let plan = c.self.inside in
    let at = moved_place key (Some place) c.deref.result.now plan.groups.items c.deref.ensures.value c.in-Some.ensures in
    let not_wanted = sym c.take_out-was_wanted.ensures.value ∙ c.if-was_wanted.false in
    rw c.take_out-was_wanted.ensures.items
    (lost_at c.self.invariant.0 key place at not_wanted ∙ ap (λ (p : Planned). with_lost key p.loads) c.self.view_is)

pub returns-in-None-clause-value : goal.returns-in-None-clause-value
returns-in-None-clause-value c =
    let key = c.args.key.now in
    let at = moved_place key None c.deref.result.now c.self.inside.groups.items c.deref.ensures.value c.in-None.ensures in
    sym (is_wanted_none c.self.invariant.0 key at) ∙ ap (λ (p : Planned). is_wanted key p.loads) c.self.view_is

pub returns-in-None-clause-loads : goal.returns-in-None-clause-loads
returns-in-None-clause-loads c =
    let key = c.args.key.now in
    let at = moved_place key None c.deref.result.now c.self.inside.groups.items c.deref.ensures.value c.in-None.ensures in
    absurd (begun_is_there c.self.invariant.0 key (ap (λ (p : Planned). is_begun key p.loads) c.self.view_is ∙ c.requires) at)
