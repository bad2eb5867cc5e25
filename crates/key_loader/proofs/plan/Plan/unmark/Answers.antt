use Rattle.std.proofs.Common.{ℕ, List, None, Some, sym, ap, ◌∙◌, subst}
use Rattle.jar_types.specs.Loads.{is_marked, without_mark}
use Rattle.key_loader.specs.Groups.{keys_of}
use Rattle.key_loader.specs.Places.{IsPlanned, loads_at}
use Rattle.key_loader.specs.Planned.{Planned}
use Rattle.key_loader.proofs.PlanLemmas.{unmark_planned}
use Rattle.key_loader.proofs.LoadLemmas.{is_marked_at, is_marked_none, unmark_at, unmark_none}
use Rattle.key_loader.proofs.SearchLemmas.{moved_place}
use Rattle.key_loader.proofs.plan.Plan.unmark.Goals as goal

pub invariant_of-self : goal.invariant_of-self
invariant_of-self c =
    let plan = c.self.inside in (
      subst (λ (l : List ℕ). IsPlanned (keys_of plan.groups.items) plan.unloaded.items plan.wanted.items plan.begun l) (sym c.take_out.ensures.items)
          (unmark_planned c.self.invariant.0 c.in-Some.place),
      c.self.invariant.1,
      rw c.take_out.ensures.capacity c.self.invariant.2,
    )

pub returns-in-Some-clause-value : goal.returns-in-Some-clause-value
returns-in-Some-clause-value c =
    let key = c.args.key.now in
    let place = c.in-Some.place in
    let at = moved_place key (Some place) c.deref.result.now c.self.inside.groups.items c.deref.ensures.value c.in-Some.ensures in
    c.take_out.ensures.value ∙ sym (is_marked_at c.self.invariant.0 key place at)
    ∙ ap (λ (p : Planned). is_marked key p.loads) c.self.view_is

pub returns-in-Some-clause-loads : goal.returns-in-Some-clause-loads
returns-in-Some-clause-loads c =
    let key = c.args.key.now in
    let place = c.in-Some.place in
    let plan = c.self.inside in
    let at = moved_place key (Some place) c.deref.result.now plan.groups.items c.deref.ensures.value c.in-Some.ensures in
    ap (λ (ps : List ℕ). loads_at (keys_of plan.groups.items) plan.unloaded.items plan.wanted.items plan.begun ps) c.take_out.ensures.items
    ∙ unmark_at c.self.invariant.0 key place at ∙ ap (λ (p : Planned). without_mark key p.loads) c.self.view_is

pub returns-in-None-clause-value : goal.returns-in-None-clause-value
returns-in-None-clause-value c =
    let key = c.args.key.now in
    let at = moved_place key None c.deref.result.now c.self.inside.groups.items c.deref.ensures.value c.in-None.ensures in
    sym (is_marked_none c.self.invariant.0 key at) ∙ ap (λ (p : Planned). is_marked key p.loads) c.self.view_is

pub returns-in-None-clause-loads : goal.returns-in-None-clause-loads
returns-in-None-clause-loads c =
    let key = c.args.key.now in
    let at = moved_place key None c.deref.result.now c.self.inside.groups.items c.deref.ensures.value c.in-None.ensures in
    sym (ap (λ (p : Planned). p.loads) c.self.view_is) ∙ unmark_none c.self.invariant.0 key at ∙ ap (λ (p : Planned). without_mark key p.loads) c.self.view_is
