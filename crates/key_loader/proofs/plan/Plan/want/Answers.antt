use Rattle.std.proofs.Common.{◌≡◌, ℕ, List, None, Some, not, sym, ap, ◌∙◌, subst, arith}
use Rattle.std.specs.Prelude.{◌&&◌}
use Rattle.jar_types.specs.Loads.{with_want}
use Rattle.key_loader.specs.Groups.{keys_of}
use Rattle.key_loader.specs.Places.{IsPlanned, has_place, loads_at}
use Rattle.key_loader.specs.Planned.{Planned, may_be_wanted}
use Rattle.key_loader.proofs.PlanLemmas.{want_planned, want_room}
use Rattle.key_loader.proofs.LoadLemmas.{asked_not, asked_so, may_at, may_none, may_parts, want_at}
use Rattle.key_loader.proofs.SearchLemmas.{moved_place}
use Rattle.key_loader.proofs.plan.Plan.want.Goals as goal

pub returns-then-not-may_want-clause-value : goal.returns-then-not-may_want-clause-value
returns-then-not-may_want-clause-value c =
    let key = c.args.key.now in
    let place = c.in-Some.place in
    let plan = c.self.inside in
    let at = moved_place key (Some place) c.deref.result.now plan.groups.items c.deref.ensures.value c.in-Some.ensures in
    let may : c.may_want.result ≡ (has_place place plan.unloaded.items && (not (has_place place plan.wanted.items) && not (has_place place plan.lost.items))) =
    cc (c.may_want.ensures, c.deref-in-Some.ensures.value, c.deref-in-Some-2.ensures.value, c.deref-in-Some-3.ensures.value) in
    sym c.if-not-may_want.true ∙ may ∙ sym (may_at c.self.invariant.0 key place at) ∙ ap (λ (p : Planned). may_be_wanted key p.loads) c.self.view_is

pub returns-then-not-may_want-clause-loads : goal.returns-then-not-may_want-clause-loads
returns-then-not-may_want-clause-loads c =
    sym (asked_not c.args.key.now c.args.self.now.loads (sym (returns-then-not-may_want-clause-value c)))

pub push_reserved-requires : goal.push_reserved-requires
push_reserved-requires c =
    let place = c.in-Some.place in
    let plan = c.self.inside in
    let may : c.may_want.result ≡ (has_place place plan.unloaded.items && (not (has_place place plan.wanted.items) && not (has_place place plan.lost.items))) =
    cc (c.may_want.ensures, c.deref-in-Some.ensures.value, c.deref-in-Some-2.ensures.value, c.deref-in-Some-3.ensures.value) in
    let parts = may_parts (has_place place plan.unloaded.items) (has_place place plan.wanted.items) (has_place place plan.lost.items) (sym may ∙ c.if-not-may_want.false) in
    omega (arith, want_room c.self.invariant.0 place parts.0 parts.1 parts.2, plan.wanted.ok.0, plan.unloaded.ok.0, c.self.invariant.1)

pub invariant_of-self : goal.invariant_of-self
invariant_of-self c =
    let place = c.in-Some.place in
    let plan = c.self.inside in
    let may : c.may_want.result ≡ (has_place place plan.unloaded.items && (not (has_place place plan.wanted.items) && not (has_place place plan.lost.items))) =
    cc (c.may_want.ensures, c.deref-in-Some.ensures.value, c.deref-in-Some-2.ensures.value, c.deref-in-Some-3.ensures.value) in
    let parts = may_parts (has_place place plan.unloaded.items) (has_place place plan.wanted.items) (has_place place plan.lost.items) (sym may ∙ c.if-not-may_want.false) in (
      subst (λ (w : List ℕ). IsPlanned (keys_of plan.groups.items) plan.unloaded.items w plan.begun plan.lost.items) (sym c.push_reserved.ensures.items)
          (want_planned c.self.invariant.0 place parts.0 parts.1 parts.2),
      rw c.push_reserved.ensures.capacity c.self.invariant.1,
      c.self.invariant.2,
    )

pub returns-else-not-may_want-clause-value : goal.returns-else-not-may_want-clause-value
returns-else-not-may_want-clause-value c =
    let key = c.args.key.now in
    let place = c.in-Some.place in
    let plan = c.self.inside in
    let at = moved_place key (Some place) c.deref.result.now plan.groups.items c.deref.ensures.value c.in-Some.ensures in
    let may : c.may_want.result ≡ (has_place place plan.unloaded.items && (not (has_place place plan.wanted.items) && not (has_place place plan.lost.items))) =
    cc (c.may_want.ensures, c.deref-in-Some.ensures.value, c.deref-in-Some-2.ensures.value, c.deref-in-Some-3.ensures.value) in
    sym c.if-not-may_want.false ∙ may ∙ sym (may_at c.self.invariant.0 key place at) ∙ ap (λ (p : Planned). may_be_wanted key p.loads) c.self.view_is

pub returns-else-not-may_want-clause-loads : goal.returns-else-not-may_want-clause-loads
returns-else-not-may_want-clause-loads c =
    let key = c.args.key.now in
    let place = c.in-Some.place in
    let plan = c.self.inside in
    let at = moved_place key (Some place) c.deref.result.now plan.groups.items c.deref.ensures.value c.in-Some.ensures in
    ap (λ (w : List ℕ). loads_at (keys_of plan.groups.items) plan.unloaded.items w plan.begun plan.lost.items) c.push_reserved.ensures.items
    ∙ want_at c.self.invariant.0 key place at ∙ ap (λ (p : Planned). with_want key p.loads) c.self.view_is
    ∙ sym (asked_so key c.args.self.now.loads (sym (returns-else-not-may_want-clause-value c)))

pub returns-in-None-clause-value : goal.returns-in-None-clause-value
returns-in-None-clause-value c =
    let key = c.args.key.now in
    let at = moved_place key None c.deref.result.now c.self.inside.groups.items c.deref.ensures.value c.in-None.ensures in
    sym (may_none c.self.invariant.0 key at) ∙ ap (λ (p : Planned). may_be_wanted key p.loads) c.self.view_is

pub returns-in-None-clause-loads : goal.returns-in-None-clause-loads
returns-in-None-clause-loads c =
    sym (asked_not c.args.key.now c.args.self.now.loads (sym (returns-in-None-clause-value c)))
