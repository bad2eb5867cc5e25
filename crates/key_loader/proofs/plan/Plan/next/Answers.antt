use Rattle.std.proofs.Common.{◌≡◌, ◌<◌, ℕ, List, None, Some, length, sym, ap, ◌∙◌, arith}
use Rattle.std.specs.Prelude.{option_map}
use Rattle.std.proofs.lemmas.List.{length-map}
use Rattle.jar_types.specs.Loads.{all_loaded, next_key}
use Rattle.key_loader.specs.declared.group.Group.{Group}
use Rattle.key_loader.specs.Groups.{keys_of}
use Rattle.key_loader.specs.Places.{key_at}
use Rattle.key_loader.specs.Planned.{Planned}
use Rattle.key_loader.proofs.NextLemmas.{next_all, next_at, next_of, next_times}
use Rattle.key_loader.proofs.SearchLemmas.{key_is}
use Rattle.key_loader.proofs.plan.Plan.next.Goals as goal

pub index-requires : goal.index-requires
index-requires c =
    let plan = c.self.inside in
    let next : next_of plan.unloaded.items plan.wanted.items plan.begun ≡ Some c.in-Some.place = cc (c.next_place.ensures, c.in-Some.is, c.deref.ensures.value, c.deref-2.ensures.value) in
    let within : c.in-Some.place < length (keys_of plan.groups.items) =
    c.self.invariant.0.below c.in-Some.place (next_times plan.unloaded.items plan.wanted.items plan.begun c.self.invariant.0 c.in-Some.place next) in
    omega (arith, length-map plan.groups.items (λ (g : Group). g.key), plan.groups.ok.0)

pub returns-in-Some-clause-value : goal.returns-in-Some-clause-value
returns-in-Some-clause-value c =
    let plan = c.self.inside in
    let place = c.in-Some.place in
    let keys = keys_of plan.groups.items in
    let next : next_of plan.unloaded.items plan.wanted.items plan.begun ≡ Some place = cc (c.next_place.ensures, c.in-Some.is, c.deref.ensures.value, c.deref-2.ensures.value) in
    let within : place < length keys =
    c.self.invariant.0.below place (next_times plan.unloaded.items plan.wanted.items plan.begun c.self.invariant.0 place next) in
    let own : c.as_str.result.now ≡ key_at keys place =
    c.as_str.ensures ∙ ap (λ (g : Group). g.key) c.index.ensures
    ∙ sym (key_is plan.groups.items place c.index.result.now (omega (arith, length-map plan.groups.items (λ (g : Group). g.key)))) in
    ap (λ (k : List ℕ). Some k) own ∙ sym (ap (option_map (key_at keys)) next)
    ∙ next_at keys plan.unloaded.items plan.wanted.items plan.begun plan.lost.items ∙ ap (λ (p : Planned). next_key p.loads) c.self.view_is

pub returns-in-Some-clause-none : goal.returns-in-Some-clause-none
returns-in-Some-clause-none c =
    let plan = c.self.inside in
    let next : next_of plan.unloaded.items plan.wanted.items plan.begun ≡ Some c.in-Some.place = cc (c.next_place.ensures, c.in-Some.is, c.deref.ensures.value, c.deref-2.ensures.value) in
    next_all plan.unloaded.items plan.wanted.items plan.begun (Some c.in-Some.place) c.self.invariant.0 next
    ∙ ap (λ (p : Planned). all_loaded p.loads) c.self.view_is

pub returns-in-None-clause-value : goal.returns-in-None-clause-value
returns-in-None-clause-value c =
    let plan = c.self.inside in
    let keys = keys_of plan.groups.items in
    let next : next_of plan.unloaded.items plan.wanted.items plan.begun ≡ None = cc (c.next_place.ensures, c.in-None.is, c.deref.ensures.value, c.deref-2.ensures.value) in
    sym (ap (option_map (key_at keys)) next)
    ∙ next_at keys plan.unloaded.items plan.wanted.items plan.begun plan.lost.items ∙ ap (λ (p : Planned). next_key p.loads) c.self.view_is

pub returns-in-None-clause-none : goal.returns-in-None-clause-none
returns-in-None-clause-none c =
    let plan = c.self.inside in
    let next : next_of plan.unloaded.items plan.wanted.items plan.begun ≡ None = cc (c.next_place.ensures, c.in-None.is, c.deref.ensures.value, c.deref-2.ensures.value) in
    next_all plan.unloaded.items plan.wanted.items plan.begun None c.self.invariant.0 next
    ∙ ap (λ (p : Planned). all_loaded p.loads) c.self.view_is
