-- What a value says is admitted.
use Rattle.std.proofs.Common.{◌≡◌, ◌∙◌, ℕ, List, map, length, slice_get, Bool, true, false, is_some, Option, Some, None, option_map, Result, Ok, Err, IfOk, refl, ap, sym, subst, codes, arith, if◌then◌else◌}
use Rattle.std.proofs.lemmas.List.{length-map}
use Rattle.std.proofs.lemmas.Option.{slice_get-map}
use Rattle.serde_json.specs.Data.{Data}
use Rattle.script_text.specs.declared.actor.Actor.{Actor}
use Rattle.script_text.specs.declared.refused.ScriptRefusal.{ScriptRefusal}
use Rattle.script_text.specs.declared.script.Script.{Script}
use Rattle.script_text.specs.declared.step.Step.{Step}
use Rattle.script_text.specs.Admitted.{Where, MayStand, place_of_step, IsAdmittedActor, IsAdmitted}
use Rattle.script_text.specs.Drafts.{DraftStep, DraftActor}
use Rattle.script_text.specs.Readings.{what_of, step_of, view_of, sees_of, is_renderer, actor_of, draft_of}
use Rattle.script_text.specs.Members.{list_at}
use Rattle.script_text.specs.Placed.{IsStepOf, IsViewOf, IsActorOf}
use Rattle.script_text.specs.Scripts.{IsScriptIn, ReadsData, ReadsScript}
use Rattle.script_text.proofs.FormLemmas.{each_step_stands, limit_within}
use Rattle.script_text.proofs.PlacedLemmas.{DraftMayStand, draft_listens_before, placed_view, placed_what, same_there, stands_as_written, one_by_one_at, listens_before_as_written, step_count_as_written}
use Rattle.script_text.proofs.WalkLemmas.{length-one_by_one}

-- what stands in a mapped list is of what stands in the list
of_mapped : {A X : Type 0} (g : A → X) (x : X) (o : Option A) → option_map g o ≡ Some x → (a : A) × (o ≡ Some a) × (g a ≡ x)
of_mapped g x None e = absurd cc
of_mapped g x (Some a) e = (a, refl, cc)

mapped_at : {A X : Type 0} (g : A → X) (as_given : List A) (i : ℕ) (x : X) → slice_get (map g as_given) i ≡ Some x
    → (a : A) × (slice_get as_given i ≡ Some a) × (g a ≡ x)
mapped_at g as_given i x e = of_mapped g x (slice_get as_given i) (sym (slice_get-map g as_given i) ∙ e)

some_if : {X : Type 0} (b : Bool) (x : X) → is_some (if b then Some x else None) ≡ b
some_if true x = refl
some_if false x = refl

-- a step of an actor that a value says may stand where it does
step_stands : (d : Data) (said : Script) (x : Data) (actor : Actor) → IsScriptIn d said → (a : ℕ) → slice_get (list_at (codes "actors") d) a ≡ Some x
    → IsActorOf said.suffixes (actor_of x) actor → (s : ℕ) (step : Step) → slice_get actor.steps s ≡ Some step
    → MayStand (place_of_step said actor s) step.what
step_stands d said x actor h a at is s step e =
    let rules = said.suffixes in
    let es = list_at (codes "steps") x in
    let written = one_by_one_at (IsStepOf rules) (map step_of es) actor.steps s step is.steps e in
    let value = mapped_at step_of es s written.0 written.1 in
    let renders : is_some actor.view ≡ is_renderer x = same_there (IsViewOf rules) (sees_of x) actor.view is.sees ∙ some_if (is_renderer x) (view_of x) in
    let many : length said.actors ≡ length (list_at (codes "actors") d) =
    length-one_by_one (IsActorOf rules) (draft_of d).actors said.actors h.placed.actors ∙ length-map (list_at (codes "actors") d) actor_of in
    let here : Where = place_of_step said actor s in
    let stands = each_step_stands d h.timely.form a x at s value.0 value.1 in
    let same : record { renders = is_renderer x; listens = draft_listens_before (map step_of es) s; actors = length (list_at (codes "actors") d) } ≡ here =
    sym (λ k. record { renders = renders k; listens = listens_before_as_written rules (map step_of es) actor.steps s is.steps k; actors = many k }) in
    stands_as_written rules here written.0.what step.what written.2.what
    (subst (λ w. DraftMayStand here w) (ap (λ (t : DraftStep). t.what) value.2) (subst (λ at. DraftMayStand at (what_of value.0)) same stands))

admitted_actor : (d : Data) (said : Script) → IsScriptIn d said → (a : ℕ) (actor : Actor) → slice_get said.actors a ≡ Some actor
    → IsAdmittedActor said actor
admitted_actor d said h a actor e =
    let rules = said.suffixes in
    let written = one_by_one_at (IsActorOf rules) (draft_of d).actors said.actors a actor h.placed.actors e in
    let value = mapped_at actor_of (list_at (codes "actors") d) a written.0 written.1 in
    let is : IsActorOf rules (actor_of value.0) actor = subst (λ (t : DraftActor). IsActorOf rules t actor) (sym value.2) written.2 in
    record {
      view_places = placed_view rules written.0.sees actor.view written.2.sees;
      step_places = λ s step f.
          let of_step = one_by_one_at (IsStepOf rules) written.0.steps actor.steps s step written.2.steps f in
          placed_what rules of_step.0.what step.what of_step.2.what;
      steps_stand = step_stands d said value.0 actor h a value.1 is;
    }

-- what a value says is admitted
pub admitted : (d : Data) (said : Script) → IsScriptIn d said → IsAdmitted said
admitted d said h =
    let drafts = (draft_of d).actors in
    let limit = limit_within d h.timely.form in
    record {
      few_actors = omega (arith, length-one_by_one (IsActorOf said.suffixes) drafts said.actors h.placed.actors, h.timely.few.actors_within);
      few_steps = omega (arith, step_count_as_written said.suffixes drafts said.actors h.placed.actors, h.timely.few.steps_within);
      least_limit = omega (arith, h.placed.limit, limit.0);
      most_limit = omega (arith, h.placed.limit, limit.1);
      each_actor = admitted_actor d said h;
      no_deadlock = h.no_deadlock;
    }

pub result_admitted : (d : Data) (r : Result Script ScriptRefusal) → ReadsData d r → IfOk r IsAdmitted
result_admitted d (Ok said) h = admitted d said h
result_admitted d (Err e) h = tt

-- so for bytes
pub read_admitted : (bytes : List ℕ) (r : Result Script ScriptRefusal) → ReadsScript bytes r → IfOk r IsAdmitted
read_admitted bytes (Ok said) h = admitted h.0 said h.2
read_admitted bytes (Err e) h = tt
