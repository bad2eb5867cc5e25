use Rattle.std.proofs.Common.{sym, ◌∙◌, subst, ap}
use Rattle.std.proofs.lemmas.List.Kept.{IsStrictlySortedBy-filter}
use Rattle.std.proofs.lemmas.Result.{IfOk-weaker}
use Rattle.eviction.specs.Faces.{ArePlaces, face_looks, faces_of}
use Rattle.jar_types.specs.Evictions.{cookie_looks}
use Rattle.jar_types.specs.Ids.{cookie_cmp, RisesById}
use Rattle.jar_types.specs.Plans.{key_plan}
use Rattle.jar_types.specs.Purges.{has_key}
use Rattle.plain_jar.proofs.PlanLemmas.{ties_differ, key_places_within, key_plan_taken, few_of_key}
use Rattle.plain_jar.proofs.plan.gone_of_key.Goals as goal

pub returns-then-count_of_key-le-MOST_OF_KEY : goal.returns-then-count_of_key-le-MOST_OF_KEY
returns-then-count_of_key-le-MOST_OF_KEY c =
    c.new.ensures.items ∙ few_of_key c.args.key.now c.args.cookies.now (rw (sym c.count_of_key.ensures) c.if-count_of_key-le-MOST_OF_KEY.true)

pub key_plan-requires : goal.key_plan-requires
key_plan-requires c =
    let own = c.in_ok-own.own.items in
    let rises : RisesById own = subst RisesById (sym c.in_ok-own.ensures) (IsStrictlySortedBy-filter cookie_cmp (has_key c.args.key.now) c.args.cookies.now c.requires) in
    rw (c.as_slice-2.ensures.value, c.in_ok-faces.ensures, c.as_slice.ensures.value) (ties_differ own rises)

pub at_places-requires : goal.at_places-requires
at_places-requires c =
    let own = c.in_ok-own.own.items in
    let faces = c.as_slice-2.ensures.value ∙ c.in_ok-faces.ensures ∙ ap (faces_of 0) c.as_slice.ensures.value in
    let are : ArePlaces (faces_of 0 own) c.in_ok-plan.plan.items (key_plan face_looks (faces_of 0 own)) = rw (sym faces) c.in_ok-plan.ensures in
    let rises : RisesById own = subst RisesById (sym c.in_ok-own.ensures) (IsStrictlySortedBy-filter cookie_cmp (has_key c.args.key.now) c.args.cookies.now c.requires) in
    rw (c.as_slice-3.ensures.value, c.as_slice-4.ensures.value) (key_places_within own c.in_ok-plan.plan.items rises are)

pub returns : goal.returns
returns c =
    let key = c.args.key.now in
    let own = c.in_ok-own.own.items in
    let faces = c.as_slice-2.ensures.value ∙ c.in_ok-faces.ensures ∙ ap (faces_of 0) c.as_slice.ensures.value in
    let are : ArePlaces (faces_of 0 own) c.in_ok-plan.plan.items (key_plan face_looks (faces_of 0 own)) = rw (sym faces) c.in_ok-plan.ensures in
    let rises : RisesById own = subst RisesById (sym c.in_ok-own.ensures) (IsStrictlySortedBy-filter cookie_cmp (has_key key) c.args.cookies.now c.requires) in
    IfOk-weaker c.at_places.result _ _
    (λ found at.
    key_plan_taken own found.items c.in_ok-plan.plan.items rises are (rw (sym c.as_slice-3.ensures.value, sym c.as_slice-4.ensures.value) at)
    ∙ ap (key_plan cookie_looks) c.in_ok-own.ensures)
    c.at_places.ensures
