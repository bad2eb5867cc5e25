use Rattle.std.proofs.Common.{sym, ◌∙◌}
use Rattle.std.proofs.lemmas.Result.{IfOk-weaker}
use Rattle.eviction.specs.Faces.{ArePlaces, face_looks, faces_of}
use Rattle.jar_types.specs.Plans.{jar_plan}
use Rattle.plain_jar.proofs.PlanLemmas.{ties_differ, jar_places_within, jar_plan_taken}
use Rattle.plain_jar.proofs.plan.gone_of_jar.Goals as goal

pub global_plan-requires : goal.global_plan-requires
global_plan-requires c =
    rw (c.as_slice.ensures.value, c.in_ok-faces.ensures) (ties_differ c.args.cookies.now c.requires)

pub at_places-requires : goal.at_places-requires
at_places-requires c =
    let cookies = c.args.cookies.now in
    let faces = c.as_slice.ensures.value ∙ c.in_ok-faces.ensures in
    let are : ArePlaces (faces_of 0 cookies) c.in_ok-plan.plan.items (jar_plan face_looks c.args.now (faces_of 0 cookies)) = rw (sym faces) c.in_ok-plan.ensures in
    rw c.as_slice-2.ensures.value (jar_places_within c.args.now cookies c.in_ok-plan.plan.items c.requires are)

pub returns : goal.returns
returns c =
    let cookies = c.args.cookies.now in
    let faces = c.as_slice.ensures.value ∙ c.in_ok-faces.ensures in
    let are : ArePlaces (faces_of 0 cookies) c.in_ok-plan.plan.items (jar_plan face_looks c.args.now (faces_of 0 cookies)) = rw (sym faces) c.in_ok-plan.ensures in
    IfOk-weaker c.at_places.result _ _ (λ found at. jar_plan_taken c.args.now cookies found.items c.in_ok-plan.plan.items c.requires are (rw (sym c.as_slice-2.ensures.value) at)) c.at_places.ensures
