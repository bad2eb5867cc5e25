use Rattle.std.proofs.Common.{map, sym, ap, ◌∙◌, subst}
use Rattle.std.proofs.lemmas.Result.{IfOk-weaker}
use Rattle.eviction.specs.Candidates.{place_of}
use Rattle.eviction.specs.Faces.{ArePlaces, face_looks}
use Rattle.jar_types.specs.Plans.{jar_plan}
use Rattle.eviction.proofs.PlanLemmas.{front_of_jar}
use Rattle.eviction.proofs.jar.global_plan.Goals as goal

pub returns : goal.returns
returns c =
    let faces = c.args.faces.now in
    let now = c.args.now in
    let front = front_of_jar faces now c.in_ok-going.going.items c.requires c.in_ok-going.ensures.stand c.in_ok-going.ensures.order c.if-faces-le-MOST_OF_JAR.false in
    let e = ap (map place_of) (c.deref.ensures.value ∙ c.truncate.ensures.items) in
    IfOk-weaker c.places.result _ _ (λ places h. subst (λ ps. ArePlaces faces ps (jar_plan face_looks now faces)) (sym (h ∙ e)) front) c.places.ensures
