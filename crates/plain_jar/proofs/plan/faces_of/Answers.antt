use Rattle.plain_jar.proofs.PlanLemmas.{faces_step}
use Rattle.plain_jar.proofs.plan.faces_of.Goals as goal

pub loop-place-preserved : goal.loop-place-preserved
loop-place-preserved c =
    rw (c.in_ok-push.ensures.items, c.loop-place.invariant, c.face_of.ensures)
    (faces_step c.args.cookies.now c.loop-place.place c.index-cookies-place.result c.loop-place-test.true c.index-cookies-place.is)
