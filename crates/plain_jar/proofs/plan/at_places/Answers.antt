use Rattle.plain_jar.proofs.PlanLemmas.{taken_step}
use Rattle.plain_jar.proofs.plan.at_places.Goals as goal

pub loop-place-preserved : goal.loop-place-preserved
loop-place-preserved c =
    rw (c.in_ok-push.ensures.items, c.in_ok-copy.ensures)
    (taken_step c.args.cookies.now c.loop-place.found.items c.args.places.now c.loop-place.place-index c.index-cookies-place.result
    c.loop-place-test.true (c.requires c.loop-place.place-index 0 c.loop-place-test.true) c.loop-place.invariant c.index-cookies-place.is)
