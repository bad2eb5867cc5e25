use Rattle.eviction_bench.proofs.TieLemmas.{ties_push}
use Rattle.eviction_bench.proofs.bench.faces_of.Goals as goal

pub loop-tie-preserved : goal.loop-tie-preserved
loop-tie-preserved c =
    rw c.in_ok-push.ensures.items (ties_push c.loop-tie.faces.items c.in_ok-face_of.field-0 c.loop-tie.tie c.loop-tie.invariant c.in_ok-face_of.ensures)
