use Rattle.eviction.proofs.TieLemmas.{count_more, counted_differ}
use Rattle.eviction.proofs.tests.faces.Goals as goal

pub loop-i-preserved : goal.loop-i-preserved
loop-i-preserved g c =
    count_more c.loop-i.faces.items c.push.new.self.items c.face.result c.loop-i.i c.loop-i.invariant c.in_ok-push.ensures.items c.face.ensures

pub returns : goal.returns
returns g c = counted_differ c.loop-i.faces.items c.loop-i.i c.loop-i.invariant
