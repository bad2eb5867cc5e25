use Rattle.std.proofs.Common.{sym, subst, arith}
use Rattle.std.proofs.lemmas.Grind.{common_steps}
use Rattle.eviction.specs.Candidates.{AllStand}
use Rattle.eviction.proofs.FaceLemmas.{stand_more}
use Rattle.eviction.proofs.candidate.candidates.Goals as goal

pub loop-place-preserved : goal.loop-place-preserved
loop-place-preserved c = record {
  faces = grind (arith, common_steps);
  stand = subst (AllStand c.args.faces.now) (sym c.in_ok-push.ensures.items) (stand_more c.args.faces.now c.loop-place.all.items c.loop-place.place c.index-faces-place.result c.loop-place.invariant.stand (omega arith) c.index-faces-place.is);
}
