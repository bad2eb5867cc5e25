use Rattle.eviction.proofs.LawLemmas.{jars_are_swept as law}
use Rattle.eviction.proofs.law.jars_are_swept.Goals as goal

pub returns : goal.returns
returns g c = law _
