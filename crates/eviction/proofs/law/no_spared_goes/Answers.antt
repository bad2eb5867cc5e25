use Rattle.eviction.proofs.LawLemmas.{no_spared_goes as law}
use Rattle.eviction.proofs.law.no_spared_goes.Goals as goal

pub returns : goal.returns
returns g c = law _
