use Rattle.eviction.proofs.LawLemmas.{keys_keep_enough as law}
use Rattle.eviction.proofs.law.keys_keep_enough.Goals as goal

pub returns : goal.returns
returns g c = law _
