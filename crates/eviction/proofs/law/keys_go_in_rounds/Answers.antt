use Rattle.eviction.proofs.LawLemmas.{keys_go_in_rounds as law}
use Rattle.eviction.proofs.law.keys_go_in_rounds.Goals as goal

pub returns : goal.returns
returns g c = law _
