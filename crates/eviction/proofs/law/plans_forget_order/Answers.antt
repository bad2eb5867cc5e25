use Rattle.eviction.proofs.LawLemmas.{plans_forget_order as law}
use Rattle.eviction.proofs.law.plans_forget_order.Goals as goal

pub returns : goal.returns
returns g c = law _
