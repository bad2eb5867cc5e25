use Rattle.shared_jar.proofs.HoldingLemmas as lemma
use Rattle.shared_jar.proofs.holding_law.keepers_hold_the_acked.Goals as goal

pub returns : goal.returns
returns g c = lemma.keepers_hold_the_acked (g.K.Keeper.tells c.args.keeper.now)
