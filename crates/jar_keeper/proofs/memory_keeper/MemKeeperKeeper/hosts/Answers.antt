use Rattle.jar_keeper.proofs.HostLemmas.{hosts_rise}
use Rattle.jar_keeper.proofs.memory_keeper.MemKeeperKeeper.hosts.Goals as goal

pub returns-clause-rises : goal.returns-clause-rises
returns-clause-rises c = rw c.in_ok-hosts_in.ensures (hosts_rise c.as_slice.result.now)
