use Rattle.jar_keeper.proofs.HostLemmas.{host_rows}
use Rattle.jar_keeper.proofs.memory_keeper.MemKeeperKeeper.load.Goals as goal

pub returns-clause-rises : goal.returns-clause-rises
returns-clause-rises c =
    rw c.in_ok-rows_in.ensures (host_rows c.args.host.now _ (rw c.as_slice.ensures c.self.invariant.0))
