use Rattle.sqlite_keeper.proofs.KeptLemmas.{read_kept}
use Rattle.sqlite_keeper.proofs.sqlite_keeper.SqliteKeeperKeeper.hosts.Goals as goal

pub invariant_of-self : goal.invariant_of-self
invariant_of-self g c =
    read_kept g.S.Store c.self.inside.conn c.list_hosts.new.conn c.self.inside.found.value c.self.inside.committed.changes c.self.inside.faults
    c.counted.new.faults c.self.invariant c.list_hosts.ensures.mode c.list_hosts.ensures.survives c.list_hosts.ensures.kept

pub invariant_of-self-in_err-hosts_shown : goal.invariant_of-self-in_err-hosts_shown
invariant_of-self-in_err-hosts_shown g c =
    read_kept g.S.Store c.self.inside.conn c.list_hosts.new.conn c.self.inside.found.value c.self.inside.committed.changes c.self.inside.faults
    c.counted.new.faults c.self.invariant c.list_hosts.ensures.mode c.list_hosts.ensures.survives c.list_hosts.ensures.kept

pub invariant_of-self-2 : goal.invariant_of-self-2
invariant_of-self-2 g c =
    read_kept g.S.Store c.self.inside.conn c.list_hosts.new.conn c.self.inside.found.value c.self.inside.committed.changes c.self.inside.faults
    c.counted.new.faults c.self.invariant c.list_hosts.ensures.mode c.list_hosts.ensures.survives c.list_hosts.ensures.kept
