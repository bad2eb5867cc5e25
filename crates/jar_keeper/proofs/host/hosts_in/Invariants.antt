use Rattle.std.proofs.Common.{◌≡◌, ◌++◌, drop}
use Rattle.jar_types.specs.Stored.{hosts_of}
use Rattle.jar_keeper.proofs.host.hosts_in.Given as goal

abbrev pub invariant-loop-place : goal.invariant-loop-place
invariant-loop-place l = l.hosts.items ++ hosts_of (drop l.place l.rows) ≡ hosts_of l.rows
