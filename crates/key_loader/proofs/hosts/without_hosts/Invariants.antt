use Rattle.std.proofs.Common.{◌≡◌}
use Rattle.std.specs.Prelude.{map}
use Rattle.key_loader.specs.Groups.{without_hosts}
use Rattle.key_loader.proofs.hosts.without_hosts.Given as goal

abbrev pub invariant-loop-key : goal.invariant-loop-key
invariant-loop-key l = l.groups.items ≡ map without_hosts l.yielded
