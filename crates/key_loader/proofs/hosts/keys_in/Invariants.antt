use Rattle.std.proofs.Common.{◌≡◌, take}
use Rattle.key_loader.specs.Groups.{keys_of}
use Rattle.key_loader.proofs.hosts.keys_in.Given as goal

abbrev pub invariant-loop-group : goal.invariant-loop-group
invariant-loop-group l = l.keys ≡ keys_of (take l.group-index l.groups)
