use Rattle.std.proofs.Common.{◌≡◌, take}
use Rattle.std.specs.Prelude.{map}
use Rattle.key_loader.specs.Groups.{group_in}
use Rattle.public_suffix.specs.Suffix.{key_of}
use Rattle.key_loader.proofs.hosts.grouped.Given as goal

abbrev pub invariant-loop-host : goal.invariant-loop-host
invariant-loop-host l = l.groups.items ≡ map (group_in (key_of l.suffixes) (take l.host-index l.hosts)) l.fn.keys
