use Rattle.std.proofs.Common.{◌≡◌, take}
use Rattle.std.specs.Prelude.{map}
use Rattle.jar_values.specs.Hosts.{undotted}
use Rattle.public_suffix.specs.Suffix.{key_of}
use Rattle.key_loader.proofs.hosts.keys_among.Given as goal

abbrev pub invariant-loop-host : goal.invariant-loop-host
invariant-loop-host l = l.keys.items ≡ map (λ host. key_of l.suffixes (undotted host)) (take l.host-index l.hosts)
