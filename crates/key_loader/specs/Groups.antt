-- Stored hosts by their keys. This jar's own rule: docs/DEFINITIONS.md.
use Rattle.std.specs.Prelude.{ℕ, List, [], ◌∷◌, ◌++◌, filter, find, map, bytes_eq, Option, option_map, if◌then◌else◌}
use Rattle.jar_values.specs.Hosts.{undotted}
use Rattle.jar_types.specs.Ids.{text_cmp}
use Rattle.jar_types.specs.Orders.{ascending}
use Rattle.key_loader.specs.declared.group.Group.{Group}

-- the keys of hosts, a dot before a domain aside: ascending, each once
abbrev pub keys_among : (List ℕ → List ℕ) → List (List ℕ) → List (List ℕ)
keys_among key_of hosts = ascending text_cmp (map (λ host. key_of (undotted host)) hosts)

-- the hosts of a key, in their order
abbrev pub group_in : (List ℕ → List ℕ) → List (List ℕ) → List ℕ → Group
group_in key_of hosts key =
    record { key = key; hosts = filter (λ host. bytes_eq key (key_of (undotted host))) hosts }

-- the hosts by their keys, which ascend
abbrev pub groups_among : (List ℕ → List ℕ) → List (List ℕ) → List Group
groups_among key_of hosts = map (group_in key_of hosts) (keys_among key_of hosts)

-- a key of no host
abbrev pub without_hosts : List ℕ → Group
without_hosts key = record { key = key; hosts = [] }

-- the keys of groups
abbrev pub keys_of : List Group → List (List ℕ)
keys_of groups = map (λ g. g.key) groups

-- the hosts of a key; none where it has no group
abbrev pub hosts_of : List ℕ → List Group → Option (List (List ℕ))
hosts_of key groups = option_map (λ g. g.hosts) (find (λ g. bytes_eq key g.key) groups)

-- that no public clause cites

-- the group with one more host, where the key is its own
abbrev pub hosted : List ℕ → List ℕ → Group → Group
hosted key host g = if bytes_eq g.key key then record g { hosts = g.hosts ++ host ∷ [] } else g

-- the groups, of which that of the key has one more host
abbrev pub with_host : List ℕ → List ℕ → List Group → List Group
with_host key host groups = map (hosted key host) groups
