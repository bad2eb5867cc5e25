-- The rows of one host. This jar's own rule: docs/DEFINITIONS.md.
use Rattle.std.specs.Prelude.{◌≡◌, ℕ, List, [], ◌∷◌, Bool, false, filter, bytes_eq}
use Rattle.std.specs.List.{AllByRecursion}
use Rattle.jar_types.specs.declared.row.Row.{Row}

-- the row is of the host
abbrev pub has_host : List ℕ → Row → Bool
has_host host row = bytes_eq row.host host

-- the rows of a host, in their order
abbrev pub rows_of_host : List ℕ → List Row → List Row
rows_of_host host rows = filter (has_host host) rows

-- each row is of the host
abbrev pub AreOfHost : List ℕ → List Row → Type 0
AreOfHost host rows = AllByRecursion (λ row. row.host ≡ host) rows

-- that no public clause cites

-- the first of the rows is of the host
abbrev pub begins_with : List ℕ → List Row → Bool
begins_with host [] = false
begins_with host (row ∷ rows) = has_host host row
