-- How many looks the reads of a loop make. This jar's own rule: docs/DEFINITIONS.md.
use Rattle.std.specs.Prelude.{◌≡◌, ◌≤◌, ◌+◌, ℕ, Option, Some, None, length}
use Rattle.atomic_table.specs.Seated.{TableId}
use Rattle.jar_types.specs.Journals.{Rules}
use Rattle.shared_jar.specs.Together.{IsCaller}
use Rattle.version_cells.specs.Standing.{PassStanding}

-- in so many rounds each read that reused the text made just one look, and no round made two
abbrev pub HasLooked : PassStanding → PassStanding → ℕ → ℕ → Type 0
HasLooked old new hits rounds =
    (length old.view.looks + hits ≤ length new.view.looks)
    × (length new.view.looks ≤ length old.view.looks + rounds)

-- the pass of a caller of any jar is one still
abbrev pub StaysCaller : PassStanding → PassStanding → Type 0
StaysCaller old new = (r : Rules) → (table : TableId) → IsCaller r table old → IsCaller r table new

-- ---- that no public clause cites

-- one read, which made just one look where it reused a text of this length, and at most one else
abbrev pub LooksOnce : PassStanding → PassStanding → Option ℕ → Type 0
LooksOnce old new (Some size) = length new.view.looks ≡ length old.view.looks + 1
LooksOnce old new None = HasLooked old new 0 1
