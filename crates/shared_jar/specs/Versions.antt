-- What a cell's word counts, and the version of the key that has the cell. This jar's own rule: docs/DEFINITIONS.md.
use Rattle.std.specs.Prelude.{◌≡◌, ℕ, zero, suc, List, Option, None, Some, slice_get}
use Rattle.jar_types.specs.declared.bound_key.BoundKey.{BoundKey}
use Rattle.version_cells.specs.Listings.{turns}
use Rattle.locked_jar.specs.LockedJars.{LockedJar}

-- the version of a bound key, and 0 where there is none
abbrev pub version_in : Option BoundKey → ℕ
version_in None = 0
version_in (Some b) = b.version

-- the version of the key that has a cell, counted from 1; 0 where no key has it
abbrev pub version_at : ℕ → List BoundKey → ℕ
version_at zero bound = 0
version_at (suc i) bound = version_in (slice_get bound i)

-- what each cell's word counts, the entries of the history that move it, is the version that the state tells
abbrev pub VersionsAreTurns : LockedJar → Type 0
VersionsAreTurns j = (cell : ℕ) → turns cell j.seen ≡ version_at cell j.state.bound
