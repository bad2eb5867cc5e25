-- What always holds of a jar and its vault together. This jar's own rule: docs/DEFINITIONS.md.
use Rattle.std.specs.Prelude.{◌≡◌, ◌≤◌, ◌+◌, ℕ, length}
use Rattle.atomic_table.specs.Seated.{TableId}
use Rattle.jar_types.specs.Journals.{Rules, state_of, stored_keys}
use Rattle.version_cells.specs.Listings.{owned}
use Rattle.version_cells.specs.Standing.{PassStanding}
use Rattle.locked_jar.specs.History.{IsHistory}
use Rattle.locked_jar.specs.LockedJars.{LockedJar, journal_of}
use Rattle.locked_jar.specs.Passes.{IsHome, IsReady}
use Rattle.store_vault.specs.declared.vault.TheConstants.{MOST_OWNS}
use Rattle.shared_jar.specs.declared.opening.TheConstants.{MOST_HOSTS, MOST_LIMIT}

-- what a jar was opened for is within the bounds by which its entries are counted
pub record IsBounded (r : Rules) : Type 0 where
  pub limit : r.limit ≤ MOST_LIMIT
  pub keys : length (stored_keys r) ≤ MOST_HOSTS

-- A jar that was opened for these rules, and the pass of who loads and commits, with how many entries that owns: the
-- journal is legal, each entry is listed with its cells and its owner, the state is the journal's, and the pass's entries
-- number its calls
pub record IsJar (r : Rules) (table : TableId) (j : LockedJar) (cutter : PassStanding) (owns : ℕ) : Type 0 where
  pub bounded : IsBounded r
  pub table_is : j.table ≡ table
  pub limit_is : j.limit ≡ r.limit
  pub history : IsHistory r cutter.view.number j.seen
  pub state_is : j.state ≡ state_of (stored_keys r) (journal_of j.seen)
  pub home : IsHome table cutter
  pub above : r.callers ≤ cutter.view.number
  pub owns_are : owns ≡ cutter.view.calls
  pub owned_are : owned cutter.view.number j.seen ≡ cutter.view.calls
  pub few_owns : owns ≤ MOST_OWNS + 1

-- the pass is of one of the callers, and each of its calls was answered
pub record IsCaller (r : Rules) (table : TableId) (p : PassStanding) : Type 0 where
  pub ready : IsReady table p
  pub among : p.view.number + 1 ≤ r.callers
