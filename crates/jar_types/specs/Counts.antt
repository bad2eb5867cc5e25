-- The counters of a state: none of them passes the number of its entries. This jar's own rule: docs/DEFINITIONS.md.
use Rattle.std.specs.Prelude.{ℕ, ◌≤◌, List, length}
use Rattle.std.specs.List.{AllByRecursion}
use Rattle.jar_types.specs.declared.bound_key.BoundKey.{BoundKey}
use Rattle.jar_types.specs.declared.bound_key.TheConstants.{MOST_CELLS}
use Rattle.jar_types.specs.declared.entry.Event.{Event}
use Rattle.jar_types.specs.declared.tally.Tally.{Tally}
use Rattle.jar_types.specs.States.{JarState}
use Rattle.jar_types.specs.Steps.{after}

-- no tally passes a number
abbrev pub TalliesUpTo : ℕ → List Tally → Type 0
TalliesUpTo most tallies = AllByRecursion (λ t. t.count ≤ most) tallies

-- no version passes a number
abbrev pub VersionsUpTo : ℕ → List BoundKey → Type 0
VersionsUpTo most bound = AllByRecursion (λ b. b.version ≤ most) bound

-- calls, posts, Listens and versions are no more than there are entries, and cells are no more than can be
pub record IsCounted (s : JarState) : Type 0 where
  pub calls : s.calls ≤ s.entries
  pub posts : TalliesUpTo s.entries s.posts
  pub listens : TalliesUpTo s.entries s.listens
  pub versions : VersionsUpTo s.entries s.bound
  pub cells : length s.bound ≤ MOST_CELLS

-- each event keeps that
abbrev pub EntriesCount : Type 0
EntriesCount = (s : JarState) (v : Event) → IsCounted s → IsCounted (after s v)
