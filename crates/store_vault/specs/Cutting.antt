-- Entries in the name of the pass of who loads and commits. This jar's own rule: docs/DEFINITIONS.md.
use Rattle.std.specs.Prelude.{◌≡◌, ◌≤◌, ◌+◌, ℕ, false, Some, cond}
use Rattle.jar_types.specs.declared.entry.Event.TheVariants.{Jar as JarEvent}
use Rattle.jar_types.specs.declared.entry.Own.{Own}
use Rattle.jar_types.specs.Steps.{own_may_stand}
use Rattle.version_cells.specs.declared.cells.TheConstants.{MOST_ENTRIES}
use Rattle.version_cells.specs.Listings.{StartsWith, owned}
use Rattle.version_cells.specs.Standing.{PassStanding}
use Rattle.locked_jar.specs.LockedJars.{LockedJar, entered}

-- so many entries more may stand in the history
abbrev pub HasRoomFor : ℕ → LockedJar → Type 0
HasRoomFor n j = j.state.entries + n ≤ MOST_ENTRIES

-- the jar did this itself, which the pass of this number owns
abbrev pub did : ℕ → LockedJar → Own → LockedJar
did cutter j own = entered j (Some cutter) (JarEvent own)

-- it did so where it may
abbrev pub did_if_may : ℕ → LockedJar → Own → LockedJar
did_if_may cutter j own = cond (own_may_stand j.state own) (did cutter j own) j

-- The pass p entered so many entries between two jars, and became q: it has seen the new history; the entries of its own
-- numbered its calls before, and do so now; and no call of it was answered, and no look made
pub record HasCut (n : ℕ) (old new : LockedJar) (p q : PassStanding) : Type 0 where
  pub table : q.table ≡ p.table
  pub number : q.view.number ≡ p.view.number
  pub home : q.view.away ≡ false
  pub front : q.front ≡ p.front
  pub looks : (q.view.looks ≡ p.view.looks) × (q.view.own.last ≡ p.view.own.last)
  pub begins : StartsWith old.seen p.view.own.seen
  pub seen : q.view.own.seen ≡ new.seen
  pub owned_before : owned p.view.number old.seen ≡ p.view.calls
  pub calls : q.view.calls ≡ p.view.calls + n
  pub owns : owned p.view.number new.seen ≡ q.view.calls

-- nothing happened
abbrev pub Stays : LockedJar → LockedJar → PassStanding → PassStanding → Type 0
Stays old new p q = (new ≡ old) × (q ≡ p)

-- ---- that no public clause cites

-- the jar did this itself, and the pass entered it
pub record HasDone (own : Own) (old new : LockedJar) (p q : PassStanding) : Type 0 where
  pub is : new ≡ did p.view.number old own
  pub cut : HasCut 1 old new p q
