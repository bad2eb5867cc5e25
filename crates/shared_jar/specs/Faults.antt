-- The faults of a keeper: what a journal tells of them, and that the keeper's count rose as often.
-- This jar's own rule: docs/DEFINITIONS.md.
use Rattle.std.specs.Prelude.{◌≡◌, ℕ, zero, suc, List, count_by, Bool, true, false}
use Rattle.jar_edge.specs.Faults.{Rose}
use Rattle.jar_types.specs.declared.entry.Own.{Own}
use Rattle.jar_types.specs.declared.entry.Own.TheVariants.{Want, WantAll, Begun, Loaded, Lost}
use Rattle.jar_types.specs.declared.entry.Own.TheVariants.{Whole, Taken, Acked, CommitLost}
use Rattle.jar_types.specs.declared.entry.Entry.{Entry}
use Rattle.jar_types.specs.declared.entry.Entry.TheVariants.{Call, Jar}
use Rattle.locked_jar.specs.LockedJars.{LockedJar, journal_of}

-- the keeper failed: a load or a commit was lost
abbrev pub is_own_fault : Own → Bool
is_own_fault (Want key) = false
is_own_fault WantAll = false
is_own_fault (Begun key) = false
is_own_fault (Loaded key cookies) = false
is_own_fault (Lost key) = true
is_own_fault (Whole now) = false
is_own_fault Taken = false
is_own_fault (Acked place) = false
is_own_fault (CommitLost place) = true

-- the entry tells of a fault of the keeper
abbrev pub is_fault : Entry → Bool
is_fault (Call caller now op reply) = false
is_fault (Jar own) = is_own_fault own

-- how many entries of a journal do
abbrev pub faults_in : List Entry → ℕ
faults_in journal = count_by is_fault journal

-- the count rose so many times
abbrev pub RoseTimes : ℕ → ℕ → ℕ → Type 0
RoseTimes zero before now = now ≡ before
RoseTimes (suc n) before now = (between : ℕ) × RoseTimes n before between × Rose between now

-- from this first count on the keeper's rose just as often as the journal tells of a fault, as long
-- as the vault isn't starved
abbrev pub FaultsAre : ℕ → List Entry → ℕ → Bool → Type 0
FaultsAre first journal count starved = starved ≡ false → RoseTimes (faults_in journal) first count

-- from each first count on: where that holds of a jar, a count and a vault, it holds of those after
-- them
abbrev pub CountsFaults : LockedJar → LockedJar → ℕ → ℕ → Bool → Bool → Type 0
CountsFaults old new before now starved starved' =
    (first : ℕ)
    → FaultsAre first (journal_of old.seen) before starved
    → FaultsAre first (journal_of new.seen) now starved'
