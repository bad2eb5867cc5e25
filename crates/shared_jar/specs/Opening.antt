-- A jar that is opened over a keeper: its passes, and a vault that has done nothing. This jar's own rule:
-- docs/DEFINITIONS.md.
use Rattle.std.specs.Prelude.{◌≡◌, ◌+◌, ℕ, List, [], Bool, false}
use Rattle.atomic_table.specs.Seated.{TableId}
use Rattle.jar_types.specs.declared.row.RowChange.{RowChange}
use Rattle.jar_edge.specs.Faults.{Rose}
use Rattle.jar_types.specs.Journals.{stored_keys}
use Rattle.public_suffix.specs.Rule.{SuffixRule}
use Rattle.locked_jar.specs.LockedJars.{LockedJar, opened}
use Rattle.store_vault.specs.declared.stored.Stored.{Stored}
use Rattle.store_vault.specs.Loading.{rules_of}
use Rattle.shared_jar.specs.declared.opening.BeginRefusal.{BeginRefusal}
use Rattle.shared_jar.specs.declared.opening.BeginRefusal.TheVariants.{StoreFault, NoMemory}
use Rattle.version_cells.specs.Standing.{PassStanding, new_pass_standing, new_passes}

-- the passes of so many callers, in their order, and those of who loads and who commits, which have the next two numbers
pub record HasPasses (table : TableId) (callers : ℕ) (passes : List PassStanding) (loader committer : PassStanding) : Type 0 where
  pub callers_are : passes ≡ new_passes table callers
  pub loads : loader ≡ new_pass_standing table callers
  pub commits : committer ≡ new_pass_standing table (callers + 1)

-- nothing was taken, committed or entered
pub record IsNewVault (kept : List RowChange) (acked owns : ℕ) (starved : Bool) : Type 0 where
  pub nothing_kept : kept ≡ []
  pub none_acked : acked ≡ 0
  pub none_owned : owns ≡ 0
  pub fed : starved ≡ false

-- the jar was opened over stored hosts by these rules: without an entry, where the keys of the hosts aren't loaded
pub record BeginsJar (suffixes : List SuffixRule) (callers limit start : ℕ) (stored : Stored) (table : TableId) (j : LockedJar) (callers' : ℕ) : Type 0 where
  pub suffixes_are : stored.suffixes ≡ suffixes
  pub start_is : stored.start ≡ start
  pub callers_are : callers' ≡ callers
  pub jar_is : j ≡ opened table (stored_keys (rules_of stored callers limit)) limit

-- why it wasn't opened: the keeper's count rose; or memory was wanting
abbrev pub FailsBegin : BeginRefusal → ℕ → ℕ → Type 0
FailsBegin StoreFault before now = Rose before now
FailsBegin NoMemory before now = now ≡ before
