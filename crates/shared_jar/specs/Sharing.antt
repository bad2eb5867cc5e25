-- What lies under the two locks of a jar that threads share, whenever they are free, by the rules
-- that it was opened for, its words and the number of its cutter's pass. This jar's own rule:
-- docs/DEFINITIONS.md.
use Rattle.std.specs.Prelude.{◌≡◌, ◌≤◌, ◌+◌, ℕ, [], None}
use Rattle.atomic_table.specs.Seated.{TableId}
use Rattle.jar_types.specs.Journals.{Rules, state_of, stored_keys}
use Rattle.version_cells.specs.Listings.{owned}
use Rattle.version_cells.specs.Standing.{PassStanding}
use Rattle.locked_jar.specs.History.{IsHistory}
use Rattle.locked_jar.specs.LockedJars.{LockedJar, journal_of}
use Rattle.locked_jar.specs.Passes.{IsHome}
use Rattle.store_vault.specs.declared.stored.Stored.{Stored}
use Rattle.store_vault.specs.declared.vault.TheConstants.{MOST_OWNS}
use Rattle.store_vault.specs.Loading.{rules_of}
use Rattle.shared_jar.specs.Ending.{last_acked}
use Rattle.shared_jar.specs.Together.{IsBounded}

-- Under the jar's lock: the journal is legal, each entry is listed with its cells and its owner,
-- and the state is the journal's; no batch is out; and there are no more entries of the cutter than
-- there may be
pub record IsState (r : Rules) (table : TableId) (cutter : ℕ) (j : LockedJar) : Type 0 where
  pub bounded : IsBounded r
  pub above : r.callers ≤ cutter
  pub table_is : j.table ≡ table
  pub limit_is : j.limit ≡ r.limit
  pub history : IsHistory r cutter j.seen
  pub state_is : j.state ≡ state_of (stored_keys r) (journal_of j.seen)
  pub none_out : j.state.batches.out ≡ None
  pub few_owned : owned cutter j.seen ≤ MOST_OWNS + 1

-- Under the vault's lock: the cutter's pass is at home on these words; its calls are counted, and
-- are its entries of the history that it has seen; the stored hosts are those of the rules; and the
-- last batch that was committed is that of this history
pub record IsVault (r : Rules) (table : TableId) (cutter : ℕ) (stored : Stored)
    (pass : PassStanding) (owns acked : ℕ) : Type 0 where
  pub home : IsHome table pass
  pub number_is : pass.view.number ≡ cutter
  pub rules_are : rules_of stored r.callers r.limit ≡ r
  pub owns_are : owns ≡ pass.view.calls
  pub owned_are : owned pass.view.number pass.view.own.seen ≡ pass.view.calls
  pub acked_is : acked ≡ last_acked (journal_of pass.view.own.seen)

-- ---- that no public clause cites

-- the identity that stands for no table
abbrev pub no_table : TableId
no_table =
    record {
      words = 0;
      slots = 0;
      views_name = 0;
      atom = 0;
      block = 0;
      offset = 0;
      slot_names = [];
    }

-- the rules that stand for no jar
abbrev pub no_rules : Rules
no_rules = record { hosts = []; callers = 0; limit = 0; start = 0; key_of = λ host. host }
