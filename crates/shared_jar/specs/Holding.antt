-- What a jar and its keeper hold whenever nobody calls the jar: in the jar and its vault waits just
-- what waits beside the journal, and a keeper that tells its rows tells just those that are held
-- beside it. So its sound rows are those that were to be stored when the last batch that was
-- committed was taken. This jar's own rule: docs/DEFINITIONS.md.
use Rattle.std.specs.Prelude.{◌≡◌, ℕ, List, None, take}
use Rattle.jar_types.specs.declared.entry.Entry.{Entry}
use Rattle.jar_types.specs.declared.row.Row.{Row}
use Rattle.jar_types.specs.declared.row.RowChange.{RowChange}
use Rattle.jar_types.specs.Journals.{IsLegal, Rules}
use Rattle.jar_types.specs.RowChanges.{RowsRise}
use Rattle.jar_types.specs.Stored.{IsHonest, hosts_of, sound_rows, stored_rows}
use Rattle.stored_law.specs.Keeping.{AllStorable}
use Rattle.beside_law.specs.Beside.{beside_of}
use Rattle.beside_law.specs.Held.{held_of}
use Rattle.locked_jar.specs.LockedJars.{LockedJar, journal_of}

-- In the jar, and in a vault that keeps these changes and committed its last batch at this place,
-- waits just what waits beside the journal; and no batch is out
pub record IsBeside (r : Rules) (j : LockedJar) (kept : List RowChange) (acked : ℕ) : Type 0 where
  pub pending_is : j.pending ≡ (beside_of r (journal_of j.seen)).pending
  pub kept_is : kept ≡ (beside_of r (journal_of j.seen)).kept
  pub acked_is : acked ≡ (beside_of r (journal_of j.seen)).acked
  pub none_out : j.state.batches.out ≡ None

-- where it did before, by the rules that the jar was opened for, it does so after
abbrev pub StaysBeside : Rules → Rules → LockedJar → LockedJar → List RowChange → List RowChange
    → ℕ → ℕ → Type 0
StaysBeside r r' old new kept kept' acked acked' =
    IsBeside r old kept acked → IsBeside r' new kept' acked'

-- The jar with this journal was opened over these rows, which the rules have their hosts of, and its
-- keeper tells these lists now: the one that is held beside the journal, whose loads list just what
-- the rows stand for
pub record IsOver (r : Rules) (rows : List Row) (journal : List Entry) (tells : List Row → Type 0)
    : Type 0 where
  pub hosts_are : r.hosts ≡ hosts_of rows
  pub rise : RowsRise rows
  pub told : tells (held_of r rows journal)
  pub honest : IsHonest r rows journal

-- the jar was opened over the rows that its keeper told
abbrev pub BeginsOver : Rules → LockedJar → (List Row → Type 0) → (List Row → Type 0) → Type 0
BeginsOver r j tells tells' =
    (rows : List Row) → tells rows → IsOver r rows (journal_of j.seen) tells'

-- the jar stays over the rows that it was opened over, whichever they were
abbrev pub StaysOver : Rules → LockedJar → LockedJar → (List Row → Type 0) → (List Row → Type 0)
    → Type 0
StaysOver r old new tells tells' =
    (rows : List Row)
    → IsOver r rows (journal_of old.seen) tells → IsOver r rows (journal_of new.seen) tells'

-- ---- the law

-- the keeper that tells these lists, of a jar whose journal is legal, and whose calls store what can
-- be stored, tells rows, of which those are sound that were to be stored when the last batch that
-- was committed was taken
abbrev pub KeepersHoldTheAcked : (List Row → Type 0) → Type 0
KeepersHoldTheAcked tells =
    (r : Rules) (rows : List Row) (j : LockedJar) (kept : List RowChange) (acked : ℕ)
    → IsLegal r (journal_of j.seen) → IsBeside r j kept acked
    → IsOver r rows (journal_of j.seen) tells → AllStorable (journal_of j.seen)
    → (held : List Row) × tells held
    × (sound_rows held ≡ stored_rows r rows (take acked (journal_of j.seen)))
