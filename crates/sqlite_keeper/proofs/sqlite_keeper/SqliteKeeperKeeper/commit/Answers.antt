use Rattle.std.proofs.Common.{◌++◌, List, refl, sym, ap, subst, ◌∙◌, arith}
use Rattle.sqlite.specs.Held.{state}
use Rattle.sqlite.specs.State.{HasCleanDisk}
use Rattle.jar_types.specs.declared.row.Row.{Row}
use Rattle.jar_types.specs.RowChanges.{changed_rows}
use Rattle.jar_keeper.specs.Keepers.{CommitLeaves, LeavesJust, TellsChanged}
use Rattle.sqlite_keeper.specs.Kept.{KeptTable, TellsTable, MayLeaveTable}
use Rattle.sqlite_keeper.proofs.KeptLemmas.{read_kept, commit_kept, on_refusal, on_success, refusal_leaves, leaves_maybe, leaves_shown, tells_changed}
use Rattle.sqlite_keeper.proofs.sqlite_keeper.SqliteKeeperKeeper.commit.Goals as goal

pub invariant_of-self : goal.invariant_of-self
invariant_of-self g c =
    read_kept g.S.Store c.self.inside.conn c.commit_changes.new.conn c.self.inside.found.value c.self.inside.committed.changes
    c.self.inside.faults c.counted.new.faults c.self.invariant c.commit_changes.ensures.mode c.commit_changes.ensures.survives
    (λ clean. on_refusal c.commit_changes.result c.in_err-counted.ensures.err (c.commit_changes.ensures.kept clean))

pub returns-in_err-counted-clause-left : goal.returns-in_err-counted-clause-left
returns-in_err-counted-clause-left g c clean =
    let old : KeptTable _ = record {
      conn = c.self.inside.conn;
      found = c.self.inside.found.value;
      committed = c.self.inside.committed.changes;
      faults = c.self.inside.faults;
    } in
    let new : KeptTable _ = record old { conn = c.commit_changes.new.conn; faults = c.counted.new.faults } in
    subst (λ k. CommitLeaves c.args.changes.now (TellsTable g.S.Store k) (MayLeaveTable g.S.Store k) (MayLeaveTable g.S.Store new) c.from_residual.result)
    c.self.view_is
    (subst (λ l. CommitLeaves l (TellsTable g.S.Store old) (MayLeaveTable g.S.Store old) (MayLeaveTable g.S.Store new) c.from_residual.result)
    c.as_slice.ensures
    (refusal_leaves c.as_slice.result.now (TellsTable g.S.Store old) (MayLeaveTable g.S.Store old) (MayLeaveTable g.S.Store new)
    c.from_residual.result c.from_residual.ensures.0
    (leaves_maybe g.S.Store old new c.as_slice.result.now c.self.invariant
    (λ after. omega (arith, c.commit_changes.ensures.survives.clean, after)) c.commit_changes.ensures.survives clean)))

pub invariant_of-self-2 : goal.invariant_of-self-2
invariant_of-self-2 g c =
    commit_kept g.S.Store c.self.inside.conn c.commit_changes.new.conn c.self.inside.found.value c.self.inside.committed.changes
    c.self.inside.faults c.counted.new.faults c.self.invariant c.as_slice.result.now c.note.new.self.changes
    (c.note.ensures ∙ ap (λ l. c.self.inside.committed.changes ++ l) (c.as_slice-2.ensures ∙ sym c.as_slice.ensures))
    c.commit_changes.ensures.mode c.commit_changes.ensures.survives
    (λ clean. on_success c.commit_changes.result c.in_ok-counted.field-0 c.in_ok-counted.ensures.ok (c.commit_changes.ensures.done clean))

pub returns-clause-told : goal.returns-clause-told
returns-clause-told g c =
    let old : KeptTable _ = record {
      conn = c.self.inside.conn;
      found = c.self.inside.found.value;
      committed = c.self.inside.committed.changes;
      faults = c.self.inside.faults;
    } in
    let new : KeptTable _ = record old {
      conn = c.commit_changes.new.conn;
      committed = c.note.new.self.changes;
      faults = c.counted.new.faults;
    } in
    subst (λ k. TellsChanged c.args.changes.now (TellsTable g.S.Store k) (TellsTable g.S.Store new)) c.self.view_is
    (tells_changed g.S.Store old new c.args.changes.now refl
    (c.note.ensures ∙ ap (λ l. c.self.inside.committed.changes ++ l) c.as_slice-2.ensures))

pub returns-clause-left : goal.returns-clause-left
returns-clause-left g c clean =
    let old : KeptTable _ = record {
      conn = c.self.inside.conn;
      found = c.self.inside.found.value;
      committed = c.self.inside.committed.changes;
      faults = c.self.inside.faults;
    } in
    let new : KeptTable _ = record old {
      conn = c.commit_changes.new.conn;
      committed = c.note.new.self.changes;
      faults = c.counted.new.faults;
    } in
    let is = c.in_ok-counted.ensures.ok in
    let here = on_success c.commit_changes.result c.in_ok-counted.field-0 is (c.commit_changes.ensures.open clean) in
    let shows = on_success c.commit_changes.result c.in_ok-counted.field-0 is (c.commit_changes.ensures.done clean) in
    let before : HasCleanDisk (state g.S.Store c.self.inside.conn) = omega (arith, c.commit_changes.ensures.survives.clean, clean) in
    subst (λ k. (rows : List Row) → TellsTable g.S.Store k rows
    → LeavesJust (changed_rows rows c.args.changes.now) (MayLeaveTable g.S.Store new)) c.self.view_is
    (subst (λ l. (rows : List Row) → TellsTable g.S.Store old rows → LeavesJust (changed_rows rows l) (MayLeaveTable g.S.Store new))
    c.as_slice.ensures
    (λ rows told. leaves_shown g.S.Store g.met.S.Store.settled g.met.S.Store.stays new here (changed_rows rows c.as_slice.result.now)
    (shows rows (c.self.invariant.holds before rows told))))
