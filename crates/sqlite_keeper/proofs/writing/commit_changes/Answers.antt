use Rattle.std.proofs.Common.{◌≡◌, subst, arith, rules}
use Rattle.sqlite.specs.State.{Survives}
use Rattle.sqlite.specs.Held.{state}
use Rattle.sqlite_keeper.proofs.CommitLemmas.{Leaves, at_refusal, commit_done, commit_kept, commit_open, commit_survives, refused_survives}
use Rattle.sqlite_keeper.proofs.StateLemmas.{rolled_back}
use Rattle.sqlite_keeper.proofs.writing.commit_changes.Goals as goal

pub returns-clause-done : goal.returns-clause-done
returns-clause-done g c clean =
    let at = c.transaction-tx.ensures.begun in
    let same : c.commit.new.self.0 ≡ c.conn-2-1.given.0 = search rules in
    let late = rw same at c.commit.ensures in
    commit_done c.args.changes.now (state g.S.Store c.args.conn.now) (state g.S.Store c.write_changes.new.tx.conn.now)
    (state g.S.Store c.conn-2-1.given.0)
    (rw at at (c.in_ok-write_changes.ensures.runs (omega (arith, late.survives.clean)) (rw at))) c.commit.result (late.ok clean)

pub returns-clause-open : goal.returns-clause-open
returns-clause-open g c clean =
    let same : c.commit.new.self.0 ≡ c.conn-2-1.given.0 = search rules in
    let late = rw same at c.commit.ensures in
    commit_open (state g.S.Store c.write_changes.new.tx.conn.now) (state g.S.Store c.conn-2-1.given.0) c.commit.result (late.ok clean)

pub returns-clause-kept : goal.returns-clause-kept
returns-clause-kept g c clean =
    let at = c.transaction-tx.ensures.begun in
    let same : c.commit.new.self.0 ≡ c.conn-2-1.given.0 = search rules in
    let late = rw same at c.commit.ensures in
    commit_kept c.args.changes.now (state g.S.Store c.args.conn.now) (state g.S.Store c.write_changes.new.tx.conn.now)
    (state g.S.Store c.conn-2-1.given.0)
    (rw at at (c.in_ok-write_changes.ensures.runs (omega (arith, late.survives.clean)) (rw at))) c.commit.result (late.err clean)

pub returns-clause-survives : goal.returns-clause-survives
returns-clause-survives g c =
    let old = state g.S.Store c.args.conn.now in
    let mid = state g.S.Store c.write_changes.new.tx.conn.now in
    let at = c.transaction-tx.ensures.begun in
    let same : c.commit.new.self.0 ≡ c.conn-2-1.given.0 = search rules in
    subst (λ h. Survives old (state g.S.Store h) (Leaves c.args.changes.now old mid (state g.S.Store h))) same
    (commit_survives c.args.changes.now old mid (state g.S.Store c.commit.new.self.0)
    (λ clean. rw at at (c.in_ok-write_changes.ensures.runs clean (rw at)))
    (rw at at c.write_changes.ensures.survives) c.commit.ensures.survives)

pub returns-in_err-write_changes-clause-kept : goal.returns-in_err-write_changes-clause-kept
returns-in_err-write_changes-clause-kept g c clean =
    let at = c.transaction-tx.ensures.begun in
    let same : c.drop-tx.new.self.0 ≡ c.conn-1.given.0 = search rules in
    let late = rw same at c.drop-tx.ensures in
    at_refusal c.from_residual.result
    (rolled_back (state g.S.Store c.args.conn.now) (state g.S.Store c.write_changes.new.tx.conn.now) (state g.S.Store c.conn-1.given.0)
    (rw at at (c.in_err-write_changes.ensures.runs (omega (arith, late.survives.clean)) (rw at))) (late.undone clean))

pub returns-in_err-write_changes-clause-survives : goal.returns-in_err-write_changes-clause-survives
returns-in_err-write_changes-clause-survives g c =
    let old = state g.S.Store c.args.conn.now in
    let mid = state g.S.Store c.write_changes.new.tx.conn.now in
    let at = c.transaction-tx.ensures.begun in
    let same : c.drop-tx.new.self.0 ≡ c.conn-1.given.0 = search rules in
    subst (λ h. Survives old (state g.S.Store h) (Leaves c.args.changes.now old mid (state g.S.Store h))) same
    (refused_survives c.args.changes.now old mid (state g.S.Store c.drop-tx.new.self.0)
    (rw at at c.write_changes.ensures.survives) c.drop-tx.ensures.survives)
