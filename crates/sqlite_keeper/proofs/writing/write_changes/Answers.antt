use Rattle.std.proofs.Common.{[], sym, subst, arith}
use Rattle.std.specs.Prelude.{IsTrue}
use Rattle.sqlite.specs.Held.{state}
use Rattle.sqlite_keeper.specs.CookieTable.{put_text}
use Rattle.sqlite_keeper.proofs.CommitLemmas.{after_same, kept_at}
use Rattle.sqlite_keeper.proofs.StateLemmas.{prepare_stays}
use Rattle.sqlite_keeper.proofs.writing.write_changes.Goals as goal

pub returns-clause-runs : goal.returns-clause-runs
returns-clause-runs g c clean inside =
    let old = state g.S.Store c.args.tx.now.conn.now in
    let mid = state g.S.Store c.prepare.new.self.conn.now in
    let new = state g.S.Store c.write_each.new.tx.conn.now in
    let was = c.in_ok-put.ensures.ok (omega (arith, c.write_each.ensures.survives.clean)) in
    after_same c.args.changes.now old mid new c.write_each.result was.1
    (c.write_each.ensures.runs was.0 clean (subst IsTrue (sym was.1.0.mode) inside) was.1.0.is_open)

pub returns-in_err-put-clause-runs : goal.returns-in_err-put-clause-runs
returns-in_err-put-clause-runs g c clean inside =
    let old = state g.S.Store c.args.tx.now.conn.now in
    let new = state g.S.Store c.prepare.new.self.conn.now in
    kept_at c.args.changes.now old new c.from_residual.result c.from_residual.ensures.0
    (prepare_stays put_text [] old new c.in_err-put.field-0.0 (c.in_err-put.ensures.err clean []))
