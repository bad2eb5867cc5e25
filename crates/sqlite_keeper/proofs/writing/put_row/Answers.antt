use Rattle.sqlite.specs.Held.{state}
use Rattle.sqlite_keeper.proofs.CommitLemmas.{put_makes}
use Rattle.sqlite_keeper.proofs.writing.put_row.Goals as goal

pub returns-clause-runs : goal.returns-clause-runs
returns-clause-runs g c is clean inside =
    put_makes (state g.S.Store c.args.tx.now.conn.now) (state g.S.Store c.execute_prepared.new.self.conn.now) c.args.row.now
    c.values_of.ensures.texts c.execute_prepared.result
    (rw (is, c.values_of.ensures.value) at (c.execute_prepared.ensures.runs clean inside))
