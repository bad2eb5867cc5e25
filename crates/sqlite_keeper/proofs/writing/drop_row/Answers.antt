use Rattle.sqlite.specs.Held.{state}
use Rattle.sqlite_keeper.proofs.CommitLemmas.{drop_makes}
use Rattle.sqlite_keeper.proofs.writing.drop_row.Goals as goal

pub returns-clause-runs : goal.returns-clause-runs
returns-clause-runs g c clean inside =
    drop_makes (state g.S.Store c.args.tx.now.conn.now) (state g.S.Store c.execute.new.self.conn.now) c.args.id.now c.execute.result
    (rw (c.params-to_sql.ensures, c.params-to_sql-2.ensures, c.params-to_sql-3.ensures, c.as_str.ensures, c.as_str-2.ensures, c.as_str-3.ensures) at (c.execute.ensures.runs clean inside))
