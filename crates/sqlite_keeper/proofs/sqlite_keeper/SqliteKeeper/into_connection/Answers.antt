use Rattle.std.proofs.Common.{sym, subst}
use Rattle.sqlite_keeper.specs.Kept.{TellsTable}
use Rattle.sqlite_keeper.proofs.sqlite_keeper.SqliteKeeper.into_connection.Goals as goal

pub returns-clause-rows : goal.returns-clause-rows
returns-clause-rows g c clean rows told =
    c.self.invariant.holds clean rows (subst (λ k. TellsTable g.S.Store k rows) (sym c.self.view_is) told)
