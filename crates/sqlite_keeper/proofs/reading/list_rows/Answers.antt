use Rattle.std.proofs.Common.{◌≡◌, [], ◌∷◌, refl, arith, rules}
use Rattle.sqlite.specs.Held.{state}
use Rattle.sqlite.specs.declared.types.Value.TheVariants.{Text}
use Rattle.sqlite_keeper.specs.CookieTable.{load_text}
use Rattle.sqlite_keeper.specs.Changing.{begun}
use Rattle.sqlite_keeper.proofs.QueryLemmas.{answered_open, rows_answered}
use Rattle.sqlite_keeper.proofs.StateLemmas.{query_stays, rolled_back}
use Rattle.sqlite_keeper.proofs.reading.list_rows.Goals as goal

pub returns-clause-rows : goal.returns-clause-rows
returns-clause-rows g c clean =
    let at = c.transaction-tx.ensures.begun in
    let bound = c.params-to_sql.ensures in
    let same : c.drop-tx.new.self.0 ≡ c.conn-1.given.0 = search rules in
    let late = rw same at c.drop-tx.ensures in
    rows_answered c.args.host.now (state g.S.Store c.args.conn.now) (state g.S.Store c.query_all.new.self.conn.now) c.query_all.result
    (rw (bound, at) at (c.query_all.ensures.ok (omega (arith, late.survives.clean))))

pub returns-clause-kept : goal.returns-clause-kept
returns-clause-kept g c clean =
    let old = state g.S.Store c.args.conn.now in
    let mid = state g.S.Store c.query_all.new.self.conn.now in
    let at = c.transaction-tx.ensures.begun in
    let bound = c.params-to_sql.ensures in
    let same : c.drop-tx.new.self.0 ≡ c.conn-1.given.0 = search rules in
    let late = rw same at c.drop-tx.ensures in
    rolled_back old mid (state g.S.Store c.conn-1.given.0)
    (query_stays load_text (Text c.args.host.now ∷ []) (begun old) mid c.query_all.result refl
    (rw (bound, at) at (c.query_all.ensures.ok (omega (arith, late.survives.clean))))
    (rw (bound, at) at (c.query_all.ensures.err (omega (arith, late.survives.clean)))))
    (late.undone clean)

pub returns-clause-open : goal.returns-clause-open
returns-clause-open g c clean =
    let at = c.transaction-tx.ensures.begun in
    let bound = c.params-to_sql.ensures in
    let same : c.drop-tx.new.self.0 ≡ c.conn-1.given.0 = search rules in
    let late = rw same at c.drop-tx.ensures in
    answered_open load_text (Text c.args.host.now ∷ []) (state g.S.Store c.args.conn.now) (state g.S.Store c.query_all.new.self.conn.now) c.query_all.result
    (rw (bound, at) at (c.query_all.ensures.ok (omega (arith, late.survives.clean))))
