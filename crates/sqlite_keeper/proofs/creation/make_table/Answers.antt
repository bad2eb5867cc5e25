use Rattle.std.proofs.Common.{◌≡◌, IfErr, arith, rules}
use Rattle.sqlite.specs.Held.{state}
use Rattle.sqlite_keeper.proofs.CommitLemmas.{commit_open, creation_done, refused_commit, refused_statement}
use Rattle.sqlite_keeper.proofs.creation.make_table.Goals as goal

pub returns-clause-made : goal.returns-clause-made
returns-clause-made g c clean =
    let at = c.transaction-tx.ensures.begun in
    let same : c.commit.new.self.0 ≡ c.conn-2-1.given.0 = search rules in
    let late = rw same at c.commit.ensures in
    creation_done (state g.S.Store c.args.conn.now) (state g.S.Store c.execute.new.self.conn.now) (state g.S.Store c.conn-2-1.given.0)
    c.in_ok-execute.field-0 c.commit.result
    (rw at at (c.in_ok-execute.ensures.runs (omega (arith, late.survives.clean)) (rw at))) (late.ok clean)

pub returns-clause-refused : goal.returns-clause-refused
returns-clause-refused g c clean =
    let same : c.commit.new.self.0 ≡ c.conn-2-1.given.0 = search rules in
    let late = rw same at c.commit.ensures in
    refused_commit g.S.Store (state g.S.Store c.args.conn.now) c.execute.new.self.conn.now (state g.S.Store c.conn-2-1.given.0)
    c.commit.result (late.err clean)

pub returns-in_err-execute-clause-refused : goal.returns-in_err-execute-clause-refused
returns-in_err-execute-clause-refused g c clean =
    let at = c.transaction-tx.ensures.begun in
    let same : c.drop-tx.new.self.0 ≡ c.conn-1.given.0 = search rules in
    let late = rw same at c.drop-tx.ensures in
    let is : IfErr c.from_residual.result (λ x. x ≡ c.in_err-execute.field-0.0) = search rules in
    refused_statement g.S.Store (state g.S.Store c.args.conn.now) c.execute.new.self.conn.now (state g.S.Store c.conn-1.given.0)
    c.in_err-execute.field-0.0 c.from_residual.result is
    (rw at at (c.in_err-execute.ensures.runs (omega (arith, late.survives.clean)) (rw at))) (late.undone clean)

pub returns-clause-open : goal.returns-clause-open
returns-clause-open g c clean =
    let same : c.commit.new.self.0 ≡ c.conn-2-1.given.0 = search rules in
    let late = rw same at c.commit.ensures in
    commit_open (state g.S.Store c.execute.new.self.conn.now) (state g.S.Store c.conn-2-1.given.0) c.commit.result (late.ok clean)
