use Rattle.std.proofs.Common.{sym, subst, ◌∙◌, arith}
use Rattle.sqlite.specs.Held.{state}
use Rattle.sqlite.specs.State.{HasCleanDisk}
use Rattle.sqlite_keyed.proofs.ListLemmas.{all-filter}
use Rattle.jar_keeper.specs.HostRows.{has_host, rows_of_host}
use Rattle.jar_keeper.proofs.HostLemmas.{host_rows}
use Rattle.sqlite_keeper.specs.Kept.{TellsTable}
use Rattle.sqlite_keeper.specs.TableRows.{HasUtf8}
use Rattle.sqlite_keeper.proofs.KeptLemmas.{read_kept, on_success, at_success}
use Rattle.sqlite_keeper.proofs.sqlite_keeper.SqliteKeeperKeeper.load.Goals as goal

pub invariant_of-self : goal.invariant_of-self
invariant_of-self g c =
    read_kept g.S.Store c.self.inside.conn c.list_rows.new.conn c.self.inside.found.value c.self.inside.committed.changes c.self.inside.faults
    c.counted.new.faults c.self.invariant c.list_rows.ensures.mode c.list_rows.ensures.survives c.list_rows.ensures.kept

pub invariant_of-self-in_err-rows_shown : goal.invariant_of-self-in_err-rows_shown
invariant_of-self-in_err-rows_shown g c =
    read_kept g.S.Store c.self.inside.conn c.list_rows.new.conn c.self.inside.found.value c.self.inside.committed.changes c.self.inside.faults
    c.counted.new.faults c.self.invariant c.list_rows.ensures.mode c.list_rows.ensures.survives c.list_rows.ensures.kept

pub invariant_of-self-2 : goal.invariant_of-self-2
invariant_of-self-2 g c =
    read_kept g.S.Store c.self.inside.conn c.list_rows.new.conn c.self.inside.found.value c.self.inside.committed.changes c.self.inside.faults
    c.counted.new.faults c.self.invariant c.list_rows.ensures.mode c.list_rows.ensures.survives c.list_rows.ensures.kept

pub returns-clause-value : goal.returns-clause-value
returns-clause-value g c clean rows told =
    let host = c.args.host.now in
    let before : HasCleanDisk (state g.S.Store c.self.inside.conn) = omega (arith, c.list_rows.ensures.survives.clean, clean) in
    let shows = c.self.invariant.holds before rows (subst (λ k. TellsTable g.S.Store k rows) (sym c.self.view_is) told) in
    let is = c.in_ok-shown.ensures.ok in
    let there = (shows (on_success c.list_rows.result c.in_ok-shown.shown is (c.list_rows.ensures.open clean))).holds in
    let out = at_success c.list_rows.result c.in_ok-shown.shown _ is (c.list_rows.ensures.rows clean) rows shows in
    let mine = host_rows host rows there.rise in
    c.in_ok-rows_shown.ensures.value (rows_of_host host rows) (c.as_slice.ensures.value ∙ out) mine.0 mine.1
    (all-filter HasUtf8 (has_host host) rows there.texts)
