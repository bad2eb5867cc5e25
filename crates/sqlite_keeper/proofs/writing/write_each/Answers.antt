use Rattle.std.proofs.Common.{◌≡◌, ◌∷◌, [], ◌++◌, take, get_or, refl, sym, ap, subst, ◌∙◌, arith, rules}
use Rattle.std.proofs.lemmas.List.{take_more, take_all}
use Rattle.sqlite.specs.Held.{state}
use Rattle.sqlite_keeper.specs.Changing.{Makes}
use Rattle.sqlite_keeper.proofs.CommitLemmas.{none_made, more_made, made_stays, kept_at}
use Rattle.sqlite_keeper.proofs.StateLemmas.{survives_same, survives_on}
use Rattle.sqlite_keeper.proofs.writing.write_each.Goals as goal

pub loop-change-init : goal.loop-change-init
loop-change-init g c =
    let s = state g.S.Store c.args.tx.now.conn.now in (refl, survives_same s, λ is clean inside here. none_made s inside here)

pub returns-in_err-write_change-clause-same_reference : goal.returns-in_err-write_change-clause-same_reference
returns-in_err-write_change-clause-same_reference g c = c.write_change.ensures.same_reference ∙ c.loop-change.invariant.0

pub returns-in_err-write_change-clause-runs : goal.returns-in_err-write_change-clause-runs
returns-in_err-write_change-clause-runs g c is clean inside here =
    let old = state g.S.Store c.args.tx.now.conn.now in
    let mid = state g.S.Store c.loop-change.tx.conn.now in
    let new = state g.S.Store c.write_change.new.tx.conn.now in
    let done = c.loop-change.invariant.2 is (omega (arith, c.write_change.ensures.survives.clean)) inside here in
    kept_at c.args.changes.now old new c.from_residual.result c.from_residual.ensures.0
    (made_stays (take c.loop-change.change-index c.args.changes.now) old mid new done
    (c.in_err-write_change.ensures.runs is clean done.shows.mode))

pub returns-in_err-write_change-clause-survives : goal.returns-in_err-write_change-clause-survives
returns-in_err-write_change-clause-survives g c =
    survives_on (state g.S.Store c.args.tx.now.conn.now) (state g.S.Store c.loop-change.tx.conn.now)
    (state g.S.Store c.write_change.new.tx.conn.now) c.loop-change.invariant.1 c.write_change.ensures.survives

pub loop-change-preserved : goal.loop-change-preserved
loop-change-preserved g c =
    let old = state g.S.Store c.args.tx.now.conn.now in
    let mid = state g.S.Store c.loop-change.tx.conn.now in
    let new = state g.S.Store c.write_change.new.tx.conn.now in (
      c.write_change.ensures.same_reference ∙ c.loop-change.invariant.0,
      survives_on old mid new c.loop-change.invariant.1 c.write_change.ensures.survives,
      λ is clean inside here.
          let done = c.loop-change.invariant.2 is (omega (arith, c.write_change.ensures.survives.clean)) inside here in
          let here_is : get_or c.args.changes.now c.loop-change.change-index c.change-item.result ≡ c.change-item.result = search rules in
          let cut = take_more c.args.changes.now c.loop-change.change-index c.change-item.result c.loop-change-test.true
          ∙ ap (λ x. take c.loop-change.change-index c.args.changes.now ++ x ∷ []) here_is in
          subst (λ l. Makes l old new) (sym cut)
          (more_made (take c.loop-change.change-index c.args.changes.now) c.change-item.result old mid new done
          (c.in_ok-write_change.ensures.runs is clean done.shows.mode)),
    )

pub returns-clause-same_reference : goal.returns-clause-same_reference
returns-clause-same_reference g c = c.loop-change.invariant.0

pub returns-clause-survives : goal.returns-clause-survives
returns-clause-survives g c = c.loop-change.invariant.1

pub returns-clause-runs : goal.returns-clause-runs
returns-clause-runs g c is clean inside here =
    let all : take c.loop-change.change-index c.args.changes.now ≡ c.args.changes.now =
    take_all c.loop-change.change-index c.args.changes.now (omega (arith, c.loop-change-test.false)) in
    subst (λ l. Makes l (state g.S.Store c.args.tx.now.conn.now) (state g.S.Store c.loop-change.tx.conn.now)) all
    (c.loop-change.invariant.2 is clean inside here)
