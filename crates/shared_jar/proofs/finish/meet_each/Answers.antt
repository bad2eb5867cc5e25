use Rattle.std.proofs.Common.{◌≡◌, ◌≤◌, ◌<◌, ◌+◌, ℕ, suc, get_or, length, set, sym, ◌∙◌, subst, arith}
use Rattle.locked_jar.specs.LockedJars.{LockedView}
use Rattle.locked_jar.specs.Passes.{IsHome}
use Rattle.shared_jar.specs.Finishing.{IsFinished}
use Rattle.shared_jar.proofs.FinishLemmas.{FirstFinished, all_finished, all_set, more_finished}
use Rattle.shared_jar.proofs.finish.meet_each.Goals as goal

one_up : (i : ℕ) → suc i ≡ i + 1
one_up i = omega arith

pub loop-pass-preserved : goal.loop-pass-preserved
loop-pass-preserved g c =
    let seen = c.args.locked.now.jar.seen in
    let i = c.loop-pass.pass-index in
    let all = c.loop-pass.passes in
    let old = c.pass-item.result in
    let new = c.meet_last.new.pass in
    let holds = c.loop-pass.invariant in
    let test = c.loop-pass-test.true in
    let long = c.loop-pass.auto.passes in
    let within : i < length all = omega (arith, test, long) in
    let done : IsFinished seen old new =
    subst (λ k. IsFinished seen k new) (sym c.pass-item.is) (subst (λ (l : LockedView). IsFinished l.jar.seen (get_or all i old) new) holds.0 c.meet_last.ensures.pass) in (
      c.meet_last.ensures.same ∙ holds.0,
      all_set (IsHome c.args.cells.now) all i new holds.1 c.meet_last.ensures.home,
      subst (λ n. FirstFinished seen n c.args.passes.now (set all i new)) (one_up i)
          (more_finished seen i c.args.passes.now all old new within holds.2 c.pass-item.is done),
    )

pub returns-clause-passes : goal.returns-clause-passes
returns-clause-passes g c =
    let test = c.loop-pass-test.false in
    let long = c.loop-pass.auto.passes in
    let past : length c.loop-pass.passes ≤ c.loop-pass.pass-index = omega (arith, test, long) in
    all_finished c.args.locked.now.jar.seen c.loop-pass.pass-index c.args.passes.now c.loop-pass.passes past c.loop-pass.invariant.2
