use Rattle.std.proofs.Common.{arith, add-one}
use Rattle.script_text.proofs.CountLemmas.{step_count_more}
use Rattle.script_text.proofs.counts.over_at.Goals as goal

pub returns-then-steps-left : goal.returns-then-steps-left
returns-then-steps-left c =
    let at = c.loop-index in
    let more = step_count_more c.args.actors.now at.index c.index-actors-index.result c.list_at-steps.result.now c.loop-index-test.true c.index-actors-index.is c.list_at-steps.ensures in
    record { before = omega (arith, at.invariant); over = omega (arith, at.invariant, more, c.if-steps-left.true) }

pub loop-index-preserved : goal.loop-index-preserved
loop-index-preserved c =
    let at = c.loop-index in
    let more = step_count_more c.args.actors.now at.index c.index-actors-index.result c.list_at-steps.result.now c.loop-index-test.true c.index-actors-index.is c.list_at-steps.ensures in
    rw add-one (omega (arith, at.invariant, more, c.if-steps-left.false))
