use Rattle.script_text.specs.Readings.{step_of}
use Rattle.script_text.specs.Placed.{IsStepOf}
use Rattle.script_text.specs.Walk.{step_urls}
use Rattle.script_text.proofs.ReaderLemmas.{read_more, read_refused}
use Rattle.script_text.proofs.WalkLemmas.{step_places}
use Rattle.script_text.proofs.reader.steps_of.Goals as goal

pub returns-in-Err : goal.returns-in-Err
returns-in-Err c =
    let rules = c.args.suffixes.now in
    let at = c.loop-value in
    let item = c.value-item.result in
    read_refused rules (step_urls c.args.actor) (IsStepOf rules) (step_places rules c.args.actor) step_of c.args.values.now at.value-index item at.steps c.in-Err.refusal
    c.loop-value-test.true c.value-item.is at.invariant (rw c.len.ensures at c.in-Err.ensures)

pub loop-value-preserved : goal.loop-value-preserved
loop-value-preserved c =
    let rules = c.args.suffixes.now in
    let at = c.loop-value in
    rw c.in_ok-push-in-Ok.ensures.ok
    (read_more (IsStepOf rules) step_of c.args.values.now at.value-index c.value-item.result at.steps c.in-Ok.step
    c.loop-value-test.true c.value-item.is at.invariant c.in-Ok.ensures)
