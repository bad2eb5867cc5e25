use Rattle.std.proofs.Common.{◌≡◌, subst, List, ℕ}
use Rattle.script_run.specs.declared.status.TheConstants.{OTHER_WORDS}
use Rattle.script_run.specs.Tool.{usage_text, Writes}
use Rattle.script_run.specs.Answers.{told_of}
use Rattle.script_run.proofs.ToolLemmas.{answered, written_apart}
use Rattle.script_run.proofs.tool.serial_tool.Goals as goal

pub returns-then-not-runs_serial-clause-usage : goal.returns-then-not-runs_serial-clause-usage
returns-then-not-runs_serial-clause-usage g c =
    let usage : c.as_bytes.result.now ≡ usage_text = c.as_bytes.ensures.value in
    λ other. subst (λ (text : List ℕ). Writes OTHER_WORDS text c.write.result (g.O.Sink.told c.args.sink.now) (g.O.Sink.told c.write.new.sink)) usage c.write.ensures

pub returns-in-Ok-clause-read_fault : goal.returns-in-Ok-clause-read_fault
returns-in-Ok-clause-read_fault g c = λ serial fault.
    let K = g.K.Keeper in
    let answer = c.in-Ok.answer in
    let before = told_of (K.tells c.args.keeper) (K.undisturbed c.args.keeper) (K.faults c.args.keeper) in
    let then = told_of (K.tells answer.keeper) (K.undisturbed answer.keeper) (K.faults answer.keeper) in
    let old = g.S.Source.told c.args.source.now in
    let new = g.S.Source.told c.answer_input.new.source in
    let is = answered before then old new answer.journal.list answer.status answer.text.items c.in-Ok.ensures.due in
    absurd (written_apart answer.status c.as_slice.result.now c.write-in-Ok.result (g.O.Sink.told c.args.sink.now) (g.O.Sink.told c.write-in-Ok.new.sink) is
    c.write-in-Ok.ensures fault)
