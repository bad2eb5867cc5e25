use Rattle.std.proofs.Common.{inl, refl}
use Rattle.run_report.specs.Reports.{report_text}
use Rattle.script_run.specs.Answers.{IsRun, status_of, told_of}
use Rattle.script_run.proofs.AnswerLemmas.{run_same}
use Rattle.script_run.proofs.FaultLemmas.{if_ok_four}
use Rattle.script_run.proofs.answer.run_answer.Goals as goal

pub returns-in-Ok : goal.returns-in-Ok
returns-in-Ok g c =
    let K = g.K.Keeper in
    let script = c.args.script.now in
    let ran = c.in-Ok.ran in
    let report = ran.report in
    let journal = report.journal.list in
    let written = report_text report.hosts report.items journal in
    let old = told_of (K.tells c.args.keeper) (K.undisturbed c.args.keeper) (K.faults c.args.keeper) in
    let run : IsRun old (told_of (K.tells ran.keeper) (K.undisturbed ran.keeper) (K.faults ran.keeper)) script journal (status_of journal) written =
    inl (record {
      hosts = report.hosts;
      items = report.items;
      ascend = c.in-Ok.ensures.hosts;
      history = c.in-Ok.ensures.history;
      written = refl;
      status_is = refl;
      count = c.in-Ok.ensures.count;
      over = c.in-Ok.ensures.over;
    }) in
    let said = c.report_answer.ensures in
    if_ok_four c.report_answer.result
    (λ a keeper_is journal_is status_is text_is.
    run_same K.tells K.undisturbed K.faults old script a.keeper ran.keeper a.journal.list journal a.status (status_of journal) a.text.items written run
    keeper_is journal_is status_is text_is)
    said.keeper said.journal said.status said.text
