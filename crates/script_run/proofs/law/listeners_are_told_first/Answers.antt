use Rattle.script_run.proofs.ListenLemmas.{told_first}
use Rattle.script_run.proofs.law.listeners_are_told_first.Goals as goal

pub returns : goal.returns
returns c = told_first
