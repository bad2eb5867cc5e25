use Rattle.script_run.proofs.ListenLemmas.{told_on}
use Rattle.script_run.proofs.law.listeners_are_told_on.Goals as goal

pub returns : goal.returns
returns c = told_on
