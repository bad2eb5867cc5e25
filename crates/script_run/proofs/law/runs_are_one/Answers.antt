use Rattle.script_run.proofs.OverLemmas.{runs_are_one}
use Rattle.script_run.proofs.law.runs_are_one.Goals as goal

pub returns : goal.returns
returns c = runs_are_one
