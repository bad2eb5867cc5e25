use Rattle.script_run.proofs.StoredRunLemmas.{stored_runs_are_honest}
use Rattle.script_run.proofs.run_law.stored_runs_are_honest.Goals as goal

pub returns : goal.returns
returns c = stored_runs_are_honest
