use Rattle.script_run.proofs.FitLemmas.{items_fit}
use Rattle.script_run.proofs.law.items_fit_the_turns.Goals as goal

pub returns : goal.returns
returns c = items_fit
