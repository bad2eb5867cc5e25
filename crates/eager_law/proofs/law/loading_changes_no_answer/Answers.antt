use Rattle.eager_law.proofs.RunLemmas.{loading_changes_no_answer as law}
use Rattle.eager_law.proofs.law.loading_changes_no_answer.Goals as goal

pub returns : goal.returns
returns c = law
