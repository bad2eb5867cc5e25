use Rattle.locked_jar.proofs.HistoryLemmas.{histories_go_on}
use Rattle.locked_jar.proofs.history_law.histories_go_on.Goals as goal

pub returns : goal.returns
returns c = histories_go_on
