use Rattle.locked_jar.proofs.HistoryLemmas.{histories_begin}
use Rattle.locked_jar.proofs.history_law.histories_begin.Goals as goal

pub returns : goal.returns
returns c = histories_begin
