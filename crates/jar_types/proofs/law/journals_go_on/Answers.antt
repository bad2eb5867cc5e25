use Rattle.jar_types.proofs.JournalLemmas.{legal_push}
use Rattle.jar_types.proofs.law.journals_go_on.Goals as goal

pub returns : goal.returns
returns c = legal_push
