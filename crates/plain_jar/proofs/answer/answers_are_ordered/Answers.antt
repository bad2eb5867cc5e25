use Rattle.plain_jar.proofs.AnswerLemmas.{ordered}
use Rattle.plain_jar.proofs.answer.answers_are_ordered.Goals as goal

pub returns : goal.returns
returns c = ordered
