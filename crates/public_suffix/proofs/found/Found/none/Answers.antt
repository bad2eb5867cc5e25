use Rattle.public_suffix.proofs.SuffixLemmas.{found_none}
use Rattle.public_suffix.proofs.found.Found.none.Goals as goal

pub returns-clause-none : goal.returns-clause-none
returns-clause-none c = λ rules are. found_none rules c.args.marks are
