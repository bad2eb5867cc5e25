use Rattle.std.proofs.Common.{arith}
use Rattle.public_suffix.proofs.LabelLemmas.{parts_once}
use Rattle.public_suffix.proofs.lines.split_line.Goals as goal

pub returns-clause-parts : goal.returns-clause-parts
returns-clause-parts c = parts_once 10 c.args.text.now c.split_once.result c.split_once.ensures.cases (omega arith)
