use Rattle.std.proofs.Common.{arith}
use Rattle.public_suffix.proofs.LabelLemmas.{parts_once}
use Rattle.public_suffix.proofs.labels.split_label.Goals as goal

pub returns-clause-parts : goal.returns-clause-parts
returns-clause-parts c = parts_once 46 c.args.host.now c.split_once.result c.split_once.ensures.cases (omega arith)
