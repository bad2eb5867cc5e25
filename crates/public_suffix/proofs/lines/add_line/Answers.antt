use Rattle.std.proofs.Common.{rules, ◌+◌}
use Rattle.public_suffix.specs.declared.refusal.TheConstants.{MAX_RULES}
use Rattle.public_suffix.proofs.ListLemmas.{kept-all}
use Rattle.public_suffix.proofs.lines.add_line.Goals as goal

pub returns-in-Ok-None : goal.returns-in-Ok-None
returns-in-Ok-None c = rw (rw c.in-Ok-None.field-0-is at c.in-Ok-None.ensures) (search rules, kept-all (MAX_RULES + 1) c.args.rules.now.items c.requires)
