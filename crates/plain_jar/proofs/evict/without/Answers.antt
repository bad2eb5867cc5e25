use Rattle.std.proofs.Common.{sym, ◌∙◌}
use Rattle.plain_jar.proofs.EvictLemmas.{none_gone}
use Rattle.plain_jar.proofs.evict.without.Goals as goal

pub returns-then-is_empty : goal.returns-then-is_empty
returns-then-is_empty c = none_gone c.args.gone.now c.args.cookies (sym c.is_empty.ensures ∙ c.if-is_empty.true)
