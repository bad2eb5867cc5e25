use Rattle.eviction.proofs.CookieLemmas.{swept_jars_are_small as law}
use Rattle.eviction.proofs.law.swept_jars_are_small.Goals as goal

pub returns : goal.returns
returns c = law
