use Rattle.eviction.proofs.CookieLemmas.{thinned_keys_are_small as law}
use Rattle.eviction.proofs.law.thinned_keys_are_small.Goals as goal

pub returns : goal.returns
returns c = law
