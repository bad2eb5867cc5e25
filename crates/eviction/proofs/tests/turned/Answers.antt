use Rattle.eviction.proofs.TieLemmas.{moved_differ}
use Rattle.eviction.proofs.tests.turned.Goals as goal

pub returns : goal.returns
returns c = moved_differ c.args.faces.items c.reverse.new.self.items c.requires c.reverse.ensures.permutation
