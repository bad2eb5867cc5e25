use Rattle.std.proofs.Common.{◌∙◌}
use Rattle.key_loader.proofs.SearchLemmas.{place_there}
use Rattle.key_loader.proofs.places.is_unloaded.Goals as goal

pub returns : goal.returns
returns c = c.is_ok.ensures.value ∙ place_there c.args.places.now c.args.place _ c.binary_search.ensures.position c.requires
