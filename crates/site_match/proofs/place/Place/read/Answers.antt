use Rattle.site_match.proofs.PlaceLemmas.{sound_result}
use Rattle.site_match.proofs.place.Place.read.Goals as goal

pub returns-in-Ok-clause-sound : goal.returns-in-Ok-clause-sound
returns-in-Ok-clause-sound c = sound_result c.args.suffixes.now c.in-Ok.url c.place_of.result c.place_of.ensures
