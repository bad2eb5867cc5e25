use Rattle.eviction.proofs.NumberedLemmas.{cookies_go_by_faces as law}
use Rattle.eviction.proofs.law.cookies_go_by_faces.Goals as goal

pub returns : goal.returns
returns c = law
