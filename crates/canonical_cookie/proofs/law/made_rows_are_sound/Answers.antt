use Rattle.canonical_cookie.proofs.SoundLemmas.{row_of_made}
use Rattle.canonical_cookie.proofs.law.made_rows_are_sound.Goals as goal

pub returns : goal.returns
returns c = row_of_made
