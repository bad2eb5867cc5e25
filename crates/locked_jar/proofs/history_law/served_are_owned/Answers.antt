use Rattle.locked_jar.proofs.RoomLemmas.{served_are_owned}
use Rattle.locked_jar.proofs.history_law.served_are_owned.Goals as goal

pub returns : goal.returns
returns c = served_are_owned
