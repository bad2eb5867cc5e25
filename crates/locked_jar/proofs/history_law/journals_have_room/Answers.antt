use Rattle.locked_jar.proofs.RoomLemmas.{journals_have_room}
use Rattle.locked_jar.proofs.history_law.journals_have_room.Goals as goal

pub returns : goal.returns
returns c = journals_have_room
