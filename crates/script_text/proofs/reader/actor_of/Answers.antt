use Rattle.serde_json.specs.View.{view}
use Rattle.script_text.specs.Readings.{actor_of}
use Rattle.script_text.proofs.WalkLemmas.{steps_refused}
use Rattle.script_text.proofs.reader.actor_of.Goals as goal

pub returns-in-Err-steps_of : goal.returns-in-Err-steps_of
returns-in-Err-steps_of c =
    steps_refused c.args.suffixes.now c.args.index (actor_of (view c.args.value.now)) c.in-Ok.sees c.in-Err-steps_of.refusal
    c.in-Ok.ensures (rw c.list_at.ensures at c.in-Err-steps_of.ensures)
