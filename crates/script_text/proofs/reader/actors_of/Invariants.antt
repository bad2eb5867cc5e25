use Rattle.std.proofs.Common.{map, take}
use Rattle.serde_json.specs.View.{view}
use Rattle.script_text.specs.Readings.{actor_of}
use Rattle.script_text.specs.Placed.{ActorsFrom}
use Rattle.script_text.proofs.reader.actors_of.Given as goal

abbrev pub invariant-loop-value : goal.invariant-loop-value
invariant-loop-value l = ActorsFrom l.fn.suffixes (take l.value-index (map actor_of (map view l.values))) l.actors
