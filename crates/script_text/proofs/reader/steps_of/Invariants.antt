use Rattle.std.proofs.Common.{map, take}
use Rattle.serde_json.specs.View.{view}
use Rattle.script_text.specs.Readings.{step_of}
use Rattle.script_text.specs.Placed.{StepsFrom}
use Rattle.script_text.proofs.reader.steps_of.Given as goal

abbrev pub invariant-loop-value : goal.invariant-loop-value
invariant-loop-value l = StepsFrom l.fn.suffixes (take l.value-index (map step_of (map view l.values))) l.steps
