use Rattle.std.proofs.Common.{◌≡◌, ◌+◌, map, take}
use Rattle.serde_json.specs.View.{view}
use Rattle.script_text.specs.declared.step.TheConstants.{MOST_STEPS}
use Rattle.script_text.specs.Counts.{step_count}
use Rattle.script_text.specs.Readings.{actor_of}
use Rattle.script_text.proofs.counts.over_at.Given as goal

abbrev pub invariant-loop-index : goal.invariant-loop-index
invariant-loop-index l = l.left + step_count (take l.index (map actor_of (map view l.actors))) ≡ MOST_STEPS
