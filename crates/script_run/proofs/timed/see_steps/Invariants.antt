use Rattle.std.proofs.Common.{take}
use Rattle.script_run.specs.StoredRuns.{AreTimed}
use Rattle.script_run.proofs.timed.see_steps.Given as goal

abbrev pub invariant-loop-step : goal.invariant-loop-step
invariant-loop-step l = AreTimed (take l.step-index l.steps)
