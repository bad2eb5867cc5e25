use Rattle.std.proofs.Common.{take}
use Rattle.std.specs.List.{AllByRecursion}
use Rattle.script_text.specs.declared.actor.Actor.{Actor}
use Rattle.script_run.specs.StoredRuns.{AreTimed}
use Rattle.script_run.proofs.timed.see_moments.Given as goal

abbrev pub invariant-loop-actor : goal.invariant-loop-actor
invariant-loop-actor l = AllByRecursion (λ (actor : Actor). AreTimed actor.steps) (take l.actor-index l.script.actors)
