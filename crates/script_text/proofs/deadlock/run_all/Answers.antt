use Rattle.std.proofs.Common.{◌∙◌, ap, sym, suc}
use Rattle.script_text.specs.Deadlocks.{turn}
use Rattle.script_text.proofs.DeadlockLemmas.{stand_at_start}
use Rattle.script_text.proofs.deadlock.run_all.Goals as goal

pub loop-init : goal.loop-init
loop-init c = ((0, sym c.requires.places), rw (c.requires.places, c.requires.counts) (stand_at_start c.args.actors.now))

pub loop-preserved : goal.loop-preserved
loop-preserved c =
    let before = c.loop.invariant.0 in
    ((suc before.0, ap (turn c.args.actors.now) before.1 ∙ sym c.turn.ensures.runs), c.turn.ensures.stand)
