use Rattle.locked_jar.specs.Moving.{HasBumped}
use Rattle.locked_jar.proofs.moving.bump_each.Given as goal

abbrev pub invariant-loop-cell : goal.invariant-loop-cell
invariant-loop-cell l = HasBumped l.fn.baton l.moved l.cell-index l.baton
