use Rattle.std.proofs.Common.{◌≡◌}
use Rattle.shared_jar.proofs.tests.judge.judged.Given as goal

abbrev pub invariant-loop-entry : goal.invariant-loop-entry
invariant-loop-entry g l = (g.C.JarCore.state l.core).entries ≡ l.entry-index
