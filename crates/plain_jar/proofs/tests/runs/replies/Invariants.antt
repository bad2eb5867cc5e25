use Rattle.std.proofs.Common.{◌+◌, ◌≤◌}
use Rattle.plain_jar.proofs.tests.runs.replies.Given as goal

abbrev pub invariant-loop-row : goal.invariant-loop-row
invariant-loop-row g l = (g.C.JarCore.state l.core).entries ≤ (g.C.JarCore.state l.initial.core).entries + l.row-index
