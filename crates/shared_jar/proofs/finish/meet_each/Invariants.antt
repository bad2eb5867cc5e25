use Rattle.std.proofs.Common.{◌≡◌}
use Rattle.std.specs.List.{AllByRecursion}
use Rattle.locked_jar.specs.Passes.{IsHome}
use Rattle.shared_jar.proofs.FinishLemmas.{FirstFinished}
use Rattle.shared_jar.proofs.finish.meet_each.Given as goal

abbrev pub invariant-loop-pass : goal.invariant-loop-pass
invariant-loop-pass g l =
    (l.locked ≡ l.fn.locked) × AllByRecursion (IsHome l.cells) l.passes × FirstFinished l.fn.locked.jar.seen l.pass-index l.fn.passes l.passes
