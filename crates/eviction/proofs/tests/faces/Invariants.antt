use Rattle.std.proofs.Common.{◌≡◌, map}
use Rattle.std.specs.List.{range_with_len}
use Rattle.eviction.proofs.tests.faces.Given as goal

abbrev pub invariant-loop-i : goal.invariant-loop-i
invariant-loop-i g l = map (λ f. f.tie) l.faces.items ≡ range_with_len 0 l.i
