use Rattle.std.proofs.Common.{◌≡◌}
use Rattle.std.specs.Prelude.{map}
use Rattle.std.specs.List.{range_with_len}
use Rattle.eviction.specs.declared.face.Face.{Face}
use Rattle.eviction_bench.proofs.bench.faces_of.Given as goal

abbrev pub invariant-loop-tie : goal.invariant-loop-tie
invariant-loop-tie l = map (λ (f : Face). f.tie) l.faces.items ≡ range_with_len 0 l.tie
