use Rattle.std.proofs.Common.{◌≡◌}
use Rattle.reuse_bench.specs.Looked.{HasLooked}
use Rattle.reuse_bench.proofs.bench.looks.Given as goal

abbrev pub invariant-loop : goal.invariant-loop
invariant-loop l = record { same : l.pass.table ≡ l.cells; looked : HasLooked l.fn.pass l.pass l.counter }
