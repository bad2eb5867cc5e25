use Rattle.std.proofs.Common.{◌≡◌, ◌≤◌}
use Rattle.jar_bench.specs.Looked.{HasLooked, StaysCaller}
use Rattle.jar_bench.proofs.rounds.reuses.Given as goal

abbrev pub invariant-loop : goal.invariant-loop
invariant-loop l = record {
  same : l.pass.table ≡ l.cells;
  few : l.hits ≤ l.counter;
  looked : HasLooked l.fn.pass l.pass l.hits l.counter;
  stays : StaysCaller l.fn.pass l.pass;
}
