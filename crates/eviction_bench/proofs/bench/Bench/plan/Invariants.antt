use Rattle.std.proofs.Common.{◌≡◌, ◌<◌, length}
use Rattle.eviction_bench.specs.Planned.{plan_of}
use Rattle.eviction_bench.proofs.bench.Bench.plan.Given as goal

abbrev pub invariant-loop : goal.invariant-loop
invariant-loop l = 0 < l.counter → l.going ≡ length (plan_of l.task l.now l.self.faces.items)
