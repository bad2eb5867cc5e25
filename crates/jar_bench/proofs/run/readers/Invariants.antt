use Rattle.std.specs.List.{AllByRecursion}
use Rattle.shared_jar.specs.Together.{IsCaller}
use Rattle.jar_bench.proofs.run.readers.Given as goal

abbrev pub invariant-loop : goal.invariant-loop
invariant-loop g l = AllByRecursion (IsCaller g.N.JarName.rules g.N.JarName.table) l.passes.items
