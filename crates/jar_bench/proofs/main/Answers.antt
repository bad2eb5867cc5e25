use Rattle.std.proofs.Common.{refl}
use Rattle.shared_jar.proofs.CallerLemmas.{passes_ready}
use Rattle.store_vault.specs.Loading.{rules_of}
use Rattle.jar_bench.proofs.main.Goals as goal

pub run-requires-clause-passes : goal.run-requires-clause-passes
run-requires-clause-passes g c κs =
    let o = c.in-Ok-opened.opened in
    (passes_ready (rules_of o.jar.vault.stored o.jar.callers o.jar.locked.jar.limit) o.jar.cells
    o.jar.callers o.passes.items o.loader o.committer c.in-Ok-opened.ensures.passes refl).0
