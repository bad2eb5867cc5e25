use Rattle.std.proofs.Common.{refl}
use Rattle.store_vault.specs.Loading.{rules_of}
use Rattle.shared_jar.proofs.CallerLemmas.{passes_ready}
use Rattle.shared_jar.proofs.tests.threads.eight_threads_make_one_legal_journal.Goals as goal

pub shared_by_all-requires-clause-passes : goal.shared_by_all-requires-clause-passes
shared_by_all-requires-clause-passes g c κs =
    let o = c.in_ok-opened.opened in
    (passes_ready (rules_of o.jar.vault.stored o.jar.callers o.jar.locked.jar.limit) o.jar.cells o.jar.callers o.passes.items o.loader o.committer
    c.in_ok-opened.ensures refl).0
