use Rattle.std.proofs.Common.{refl}
use Rattle.store_vault.specs.Loading.{rules_of}
use Rattle.shared_jar.proofs.CallerLemmas.{passes_ready}
use Rattle.shared_jar.proofs.tests.commits.Alone.of.Goals as goal

pub with_last-requires : goal.with_last-requires
with_last-requires c =
    let o = c.in_ok-jar.field-0 in
    (passes_ready (rules_of o.jar.vault.stored o.jar.callers o.jar.locked.jar.limit) o.jar.cells o.jar.callers
    o.passes.items o.loader o.committer c.in_ok-jar.ensures refl).0
