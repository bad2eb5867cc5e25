use Rattle.store_vault.specs.Loading.{rules_of}
use Rattle.shared_jar.specs.Together.{IsCaller}
use Rattle.shared_jar.proofs.CallerLemmas.{last_caller}
use Rattle.shared_jar.proofs.tests.commits.Alone.with_last.Goals as goal

pub invariant_of-result : goal.invariant_of-result
invariant_of-result c =
    let jar = c.args.jar in
    record {
      is = (last_caller (IsCaller (rules_of jar.vault.stored jar.callers jar.locked.jar.limit) jar.cells)
          _ _ c.in-Some.pass c.in-Some.ensures.items c.requires).1;
    }
