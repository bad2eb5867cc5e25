use Rattle.shared_jar.proofs.SharingLemmas.{unshared_ended, unshared_jar, unshared_number, unshared_rules}
use Rattle.shared_jar.proofs.sharing.SharedJar.unshare.Goals as goal

pub invariant_of-result : goal.invariant_of-result
invariant_of-result g c =
    let n = g.N.JarName in
    let own = c.args.self in
    let vault = c.into_vault-vault.result in
    record {
      is =
          unshared_jar n.rules own.cells n.table n.cutter own.callers vault.stored
          c.into_locked-jar.result c.meet.new.self vault.cutter c.meet.new.pass
          vault.owns vault.acked own.named.0 own.named.1 c.meet.ensures.same
          c.into_locked-jar.ensures c.into_vault-vault.ensures c.meet.ensures.pass;
      ended =
          unshared_ended n.rules own.cells n.table n.cutter own.callers vault.stored
          c.into_locked-jar.result c.meet.new.self vault.cutter
          c.meet.new.pass vault.owns vault.acked own.named.0 own.named.1 c.meet.ensures.same
          c.into_locked-jar.ensures c.into_vault-vault.ensures
          c.meet.ensures.pass;
    }

pub returns-clause-rules : goal.returns-clause-rules
returns-clause-rules g c =
    let n = g.N.JarName in
    let own = c.args.self in
    let vault = c.into_vault-vault.result in
    unshared_rules n.rules own.cells n.table n.cutter own.callers vault.stored
    c.into_locked-jar.result c.meet.new.self vault.cutter c.meet.new.pass
    vault.owns vault.acked own.named.0 own.named.1 c.meet.ensures.same c.into_locked-jar.ensures
    c.into_vault-vault.ensures c.meet.ensures.pass

pub returns-clause-cutter : goal.returns-clause-cutter
returns-clause-cutter g c =
    let n = g.N.JarName in
    let own = c.args.self in
    let vault = c.into_vault-vault.result in
    unshared_number n.rules own.cells n.table n.cutter own.callers vault.stored
    c.into_locked-jar.result c.meet.new.self vault.cutter c.meet.new.pass
    vault.owns vault.acked own.named.0 own.named.1 c.meet.ensures.same c.into_locked-jar.ensures
    c.into_vault-vault.ensures c.meet.ensures.pass
