use Rattle.std.proofs.Common.{arith}
use Rattle.script_run.proofs.ServiceLemmas.{load_served, load_served_over}
use Rattle.script_run.proofs.services.load_next.Goals as goal

pub returns-in-Ok-clause-loaded : goal.returns-in-Ok-clause-loaded
returns-in-Ok-clause-loaded g c script players rules_are =
    let jar = c.args.jar.now in
    let new = c.load_next.new.self in
    load_served jar.vault.stored jar.callers jar.locked.jar.limit jar.vault.owns script rules_are jar.locked.jar new.locked.jar
    jar.vault.cutter new.vault.cutter jar.vault.kept new.vault.kept c.load_next.ensures.same.1 players c.load_next.result (grind arith) c.load_next.ensures.load

pub returns-in-Ok-clause-over : goal.returns-in-Ok-clause-over
returns-in-Ok-clause-over g c script players rules_are undisturbed held told none =
    let jar = c.args.jar.now in
    let new = c.load_next.new.self in
    load_served_over jar.vault.stored jar.callers jar.locked.jar.limit jar.vault.owns script rules_are jar.locked.jar new.locked.jar
    jar.vault.cutter new.vault.cutter jar.vault.kept new.vault.kept c.load_next.ensures.same.1 players held c.load_next.result (grind arith) c.load_next.ensures.load
    (c.load_next.ensures.over undisturbed held told) none

pub returns-in-Ok-2-clause-loaded : goal.returns-in-Ok-2-clause-loaded
returns-in-Ok-2-clause-loaded g c script players rules_are =
    let jar = c.args.jar.now in
    let new = c.load_next.new.self in
    load_served jar.vault.stored jar.callers jar.locked.jar.limit jar.vault.owns script rules_are jar.locked.jar new.locked.jar
    jar.vault.cutter new.vault.cutter jar.vault.kept new.vault.kept c.load_next.ensures.same.1 players c.load_next.result (grind arith) c.load_next.ensures.load
