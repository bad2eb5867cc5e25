use Rattle.std.proofs.Common.{arith, refl}
use Rattle.store_vault.specs.Loading.{rules_of}
use Rattle.shared_jar.proofs.EndingLemmas.{ended_flush}
use Rattle.shared_jar.proofs.ServingLemmas.{after_flush, flush_limit}
use Rattle.shared_jar.proofs.FaultLemmas.{flush_counts}
use Rattle.shared_jar.proofs.HeldFlushLemmas.{flush_beside, flush_forward, flush_over}
use Rattle.shared_jar.proofs.TogetherLemmas.{jar_room}
use Rattle.shared_jar.proofs.own_jar.OwnJar.flush.Goals as goal

pub flush-requires-clause-same : goal.flush-requires-clause-same
flush-requires-clause-same g c =
    let jar = c.args.self.now in (
      jar.is.table_is,
      jar_room 2 (rules_of jar.vault.stored jar.callers jar.locked.jar.limit) jar.cells
          jar.locked.jar jar.vault.cutter jar.vault.owns (omega arith)
          c.is_counted.ensures.entries c.is_counted.ensures.calls jar.is,
    )

pub invariant_of-self : goal.invariant_of-self
invariant_of-self g c =
    let jar = c.args.self.now in
    let on = after_flush jar.vault.stored jar.callers jar.cells jar.locked.jar jar.vault.cutter
    jar.vault.owns c.args.force c.is_counted.ensures.entries
    c.flush.new.locked.jar c.flush.new.self.cutter c.flush.new.self.owns
    (record { changes = jar.vault.kept; acked = jar.vault.acked })
    (record { changes = c.flush.new.self.kept; acked = c.flush.new.self.acked })
    c.flush.result jar.is c.flush.ensures.flush c.flush.ensures.kept.1 in
    record {
      is = rw c.flush.ensures.kept.0 on;
      ended =
          ended_flush c.args.force jar.vault.owns jar.locked.jar c.flush.new.locked.jar
          jar.vault.cutter c.flush.new.self.cutter
          (record { changes = jar.vault.kept; acked = jar.vault.acked })
          (record { changes = c.flush.new.self.kept; acked = c.flush.new.self.acked })
          c.flush.result jar.ended c.flush.ensures.flush;
    }

pub returns-clause-beside : goal.returns-clause-beside
returns-clause-beside g c beside =
    let jar = c.args.self.now in
    let still = flush_beside jar.vault.stored jar.callers jar.cells jar.locked.jar jar.vault.cutter
    jar.vault.owns jar.is c.flush.new.locked.jar
    c.flush.new.self.cutter c.args.force
    (record { changes = jar.vault.kept; acked = jar.vault.acked })
    (record { changes = c.flush.new.self.kept; acked = c.flush.new.self.acked }) c.flush.result
    c.flush.ensures.flush beside in
    rw c.flush.ensures.kept.0 still

pub returns-clause-held : goal.returns-clause-held
returns-clause-held g c beside =
    let jar = c.args.self.now in
    flush_over jar.vault.stored jar.callers jar.cells jar.locked.jar jar.vault.cutter jar.vault.owns
    jar.is c.flush.new.locked.jar c.flush.new.self.cutter c.args.force
    (record { changes = jar.vault.kept; acked = jar.vault.acked })
    (record { changes = c.flush.new.self.kept; acked = c.flush.new.self.acked }) c.flush.result
    (g.K.Keeper.tells jar.vault.keeper) (g.K.Keeper.tells c.flush.new.self.keeper)
    c.flush.ensures.flush beside c.flush.ensures.told

pub returns-clause-faults : goal.returns-clause-faults
returns-clause-faults g c =
    let jar = c.args.self.now in
    flush_counts jar.locked.jar c.flush.new.locked.jar jar.vault.cutter c.flush.new.self.cutter
    jar.vault.owns (g.K.Keeper.faults jar.vault.keeper)
    (g.K.Keeper.faults c.flush.new.self.keeper) jar.vault.starved c.flush.new.self.starved
    c.args.force
    (record { changes = jar.vault.kept; acked = jar.vault.acked })
    (record { changes = c.flush.new.self.kept; acked = c.flush.new.self.acked }) c.flush.result
    c.flush.ensures.flush c.flush.ensures.count

pub returns-clause-never_back : goal.returns-clause-never_back
returns-clause-never_back g c beside =
    let jar = c.args.self.now in
    flush_forward (rules_of jar.vault.stored jar.callers jar.locked.jar.limit) c.args.force
    jar.vault.owns jar.locked.jar c.flush.new.locked.jar
    jar.vault.cutter c.flush.new.self.cutter
    (record { changes = jar.vault.kept; acked = jar.vault.acked })
    (record { changes = c.flush.new.self.kept; acked = c.flush.new.self.acked }) c.flush.result
    jar.is.history.legal beside c.flush.ensures.flush

pub returns-clause-same : goal.returns-clause-same
returns-clause-same g c =
    let jar = c.args.self.now in (
      c.flush.ensures.kept.0,
      refl,
      refl,
      flush_limit c.args.force jar.vault.owns jar.locked.jar c.flush.new.locked.jar jar.vault.cutter c.flush.new.self.cutter
          (record { changes = jar.vault.kept; acked = jar.vault.acked }) (record { changes = c.flush.new.self.kept; acked = c.flush.new.self.acked })
          c.flush.result c.flush.ensures.flush,
    )
