use Rattle.std.proofs.Common.{arith, refl}
use Rattle.store_vault.specs.Loading.{rules_of}
use Rattle.shared_jar.proofs.EndingLemmas.{ended_load}
use Rattle.shared_jar.proofs.ServingLemmas.{after_load, load_limit}
use Rattle.shared_jar.proofs.FaultLemmas.{load_counts}
use Rattle.shared_jar.proofs.HeldLoadLemmas.{load_over, load_went}
use Rattle.shared_jar.proofs.HoldingLemmas.{beside_then}
use Rattle.shared_jar.proofs.TogetherLemmas.{jar_room}
use Rattle.shared_jar.proofs.own_jar.OwnJar.load_next.Goals as goal

pub load_next-requires-clause-same : goal.load_next-requires-clause-same
load_next-requires-clause-same g c =
    let jar = c.args.self.now in (
      jar.is.table_is,
      jar_room 2 (rules_of jar.vault.stored jar.callers jar.locked.jar.limit) jar.cells
          jar.locked.jar jar.vault.cutter jar.vault.owns (omega arith)
          c.is_counted.ensures.entries c.is_counted.ensures.calls jar.is,
    )

pub invariant_of-self : goal.invariant_of-self
invariant_of-self g c =
    let jar = c.args.self.now in
    let on = after_load jar.vault.stored jar.callers jar.cells jar.locked.jar jar.vault.cutter
    jar.vault.owns c.load_next.new.locked.jar c.load_next.new.self.cutter
    c.load_next.new.self.owns c.load_next.result jar.is c.load_next.ensures.load
    c.load_next.ensures.kept.3 in
    record {
      is = rw c.load_next.ensures.kept.0 on;
      ended = rw c.load_next.ensures.kept.2
          (ended_load jar.vault.stored jar.vault.owns jar.vault.acked jar.locked.jar
          c.load_next.new.locked.jar jar.vault.cutter c.load_next.new.self.cutter
          c.load_next.result jar.ended c.load_next.ensures.load);
    }

pub returns-clause-beside : goal.returns-clause-beside
returns-clause-beside g c beside =
    let jar = c.args.self.now in
    let went = load_went jar.vault.stored jar.callers jar.cells jar.locked.jar jar.vault.cutter
    jar.vault.owns jar.is c.load_next.new.locked.jar
    c.load_next.new.self.cutter c.load_next.result c.load_next.ensures.load in
    let still = beside_then jar.vault.stored jar.callers jar.locked.jar c.load_next.new.locked.jar
    jar.vault.kept jar.vault.acked went beside in
    rw (
      c.load_next.ensures.kept.0,
      c.load_next.ensures.kept.1,
      c.load_next.ensures.kept.2,
    ) still

pub returns-clause-held : goal.returns-clause-held
returns-clause-held g c undisturbed =
    let jar = c.args.self.now in
    load_over jar.vault.stored jar.callers jar.cells jar.locked.jar jar.vault.cutter jar.vault.owns
    jar.is c.load_next.new.locked.jar c.load_next.new.self.cutter
    c.load_next.result (g.K.Keeper.tells jar.vault.keeper)
    (g.K.Keeper.tells c.load_next.new.self.keeper) c.load_next.ensures.load
    (c.load_next.ensures.over undisturbed) c.load_next.ensures.looked.told

pub returns-clause-faults : goal.returns-clause-faults
returns-clause-faults g c =
    let jar = c.args.self.now in
    load_counts jar.vault.stored jar.locked.jar c.load_next.new.locked.jar jar.vault.cutter
    c.load_next.new.self.cutter jar.vault.owns
    (g.K.Keeper.faults jar.vault.keeper) (g.K.Keeper.faults c.load_next.new.self.keeper)
    jar.vault.starved c.load_next.new.self.starved
    c.load_next.result c.load_next.ensures.load c.load_next.ensures.count

pub returns-clause-same : goal.returns-clause-same
returns-clause-same g c =
    let jar = c.args.self.now in
    let kept = c.load_next.ensures.kept in (
      kept.0,
      kept.1,
      kept.2,
      refl,
      refl,
      load_limit jar.vault.stored jar.vault.owns jar.locked.jar c.load_next.new.locked.jar jar.vault.cutter c.load_next.new.self.cutter
          c.load_next.result c.load_next.ensures.load,
    )
