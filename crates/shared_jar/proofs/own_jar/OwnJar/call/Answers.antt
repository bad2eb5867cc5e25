use Rattle.std.proofs.Common.{arith}
use Rattle.store_vault.specs.Loading.{rules_of}
use Rattle.shared_jar.proofs.EndingLemmas.{ended_call}
use Rattle.shared_jar.proofs.FaultLemmas.{call_counts}
use Rattle.shared_jar.proofs.HoldingLemmas.{beside_then, call_over, call_went}
use Rattle.shared_jar.proofs.TogetherLemmas.{after_call, caller_after, jar_room}
use Rattle.shared_jar.proofs.own_jar.OwnJar.call.Goals as goal

pub call-requires-clause-room : goal.call-requires-clause-room
call-requires-clause-room g c =
    let jar = c.args.self.now in
    let room = jar_room 1 (rules_of jar.vault.stored jar.callers jar.locked.jar.limit) jar.cells
    jar.locked.jar jar.vault.cutter jar.vault.owns (omega arith)
    c.is_counted.ensures.entries c.is_counted.ensures.calls jar.is in
    omega (arith, room)

pub invariant_of-self : goal.invariant_of-self
invariant_of-self g c =
    let jar = c.args.self.now in
    record {
      is =
          after_call jar.vault.stored jar.callers jar.cells jar.vault.cutter jar.vault.owns
          jar.locked.jar c.call.new.self.jar c.args.pass.now c.call.new.pass
          c.args.op.now c.args.now c.call.result jar.is c.requires.pass.among c.requires.keyed
          c.call.ensures.answered c.call.ensures.refused;
      ended =
          ended_call jar.locked.jar c.call.new.self.jar c.args.pass.now c.call.new.pass
          c.args.op.now c.args.now jar.vault.acked c.call.result jar.ended
          c.call.ensures.answered c.call.ensures.refused;
    }

pub returns-clause-pass : goal.returns-clause-pass
returns-clause-pass g c =
    let jar = c.args.self.now in
    caller_after (rules_of jar.vault.stored jar.callers jar.locked.jar.limit) jar.cells
    jar.locked.jar c.call.new.self.jar c.args.pass.now c.call.new.pass
    c.args.op.now c.args.now c.call.result c.requires.pass c.call.ensures.answered
    c.call.ensures.refused

pub returns-clause-held : goal.returns-clause-held
returns-clause-held g c =
    let jar = c.args.self.now in
    call_over (rules_of jar.vault.stored jar.callers jar.locked.jar.limit) jar.locked.jar
    c.call.new.self.jar c.args.pass.now c.call.new.pass c.args.op.now c.args.now
    c.call.result (g.K.Keeper.tells jar.vault.keeper) jar.is.state_is c.call.ensures.answered
    c.call.ensures.refused

pub returns-clause-faults : goal.returns-clause-faults
returns-clause-faults g c =
    let jar = c.args.self.now in
    call_counts jar.locked.jar c.call.new.self.jar c.args.pass.now c.call.new.pass c.args.op.now
    c.args.now c.call.result (g.K.Keeper.faults jar.vault.keeper)
    jar.vault.starved c.call.ensures.answered c.call.ensures.refused

pub returns-clause-beside : goal.returns-clause-beside
returns-clause-beside g c =
    let jar = c.args.self.now in
    let rules = rules_of jar.vault.stored jar.callers jar.locked.jar.limit in
    let went = call_went rules jar.locked.jar jar.is.state_is c.call.new.self.jar c.args.pass.now
    c.call.new.pass c.args.op.now c.args.now c.call.result
    c.call.ensures.answered c.call.ensures.refused in
    beside_then jar.vault.stored jar.callers jar.locked.jar c.call.new.self.jar jar.vault.kept
    jar.vault.acked went
