use Rattle.std.proofs.Common.{arith}
use Rattle.version_cells.specs.Listings.{owned}
use Rattle.shared_jar.proofs.KnowingLemmas.{err_learns, ok_learns}
use Rattle.shared_jar.proofs.SharingLemmas.{any_vault, owner_of_all, state_after_call}
use Rattle.shared_jar.proofs.TogetherLemmas.{caller_after, jar_room}
use Rattle.shared_jar.proofs.jar_state.JarState.call.Goals as goal

pub call-requires-clause-room : goal.call-requires-clause-room
call-requires-clause-room g c =
    let n = g.N.JarName in
    let jar = c.args.self.now.locked.jar in
    let room = jar_room 1 n.rules n.table jar (owner_of_all n.table n.cutter jar.seen)
    (owned n.cutter jar.seen) (omega arith)
    c.is_counted.ensures.entries c.is_counted.ensures.calls
    (any_vault n.rules n.table n.cutter jar c.args.self.now.is) in
    omega (arith, room)

pub invariant_of-self : goal.invariant_of-self
invariant_of-self g c =
    let n = g.N.JarName in
    let old = c.args.self.now in
    record {
      is =
          state_after_call n.rules n.table n.cutter c.args.pass.now c.call.new.pass c.args.op.now
          c.args.now old.locked.jar c.call.new.self.jar c.call.result
          old.is c.requires.pass.among c.requires.keyed c.call.ensures.answered
          c.call.ensures.refused;
    }

pub returns-clause-answered : goal.returns-clause-answered
returns-clause-answered g c =
    let n = g.N.JarName in
    let old = c.args.self.now in
    let on = state_after_call n.rules n.table n.cutter c.args.pass.now c.call.new.pass c.args.op.now
    c.args.now old.locked.jar c.call.new.self.jar c.call.result
    old.is c.requires.pass.among c.requires.keyed c.call.ensures.answered c.call.ensures.refused in
    ok_learns n.rules n.cutter old.locked.jar c.call.new.self.jar c.args.pass.now c.call.new.pass
    c.args.op.now c.args.now on.history on.state_is
    c.call.result c.call.ensures.answered

pub returns-clause-refused : goal.returns-clause-refused
returns-clause-refused g c =
    let n = g.N.JarName in
    let old = c.args.self.now in
    let on = state_after_call n.rules n.table n.cutter c.args.pass.now c.call.new.pass c.args.op.now
    c.args.now old.locked.jar c.call.new.self.jar c.call.result
    old.is c.requires.pass.among c.requires.keyed c.call.ensures.answered c.call.ensures.refused in
    err_learns n.rules n.cutter old.locked.jar c.call.new.self.jar c.args.pass.now c.call.new.pass
    c.args.op.now c.args.now on.history on.state_is
    c.call.result old.is.limit_is c.call.ensures.refused

pub returns-clause-pass : goal.returns-clause-pass
returns-clause-pass g c =
    let n = g.N.JarName in
    caller_after n.rules n.table c.args.self.now.locked.jar c.call.new.self.jar c.args.pass.now
    c.call.new.pass c.args.op.now c.args.now c.call.result
    c.requires.pass c.call.ensures.answered c.call.ensures.refused
