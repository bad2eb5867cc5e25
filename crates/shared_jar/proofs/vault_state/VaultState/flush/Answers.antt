use Rattle.std.proofs.Common.{refl, sym, ap, ◌∙◌, subst}
use Rattle.locked_jar.specs.LockedJars.{LockedView}
use Rattle.shared_jar.specs.Sharing.{IsState}
use Rattle.shared_jar.proofs.ServedLemmas.{lent_flush, lent_room, flush_learned}
use Rattle.shared_jar.proofs.SharingLemmas.{met_home}
use Rattle.shared_jar.proofs.vault_state.VaultState.flush.Goals as goal

pub flush-place-requires-clause-same : goal.flush-place-requires-clause-same
flush-place-requires-clause-same g c =
    let n = g.N.JarName in
    let own = c.args.self.now in
    let state = c.args.state.now in (
      ap (λ (l : LockedView). l.jar.table) (c.meet-2.ensures.same ∙ c.meet.ensures.same) ∙
          (state.is.table_is ∙ sym c.requires.same),
      lent_room n.rules n.table n.cutter own.vault.stored state.locked c.meet.new.self
          c.meet-2.new.self own.vault.cutter c.meet-2.new.pass
          own.vault.owns own.vault.acked c.meet.ensures.same c.meet-2.ensures.same state.is own.is
          c.meet-2.ensures.pass
          c.is_counted.ensures.entries c.is_counted.ensures.calls,
    )

pub invariant_of-self-2 : goal.invariant_of-self-2
invariant_of-self-2 g c =
    let n = g.N.JarName in
    let own = c.args.self.now in
    let state = c.args.state.now in
    let did = c.flush-place in
    let on = lent_flush n.rules n.table n.cutter own.vault.stored state.locked c.meet.new.self
    c.meet-2.new.self own.vault.cutter c.meet-2.new.pass
    own.vault.owns own.vault.acked c.meet.ensures.same c.meet-2.ensures.same state.is own.is
    c.meet-2.ensures.pass
    did.new.locked did.new.self.cutter did.new.self.owns did.ensures.kept.1 c.args.force
    (record { changes = own.vault.kept; acked = own.vault.acked })
    (record { changes = did.new.self.kept; acked = did.new.self.acked })
    did.result c.is_counted.ensures.entries refl did.ensures.flush in
    record { is = rw did.ensures.kept.0 on.1 }

pub invariant_of-state : goal.invariant_of-state
invariant_of-state g c =
    let n = g.N.JarName in
    let own = c.args.self.now in
    let state = c.args.state.now in
    let did = c.flush-place in
    let on = lent_flush n.rules n.table n.cutter own.vault.stored state.locked c.meet.new.self
    c.meet-2.new.self own.vault.cutter c.meet-2.new.pass
    own.vault.owns own.vault.acked c.meet.ensures.same c.meet-2.ensures.same state.is own.is
    c.meet-2.ensures.pass
    did.new.locked did.new.self.cutter did.new.self.owns did.ensures.kept.1 c.args.force
    (record { changes = own.vault.kept; acked = own.vault.acked })
    (record { changes = did.new.self.kept; acked = did.new.self.acked })
    did.result c.is_counted.ensures.entries refl did.ensures.flush in
    record {
      is = subst (λ (l : LockedView). IsState n.rules n.table n.cutter l.jar)
          (sym c.meet-3.ensures.same) on.0;
    }

pub returns-clause-learned : goal.returns-clause-learned
returns-clause-learned g c =
    let n = g.N.JarName in
    let own = c.args.self.now in
    let state = c.args.state.now in
    let did = c.flush-place in
    flush_learned n.rules n.table n.cutter own.vault.stored state.locked c.meet.new.self
    c.meet-2.new.self own.vault.cutter c.meet-2.new.pass
    own.vault.owns own.vault.acked c.meet.ensures.same c.meet-2.ensures.same state.is own.is
    c.meet-2.ensures.pass
    did.new.locked did.new.self.cutter did.new.self.owns did.ensures.kept.1 c.args.pass.now
    c.meet.new.pass c.meet-3.new.pass c.meet.ensures.pass
    c.meet-3.ensures.pass c.args.force
    (record { changes = own.vault.kept; acked = own.vault.acked })
    (record { changes = did.new.self.kept; acked = did.new.self.acked })
    did.result c.is_counted.ensures.entries refl did.ensures.flush

pub returns-clause-home : goal.returns-clause-home
returns-clause-home g c =
    let table = g.N.JarName.table in
    met_home table c.flush-place.new.locked.jar.seen c.meet.new.pass c.meet-3.new.pass
    (met_home table c.args.state.now.locked.jar.seen c.args.pass.now c.meet.new.pass c.requires.home
    c.meet.ensures.pass) c.meet-3.ensures.pass
