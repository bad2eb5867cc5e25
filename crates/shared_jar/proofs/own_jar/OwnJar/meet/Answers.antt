use Rattle.std.proofs.Common.{sym, subst}
use Rattle.locked_jar.specs.LockedJars.{LockedView}
use Rattle.store_vault.specs.Loading.{rules_of}
use Rattle.shared_jar.specs.Ending.{HasEnded}
use Rattle.shared_jar.specs.Together.{IsJar}
use Rattle.shared_jar.proofs.TogetherLemmas.{seen_caller}
use Rattle.shared_jar.proofs.VersionLemmas.{versions_are_turns}
use Rattle.shared_jar.proofs.own_jar.OwnJar.meet.Goals as goal

pub invariant_of-self : goal.invariant_of-self
invariant_of-self g c =
    let jar = c.args.self.now in
    record {
      is = subst (λ (l : LockedView). IsJar (rules_of jar.vault.stored jar.callers l.jar.limit) jar.cells l.jar jar.vault.cutter jar.vault.owns)
          (sym c.meet.ensures.same) jar.is;
      ended = subst (λ (l : LockedView). HasEnded l.jar jar.vault.acked) (sym c.meet.ensures.same) jar.ended;
    }

pub returns-clause-pass : goal.returns-clause-pass
returns-clause-pass g c =
    let jar = c.args.self.now in
    seen_caller (rules_of jar.vault.stored jar.callers jar.locked.jar.limit) jar.cells jar.locked.jar.seen c.args.pass.now c.meet.new.pass c.requires.pass
    c.meet.ensures.pass

pub returns-clause-versions : goal.returns-clause-versions
returns-clause-versions g c =
    let jar = c.args.self.now in
    versions_are_turns (rules_of jar.vault.stored jar.callers jar.locked.jar.limit) jar.vault.cutter.view.number jar.locked.jar jar.is.history jar.is.state_is
