use Rattle.std.proofs.Common.{◌≡◌, ◌+◌, suc, ap, ◌∙◌, arith}
use Rattle.script_run.specs.Players.{run_of}
use Rattle.script_run.specs.Runs.{tried, tried_first}
use Rattle.script_run.proofs.RunLemmas.{counts_then, playing_at}
use Rattle.script_run.proofs.rounds.try_all.Goals as goal

pub actors-preserved : goal.actors-preserved
actors-preserved g c =
    let K = g.K.Keeper in
    let script = c.args.script.now in
    let old = c.args.jar.now in
    let mid = c.actors.jar in
    let new = c.try_next.new.jar in
    let start = run_of old.locked.jar old.vault.kept c.args.players.now in
    let more : suc c.actors.a ≡ c.actors.a + 1 = omega arith in
    let was = c.actors.invariant.same in
    let is = c.try_next.ensures.same in
    record {
      tried =
          c.in_ok-try_next.ensures.tried
          ∙ (ap (tried script c.actors.a) c.actors.invariant.tried ∙ ap (λ n. tried_first script n start) more);
      playing =
          playing_at script old.vault.stored mid.vault.stored old.callers mid.callers old.locked.jar.limit mid.locked.jar.limit
          old.cells mid.cells c.try_next.new.players (λ i. (was.0 i).stored) was.2 was.3 was.1 c.try_next.ensures.playing;
      same = (is.0 ∙ was.0, is.1 ∙ was.1, is.2 ∙ was.2, is.3 ∙ was.3);
      faults =
          counts_then old.locked.jar mid.locked.jar new.locked.jar (K.faults old.vault.keeper) (K.faults mid.vault.keeper) (K.faults new.vault.keeper)
          old.vault.starved mid.vault.starved new.vault.starved c.actors.invariant.faults c.try_next.ensures.faults;
    }
