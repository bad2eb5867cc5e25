use Rattle.std.proofs.Common.{◌≡◌}
use Rattle.shared_jar.specs.Faults.{CountsFaults}
use Rattle.script_run.specs.Players.{ArePlaying, run_of}
use Rattle.script_run.specs.Runs.{tried_first}
use Rattle.script_run.proofs.rounds.try_all.Given as goal

abbrev pub invariant-actors : goal.invariant-actors
invariant-actors g l =
    let K = g.K.Keeper in
    let old = l.initial.jar in
    record {
      tried : run_of l.jar.locked.jar l.jar.vault.kept l.players
          ≡ tried_first l.script l.a (run_of old.locked.jar old.vault.kept l.initial.players);
      playing : ArePlaying l.script old.vault.stored old.callers old.locked.jar.limit old.cells l.players;
      same : (l.jar.vault ≡ old.vault) × (l.jar.cells ≡ old.cells) × (l.jar.callers ≡ old.callers)
          × (l.jar.locked.jar.limit ≡ old.locked.jar.limit);
      faults : CountsFaults old.locked.jar l.jar.locked.jar (K.faults old.vault.keeper) (K.faults l.jar.vault.keeper)
          old.vault.starved l.jar.vault.starved;
    }
