use Rattle.std.proofs.Common.{◌≡◌, List}
use Rattle.jar_types.specs.declared.row.Row.{Row}
use Rattle.jar_types.specs.Stored.{hosts_of}
use Rattle.locked_jar.specs.LockedJars.{journal_of}
use Rattle.shared_jar.specs.Faults.{CountsFaults, faults_in}
use Rattle.script_run.specs.Players.{ArePlaying, run_of}
use Rattle.script_run.proofs.RoundLemmas.{to_do}
use Rattle.script_run.proofs.RunLemmas.{Going, GoingOver}
use Rattle.script_run.proofs.rounds.all_rounds.Given as goal

abbrev pub invariant-rounds : goal.invariant-rounds
invariant-rounds g l =
    let K = g.K.Keeper in
    let old = l.fn.jar in
    let run = run_of l.jar.locked.jar l.jar.vault.kept l.players in
    record {
      going : Going l.script old.vault.stored.hosts run;
      over : K.undisturbed l.jar.vault.keeper → (rows : List Row) → old.vault.stored.hosts ≡ hosts_of rows
          → K.tells old.vault.keeper rows → faults_in (journal_of l.jar.locked.jar.seen) ≡ 0
          → GoingOver l.script rows (K.tells l.jar.vault.keeper) run;
      since : K.undisturbed l.jar.vault.keeper → K.undisturbed old.vault.keeper;
      faults : CountsFaults old.locked.jar l.jar.locked.jar (K.faults old.vault.keeper) (K.faults l.jar.vault.keeper)
          old.vault.starved l.jar.vault.starved;
      playing : ArePlaying l.script old.vault.stored old.callers old.locked.jar.limit old.cells l.players;
      same : (l.jar.vault.stored ≡ old.vault.stored) × (l.jar.cells ≡ old.cells) × (l.jar.callers ≡ old.callers)
          × (l.jar.locked.jar.limit ≡ old.locked.jar.limit);
    }

abbrev pub decreases-rounds : goal.decreases-rounds
decreases-rounds g l = to_do l.script (run_of l.jar.locked.jar l.jar.vault.kept l.players)
