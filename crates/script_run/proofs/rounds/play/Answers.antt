use Rattle.std.proofs.Common.{sym, ap, ◌∙◌, subst}
use Rattle.locked_jar.specs.LockedJars.{journal_of}
use Rattle.shared_jar.specs.Faults.{RoseTimes, faults_in}
use Rattle.std.specs.List.{AllByRecursion}
use Rattle.shared_jar.specs.Together.{IsCaller}
use Rattle.store_vault.specs.Loading as vault
use Rattle.script_run.specs.Players.{PlayersStanding, run_of}
use Rattle.script_run.specs.Services.{EndedOver}
use Rattle.script_run.proofs.OverPlayLemmas.{played_over}
use Rattle.script_run.proofs.PlayLemmas.{begins_callers, if_ok_three, no_faults, playing_callers, playing_first}
use Rattle.script_run.proofs.rounds.play.Goals as goal

pub all_rounds-requires-clause-playing : goal.all_rounds-requires-clause-playing
all_rounds-requires-clause-playing g c =
    let jar = c.args.opened.jar in
    playing_first c.args.script.now jar.vault.stored jar.callers jar.cells jar.locked.jar jar.vault.kept c.args.opened.passes.items
    c.requires.begins c.in-Ok.players c.in-Ok.ensures.passes c.in-Ok.ensures.items c.in-Ok.ensures.views

pub ended-requires : goal.ended-requires
ended-requires g c =
    let jar = c.args.opened.jar in
    let new = c.all_rounds.new.jar in
    let same = c.all_rounds.ensures.same in
    record {
      passes =
          playing_callers c.args.script.now jar.vault.stored new.vault.stored jar.callers new.callers jar.locked.jar.limit
          new.locked.jar.limit jar.cells new.cells c.all_rounds.new.players c.all_rounds.ensures.playing same.0 same.1 same.2 same.3;
    }

pub returns-in-Ok-all_rounds-clause-count : goal.returns-in-Ok-all_rounds-clause-count
returns-in-Ok-all_rounds-clause-count g c =
    let K = g.K.Keeper in
    let jar = c.args.opened.jar in
    let new = c.all_rounds.new.jar in
    let first = K.faults jar.vault.keeper in
    let none = no_faults c.args.script.now jar.vault.stored jar.callers jar.cells jar.locked.jar jar.vault.kept c.args.opened.passes.items
    c.requires.begins first jar.vault.starved in
    if_ok_three c.ended.result
    (λ ran journal fed keeper starved.
    subst (λ l. RoseTimes (faults_in l) first (K.faults ran.keeper)) (sym journal)
    (subst (λ k. RoseTimes (faults_in (journal_of new.locked.jar.seen)) first (K.faults k)) (sym keeper)
    (c.all_rounds.ensures.faults first none fed)))
    c.ended.ensures.journal c.ended.ensures.fed c.ended.ensures.keeper

pub returns-in-Ok-all_rounds-clause-over : goal.returns-in-Ok-all_rounds-clause-over
returns-in-Ok-all_rounds-clause-over g c =
    let K = g.K.Keeper in
    let script = c.args.script.now in
    let jar = c.args.opened.jar in
    let new = c.all_rounds.new.jar in
    let run = run_of new.locked.jar new.vault.kept c.all_rounds.new.players in
    if_ok_three c.ended.result
    (λ ran items journal keeper undisturbed rows hosts told none.
    let ends : EndedOver script rows (K.tells new.vault.keeper) run =
    c.in-Ok-all_rounds.ensures.over (subst (λ k. K.undisturbed k) keeper undisturbed) rows hosts told (ap faults_in (sym journal) ∙ none) in
    played_over script rows (K.tells ran.keeper) run ran.report.items ran.report.journal.list c.requires.admitted c.see_moments.ensures
    (g.met.K.Keeper.told_rise jar.vault.keeper rows told) items journal
    (subst (λ k. EndedOver script rows (K.tells k) run) (sym keeper) ends))
    c.ended.ensures.items c.ended.ensures.journal c.ended.ensures.keeper

pub finish-requires : goal.finish-requires
finish-requires g c =
    let jar = c.args.opened.jar in
    let new = c.all_rounds.new.jar in
    let same = c.all_rounds.ensures.same in
    let rules = vault.rules_of new.vault.stored new.callers new.locked.jar.limit in
    let callers = playing_callers c.args.script.now jar.vault.stored new.vault.stored jar.callers new.callers jar.locked.jar.limit
    new.locked.jar.limit jar.cells new.cells c.all_rounds.new.players c.all_rounds.ensures.playing same.0 same.1 same.2 same.3 in
    record {
      passes = subst (λ (p : PlayersStanding). AllByRecursion (IsCaller rules new.cells) p.passes) (sym c.players.view_is) callers;
    }

pub finish-requires-in-Err : goal.finish-requires-in-Err
finish-requires-in-Err g c =
    let jar = c.args.opened.jar in
    record {
      passes =
          begins_callers c.args.script.now jar.vault.stored jar.callers jar.cells jar.locked.jar jar.vault.kept
          c.args.opened.passes.items c.requires.begins c.in-Err.passes.items c.in-Err.ensures.passes;
    }
