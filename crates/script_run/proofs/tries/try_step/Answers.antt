use Rattle.std.proofs.Common.{refl, ap, ◌∙◌}
use Rattle.std.specs.Prelude.{Some}
use Rattle.script_run.specs.declared.ask.Ask.TheVariants as ask
use Rattle.script_run.specs.Players.{PlayersStanding, run_of, view_of}
use Rattle.script_run.specs.Rounds.{rules_of}
use Rattle.script_run.specs.Turns.{view_at}
use Rattle.script_run.proofs.CallLemmas.{playing_same}
use Rattle.script_run.proofs.PlayerLemmas.{ok_of}
use Rattle.script_run.proofs.TryLemmas.{manager_found, not_read, run_noted, step_asks, step_keyed, step_tried, view_same}
use Rattle.script_run.proofs.tries.try_step.Goals as goal

pub ask_of-requires : goal.ask_of-requires
ask_of-requires g c =
    let script = c.args.script.now in
    let players = c.args.players.now in
    let managers = ap (λ (p : PlayersStanding). p.managers) c.players.view_is in
    let found = manager_found players.managers c.players.inside.managers.items script.actors c.args.a c.index.result.now
    c.requires.playing.views c.requires.actor managers c.index.ensures in
    let sees = ap view_of found ∙ view_same players.managers script.actors c.args.a c.requires.playing.views in
    record {
      asks = step_asks (rules_of script c.args.jar.now.vault.stored.hosts) script.suffixes c.index.result.now (view_at script.actors c.args.a) c.args.step.now sees c.requires.asks;
      unread = not_read c.args.step.now.what c.in_default.not-Read;
    }

pub call-requires : goal.call-requires
call-requires g c =
    let script = c.args.script.now in
    let players = c.args.players.now in
    let managers = ap (λ (p : PlayersStanding). p.managers) c.players.view_is in
    let found = manager_found players.managers c.players.inside.managers.items script.actors c.args.a c.index.result.now
    c.requires.playing.views c.requires.actor managers c.index.ensures in
    let sees = ap view_of found ∙ view_same players.managers script.actors c.args.a c.requires.playing.views in
    record {
      actor = c.requires.actor;
      keyed = step_keyed (rules_of script c.args.jar.now.vault.stored.hosts) script.suffixes c.index.result.now (view_at script.actors c.args.a) c.args.step.now c.in-Op.op sees
          c.requires.asks (c.in_ok-op.ensures ∙ ap (λ a. Some a) c.in-Op.is);
      meant = tt;
      playing = c.requires.playing;
    }

pub returns-in-Op : goal.returns-in-Op
returns-in-Op g c =
    let script = c.args.script.now in
    let jar = c.args.jar.now in
    let players = c.args.players.now in
    let managers = ap (λ (p : PlayersStanding). p.managers) c.players.view_is in
    let found = manager_found players.managers c.players.inside.managers.items script.actors c.args.a c.index.result.now
    c.requires.playing.views c.requires.actor managers c.index.ensures in
    let sees = ap view_of found ∙ view_same players.managers script.actors c.args.a c.requires.playing.views in
    let tried = step_tried script c.args.a (run_of jar.locked.jar jar.vault.kept players) c.args.step.now c.index.result.now (ask.Op c.in-Op.op)
    (not_read c.args.step.now.what c.in_default.not-Read) sees (c.in_ok-op.ensures ∙ ap (λ a. Some a) c.in-Op.is) in
    record {
      tried = ok_of c.call.result (λ called. called ∙ tried) c.call.ensures.called;
      playing = c.call.ensures.playing;
      same = c.call.ensures.same;
      faults = c.call.ensures.faults;
    }

pub returns-in-Refused : goal.returns-in-Refused
returns-in-Refused g c =
    let script = c.args.script.now in
    let jar = c.args.jar.now in
    let players = c.args.players.now in
    let managers = ap (λ (p : PlayersStanding). p.managers) c.players.view_is in
    let found = manager_found players.managers c.players.inside.managers.items script.actors c.args.a c.index.result.now
    c.requires.playing.views c.requires.actor managers c.index.ensures in
    let sees = ap view_of found ∙ view_same players.managers script.actors c.args.a c.requires.playing.views in
    let tried = step_tried script c.args.a (run_of jar.locked.jar jar.vault.kept players) c.args.step.now c.index.result.now (ask.Refused c.in-Refused.name)
    (not_read c.args.step.now.what c.in_default.not-Read) sees (c.in_ok-op.ensures ∙ ap (λ a. Some a) c.in-Refused.is) in
    record {
      tried = ok_of c.note.result (λ is.
          run_noted jar.locked.jar jar.locked.jar jar.vault.kept jar.vault.kept players players c.note.new.self c.args.a _ refl refl refl refl is ∙ tried)
          c.note.ensures.noted;
      playing = playing_same script jar.vault.stored jar.callers jar.locked.jar.limit jar.cells players c.note.new.self c.requires.playing
          c.note.ensures.passes c.note.ensures.many c.note.ensures.managers;
      same = (refl, refl, refl, refl);
      faults = λ first told. told;
    }
