use Rattle.std.proofs.Common.{◌≡◌, List, [], ◌∷◌, ◌++◌, length, map, refl, sym, ap, ◌∙◌, subst}
use Rattle.std.specs.Prelude.{None, Option, slice_index_or, slice_set}
use Rattle.jar_types.specs.Journals.{Rules}
use Rattle.jar_types.specs.Counts.{IsCounted}
use Rattle.locked_jar.specs.LockedJars.{journal_of}
use Rattle.restricted_manager.specs.Managers.{ManagerStanding}
use Rattle.run_report.specs.declared.item.Item.{Item}
use Rattle.shared_jar.specs.Together.{IsCaller}
use Rattle.version_cells.specs.Standing.{PassStanding}
use Rattle.script_run.specs.Players.{IsMeant, PlayersStanding, holding_of, view_of}
use Rattle.script_run.specs.Reads.{holding_then, nothing}
use Rattle.script_run.specs.Runs.{item_of}
use Rattle.script_run.proofs.CallLemmas.{call_number, own_pass, playing_on, reply_means, run_answered, state_counted}
use Rattle.script_run.proofs.PlayerLemmas.{ok_of_two}
use Rattle.script_run.proofs.tries.call.Goals as goal

pub call-requires-clause-pass : goal.call-requires-clause-pass
call-requires-clause-pass g c =
    let script = c.args.script.now in
    let jar = c.args.jar.now in
    let pass = c.index_mut.result.now in
    let playing = c.requires.playing in
    let same = ap (λ (p : PlayersStanding). p.passes) c.players.view_is in
    let is = c.index_mut.ensures.value ∙ ap (λ (ps : List PassStanding). slice_index_or ps c.args.a pass) same in
    let one = own_pass script jar.vault.stored jar.callers jar.locked.jar.limit jar.cells c.args.a c.args.players.now pass playing c.requires.actor is in
    subst (λ (r : Rules). IsCaller r jar.cells pass) (sym playing.rules_are) one.caller

pub answer-requires-clause-means : goal.answer-requires-clause-means
answer-requires-clause-means g c =
    let jar = c.args.jar.now in
    let wanted = c.args.wanted.now in
    let same = ap (λ (p : PlayersStanding). p.managers) c.players.view_is in
    let answers = c.in-Ok.ensures.answered in
    let counted : IsCounted jar.locked.jar.state = subst IsCounted (sym jar.is.state_is) (state_counted _ (journal_of jar.locked.jar.seen)) in
    let meant = subst (λ (ms : List (Option ManagerStanding)). IsMeant wanted.why wanted.op (slice_index_or ms c.args.a None)) (sym same) c.requires.meant in
    reply_means wanted.why wanted.op (slice_index_or c.players.inside.managers.items c.args.a None) jar.locked.jar.state
    c.index_mut.result.now.view.number wanted.now c.in-Ok.receipt.reply meant counted answers.reply

pub returns-in-Ok-clause-called : goal.returns-in-Ok-clause-called
returns-in-Ok-clause-called g c =
    let script = c.args.script.now in
    let jar = c.args.jar.now in
    let wanted = c.args.wanted.now in
    let pass = c.index_mut.result.now in
    let playing = c.requires.playing in
    let passes = ap (λ (p : PlayersStanding). p.passes) c.players.view_is in
    let items = ap (λ (p : PlayersStanding). p.items) c.players.view_is in
    let managers = ap (λ (p : PlayersStanding). p.managers) c.players.view_is in
    let is = c.index_mut.ensures.value ∙ ap (λ (ps : List PassStanding). slice_index_or ps c.args.a pass) passes in
    let one = own_pass script jar.vault.stored jar.callers jar.locked.jar.limit jar.cells c.args.a c.args.players.now pass playing c.requires.actor is in
    let limit : jar.locked.jar.limit ≡ script.limit = ap (λ (r : Rules). r.limit) playing.rules_are in
    ok_of_two c.answer.result (λ noted told.
    run_answered script c.args.a wanted.now wanted.op wanted.why jar.locked.jar c.call.new.self.locked.jar jar.vault.kept c.call.new.self.vault.kept
    c.args.players.now c.answer.new.self pass c.call.new.pass c.in-Ok.receipt limit one.number c.in-Ok.ensures.answered (rw (c.call.ensures.same.0) refl)
    (noted ∙ ap (λ (is : List (List Item)). slice_set is c.args.a (slice_index_or is c.args.a [] ++ item_of wanted.why c.in-Ok.receipt.place ∷ [])) items)
    (told ∙ ap (λ (ms : List (Option ManagerStanding)). slice_set (map holding_of ms) c.args.a (holding_then wanted.why c.in-Ok.receipt.reply (slice_index_or (map holding_of ms) c.args.a nothing))) managers))
    c.answer.ensures.items c.answer.ensures.holdings

pub returns-in-Ok-clause-playing : goal.returns-in-Ok-clause-playing
returns-in-Ok-clause-playing g c =
    let script = c.args.script.now in
    let jar = c.args.jar.now in
    let wanted = c.args.wanted.now in
    let pass = c.index_mut.result.now in
    let passes = ap (λ (p : PlayersStanding). p.passes) c.players.view_is in
    let items = ap (λ (p : PlayersStanding). p.items) c.players.view_is in
    let managers = ap (λ (p : PlayersStanding). p.managers) c.players.view_is in
    let is = c.index_mut.ensures.value ∙ ap (λ (ps : List PassStanding). slice_index_or ps c.args.a pass) passes in
    let number = call_number jar.locked.jar c.call.new.self.locked.jar pass c.call.new.pass wanted.op wanted.now c.call.result c.call.ensures.answered c.call.ensures.refused in
    playing_on script jar.vault.stored jar.callers jar.locked.jar.limit jar.cells c.args.a c.args.players.now c.answer.new.self pass c.call.new.pass
    c.requires.playing c.requires.actor is c.call.ensures.pass number (c.answer.ensures.passes ∙ ap (λ (ps : List PassStanding). slice_set ps c.args.a c.call.new.pass) passes)
    (c.answer.ensures.many ∙ ap length items) (c.answer.ensures.views ∙ ap (map view_of) managers)

pub returns-in-Err-Spent-clause-playing : goal.returns-in-Err-Spent-clause-playing
returns-in-Err-Spent-clause-playing g c =
    let script = c.args.script.now in
    let jar = c.args.jar.now in
    let wanted = c.args.wanted.now in
    let pass = c.index_mut.result.now in
    let passes = ap (λ (p : PlayersStanding). p.passes) c.players.view_is in
    let items = ap (λ (p : PlayersStanding). p.items) c.players.view_is in
    let managers = ap (λ (p : PlayersStanding). p.managers) c.players.view_is in
    let is = c.index_mut.ensures.value ∙ ap (λ (ps : List PassStanding). slice_index_or ps c.args.a pass) passes in
    let number = call_number jar.locked.jar c.call.new.self.locked.jar pass c.call.new.pass wanted.op wanted.now c.call.result c.call.ensures.answered c.call.ensures.refused in
    playing_on script jar.vault.stored jar.callers jar.locked.jar.limit jar.cells c.args.a c.args.players.now c.note.new.self pass c.call.new.pass
    c.requires.playing c.requires.actor is c.call.ensures.pass number (c.note.ensures.passes ∙ ap (λ (ps : List PassStanding). slice_set ps c.args.a c.call.new.pass) passes)
    (c.note.ensures.many ∙ ap length items) (ap (map view_of) (c.note.ensures.managers ∙ managers))

pub returns-in-Err-Pending-clause-playing : goal.returns-in-Err-Pending-clause-playing
returns-in-Err-Pending-clause-playing g c =
    let script = c.args.script.now in
    let jar = c.args.jar.now in
    let wanted = c.args.wanted.now in
    let pass = c.index_mut.result.now in
    let passes = ap (λ (p : PlayersStanding). p.passes) c.players.view_is in
    let items = ap (λ (p : PlayersStanding). p.items) c.players.view_is in
    let managers = ap (λ (p : PlayersStanding). p.managers) c.players.view_is in
    let is = c.index_mut.ensures.value ∙ ap (λ (ps : List PassStanding). slice_index_or ps c.args.a pass) passes in
    let number = call_number jar.locked.jar c.call.new.self.locked.jar pass c.call.new.pass wanted.op wanted.now c.call.result c.call.ensures.answered c.call.ensures.refused in
    playing_on script jar.vault.stored jar.callers jar.locked.jar.limit jar.cells c.args.a c.args.players.now _ pass c.call.new.pass
    c.requires.playing c.requires.actor is c.call.ensures.pass number (ap (λ (ps : List PassStanding). slice_set ps c.args.a c.call.new.pass) passes)
    (ap length items) (ap (map view_of) managers)
