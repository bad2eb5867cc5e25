use Rattle.std.proofs.Common.{◌≡◌, List, length, map, refl, sym, ap, ◌∙◌, subst}
use Rattle.std.specs.Prelude.{None, Some, Ok, Err, Option, IsSome, option_copied, slice_index_or, slice_set, nat_le}
use Rattle.jar_types.specs.Journals.{Rules}
use Rattle.restricted_manager.specs.declared.read.ReadTurn.{ReadTurn}
use Rattle.restricted_manager.specs.declared.read.ReadTurnRefusal.{ReadTurnRefusal}
use Rattle.restricted_manager.specs.Managers.{ManagerStanding}
use Rattle.script_run.specs.declared.purpose.Purpose.TheVariants as purpose
use Rattle.shared_jar.specs.Together.{IsCaller}
use Rattle.version_cells.specs.Standing.{PassStanding}
use Rattle.script_run.specs.Players.{Decides, PlayersStanding, holding_of, run_of, view_of}
use Rattle.script_run.specs.Runs.{Run, called_within}
use Rattle.script_run.proofs.CallLemmas.{own_pass, playing_on}
use Rattle.script_run.proofs.PlayerLemmas.{holding_at, ok_of}
use Rattle.script_run.proofs.TryLemmas.{manager_found, manager_there, read_asks, read_refused, read_reuses, run_found, run_noted, view_same}
use Rattle.script_run.proofs.tries.read.Goals as goal

pub unreachable-requires : goal.unreachable-requires
unreachable-requires g c =
    let players = c.args.players.now in
    let managers = ap (λ (p : PlayersStanding). p.managers) c.players.view_is in
    let found = manager_found players.managers c.players.inside.managers.items c.args.script.now.actors c.args.a c.index.result.now
    c.requires.playing.views c.requires.actor managers c.index.ensures in
    let there = manager_there players.managers c.args.script.now.actors c.args.a c.requires.playing.views c.requires.renders in
    let clash : IsSome {T = ManagerStanding} None = subst (λ (m : Option ManagerStanding). IsSome m) (sym found ∙ c.in_default.is) there in
    absurd cc

pub find-requires : goal.find-requires
find-requires g c =
    let jar = c.args.jar.now in
    let pass = c.index_mut.result.now in
    let playing = c.requires.playing in
    let passes = ap (λ (p : PlayersStanding). p.passes) c.players.view_is in
    let is = c.index_mut.ensures.value ∙ ap (λ (ps : List PassStanding). slice_index_or ps c.args.a pass) passes in
    let one = own_pass c.args.script.now jar.vault.stored jar.callers jar.locked.jar.limit jar.cells c.args.a c.args.players.now pass playing c.requires.actor is in
    record { pass = subst (λ (r : Rules). IsCaller r jar.cells pass) (sym playing.rules_are) one.caller }

pub call-requires-clause-playing : goal.call-requires-clause-playing
call-requires-clause-playing g c =
    let script = c.args.script.now in
    let jar = c.args.jar.now in
    let players = c.args.players.now in
    let pass = c.index_mut.result.now in
    let passes = ap (λ (p : PlayersStanding). p.passes) c.players.view_is in
    let items = ap (λ (p : PlayersStanding). p.items) c.players.view_is in
    let managers = ap (λ (p : PlayersStanding). p.managers) c.players.view_is in
    let is = c.index_mut.ensures.value ∙ ap (λ (ps : List PassStanding). slice_index_or ps c.args.a pass) passes in
    let same = c.find.ensures.same in
    let now = playing_on script jar.vault.stored jar.callers jar.locked.jar.limit jar.cells c.args.a players _ pass c.find.new.pass
    c.requires.playing c.requires.actor is c.find.ensures.pass c.find.ensures.number (ap (λ (ps : List PassStanding). slice_set ps c.args.a c.find.new.pass) passes)
    (ap length items) (ap (map view_of) managers) in
    rw (same.0, same.1, same.2, same.3) now

pub returns-in-Ok-Reused-clause-playing : goal.returns-in-Ok-Reused-clause-playing
returns-in-Ok-Reused-clause-playing g c =
    let script = c.args.script.now in
    let jar = c.args.jar.now in
    let players = c.args.players.now in
    let pass = c.index_mut.result.now in
    let passes = ap (λ (p : PlayersStanding). p.passes) c.players.view_is in
    let items = ap (λ (p : PlayersStanding). p.items) c.players.view_is in
    let managers = ap (λ (p : PlayersStanding). p.managers) c.players.view_is in
    let is = c.index_mut.ensures.value ∙ ap (λ (ps : List PassStanding). slice_index_or ps c.args.a pass) passes in
    playing_on script jar.vault.stored jar.callers jar.locked.jar.limit jar.cells c.args.a players c.note.new.self pass c.find.new.pass
    c.requires.playing c.requires.actor is c.find.ensures.pass c.find.ensures.number (c.note.ensures.passes ∙ ap (λ (ps : List PassStanding). slice_set ps c.args.a c.find.new.pass) passes)
    (c.note.ensures.many ∙ ap length items) (ap (map view_of) (c.note.ensures.managers ∙ managers))

pub returns-in-Err-OriginMismatch-clause-playing : goal.returns-in-Err-OriginMismatch-clause-playing
returns-in-Err-OriginMismatch-clause-playing g c =
    let script = c.args.script.now in
    let jar = c.args.jar.now in
    let players = c.args.players.now in
    let pass = c.index_mut.result.now in
    let passes = ap (λ (p : PlayersStanding). p.passes) c.players.view_is in
    let items = ap (λ (p : PlayersStanding). p.items) c.players.view_is in
    let managers = ap (λ (p : PlayersStanding). p.managers) c.players.view_is in
    let is = c.index_mut.ensures.value ∙ ap (λ (ps : List PassStanding). slice_index_or ps c.args.a pass) passes in
    playing_on script jar.vault.stored jar.callers jar.locked.jar.limit jar.cells c.args.a players c.note-in-Err-OriginMismatch.new.self pass c.find.new.pass
    c.requires.playing c.requires.actor is c.find.ensures.pass c.find.ensures.number (c.note-in-Err-OriginMismatch.ensures.passes ∙ ap (λ (ps : List PassStanding). slice_set ps c.args.a c.find.new.pass) passes)
    (c.note-in-Err-OriginMismatch.ensures.many ∙ ap length items) (ap (map view_of) (c.note-in-Err-OriginMismatch.ensures.managers ∙ managers))

pub returns-in-Err-NoMemory-clause-playing : goal.returns-in-Err-NoMemory-clause-playing
returns-in-Err-NoMemory-clause-playing g c =
    let script = c.args.script.now in
    let jar = c.args.jar.now in
    let players = c.args.players.now in
    let pass = c.index_mut.result.now in
    let passes = ap (λ (p : PlayersStanding). p.passes) c.players.view_is in
    let items = ap (λ (p : PlayersStanding). p.items) c.players.view_is in
    let managers = ap (λ (p : PlayersStanding). p.managers) c.players.view_is in
    let is = c.index_mut.ensures.value ∙ ap (λ (ps : List PassStanding). slice_index_or ps c.args.a pass) passes in
    playing_on script jar.vault.stored jar.callers jar.locked.jar.limit jar.cells c.args.a players _ pass c.find.new.pass
    c.requires.playing c.requires.actor is c.find.ensures.pass c.find.ensures.number (ap (λ (ps : List PassStanding). slice_set ps c.args.a c.find.new.pass) passes)
    (ap length items) (ap (map view_of) managers)

pub returns-in-Ok-Reused-clause-tried : goal.returns-in-Ok-Reused-clause-tried
returns-in-Ok-Reused-clause-tried g c =
    let script = c.args.script.now in
    let jar = c.args.jar.now in
    let players = c.args.players.now in
    let pass = c.index_mut.result.now in
    let passes = ap (λ (p : PlayersStanding). p.passes) c.players.view_is in
    let items = ap (λ (p : PlayersStanding). p.items) c.players.view_is in
    let managers = ap (λ (p : PlayersStanding). p.managers) c.players.view_is in
    let manager = c.in-Some.manager in
    let found = manager_found players.managers c.players.inside.managers.items script.actors c.args.a c.index.result.now
    c.requires.playing.views c.requires.actor managers c.index.ensures in
    let own : Some manager ≡ slice_index_or players.managers c.args.a None = sym c.in-Some.is ∙ found in
    let sees = ap view_of own ∙ view_same players.managers script.actors c.args.a c.requires.playing.views in
    let holds = holding_at players.managers c.args.a ∙ ap holding_of (sym own) in
    let r = run_of jar.locked.jar jar.vault.kept players in
    let same = c.find.ensures.same in
    ok_of c.note.result (λ is.
    run_noted jar.locked.jar c.find.new.jar.locked.jar jar.vault.kept c.find.new.jar.vault.kept players _ c.note.new.self c.args.a _
    same.0 (rw same.1 refl) items managers is
    ∙ read_reuses script c.args.a r c.args.now manager (option_copied c.args.url) c.in-Ok-Reused.text sees holds
    (subst (λ (t : ReadTurn). Decides jar.locked.jar.state c.args.now manager (option_copied c.args.url) (Ok t)) c.in-Ok-Reused.field-0-is c.in-Ok-Reused.ensures.decides))
    c.note.ensures.noted

pub returns-in-Err-OriginMismatch-clause-tried : goal.returns-in-Err-OriginMismatch-clause-tried
returns-in-Err-OriginMismatch-clause-tried g c =
    let script = c.args.script.now in
    let jar = c.args.jar.now in
    let players = c.args.players.now in
    let pass = c.index_mut.result.now in
    let passes = ap (λ (p : PlayersStanding). p.passes) c.players.view_is in
    let items = ap (λ (p : PlayersStanding). p.items) c.players.view_is in
    let managers = ap (λ (p : PlayersStanding). p.managers) c.players.view_is in
    let manager = c.in-Some.manager in
    let found = manager_found players.managers c.players.inside.managers.items script.actors c.args.a c.index.result.now
    c.requires.playing.views c.requires.actor managers c.index.ensures in
    let own : Some manager ≡ slice_index_or players.managers c.args.a None = sym c.in-Some.is ∙ found in
    let sees = ap view_of own ∙ view_same players.managers script.actors c.args.a c.requires.playing.views in
    let holds = holding_at players.managers c.args.a ∙ ap holding_of (sym own) in
    let r = run_of jar.locked.jar jar.vault.kept players in
    let same = c.find.ensures.same in
    ok_of c.note-in-Err-OriginMismatch.result (λ is.
    run_noted jar.locked.jar c.find.new.jar.locked.jar jar.vault.kept c.find.new.jar.vault.kept players _ c.note-in-Err-OriginMismatch.new.self c.args.a _
    same.0 (rw same.1 refl) items managers is
    ∙ read_refused script c.args.a r c.args.now manager (option_copied c.args.url) sees holds
    (subst (λ (t : ReadTurnRefusal). Decides jar.locked.jar.state c.args.now manager (option_copied c.args.url) (Err t)) c.in-Err-OriginMismatch.field-0-is c.in-Err-OriginMismatch.ensures.decides))
    c.note-in-Err-OriginMismatch.ensures.noted

pub returns-in-Ok-Ask-clause-tried : goal.returns-in-Ok-Ask-clause-tried
returns-in-Ok-Ask-clause-tried g c =
    let script = c.args.script.now in
    let jar = c.args.jar.now in
    let players = c.args.players.now in
    let pass = c.index_mut.result.now in
    let passes = ap (λ (p : PlayersStanding). p.passes) c.players.view_is in
    let items = ap (λ (p : PlayersStanding). p.items) c.players.view_is in
    let managers = ap (λ (p : PlayersStanding). p.managers) c.players.view_is in
    let manager = c.in-Some.manager in
    let found = manager_found players.managers c.players.inside.managers.items script.actors c.args.a c.index.result.now
    c.requires.playing.views c.requires.actor managers c.index.ensures in
    let own : Some manager ≡ slice_index_or players.managers c.args.a None = sym c.in-Some.is ∙ found in
    let sees = ap view_of own ∙ view_same players.managers script.actors c.args.a c.requires.playing.views in
    let holds = holding_at players.managers c.args.a ∙ ap holding_of (sym own) in
    let r = run_of jar.locked.jar jar.vault.kept players in
    let same = c.find.ensures.same in
    let between : PlayersStanding = record {
      passes = slice_set c.players.inside.passes.items c.args.a c.find.new.pass;
      managers = c.players.inside.managers.items;
      items = c.players.inside.items.items;
    } in
    let cause = c.in-Ok-Ask.cause in
    let op = c.in-Ok-Ask.op in
    let decides = subst (λ (t : ReadTurn). Decides jar.locked.jar.state c.args.now manager (option_copied c.args.url) (Ok t)) c.in-Ok-Ask.field-0-is c.in-Ok-Ask.ensures.decides in
    ok_of c.call.result (λ called.
    called
    ∙ (ap (λ (t : Run). called_within (nat_le script.limit t.state.calls) c.args.a t c.args.now op (purpose.Read cause))
    (run_found jar.locked.jar c.find.new.jar.locked.jar jar.vault.kept c.find.new.jar.vault.kept players between same.0 (rw same.1 refl) items managers)
    ∙ read_asks script c.args.a r c.args.now manager (option_copied c.args.url) cause op sees holds decides.0 decides.1 decides.2))
    c.call.ensures.called
