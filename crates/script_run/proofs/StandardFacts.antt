-- The limit of an input, the statuses and the line of each refusal, as docs/DEFINITIONS.md has them; what steps of fetches ask,
-- calls, loads, commits and rounds at small values; and what the causes of answers keep out.
use Rattle.std.proofs.Common.{◌≡◌, ℕ, zero, suc, List, [], ◌∷◌, length, map, take, inl, inr, true, false, codes, None, Some, refl, ap, arith}
use Rattle.std.specs.Fmt.{digits}
use Rattle.std.proofs.lemmas.List.{length-take}
use Rattle.serde_json.proofs.OnLiterals.{serde_json_on_literals}
use Rattle.jar_edge.specs.Told.{SourceTold, SinkTold}
use Rattle.jar_types.specs.declared.ask_cause.AskCause.TheVariants.{Cold}
use Rattle.jar_types.specs.declared.entry.Entry.{Entry}
use Rattle.jar_types.specs.declared.entry.Entry.TheVariants.{Call, Jar}
use Rattle.jar_types.specs.declared.cookie.CookieId.{CookieId}
use Rattle.jar_types.specs.declared.entry.Own.TheVariants.{Want, Begun, Loaded, Lost, Whole, Taken, Acked, CommitLost}
use Rattle.jar_types.specs.declared.listener.Scope.TheVariants as scope
use Rattle.jar_types.specs.declared.op.Op.TheVariants as op
use Rattle.jar_types.specs.declared.op.Reply.TheVariants.{Posted, Heard, StoreFault}
use Rattle.jar_types.specs.declared.request.Request.{Request}
use Rattle.jar_types.specs.declared.request.Context.TheVariants.{Strict}
use Rattle.jar_types.specs.declared.row.RowChange.{RowChange}
use Rattle.jar_types.specs.declared.row.RowChange.TheVariants.{Drop}
use Rattle.jar_types.specs.RowChanges.{change_id}
use Rattle.jar_types.specs.States.{opening}
use Rattle.run_report.specs.declared.item.Item.TheVariants.{At, Asked, Reused, Refused}
use Rattle.run_report.specs.declared.refusal_name.RefusalName.TheVariants.{Spent, Control}
use Rattle.script_run.specs.declared.ask.Ask.TheVariants as ask
use Rattle.script_run.specs.declared.status.TheConstants.{DONE, OTHER_WORDS, REFUSED, READ_FAULT, WRITE_FAULT, STORE_FAULT, NO_MEMORY}
use Rattle.script_run.specs.declared.tool.Failure.TheVariants.{ReadFault, NoMemory}
use Rattle.script_run.specs.declared.tool.TheConstants.{MOST_INPUT}
use Rattle.script_run.specs.declared.purpose.Purpose.TheVariants as purpose
use Rattle.script_run.specs.Ask.{ask_at, request_of, scope_of}
use Rattle.script_run.specs.Legal.{call_places, named_places}
use Rattle.script_run.specs.Refusals.{at_root, refusal_line, store_fault_line}
use Rattle.script_run.specs.Answers.{status_of}
use Rattle.script_run.specs.Rounds.{Giving, Service, flushed, is_due, loaded, rounds}
use Rattle.script_run.specs.Runs.{Run, asked, begin_of, is_done}
use Rattle.script_run.specs.Tool.{Writes, Fails}
use Rattle.script_run.specs.Words.{runs_serial, store_file}
use Rattle.script_text.specs.declared.actor.Actor.{Actor}
use Rattle.script_text.specs.declared.refused.Refusal.TheVariants as name
use Rattle.script_text.specs.declared.script.Script.{Script}
use Rattle.script_text.specs.declared.step.Step.{Step}
use Rattle.script_text.specs.declared.step.What.{What}
use Rattle.script_text.specs.declared.step.What.TheVariants.{All, Clear, Delete, Hear, Post}
use Rattle.site_match.specs.declared.fetch.FetchAsk.{FetchAsk}

-- ---- the limit of an input, and the statuses

most_input : MOST_INPUT ≡ 16777216
most_input = refl

statuses : (DONE ≡ 0) × (OTHER_WORDS ≡ 2) × (REFUSED ≡ 3) × (READ_FAULT ≡ 4) × (WRITE_FAULT ≡ 5) × (STORE_FAULT ≡ 6) × (NO_MEMORY ≡ 7)
statuses = (refl, refl, refl, refl, refl, refl, refl)

-- a report that tells of a fault has its status, and another none
report_statuses : (status_of (Jar (Begun (codes "h.test")) ∷ Jar (Loaded (codes "h.test") []) ∷ []) ≡ 0)
    × (status_of (Jar (Lost (codes "h.test")) ∷ []) ≡ 6) × (status_of (Jar (CommitLost 3) ∷ Jar Taken ∷ Jar (Acked 5) ∷ []) ≡ 6)
report_statuses = (refl, refl, refl)

-- ---- words

-- the words of `serial` that have a store, and its file
with_stores : (store_file (codes "serial" ∷ codes "--store" ∷ codes "jar.db" ∷ []) ≡ Some (codes "jar.db"))
    × (store_file (codes "serial" ∷ codes "--store=a=b" ∷ []) ≡ Some (codes "a=b"))
    × (store_file (codes "serial" ∷ []) ≡ None)
with_stores = (refl, refl, refl)

-- a file's name isn't empty and begins with no hyphen; other commands, repeats and further words aren't taken
without_stores : (store_file (codes "serial" ∷ codes "--store=" ∷ []) ≡ None) × (store_file (codes "serial" ∷ codes "--store=-a" ∷ []) ≡ None)
    × (store_file (codes "serial" ∷ codes "--store" ∷ [] ∷ []) ≡ None) × (store_file (codes "serial" ∷ codes "--store" ∷ codes "-a" ∷ []) ≡ None)
    × (store_file (codes "run" ∷ codes "--store=a" ∷ []) ≡ None) × (store_file (codes "serial" ∷ codes "--stores" ∷ codes "a" ∷ []) ≡ None)
    × (store_file (codes "serial" ∷ codes "--store" ∷ codes "a" ∷ codes "b" ∷ []) ≡ None)
without_stores = (refl, refl, refl, refl, refl, refl, refl)

serial_words : (runs_serial (codes "serial" ∷ []) ≡ true) × (runs_serial (codes "serial" ∷ codes "--store=a" ∷ []) ≡ true)
    × (runs_serial (codes "serial" ∷ codes "--store" ∷ []) ≡ false) × (runs_serial [] ≡ false)
    × (runs_serial (codes "serial" ∷ codes "serial" ∷ []) ≡ false)
serial_words = (refl, refl, refl, refl, refl)

-- ---- streams

-- a sink that took these bytes, at this count, and a source that gave none
abbrev took : List ℕ → ℕ → SinkTold
took bytes count = record { taken = bytes; faults = count; written = None }

abbrev source_at : ℕ → SourceTold
source_at count = record { given = []; ended = false; faults = count; left = None }

-- a text that was taken whole isn't under the status of a write fault, nor a part of it under its
-- own
whole_under_5 : Writes REFUSED (7 ∷ []) WRITE_FAULT (took [] 0) (took (7 ∷ []) 1) → ⊥
whole_under_5 (inl whole) = let same : 5 ≡ 3 = whole.0 in absurd (omega (arith, same))
whole_under_5 (inr part) =
    let same : 1 ≡ length (take part.1.0 (7 ∷ [])) = ap length part.1.2.0 in
    absurd (omega (arith, simp length-take at same, part.1.1))

part_under_3 : Writes REFUSED (7 ∷ 8 ∷ []) REFUSED (took [] 0) (took (7 ∷ []) 0) → ⊥
part_under_3 (inl whole) = let same : 1 ≡ 2 = ap length whole.1.0 in absurd (omega (arith, same))
part_under_3 (inr part) = let same : 3 ≡ 5 = part.0 in absurd (omega (arith, same))

-- a count that stays is no fault of a read, and one that rises no want of memory
no_fault : Fails (source_at 0) (source_at 0) ReadFault → ⊥
no_fault (given, inl rose) = let same : 0 ≡ 1 = rose in absurd (omega (arith, same))
no_fault (given, inr still) = let same : 0 ≡ 18446744073709551615 = still.0 in absurd (omega (arith, same))

no_want : Fails (source_at 0) (source_at 1) NoMemory → ⊥
no_want fails = let same : 1 ≡ 0 = fails.1 in absurd (omega (arith, same))

-- ---- the lines of refusals

refused_lines : (refusal_line (at_root name.TooLarge) ≡ codes "{\"path\":\"\",\"refused\":\"TooLarge\"}\n")
    × (refusal_line (at_root name.NotJson) ≡ codes "{\"path\":\"\",\"refused\":\"NotJson\"}\n")
    × (refusal_line (at_root name.Shape) ≡ codes "{\"path\":\"\",\"refused\":\"Shape\"}\n")
    × (refusal_line (at_root name.TooMany) ≡ codes "{\"path\":\"\",\"refused\":\"TooMany\"}\n")
    × (refusal_line (at_root name.BadMoment) ≡ codes "{\"path\":\"\",\"refused\":\"BadMoment\"}\n")
    × (refusal_line (at_root name.BadSuffixes) ≡ codes "{\"path\":\"\",\"refused\":\"BadSuffixes\"}\n")
    × (refusal_line (at_root name.BadPlace) ≡ codes "{\"path\":\"\",\"refused\":\"BadPlace\"}\n")
    × (refusal_line (at_root name.Deadlock) ≡ codes "{\"path\":\"\",\"refused\":\"Deadlock\"}\n")
    × (store_fault_line ≡ codes "{\"path\":\"\",\"refused\":\"StoreFault\"}\n")
unfolding digits serde_json_on_literals
refused_lines = (refl, refl, refl, refl, refl, refl, refl, refl, refl)

-- ---- scripts

-- steps at the moment 0, and a fetch that does these
abbrev at_0 : List What → List Step
at_0 [] = []
at_0 (what ∷ whats) = record { now = 0; what = what } ∷ at_0 whats

abbrev doing : List What → Actor
doing whats = record { view = None; steps = at_0 whats }

-- a script of these actors that leaves five entries to its callers and starts at 9
abbrev script_of : List Actor → Script
script_of actors = record { suffixes = []; start = 9; limit = 5; actors = actors }

-- ---- what steps ask

-- a delete is about the host as it stands, under the key of the host without its dot
delete_asks : ask_at [] None 0 (Delete (codes ".www.foo.com") (codes "a") (codes "/p"))
    ≡ Some (ask.Op (op.Delete (codes "foo.com")
    (record { host = codes ".www.foo.com"; name = codes "a"; path = codes "/p" })))
delete_asks = refl

all_and_clear : (ask_at [] None 0 All ≡ Some (ask.Op op.All)) × (ask_at [] None 0 Clear ≡ Some (ask.Op op.Clear))
all_and_clear = (refl, refl)

scopes : (fetch : FetchAsk) → (scope_of None (Some (codes "n")) ≡ scope.All)
    × (scope_of (Some fetch) None ≡ scope.Seen (request_of fetch))
    × (scope_of (Some fetch) (Some (codes "n")) ≡ scope.Named (request_of fetch) (codes "n"))
scopes fetch = (refl, refl, refl)

-- ---- places

-- two callers, and an entry of the jar's own between
abbrev journal : List Entry
journal = Call 0 5 op.Post (Posted 1) ∷ Jar (Whole 9) ∷ Call 1 5 op.Post (Posted 1) ∷ Call 0 6 (op.Hear 1 1) Heard ∷ []

places : (call_places 0 1 journal ≡ 1 ∷ 4 ∷ []) × (call_places 1 1 journal ≡ 3 ∷ [])
    × (call_places 2 1 journal ≡ [])
    × (named_places (At 1 ∷ Refused Spent ∷ Asked 3 Cold ∷ Reused (codes "a=1") ∷ At 4 ∷ []) ≡ 1 ∷ 3 ∷ 4 ∷ [])
places = (refl, refl, refl, refl)

-- ---- calls and loads

-- a run of one actor, whose callers have this many entries
abbrev run_at : ℕ → Run
run_at calls = record (begin_of 1 []) { state = record (opening []) { calls = calls } }

-- a script of one actor
abbrev one : Script
one = script_of (doing [] ∷ [])

-- of five entries the fifth is made, and the sixth is spent: an item without an entry
fifth : ((asked one 0 (run_at 4) 3 purpose.Call (Some (ask.Op op.Post))).items ≡ (At 1 ∷ []) ∷ [])
    × ((asked one 0 (run_at 4) 3 purpose.Call (Some (ask.Op op.Post))).journal ≡ Call 0 3 op.Post (Posted 1) ∷ [])
    × ((asked one 0 (run_at 4) 3 purpose.Call (Some (ask.Op op.Post))).state.calls ≡ 5)
fifth = (refl, refl, refl)

sixth : asked one 0 (run_at 5) 3 purpose.Call (Some (ask.Op op.Post)) ≡ record (run_at 5) { items = (Refused Spent ∷ []) ∷ [] }
sixth = refl

-- a hear that waits has neither item nor entry, but one that is spent has an item
waits : (asked one 0 (run_at 4) 3 purpose.Call (Some (ask.Op (op.Hear 0 1))) ≡ run_at 4)
    × ((asked one 0 (run_at 5) 3 purpose.Call (Some (ask.Op (op.Hear 0 1)))).items ≡ (Refused Spent ∷ []) ∷ [])
waits = (refl, refl)

-- a refused step has an item and no entry
refused_step : asked one 0 (run_at 4) 3 purpose.Call (Some (ask.Refused Control))
    ≡ record (run_at 4) { items = (Refused Control ∷ []) ∷ [] }
refused_step = refl

-- a get of a key that isn't loaded makes it wanted, once, and then has neither item nor entry
abbrev get : Request
get = record { key = codes "b"; host = codes "b"; path = codes "/"; secure = true; script = false; context = Strict }

abbrev unloaded : Run
unloaded = begin_of 1 (codes "a" ∷ codes "b" ∷ [])

abbrev asks_for_b : Run → Run
asks_for_b r = asked one 0 r 3 purpose.Call (Some (ask.Op (op.Get get)))

wants_once : ((asks_for_b unloaded).journal ≡ Jar (Want (codes "b")) ∷ []) × ((asks_for_b unloaded).items ≡ [] ∷ [])
    × (asks_for_b (asks_for_b unloaded) ≡ asks_for_b unloaded)
wants_once = (refl, refl, refl)

-- ---- loads

-- loads that give nothing, and loads that are lost
abbrev gives_none : Giving
gives_none key = Some []

abbrev gives_lost : Giving
gives_lost key = None

-- what is wanted is loaded first, and then the least; a load that was lost is told to the get; and a jar that is loaded becomes
-- whole once, at the moment that it is given
loads_first : ((loaded 7 gives_none (asks_for_b unloaded)).journal
    ≡ Jar (Want (codes "b")) ∷ Jar (Begun (codes "b")) ∷ Jar (Loaded (codes "b") []) ∷ [])
    × ((loaded 7 gives_none unloaded).journal ≡ Jar (Begun (codes "a")) ∷ Jar (Loaded (codes "a") []) ∷ [])
loads_first = (refl, refl)

tells_lost : (asks_for_b (loaded 7 gives_lost (asks_for_b unloaded))).journal
    ≡ Jar (Want (codes "b")) ∷ Jar (Begun (codes "b")) ∷ Jar (Lost (codes "b")) ∷ Call 0 3 (op.Get get) StoreFault ∷ []
tells_lost = refl

becomes_whole : ((loaded 7 gives_none (run_at 0)).journal ≡ Jar (Whole 7) ∷ [])
    × (loaded 8 gives_none (loaded 7 gives_none (run_at 0)) ≡ loaded 7 gives_none (run_at 0))
becomes_whole = (refl, refl)

-- ---- commits

-- a run in which one row changed, or that many
abbrev id : ℕ → CookieId
id n = record { host = n ∷ []; name = []; path = [] }

abbrev drops : ℕ → List RowChange
drops zero = []
drops (suc n) = Drop (id n) ∷ drops n

abbrev changed : List RowChange → Run
changed changes = record (begin_of 0 []) {
  state = record (opening []) { batches = record { touched = map change_id changes; out = None; lost = false } };
  pending = changes;
}

-- with force one row is committed, and without it none; without a row nothing is
due_by_force : (is_due true (changed (drops 1)) ≡ true) × (is_due false (changed (drops 1)) ≡ false) × (is_due true (changed []) ≡ false)
due_by_force = (refl, refl, refl)

-- five hundred and twelve are due without force
due_at_512 : (is_due false (changed (drops 511)) ≡ false) × (is_due false (changed (drops 512)) ≡ true)
due_at_512 = (refl, refl)

-- a commit is acknowledged at the place of its taking, and one that is lost keeps its changes for the next
abbrev lost_once : Run
lost_once = flushed true false (changed (drops 1))

commits : ((flushed true true (changed (drops 1))).journal ≡ Jar Taken ∷ Jar (Acked 1) ∷ [])
    × ((flushed true true (changed (drops 1))).kept ≡ []) × (lost_once.journal ≡ Jar Taken ∷ Jar (CommitLost 1) ∷ [])
    × (lost_once.kept ≡ drops 1) × (lost_once.pending ≡ [])
    × ((flushed true true lost_once).journal ≡ Jar Taken ∷ Jar (CommitLost 1) ∷ Jar Taken ∷ Jar (Acked 3) ∷ [])
commits = (refl, refl, refl, refl, refl, refl)

-- ---- rounds

-- a keeper that never fails, and has nothing to load
abbrev serves : Service
serves = record { gives = gives_none; commits = true }

-- the first actor hears the second, which is behind it in the round: one round later
abbrev hearing : Script
hearing = script_of (doing (Hear 1 1 ∷ []) ∷ doing (Post ∷ []) ∷ [])

abbrev hearing_after : List Service → Run
hearing_after services = rounds hearing [] services

hears_later : ((hearing_after (serves ∷ [])).items ≡ [] ∷ (At 1 ∷ []) ∷ []) × (is_done hearing (hearing_after (serves ∷ [])) ≡ false)
    × ((hearing_after (serves ∷ serves ∷ [])).items ≡ (At 3 ∷ []) ∷ (At 1 ∷ []) ∷ [])
    × (is_done hearing (hearing_after (serves ∷ serves ∷ [])) ≡ true)
    × ((hearing_after (serves ∷ serves ∷ [])).journal
    ≡ Call 1 0 op.Post (Posted 1) ∷ Jar (Whole 9) ∷ Call 0 0 (op.Hear 1 1) Heard ∷ [])
hears_later = (refl, refl, refl, refl, refl)
