-- The definitions at the renderer of `https://h.test/`, whose site is its document: its turns, what they ask, how its reads go
-- on at each cause, the items of its calls, and what it holds behind them.
use Rattle.std.proofs.Common.{◌≡◌, ℕ, zero, suc, List, [], ◌∷◌, true, false, codes, Option, None, Some, refl}
use Rattle.std.specs.Prelude.{is_some, Ok, Err}
use Rattle.jar_types.specs.declared.ask_cause.AskCause.TheVariants.{Other, NoCell, Cold, Late, Moved}
use Rattle.jar_types.specs.declared.entry.Entry.TheVariants as entry
use Rattle.jar_types.specs.declared.op.Op.TheVariants as op
use Rattle.jar_types.specs.declared.op.Reply.{Reply}
use Rattle.jar_types.specs.declared.op.Reply.TheVariants as reply
use Rattle.jar_types.specs.declared.request.Context.TheVariants.{Strict}
use Rattle.jar_types.specs.declared.request.Request.{Request}
use Rattle.jar_types.specs.States.{JarState, opening}
use Rattle.restricted_manager.specs.Keeping.{Answer}
use Rattle.run_report.specs.declared.item.Item.TheVariants.{At, Asked, Reused}
use Rattle.run_report.specs.declared.refusal_name.RefusalName.TheVariants.{OriginMismatch}
use Rattle.script_text.specs.declared.actor.Actor.{Actor}
use Rattle.script_text.specs.declared.script.Script.{Script}
use Rattle.script_text.specs.declared.step.Step.{Step}
use Rattle.script_text.specs.declared.step.What.TheVariants.{All, Post, Read, Write}
use Rattle.script_text.specs.Placed.{View}
use Rattle.site_match.specs.declared.place.Place.{Place}
use Rattle.site_match.specs.declared.scheme.Scheme.TheVariants.{Http, Https}
use Rattle.script_run.specs.declared.ask.Ask.TheVariants as ask
use Rattle.script_run.specs.declared.purpose.Purpose.TheVariants as purpose
use Rattle.script_run.specs.Ask.{ask_of}
use Rattle.script_run.specs.Legal.{FitsAsk}
use Rattle.script_run.specs.Reads.{Holding, nothing, reuses, calls, found, holding_then, way_of}
use Rattle.script_run.specs.Runs.{Run, begin, holding_at, item_of, left, positions, tried}
use Rattle.script_run.specs.Turns.{binds, does, turn_now, turns_at, turns_left, view_at}

-- ---- values

abbrev document : Place
document = record { scheme = Https; host = codes "h.test"; port = 443; path = codes "/"; key = codes "h.test" }

-- `https://h.test/x`, which has the document's origin
abbrev other : Place
other = record document { path = codes "/x" }

-- `http://h.test/`, which hasn't
abbrev plain : Place
plain = record document { scheme = Http; port = 80 }

abbrev sees : View
sees = (document, Some document)

-- a state in which the document's key has the first cell, at this version
abbrev state_at : ℕ → JarState
state_at version = record (opening []) { bound = record { key = codes "h.test"; version = version } ∷ [] }

-- the text `a=1` of the first cell, at version 1 and until 60000
abbrev answer : Answer
answer = record { cell = 1; version = 1; until = 60000; text = codes "a=1" }

-- no cell, though an answer lies there; a cell and no answer; and both
abbrev unbound : Holding
unbound = record { cell = None; kept = Some answer }

abbrev cold : Holding
cold = record { cell = Some 1; kept = None }

abbrev warm : Holding
warm = record { cell = Some 1; kept = Some answer }

-- ---- what a read finds

-- each cause, where no earlier one holds: another URL, though the answer serves the document's; no cell; no answer; from its
-- until on, though the version moved too; and another version
causes : (found (state_at 1) 0 sees warm (Some other) ≡ Err Other) × (found (state_at 1) 0 sees warm (Some plain) ≡ Err Other)
    × (found (state_at 1) 0 sees unbound None ≡ Err NoCell) × (found (state_at 1) 0 sees cold None ≡ Err Cold)
    × (found (state_at 2) 60000 sees warm None ≡ Err (Late 60000)) × (found (state_at 2) 59999 sees warm None ≡ Err (Moved 1 2))
causes = (refl, refl, refl, refl, refl, refl)

-- until 60000 the text serves, at its version, the document's URL written or not
serves : (found (state_at 1) 59999 sees warm None ≡ Ok (codes "a=1")) × (found (state_at 1) 59999 sees warm (Some document) ≡ Ok (codes "a=1"))
    × (found (state_at 1) 60000 sees warm None ≡ Err (Late 60000))
serves = (refl, refl, refl)

-- ---- turns

abbrev step_at : ℕ → Option Place → Step
step_at now url = record { now = now; what = Read url }

-- a fetch of one step, and renderers of one and of none
abbrev fetches : Actor
fetches = record { view = None; steps = record { now = 5; what = All } ∷ [] }

abbrev renders : List Step → Actor
renders steps = record { view = Some sees; steps = steps }

abbrev actors : List Actor
actors = fetches ∷ renders (step_at 5 None ∷ []) ∷ renders [] ∷ []

abbrev script : Script
script = record { suffixes = []; start = 3; limit = 5; actors = actors }

-- a renderer begins with its Bind, at the script's start, and a fetch doesn't
turns : (turns_at actors 0 ≡ does (record { now = 5; what = All }) ∷ []) × (turns_at actors 1 ≡ binds ∷ does (step_at 5 None) ∷ [])
    × (turns_at actors 2 ≡ binds ∷ []) × (turns_at actors 3 ≡ []) × (view_at actors 0 ≡ None) × (view_at actors 1 ≡ Some sees)
    × (turn_now script binds ≡ 3) × (turn_now script (does (step_at 5 None)) ≡ 5)
turns = (refl, refl, refl, refl, refl, refl, refl, refl)

-- a renderer without steps has one turn left until it has bound; and no step is done by a Bind
turns_are_left : (turns_left actors ([] ∷ [] ∷ [] ∷ []) ≡ 4) × (turns_left (renders [] ∷ []) ([] ∷ []) ≡ 1)
    × (turns_left (renders [] ∷ []) ((At 1 ∷ []) ∷ []) ≡ 0)
    × (positions script (record (begin script []) { items = (At 1 ∷ []) ∷ (At 2 ∷ []) ∷ (At 3 ∷ []) ∷ [] }) ≡ 1 ∷ 0 ∷ 0 ∷ [])
    × (left script (record (begin script []) { items = (At 1 ∷ []) ∷ (At 2 ∷ []) ∷ (At 3 ∷ []) ∷ [] }) ≡ 1)
turns_are_left = (refl, refl, refl, refl, refl)

-- ---- what turns ask

-- what a renderer asks of a place: by a script, as its site
abbrev request : Place → Request
request place = record { key = codes "h.test"; host = codes "h.test"; path = place.path; secure = true; script = true; context = Strict }

-- a Bind asks for the document's key, and who doesn't render for none; an other origin is refused
asks : (ask_of [] (Some sees) binds ≡ Some (ask.Op (op.Bind (codes "h.test")))) × (ask_of [] None binds ≡ None)
    × (ask_of [] (Some sees) (does (step_at 5 (Some other))) ≡ Some (ask.Op (op.Get (request other))))
    × (ask_of [] (Some sees) (does (step_at 5 (Some plain))) ≡ Some (ask.Refused OriginMismatch))
    × (ask_of [] (Some sees) (does (record { now = 5; what = Write (codes "a=1") (Some plain) })) ≡ Some (ask.Refused OriginMismatch))
asks = (refl, refl, refl, refl, refl)

-- a renderer has no step of a fetch, nor a fetch one of a renderer
asks_nothing : (ask_of [] (Some sees) (does (record { now = 5; what = All })) ≡ None) × (ask_of [] None (does (step_at 5 None)) ≡ None)
asks_nothing = (refl, refl)

-- ---- how turns go on

ways : (way_of (state_at 1) (Some sees) warm (does (step_at 5 None)) ≡ reuses (codes "a=1"))
    × (way_of (state_at 2) (Some sees) warm (does (step_at 5 None)) ≡ calls (purpose.Read (Moved 1 2)))
    × (way_of (state_at 1) (Some sees) warm (does (step_at 5 (Some plain))) ≡ calls (purpose.Read Other))
    × (way_of (state_at 1) (Some sees) warm binds ≡ calls purpose.Bind)
    × (way_of (state_at 1) (Some sees) warm (does (record { now = 5; what = Post })) ≡ calls purpose.Call)
ways = (refl, refl, refl, refl, refl)

-- a read alone has its cause beside its place
items : (item_of purpose.Call 4 ≡ At 4) × (item_of purpose.Bind 4 ≡ At 4) × (item_of (purpose.Read Cold) 4 ≡ Asked 4 Cold)
items = (refl, refl, refl)

-- ---- what is held behind a call

-- the reply to a read, at this version or none
abbrev text_at : Option ℕ → ℕ → List ℕ → Reply
text_at version until text = reply.Script text version until

-- a Bind forgets what is kept, whether it has a cell or not, and a call keeps all
binds_hold : (holding_then purpose.Bind (reply.Cell None) warm ≡ nothing) × (holding_then purpose.Bind (reply.Cell (Some 1)) warm ≡ cold)
    × (holding_then purpose.Call (reply.Posted 1) warm ≡ warm)
binds_hold = (refl, refl, refl)

-- a read of the document's URL keeps its answer in the place of another; one of another URL, one without a cell or a version, and
-- one that is told of a fault keep none
reads_hold : (holding_then (purpose.Read Cold) (text_at (Some 1) 60000 (codes "a=1")) cold ≡ warm)
    × (holding_then (purpose.Read (Moved 1 2)) (text_at (Some 2) 9 []) warm
    ≡ record { cell = Some 1; kept = Some (record { cell = 1; version = 2; until = 9; text = [] }) })
    × (holding_then (purpose.Read Other) (text_at (Some 2) 9 []) warm ≡ warm)
    × (holding_then (purpose.Read NoCell) (text_at (Some 2) 9 []) nothing ≡ nothing)
    × (holding_then (purpose.Read Cold) (text_at None 9 []) cold ≡ cold)
    × (holding_then (purpose.Read Cold) reply.StoreFault cold ≡ cold) × (holding_then (purpose.Read (Late 9)) reply.StoreFault warm ≡ warm)
reads_hold = (refl, refl, refl, refl, refl, refl, refl)

-- ---- tries

-- a renderer binds, reads, and uses the text again
abbrev reads_twice : Script
reads_twice = record script { actors = renders (step_at 5 None ∷ step_at 6 None ∷ []) ∷ [] }

abbrev after_tries : ℕ → Run
after_tries zero = begin reads_twice []
after_tries (suc n) = tried reads_twice 0 (after_tries n)

bound_first : ((after_tries 1).items ≡ (At 1 ∷ []) ∷ []) × (holding_at (after_tries 1) 0 ≡ cold)
    × ((after_tries 1).journal ≡ entry.Call 0 3 (op.Bind (codes "h.test")) (reply.Cell (Some 1)) ∷ [])
bound_first = (refl, refl, refl)

read_then : ((after_tries 2).items ≡ (At 1 ∷ Asked 2 Cold ∷ []) ∷ []) × (is_some (holding_at (after_tries 2) 0).kept ≡ true)
    × ((after_tries 3).items ≡ (At 1 ∷ Asked 2 Cold ∷ Reused [] ∷ []) ∷ []) × ((after_tries 3).journal ≡ (after_tries 2).journal)
    × (after_tries 4 ≡ after_tries 3)
read_then = (refl, refl, refl, refl, refl)

-- ---- items that don't fit

-- a text that was used again, and a place with a cause, are items of reads alone
no_reuse : FitsAsk false 5 [] 0 5 (Some (ask.Op op.Post)) (Reused []) → ⊥
no_reuse fits = fits

no_cause : FitsAsk false 5 [] 0 5 (Some (ask.Op op.Post)) (Asked 1 Cold) → ⊥
no_cause fits = fits

no_bare_read : FitsAsk true 5 [] 0 5 (Some (ask.Op (op.Get (request document)))) (At 1) → ⊥
no_bare_read fits = fits

-- and no text serves a read of an other origin
no_other_origin : FitsAsk true 5 [] 0 5 (ask_of [] (Some sees) (does (step_at 5 (Some plain)))) (Reused []) → ⊥
no_other_origin fits = absurd cc
