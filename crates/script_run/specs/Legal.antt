-- The history of a script is one that the jar of one thread can have made, the items name its calls,
-- and over rows that are told there is one alone. This jar's own rule: docs/DEFINITIONS.md.
use Rattle.std.specs.Prelude.{ℕ, ◌≡◌, ◌<◌, ◌≤◌, ◌+◌, ◌==◌, List, [], ◌∷◌, ◌++◌, length, Bool, true, false, Option, None, Some, if◌then◌else◌}
use Rattle.std.specs.List.Sorted.{IsStrictlySortedBy}
use Rattle.jar_types.specs.declared.entry.Entry.{Entry}
use Rattle.jar_types.specs.declared.entry.Entry.TheVariants.{Call, Jar}
use Rattle.jar_types.specs.declared.op.Op.{Op}
use Rattle.jar_types.specs.declared.op.Reply.{Reply}
use Rattle.jar_types.specs.declared.row.Row.{Row}
use Rattle.jar_types.specs.Ids.{text_cmp}
use Rattle.jar_types.specs.Journals.{IsLegal}
use Rattle.jar_types.specs.RowChanges.{RowsRise}
use Rattle.jar_types.specs.Stored.{hosts_of}
use Rattle.run_report.specs.declared.item.Item.{Item}
use Rattle.run_report.specs.declared.item.Item.TheVariants.{At, Asked, Reused, Refused}
use Rattle.run_report.specs.declared.refusal_name.RefusalName.{RefusalName}
use Rattle.run_report.specs.declared.refusal_name.RefusalName.TheVariants.{Spent}
use Rattle.script_text.specs.declared.script.Script.{Script}
use Rattle.script_text.specs.declared.step.What.{What}
use Rattle.script_text.specs.declared.step.What.TheVariants.{Set, Get, Delete, All, Clear, Listen, Changes, Unlisten, Post, Hear, Read, Write}
use Rattle.script_text.specs.Admitted.{IsAdmitted}
use Rattle.script_text.specs.Placed.{View}
use Rattle.script_run.specs.declared.ask.Ask.{Ask}
use Rattle.script_run.specs.declared.ask.Ask.TheVariants as ask
use Rattle.script_run.specs.Ask.{ask_of}
use Rattle.script_run.specs.Rounds.{Ends, EndsOver, Over, rules_of}
use Rattle.script_run.specs.Runs.{Run, items_at}
use Rattle.script_run.specs.Turns.{Turn, binds, does, turn_now, turns_at, view_at}

-- the journal of a script over hosts is legal
abbrev pub SerialJournalsAreLegal : Type 0
SerialJournalsAreLegal =
    (script : Script) (hosts : List (List ℕ)) (run : Run) → IsAdmitted script → IsStrictlySortedBy text_cmp hosts → Ends script hosts run
    → IsLegal (rules_of script hosts) run.journal

-- the places of a caller's entries, where the first entry of the list has this place
abbrev pub call_places : ℕ → ℕ → List Entry → List ℕ
call_places a place [] = []
call_places a place (Call caller now op reply ∷ entries) =
    if caller == a then place ∷ call_places a (place + 1) entries else call_places a (place + 1) entries
call_places a place (Jar own ∷ entries) = call_places a (place + 1) entries

-- the places that items name
abbrev pub named_places : List Item → List ℕ
named_places [] = []
named_places (At place ∷ items) = place ∷ named_places items
named_places (Asked place cause ∷ items) = place ∷ named_places items
named_places (Reused text ∷ items) = named_places items
named_places (Refused name ∷ items) = named_places items

-- the items of an actor name its entries, each once and in their order
abbrev pub ItemsNameTheCalls : Type 0
ItemsNameTheCalls =
    (script : Script) (hosts : List (List ℕ)) (run : Run) (a : ℕ) → Ends script hosts run → a < length script.actors
    → named_places (items_at run a) ≡ call_places a 1 run.journal

-- how many entries of a journal callers have
abbrev pub count_calls : List Entry → ℕ
count_calls [] = 0
count_calls (Call caller now op reply ∷ entries) = count_calls entries + 1
count_calls (Jar own ∷ entries) = count_calls entries

-- a place of a journal, counted from 1, has an actor's entry of this op at this moment
pub record IsEntryAt (journal : List Entry) (place a now : ℕ) (op : Op) : Type 0 where
  pub before : List Entry
  pub reply : Reply
  pub later : List Entry
  pub is : journal ≡ before ++ (Call a now op reply ∷ later)
  pub place_is : place ≡ length before + 1

-- a turn was refused, since callers had as many entries as they may
abbrev pub IsSpent : ℕ → List Entry → RefusalName → Type 0
IsSpent limit journal name = (name ≡ Spent) × (limit ≤ count_calls journal)

-- the item of a turn that asks an op and is no read: its place, or that callers have as many entries as they may
abbrev pub FitsOp : ℕ → List Entry → ℕ → ℕ → Op → Item → Type 0
FitsOp limit journal a now op (At place) = IsEntryAt journal place a now op
FitsOp limit journal a now op (Asked place cause) = ⊥
FitsOp limit journal a now op (Reused text) = ⊥
FitsOp limit journal a now op (Refused name) = IsSpent limit journal name

-- the item of a read, which would ask an op: its place and the cause, a text that it used again, or the same refusal
abbrev pub FitsRead : ℕ → List Entry → ℕ → ℕ → Op → Item → Type 0
FitsRead limit journal a now op (At place) = ⊥
FitsRead limit journal a now op (Asked place cause) = IsEntryAt journal place a now op
FitsRead limit journal a now op (Reused text) = Unit {0}
FitsRead limit journal a now op (Refused name) = IsSpent limit journal name

abbrev pub FitsCall : Bool → ℕ → List Entry → ℕ → ℕ → Op → Item → Type 0
FitsCall true limit journal a now op item = FitsRead limit journal a now op item
FitsCall false limit journal a now op item = FitsOp limit journal a now op item

-- the item of a turn that asks this, and is a read or not
abbrev pub FitsAsk : Bool → ℕ → List Entry → ℕ → ℕ → Option Ask → Item → Type 0
FitsAsk read limit journal a now None item = ⊥
FitsAsk read limit journal a now (Some (ask.Op op)) item = FitsCall read limit journal a now op item
FitsAsk read limit journal a now (Some (ask.Refused name)) item = item ≡ Refused name

-- whether a step is a read
abbrev pub is_read : What → Bool
is_read (Set fetch line) = false
is_read (Get fetch) = false
is_read (Delete host name path) = false
is_read All = false
is_read Clear = false
is_read (Listen fetch name) = false
is_read (Changes listener) = false
is_read (Unlisten listener) = false
is_read Post = false
is_read (Hear actor n) = false
is_read (Read url) = true
is_read (Write line url) = false

-- whether a turn is a read
abbrev pub reads : Turn → Bool
reads binds = false
reads (does step) = is_read step.what

-- the item of a turn of an actor that sees this
abbrev pub FitsTurn : Script → Option View → List Entry → ℕ → Turn → Item → Type 0
FitsTurn script sees journal a turn item =
    FitsAsk (reads turn) script.limit journal a (turn_now script turn) (ask_of script.suffixes sees turn) item

-- these turns of an actor have these items, one each, in their order: a turn that the definitions refuse by a name has that
-- name, a read names its entry or used a text again, and each other one names its entry; or it was refused at the limit
abbrev pub FitEach : Script → Option View → List Entry → ℕ → List Turn → List Item → Type 0
FitEach script sees journal a [] [] = Unit {0}
FitEach script sees journal a [] (item ∷ items) = ⊥
FitEach script sees journal a (turn ∷ turns) [] = ⊥
FitEach script sees journal a (turn ∷ turns) (item ∷ items) =
    FitsTurn script sees journal a turn item × FitEach script sees journal a turns items

-- each actor has one item a turn, and each fits its turn
abbrev pub ItemsFitTheTurns : Type 0
ItemsFitTheTurns =
    (script : Script) (hosts : List (List ℕ)) (run : Run) (a : ℕ) → IsAdmitted script → Ends script hosts run → a < length script.actors
    → FitEach script (view_at script.actors a) run.journal a (turns_at script.actors a) (items_at run a)

-- over the rows that a keeper holds, which never fails, a script ends in one way alone
abbrev pub RunsAreOne : Type 0
RunsAreOne = (script : Script) (rows : List Row) (end other : Over) → EndsOver script rows end → EndsOver script rows other → end ≡ other

-- such an end is one over the hosts of the rows
abbrev pub RunsOverRows : Type 0
RunsOverRows = (script : Script) (rows : List Row) (end : Over) → RowsRise rows → EndsOver script rows end → Ends script (hosts_of rows) end.run
