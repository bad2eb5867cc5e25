-- A script, run on one thread: what a run holds, and how an actor tries its next turn. This jar's own rule:
-- docs/DEFINITIONS.md.
use Rattle.std.specs.Prelude.{ℕ, zero, suc, ◌==◌, List, [], ◌∷◌, ◌++◌, length, replicate, slice_get, slice_set, slice_index_or}
use Rattle.std.specs.Prelude.{Bool, true, false, nat_le, Option, None, Some}
use Rattle.jar_types.specs.declared.entry.Own.{Own}
use Rattle.jar_types.specs.declared.entry.Own.TheVariants.{Want, WantAll}
use Rattle.jar_types.specs.declared.entry.Event.{Event}
use Rattle.jar_types.specs.declared.entry.Event.TheVariants.{Call as CallEvent, Jar as JarEvent}
use Rattle.jar_types.specs.declared.entry.Entry.{Entry}
use Rattle.jar_types.specs.declared.jar_core.Awaited.{Awaited}
use Rattle.jar_types.specs.declared.jar_core.Awaited.TheVariants as awaited
use Rattle.jar_types.specs.declared.jar_core.CoreRefusal.{CoreRefusal}
use Rattle.jar_types.specs.declared.jar_core.CoreRefusal.TheVariants.{Pending, NotYet, NoMemory}
use Rattle.jar_types.specs.declared.op.Op.{Op}
use Rattle.jar_types.specs.declared.row.RowChange.{RowChange}
use Rattle.jar_types.specs.RowChanges.{newest_over}
use Rattle.jar_types.specs.States.{JarState, opening}
use Rattle.jar_types.specs.Steps.{after, call_step, entry_of, own_may_stand, rows_at}
use Rattle.jar_types.specs.Waits.{op_waits}
use Rattle.run_report.specs.declared.item.Item.{Item}
use Rattle.run_report.specs.declared.item.Item.TheVariants.{At, Asked, Reused, Refused}
use Rattle.run_report.specs.declared.refusal_name.RefusalName.TheVariants.{Spent}
use Rattle.script_text.specs.declared.script.Script.{Script}
use Rattle.script_text.specs.Deadlocks.{Positions}
use Rattle.script_run.specs.declared.ask.Ask.{Ask}
use Rattle.script_run.specs.declared.ask.Ask.TheVariants as ask
use Rattle.script_run.specs.declared.purpose.Purpose.{Purpose}
use Rattle.script_run.specs.declared.purpose.Purpose.TheVariants as purpose
use Rattle.script_run.specs.Ask.{ask_of}
use Rattle.script_run.specs.Reads.{Holding, nothing, Way, reuses, calls, way_of, holding_then}
use Rattle.script_run.specs.Turns.{Turn, positions_of, turn_now, turns_at, turns_left, view_at}

-- a run so far: the state of the jar, the journal, and for each actor an item for each turn that it has done, and what it
-- holds; the changed rows since a batch was taken, and those that were taken and aren't committed, each id's newest change
pub record Run : Type 0 where
  pub state : JarState
  pub journal : List Entry
  pub items : List (List Item)
  pub holdings : List Holding
  pub pending : List RowChange
  pub kept : List RowChange

-- the run of so many actors before its first round, where these keys have stored cookies
abbrev pub begin_of : ℕ → List (List ℕ) → Run
begin_of actors keys = record {
  state = opening keys;
  journal = [];
  items = replicate actors [];
  holdings = replicate actors nothing;
  pending = [];
  kept = [];
}

abbrev pub begin : Script → List (List ℕ) → Run
begin script keys = begin_of (length script.actors) keys

-- the items of an actor
abbrev pub items_at : Run → ℕ → List Item
items_at r a = slice_index_or r.items a []

-- what an actor holds
abbrev pub holding_at : Run → ℕ → Holding
holding_at r a = slice_index_or r.holdings a nothing

-- how many of its steps each actor has done
abbrev pub positions : Script → Run → Positions
positions script r = positions_of script.actors r.items

-- how many turns are left
abbrev pub left : Script → Run → ℕ
left script r = turns_left script.actors r.items

-- no turn is left
abbrev pub is_done : Script → Run → Bool
is_done script r = left script r == 0

-- ---- what happens

-- an event happened, and its changes of rows are to be committed
abbrev pub happened : Run → Event → Run
happened r v = record r {
  state = after r.state v;
  journal = r.journal ++ entry_of r.state v ∷ [];
  pending = newest_over r.pending (rows_at r.state v);
}

-- the jar did this itself, where it may
abbrev pub did : Bool → Run → Own → Run
did true r own = happened r (JarEvent own)
did false r own = r

abbrev pub did_if_may : Run → Own → Run
did_if_may r own = did (own_may_stand r.state own) r own

-- the item of an actor's next turn
abbrev pub noted : ℕ → Run → Item → Run
noted a r item = record r { items = slice_set r.items a (items_at r a ++ item ∷ []) }

-- an actor holds this
abbrev pub held : ℕ → Run → Holding → Run
held a r h = record r { holdings = slice_set r.holdings a h }

-- ---- one try

-- the item of a call for this purpose, whose entry has this place
abbrev pub item_of : Purpose → ℕ → Item
item_of purpose.Call place = At place
item_of purpose.Bind place = At place
item_of (purpose.Read cause) place = Asked place cause

-- an actor made a call for a purpose: its item names the place of the entry, and the actor holds what the reply gives it
abbrev pub called : ℕ → Run → ℕ → Op → Purpose → Run
called a r now op why =
    let h = happened r (CallEvent a now op) in
    held a (noted a h (item_of why (length h.journal)))
    (holding_then why (call_step r.state a now op).reply (holding_at r a))

-- what the jar notes where a caller waits for this
abbrev pub want_of : Awaited → Own
want_of (awaited.Key key) = Want key
want_of awaited.All = WantAll

-- an actor waits: what it waits for becomes wanted, where it isn't yet
abbrev pub waited : CoreRefusal → Run → Run
waited (Pending what) r = did_if_may r (want_of what)
waited (NotYet found) r = r
waited NoMemory r = r

-- it calls, unless it waits: then it tries again later
abbrev pub called_where : Option CoreRefusal → ℕ → Run → ℕ → Op → Purpose → Run
called_where (Some refusal) a r now op why = waited refusal r
called_where None a r now op why = called a r now op why

-- where the callers have as many entries as they may, it is refused
abbrev pub called_within : Bool → ℕ → Run → ℕ → Op → Purpose → Run
called_within true a r now op why = noted a r (Refused Spent)
called_within false a r now op why = called_where (op_waits r.state op) a r now op why

-- a turn was tried that asks this at a moment for a purpose: a refused one makes no entry
abbrev pub asked : Script → ℕ → Run → ℕ → Purpose → Option Ask → Run
asked script a r now why None = r
asked script a r now why (Some (ask.Op op)) = called_within (nat_le script.limit r.state.calls) a r now op why
asked script a r now why (Some (ask.Refused name)) = noted a r (Refused name)

-- a turn was tried that goes this way: where it uses a text again, nobody is asked
abbrev pub went : Script → ℕ → Run → ℕ → Way → Option Ask → Run
went script a r now (reuses text) o = noted a r (Reused text)
went script a r now (calls why) o = asked script a r now why o

-- a turn was tried
abbrev pub tried_turn : Script → ℕ → Run → Turn → Run
tried_turn script a r turn =
    let sees = view_at script.actors a in
    went script a r (turn_now script turn) (way_of r.state sees (holding_at r a) turn) (ask_of script.suffixes sees turn)

abbrev pub tried_where : Script → ℕ → Run → Option Turn → Run
tried_where script a r None = r
tried_where script a r (Some turn) = tried_turn script a r turn

-- the next turn of an actor, where one is left
abbrev pub next_turn : Script → ℕ → Run → Option Turn
next_turn script a r = slice_get (turns_at script.actors a) (length (items_at r a))

-- an actor tried its next turn
abbrev pub tried : Script → ℕ → Run → Run
tried script a r = tried_where script a r (next_turn script a r)

-- the first k actors tried a turn each, in order
abbrev pub tried_first : Script → ℕ → Run → Run
tried_first script zero r = r
tried_first script (suc k) r = tried script k (tried_first script k r)
