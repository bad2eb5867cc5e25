-- Who plays the actors of a script: each actor's pass to the jar, its manager where it renders, and its items; and the run that
-- a jar and its players stand for. This jar's own rule: docs/DEFINITIONS.md.
use Rattle.std.specs.Prelude.{◌≡◌, ℕ, suc, List, [], ◌∷◌, ◌++◌, map, length, slice_index_or, slice_set, true, false, Option, None, Some, IsSome, Result, Ok, Err}
use Rattle.atomic_table.specs.Seated.{TableId}
use Rattle.jar_types.specs.declared.op.Op.{Op}
use Rattle.jar_types.specs.declared.op.Op.TheVariants as op
use Rattle.jar_types.specs.declared.op.Reply.{Reply}
use Rattle.jar_types.specs.declared.row.RowChange.{RowChange}
use Rattle.jar_types.specs.Journals.{stored_keys}
use Rattle.jar_types.specs.States.{JarState}
use Rattle.locked_jar.specs.LockedJars.{LockedJar, journal_of, opened}
use Rattle.renderer_cache.specs.declared.kept.Kept.{Kept}
use Rattle.restricted_manager.specs.declared.read.ReadTurn.{ReadTurn}
use Rattle.restricted_manager.specs.declared.read.ReadTurn.TheVariants as turn
use Rattle.restricted_manager.specs.declared.read.ReadTurnRefusal.{ReadTurnRefusal}
use Rattle.restricted_manager.specs.declared.read.ReadTurnRefusal.TheVariants as refusal
use Rattle.restricted_manager.specs.Documents.{asked_place, is_same_origin}
use Rattle.restricted_manager.specs.Keeping.{Answer}
use Rattle.restricted_manager.specs.Managers.{ManagerStanding, MayBeBound}
use Rattle.restricted_manager.specs.Requests.{read_of}
use Rattle.run_report.specs.declared.item.Item.{Item}
use Rattle.script_text.specs.declared.actor.Actor.{Actor}
use Rattle.script_text.specs.declared.script.Script.{Script}
use Rattle.script_text.specs.Placed.{View}
use Rattle.site_match.specs.declared.place.Place.{Place}
use Rattle.shared_jar.specs.Together.{IsCaller}
use Rattle.store_vault.specs.declared.stored.Stored.{Stored}
use Rattle.store_vault.specs.Loading as vault
use Rattle.version_cells.specs.Standing.{PassStanding, new_passes}
use Rattle.script_run.specs.declared.purpose.Purpose.{Purpose}
use Rattle.script_run.specs.declared.purpose.Purpose.TheVariants as purpose
use Rattle.script_run.specs.Reads.{Holding, cell_in, found, nothing}
use Rattle.script_run.specs.Rounds.{rules_of}
use Rattle.script_run.specs.Runs.{Run}

-- of each actor its pass, its manager where it renders, and its items
pub record PlayersStanding : Type 0 where
  pub passes : List PassStanding
  pub managers : List (Option ManagerStanding)
  pub items : List (List Item)

-- the answer that is kept
abbrev pub answer_kept : Option Kept → Option Answer
answer_kept None = None
answer_kept (Some k) = Some (record { cell = k.cell; version = k.version; until = k.until; text = k.text })

-- what an actor holds: what its manager does, and without one nothing
abbrev pub holding_of : Option ManagerStanding → Holding
holding_of None = nothing
holding_of (Some m) = record { cell = m.cell; kept = answer_kept m.kept }

-- the run that a jar with these changes kept and its players stand for
abbrev pub run_of : LockedJar → List RowChange → PlayersStanding → Run
run_of j kept p = record {
  state = j.state;
  journal = journal_of j.seen;
  items = p.items;
  holdings = map holding_of p.managers;
  pending = j.pending;
  kept = kept;
}

-- what an actor sees: what its manager does
abbrev pub view_of : Option ManagerStanding → Option View
view_of None = None
view_of (Some m) = Some (m.document, m.site)

-- what an actor of a script sees
abbrev pub sight : Actor → Option View
sight actor = actor.view

-- the players, with one item more of this one
abbrev pub with_item : PlayersStanding → ℕ → Item → PlayersStanding
with_item p a item = record p { items = slice_set p.items a (slice_index_or p.items a [] ++ item ∷ []) }

-- a reply may be to a call of an actor with this manager, for this purpose: a renderer alone binds, a cell or none, and reads
abbrev pub MayMean : Purpose → Reply → Option ManagerStanding → Type 0
MayMean purpose.Call reply manager = Unit {0}
MayMean purpose.Bind reply manager = IsSome manager × MayBeBound (cell_in reply)
MayMean (purpose.Read cause) reply manager = IsSome manager

-- the pass is of this number, of a caller of the script's jar over these hosts, and goes to these words
pub record IsPassOf (script : Script) (hosts : List (List ℕ)) (table : TableId) (a : ℕ) (p : PassStanding) : Type 0 where
  pub caller : IsCaller (rules_of script hosts) table p
  pub number : p.view.number ≡ a

-- these passes are of the numbers from this one on
abbrev pub ArePassesFrom : Script → List (List ℕ) → TableId → ℕ → List PassStanding → Type 0
ArePassesFrom script hosts table a [] = Unit {0}
ArePassesFrom script hosts table a (p ∷ ps) = IsPassOf script hosts table a p × ArePassesFrom script hosts table (suc a) ps

-- The players are those of a script's actors, and play over a jar of these stored hosts and words, which was opened by the
-- script's rules
pub record ArePlaying (script : Script) (stored : Stored) (callers limit : ℕ) (table : TableId) (p : PlayersStanding) : Type 0 where
  pub rules_are : vault.rules_of stored callers limit ≡ rules_of script stored.hosts
  pub many_passes : length p.passes ≡ length script.actors
  pub many_items : length p.items ≡ length script.actors
  pub views : map view_of p.managers ≡ map sight script.actors
  pub passes : ArePassesFrom script stored.hosts table 0 p.passes

-- A jar was opened for a script, and has no entry; these are the passes of its callers
pub record BeginsPlay (script : Script) (stored : Stored) (callers : ℕ) (table : TableId) (j : LockedJar) (kept : List RowChange) (passes : List PassStanding) : Type 0 where
  pub rules_are : vault.rules_of stored callers j.limit ≡ rules_of script stored.hosts
  pub jar_is : j ≡ opened table (stored_keys (rules_of script stored.hosts)) script.limit
  pub nothing_kept : kept ≡ []
  pub passes_are : passes ≡ new_passes table (length script.actors)

-- ---- that no public clause cites

-- an actor with this manager may want an op for this purpose: a renderer alone binds and reads, and what binds is a Bind
abbrev pub IsMeant : Purpose → Op → Option ManagerStanding → Type 0
IsMeant purpose.Call o manager = Unit {0}
IsMeant purpose.Bind o manager = IsSome manager × ((key : List ℕ) × (o ≡ op.Bind key))
IsMeant (purpose.Read cause) o manager = IsSome manager

-- what a read of a URL by a manager comes to, over a jar in this state
abbrev pub Decides : JarState → ℕ → ManagerStanding → Option Place → Result ReadTurn ReadTurnRefusal → Type 0
Decides s now m url (Ok (turn.Reused text)) = found s now (m.document, m.site) (holding_of (Some m)) url ≡ Ok text
Decides s now m url (Ok (turn.Ask o cause)) =
    let place = asked_place m.document url in
    (found s now (m.document, m.site) (holding_of (Some m)) url ≡ Err cause)
    × (is_same_origin place m.document ≡ true) × (o ≡ read_of m place)
Decides s now m url (Err refusal.OriginMismatch) = is_same_origin (asked_place m.document url) m.document ≡ false
Decides s now m url (Err refusal.NoMemory) = Unit {0}
