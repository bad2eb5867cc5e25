-- What holds of a run through all its rounds, where tries, the jar's own entries and its batches keep it.
use Rattle.std.proofs.Common.{◌<◌, ◌≤◌, ℕ, zero, suc, List, [], ◌∷◌, Bool, true, false, Option, None, Some, length, arith}
use Rattle.jar_types.specs.declared.entry.Own.{Own}
use Rattle.jar_types.specs.declared.entry.Own.TheVariants.{Acked, Begun, CommitLost, Taken, Whole}
use Rattle.jar_types.specs.declared.entry.Event.TheVariants.{Jar as JarEvent}
use Rattle.jar_types.specs.declared.row.RowChange.{RowChange}
use Rattle.jar_types.specs.Journals.{stored_keys}
use Rattle.jar_types.specs.Loads.{next_key}
use Rattle.jar_types.specs.RowChanges.{newest_over}
use Rattle.jar_types.specs.Steps.{own_may_stand}
use Rattle.script_text.specs.declared.script.Script.{Script}
use Rattle.script_run.specs.Rounds.{Giving, Service, committed_where, ended, flushed, is_due, load_gave, loaded, loaded_next, round, rounds, rules_of, taken}
use Rattle.script_run.specs.Runs.{Run, begin, did, did_if_may, happened, tried, tried_first}

-- tries, the jar's own entries and its batches keep it
pub record Closed (script : Script) (P : Run → Type 0) : Type 0 where
  pub tries : (a : ℕ) (r : Run) → a < length script.actors → P r → P (tried script a r)
  pub own : (r : Run) (own : Own) → P r → P (happened r (JarEvent own))
  pub batch : (r : Run) (pending kept : List RowChange) → P r → P (record r { pending = pending; kept = kept })

pub closed_did : (script : Script) (P : Run → Type 0) → Closed script P → (may : Bool) (r : Run) (own : Own) → P r → P (did may r own)
closed_did script P c true r own p = c.own r own p
closed_did script P c false r own p = p

closed_first : (script : Script) (P : Run → Type 0) → Closed script P → (k : ℕ) (r : Run) → k ≤ length script.actors → P r → P (tried_first script k r)
closed_first script P c zero r few p = p
closed_first script P c (suc k) r few p =
    c.tries k (tried_first script k r) (omega (arith, few)) (closed_first script P c k r (omega (arith, few)) p)

closed_next : (script : Script) (P : Run → Type 0) → Closed script P → (o : Option (List ℕ)) (start : ℕ) (gives : Giving) (r : Run) → P r → P (loaded_next o start gives r)
closed_next script P c (Some key) start gives r p =
    let t = did_if_may r (Begun key) in
    c.own t (load_gave key (gives key)) (closed_did script P c (own_may_stand r.state (Begun key)) r (Begun key) p)
closed_next script P c None start gives r p = closed_did script P c (own_may_stand r.state (Whole start)) r (Whole start) p

closed_ended : (script : Script) (P : Run → Type 0) → Closed script P → (commits : Bool) (place : ℕ) (r : Run) → P r → P (ended commits place r)
closed_ended script P c true place r p =
    let t = happened r (JarEvent (Acked place)) in c.batch t t.pending [] (c.own r (Acked place) p)
closed_ended script P c false place r p = c.own r (CommitLost place) p

closed_committed : (script : Script) (P : Run → Type 0) → Closed script P → (due commits : Bool) (r : Run) → P r → P (committed_where due commits r)
closed_committed script P c false commits r p = p
closed_committed script P c true commits r p =
    let t = happened r (JarEvent Taken) in
    let u = taken r in
    closed_ended script P c commits (length u.journal) u (c.batch t [] (newest_over t.kept t.pending) (c.own r Taken p))

pub closed_flush : (script : Script) (P : Run → Type 0) → Closed script P → (force commits : Bool) (r : Run) → P r → P (flushed force commits r)
closed_flush script P c force commits r p = closed_committed script P c (is_due force r) commits r p

pub closed_round : (script : Script) (P : Run → Type 0) → Closed script P → (service : Service) (r : Run) → P r → P (round script service r)
closed_round script P c service r p =
    let t = tried_first script (length script.actors) r in
    let u = loaded script.start service.gives t in
    closed_flush script P c false service.commits u
    (closed_next script P c (next_key t.state.loads.keys) script.start service.gives t (closed_first script P c (length script.actors) r (omega arith) p))

pub closed_rounds : (script : Script) (P : Run → Type 0) → Closed script P → (hosts : List (List ℕ)) (services : List Service)
    → P (begin script (stored_keys (rules_of script hosts))) → P (rounds script hosts services)
closed_rounds script P c hosts [] p = p
closed_rounds script P c hosts (service ∷ earlier) p =
    closed_round script P c service (rounds script hosts earlier) (closed_rounds script P c hosts earlier p)
