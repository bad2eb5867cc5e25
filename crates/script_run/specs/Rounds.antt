-- The rounds of a script's run over a keeper of rows: each actor in order tries its next step, then one key is loaded or the
-- jar becomes whole, then changed rows are committed where enough wait. This jar's own rule: docs/DEFINITIONS.md.
use Rattle.std.specs.Prelude.{ℕ, zero, suc, ◌≡◌, List, [], ◌∷◌, length, nat_le, Bool, true, false, ◌&&◌, ◌||◌, Option, None, Some}
use Rattle.std.specs.List.{AllByRecursion}
use Rattle.jar_types.specs.declared.cookie.Cookie.{Cookie}
use Rattle.jar_types.specs.declared.entry.Own.{Own}
use Rattle.jar_types.specs.declared.entry.Own.TheVariants.{Begun, Loaded, Lost, Whole, Taken, Acked, CommitLost}
use Rattle.jar_types.specs.declared.entry.Event.TheVariants.{Jar as JarEvent}
use Rattle.jar_types.specs.declared.entry.Entry.{Entry}
use Rattle.jar_types.specs.declared.row.Row.{Row}
use Rattle.jar_types.specs.Journals.{Rules, own_fits, stored_keys}
use Rattle.jar_types.specs.Loads.{next_key}
use Rattle.jar_types.specs.RowChanges.{changed_rows, newest_over}
use Rattle.jar_types.specs.Steps.{own_may_stand}
use Rattle.jar_types.specs.Stored.{hosts_of}
use Rattle.commit_batches.specs.declared.pending.TheConstants.{MOST_PENDING}
use Rattle.public_suffix.specs.Suffix.{key_of}
use Rattle.run_report.specs.declared.item.Item.{Item}
use Rattle.script_text.specs.declared.script.Script.{Script}
use Rattle.stored_law.specs.HostLoads.{cookies_of_hosts, hosts_of_key}
use Rattle.script_run.specs.Runs.{Run, begin, did_if_may, happened, is_done, tried_first}

-- the rules of a script's run over the hosts of stored rows: its actors are the callers, who may make as many entries as its
-- limit says, it starts at its start, and keys are by its suffix rules
abbrev pub rules_of : Script → List (List ℕ) → Rules
rules_of script hosts = record {
  hosts = hosts;
  callers = length script.actors;
  limit = script.limit;
  start = script.start;
  key_of = key_of script.suffixes;
}

-- ---- what the keeper does in a round

-- the cookies that the load of each key gives, none where it fails
abbrev pub Giving : Type 0
Giving = List ℕ → Option (List Cookie)

-- each load gives what it may: stored cookies of its key, in the order of their ids
abbrev pub IsFitting : Rules → Giving → Type 0
IsFitting r gives = (key : List ℕ) (cookies : List Cookie) → gives key ≡ Some cookies → own_fits r (Loaded key cookies) ≡ true

-- what loads give, and whether a commit is carried out
pub record Service : Type 0 where
  pub gives : Giving
  pub commits : Bool

-- ---- a load

-- what the load of a key gave
abbrev pub load_gave : List ℕ → Option (List Cookie) → Own
load_gave key (Some cookies) = Loaded key cookies
load_gave key None = Lost key

-- a key is loaded so, whose load begins where it hasn't yet
abbrev pub loaded_key : List ℕ → Option (List Cookie) → Run → Run
loaded_key key answer r = happened (did_if_may r (Begun key)) (JarEvent (load_gave key answer))

-- a key is loaded; else the jar becomes whole, where it may
abbrev pub loaded_next : Option (List ℕ) → ℕ → Giving → Run → Run
loaded_next (Some key) start gives r = loaded_key key (gives key) r
loaded_next None start gives r = did_if_may r (Whole start)

abbrev pub loaded : ℕ → Giving → Run → Run
loaded start gives r = loaded_next (next_key r.state.loads.keys) start gives r

-- ---- a commit

-- the changed rows were taken as a batch, with those that were taken before and aren't committed
abbrev pub taken : Run → Run
taken r = let t = happened r (JarEvent Taken) in record t { kept = newest_over t.kept t.pending; pending = [] }

-- the batch taken at a place was committed, or it wasn't and its changes are kept
abbrev pub ended : Bool → ℕ → Run → Run
ended true place r = record (happened r (JarEvent (Acked place))) { kept = [] }
ended false place r = happened r (JarEvent (CommitLost place))

-- a batch was taken, and then committed or not
abbrev pub committed : Bool → Run → Run
committed commits r = let t = taken r in ended commits (length t.journal) t

abbrev pub committed_where : Bool → Bool → Run → Run
committed_where true commits r = committed commits r
committed_where false commits r = r

-- whether a batch is due: with force where a row changed or the last batch was lost, and else where enough rows changed too
abbrev pub is_due : Bool → Run → Bool
is_due force r = own_may_stand r.state Taken && (force || nat_le MOST_PENDING (length r.state.batches.touched))

-- changed rows were committed, where a batch was due
abbrev pub flushed : Bool → Bool → Run → Run
flushed force commits r = committed_where (is_due force r) commits r

-- ---- rounds

-- one round
abbrev pub round : Script → Service → Run → Run
round script service r =
    flushed false service.commits (loaded script.start service.gives (tried_first script (length script.actors) r))

-- the run of a script over hosts after the rounds that the keeper served so, the last of them first
abbrev pub rounds : Script → List (List ℕ) → List Service → Run
rounds script hosts [] = begin script (stored_keys (rules_of script hosts))
rounds script hosts (service ∷ earlier) = round script service (rounds script hosts earlier)

-- after each of these rounds, the last of them first, a step is left
abbrev pub GoOn : Script → List (List ℕ) → List Service → Type 0
GoOn script hosts [] = Unit {0}
GoOn script hosts (service ∷ earlier) =
    (is_done script (rounds script hosts (service ∷ earlier)) ≡ false) × GoOn script hosts earlier

-- the run ends like this: after the first round behind which no step is left, and no earlier, what changed is committed
pub record Ends (script : Script) (hosts : List (List ℕ)) (r : Run) : Type 0 where
  pub last : Service
  pub earlier : List Service
  pub commits : Bool
  pub fitting : AllByRecursion (λ service. IsFitting (rules_of script hosts) service.gives) (last ∷ earlier)
  pub is : r ≡ flushed true commits (rounds script hosts (last ∷ earlier))
  pub done : is_done script (rounds script hosts (last ∷ earlier)) ≡ true
  pub first : GoOn script hosts earlier

-- the items and the journal of a script over hosts
pub record IsHistory (script : Script) (hosts : List (List ℕ)) (items : List (List Item)) (journal : List Entry) : Type 0 where
  pub run : Run
  pub ends : Ends script hosts run
  pub items_are : items ≡ run.items
  pub journal_is : journal ≡ run.journal

-- ---- over a keeper that holds rows and never fails

-- a run, and the rows that the keeper holds
pub record Over : Type 0 where
  pub run : Run
  pub held : List Row

-- a load gives the cookies of the key's hosts, host after host, of those hosts that the jar was opened over
abbrev pub gives_of : Rules → List Row → Giving
gives_of r held = λ key. Some (cookies_of_hosts r held (hosts_of_key r key r.hosts))

-- the rows that the keeper holds after a commit
abbrev pub held_where : Bool → Run → List Row → List Row
held_where true r held = changed_rows held (newest_over r.kept r.pending)
held_where false r held = held

-- changed rows were committed, where a batch was due
abbrev pub flushed_over : Bool → Over → Over
flushed_over force o = record {
  run = flushed force true o.run;
  held = held_where (is_due force o.run) o.run o.held;
}

-- the round up to its commit
abbrev pub loaded_over : Script → Rules → Over → Run
loaded_over script r o = loaded script.start (gives_of r o.held) (tried_first script (length script.actors) o.run)

-- one round
abbrev pub round_over : Script → Rules → Over → Over
round_over script r o = flushed_over false (record { run = loaded_over script r o; held = o.held })

-- so many rounds of a script over these rows
abbrev pub rounds_over : Script → List Row → ℕ → Over
rounds_over script rows zero = record {
  run = begin script (stored_keys (rules_of script (hosts_of rows)));
  held = rows;
}
rounds_over script rows (suc n) = round_over script (rules_of script (hosts_of rows)) (rounds_over script rows n)

-- after each of so many rounds a step is left
abbrev pub GoOnOver : Script → List Row → ℕ → Type 0
GoOnOver script rows zero = Unit {0}
GoOnOver script rows (suc n) = (is_done script (rounds_over script rows (suc n)).run ≡ false) × GoOnOver script rows n

-- the run ends like this, and the keeper holds these rows then
pub record EndsOver (script : Script) (rows : List Row) (o : Over) : Type 0 where
  pub earlier : ℕ
  pub is : o ≡ flushed_over true (rounds_over script rows (suc earlier))
  pub done : is_done script (rounds_over script rows (suc earlier)).run ≡ true
  pub first : GoOnOver script rows earlier

-- the items and the journal of a script over these rows, and the rows that are held at its end
pub record IsHistoryOver (script : Script) (rows : List Row) (items : List (List Item)) (journal : List Entry) (held : List Row) : Type 0 where
  pub end : Over
  pub ends : EndsOver script rows end
  pub items_are : items ≡ end.run.items
  pub journal_is : journal ≡ end.run.journal
  pub held_are : held ≡ end.held
