-- How a keeper serves a run: what a load, a commit and a round make of the run, whatever the keeper is. This jar's own
-- rule: docs/DEFINITIONS.md.
use Rattle.std.specs.Prelude.{◌≡◌, ℕ, List, [], Bool}
use Rattle.jar_edge.specs.Faults.{Rose}
use Rattle.jar_types.specs.declared.entry.Entry.{Entry}
use Rattle.jar_types.specs.declared.row.Row.{Row}
use Rattle.jar_types.specs.Journals.{Rules}
use Rattle.jar_types.specs.Stored.{hosts_of, sound_rows, stored_rows}
use Rattle.eager_law.specs.Laws.{IsAsEager}
use Rattle.run_report.specs.declared.item.Item.{Item}
use Rattle.script_text.specs.declared.script.Script.{Script}
use Rattle.shared_jar.specs.declared.opening.BeginRefusal.{BeginRefusal}
use Rattle.shared_jar.specs.declared.opening.BeginRefusal.TheVariants as begin
use Rattle.script_run.specs.declared.rounds.RunRefusal.{RunRefusal}
use Rattle.script_run.specs.declared.rounds.RunRefusal.TheVariants.{StoreFault, NoMemory}
use Rattle.script_run.specs.Rounds.{EndsOver, Giving, IsFitting, IsHistoryOver, Service, flushed, loaded, round, round_over, rules_of}
use Rattle.script_run.specs.Runs.{Run}

-- ---- a load

-- a key was loaded, or the jar became whole, by loads that give what they may
pub record LoadedBy (r : Rules) (start : ℕ) (old new : Run) : Type 0 where
  pub gives : Giving
  pub fits : IsFitting r gives
  pub is : new ≡ loaded start gives old

-- ---- a commit

-- changed rows were committed, where a batch was due, or it was lost
pub record FlushedBy (force : Bool) (old new : Run) : Type 0 where
  pub commits : Bool
  pub is : new ≡ flushed force commits old

-- ---- a round

-- a round was made
pub record RoundBy (script : Script) (hosts : List (List ℕ)) (old new : Run) : Type 0 where
  pub service : Service
  pub fits : IsFitting (rules_of script hosts) service.gives
  pub is : new ≡ round script service old

-- a round was made over a keeper that holds rows, and tells what it holds then
pub record RoundOver (script : Script) (hosts : List (List ℕ)) (tells : List Row → Type 0) (held : List Row) (old new : Run) : Type 0 where
  pub later : List Row
  pub told : tells later
  pub is : record { run = new; held = later } ≡ round_over script (rules_of script hosts) (record { run = old; held = held })

-- ---- the end

-- the run ends over a keeper that held rows and never failed, and that tells what it holds then
pub record EndedOver (script : Script) (rows : List Row) (tells : List Row → Type 0) (r : Run) : Type 0 where
  pub held : List Row
  pub told : tells held
  pub ends : EndsOver script rows (record { run = r; held = held })

-- items and journal are those of a run over these rows, and the keeper tells what it holds then: among its sound rows just
-- those that are to be stored after the journal, in which loading a key at a time changed no answer
pub record PlayedOver (script : Script) (rows : List Row) (tells : List Row → Type 0) (items : List (List Item)) (journal : List Entry) : Type 0 where
  pub held : List Row
  pub told : tells held
  pub history : IsHistoryOver script rows items journal held
  pub kept : sound_rows held ≡ stored_rows (rules_of script (hosts_of rows)) rows journal
  pub eager : IsAsEager (rules_of script (hosts_of rows)) rows journal

-- and the hosts are those of the rows
pub record RanOver (script : Script) (rows : List Row) (tells : List Row → Type 0) (hosts : List (List ℕ)) (items : List (List Item)) (journal : List Entry) : Type 0 where
  pub hosts_are : hosts ≡ hosts_of rows
  pub played : PlayedOver script rows tells items journal

-- why a script has no report, by why its jar wasn't opened
abbrev pub refusal_of : BeginRefusal → RunRefusal
refusal_of begin.StoreFault = StoreFault
refusal_of begin.NoMemory = NoMemory

-- why a script has no report: the keeper's count rose at its hosts, and nothing was run; or memory was wanting
abbrev pub FailsRun : RunRefusal → List Entry → ℕ → ℕ → Type 0
FailsRun StoreFault journal before now = (journal ≡ []) × Rose before now
FailsRun NoMemory journal before now = Unit {0}
