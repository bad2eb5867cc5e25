-- What is due for an input over a keeper of rows: a status and a text, and what becomes of the keeper. This jar's own rule:
-- docs/DEFINITIONS.md.
use Rattle.std.specs.Prelude.{◌≡◌, ◌⊎◌, ℕ, zero, suc, List, [], Ok, Err}
use Rattle.std.specs.List.Sorted.{IsStrictlySortedBy}
use Rattle.jar_edge.specs.Faults.{Rose}
use Rattle.jar_types.specs.declared.entry.Entry.{Entry}
use Rattle.jar_types.specs.declared.row.Row.{Row}
use Rattle.jar_types.specs.Ids.{text_cmp}
use Rattle.run_report.specs.declared.item.Item.{Item}
use Rattle.run_report.specs.Reports.{report_text}
use Rattle.script_text.specs.declared.refused.Refusal.TheVariants.{TooLarge}
use Rattle.script_text.specs.declared.refused.Refused.{Refused}
use Rattle.script_text.specs.declared.refused.ScriptRefusal.TheVariants as refusal
use Rattle.script_text.specs.declared.script.Script.{Script}
use Rattle.script_text.specs.Scripts.{ReadsScript}
use Rattle.script_run.specs.declared.status.TheConstants.{DONE, REFUSED, STORE_FAULT}
use Rattle.shared_jar.specs.Faults.{RoseTimes, faults_in}
use Rattle.script_run.specs.Refusals.{at_root, refusal_line, store_fault_line}
use Rattle.script_run.specs.Rounds.{IsHistory}
use Rattle.script_run.specs.Services.{RanOver}

-- what a keeper tells: its rows, whether it was undisturbed so far, and how many of its calls failed
pub record KeeperTold : Type 1 where
  pub tells : List Row → Type 0
  pub undisturbed : Type 0
  pub faults : ℕ

abbrev pub told_of : (List Row → Type 0) → Type 0 → ℕ → KeeperTold
told_of tells undisturbed faults = record { tells = tells; undisturbed = undisturbed; faults = faults }

-- the status of a report by how many faults its journal tells of
abbrev pub status_where : ℕ → ℕ
status_where zero = DONE
status_where (suc n) = STORE_FAULT

abbrev pub status_of : List Entry → ℕ
status_of journal = status_where (faults_in journal)

-- the report of a script: the text of its hosts, its items and its journal, of a history over its hosts; its status; and how
-- often the keeper's count rose. Where the keeper told its rows and didn't fail, it is the report over these rows
pub record IsReport (old new : KeeperTold) (script : Script) (journal : List Entry) (status : ℕ) (text : List ℕ) : Type 0 where
  pub hosts : List (List ℕ)
  pub items : List (List Item)
  pub ascend : IsStrictlySortedBy text_cmp hosts
  pub history : IsHistory script hosts items journal
  pub written : text ≡ report_text hosts items journal
  pub status_is : status ≡ status_of journal
  pub count : RoseTimes (faults_in journal) old.faults new.faults
  pub over : new.undisturbed → (rows : List Row) → old.tells rows → faults_in journal ≡ 0 → RanOver script rows new.tells hosts items journal

-- the line of a keeper that failed at its hosts
pub record IsStoreFault (status : ℕ) (text : List ℕ) : Type 0 where
  pub status_is : status ≡ STORE_FAULT
  pub line : text ≡ store_fault_line

-- the keeper failed at its hosts, and nothing was run
pub record IsUnserved (old new : KeeperTold) (journal : List Entry) (status : ℕ) (text : List ℕ) : Type 0 where
  pub none : journal ≡ []
  pub line : IsStoreFault status text
  pub count : Rose old.faults new.faults

-- what is due for a script
abbrev pub IsRun : KeeperTold → KeeperTold → Script → List Entry → ℕ → List ℕ → Type 0
IsRun old new script journal status text = IsReport old new script journal status text ⊎ IsUnserved old new journal status text

-- the line of a refusal: nothing was run
pub record IsRefusal (refused : Refused) (journal : List Entry) (status : ℕ) (text : List ℕ) : Type 0 where
  pub none : journal ≡ []
  pub status_is : status ≡ REFUSED
  pub line : text ≡ refusal_line refused

-- the line of an input that is too large
abbrev pub IsTooLarge : List Entry → ℕ → List ℕ → Type 0
IsTooLarge journal status text = IsRefusal (at_root TooLarge) journal status text

-- the keeper wasn't called
pub record Uncalled (old new : KeeperTold) : Type 0 where
  pub tells : (rows : List Row) → old.tells rows → new.tells rows
  pub undisturbed : old.undisturbed → new.undisturbed
  pub faults : new.faults ≡ old.faults

-- a refusal, for which the keeper wasn't called
pub record RefusesUncalled (old new : KeeperTold) (refused : Refused) (journal : List Entry) (status : ℕ) (text : List ℕ) : Type 0 where
  pub uncalled : Uncalled old new
  pub refuses : IsRefusal refused journal status text

-- what is due for bytes: what is for the script that they are, or the line of their refusal
abbrev pub IsDue : KeeperTold → KeeperTold → List ℕ → List Entry → ℕ → List ℕ → Type 0
IsDue old new bytes journal status text =
    ((script : Script) × ReadsScript bytes (Ok script) × IsRun old new script journal status text)
    ⊎ ((refused : Refused) × ReadsScript bytes (Err (refusal.Refused refused)) × RefusesUncalled old new refused journal status text)
