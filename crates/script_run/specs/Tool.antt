-- What the program does for its words: the statuses, and what is written under each. This jar's own
-- rule: docs/DEFINITIONS.md.
use Rattle.std.specs.Prelude.{◌≡◌, ◌⊎◌, ◌+◌, ◌≤◌, ℕ, List, length, codes}
use Rattle.jar_edge.specs.Faults.{Rose}
use Rattle.jar_edge.specs.Streams.{GivesToEnd, GivesSome, TakesJust, TakesPart}
use Rattle.jar_edge.specs.Told.{SourceTold, SinkTold}
use Rattle.script_run.specs.declared.status.TheConstants.{NO_MEMORY, READ_FAULT, WRITE_FAULT}
use Rattle.script_run.specs.declared.tool.Failure.{Failure}
use Rattle.script_run.specs.declared.tool.Failure.TheVariants.{ReadFault, NoMemory}
use Rattle.script_run.specs.declared.tool.TheConstants.{MOST_INPUT}
use Rattle.script_run.specs.Answers.{KeeperTold, IsTooLarge, IsDue, Uncalled}
use Rattle.jar_types.specs.declared.entry.Entry.{Entry}

-- what is written for other words
abbrev pub usage_text : List ℕ
usage_text = codes "usage: cookiejar run|serial [--store FILE] | check | sample N\n"

-- the sink took just the text, under its status, or some first bytes of it and not all, under that
-- of a write fault; its count rose just then
abbrev pub Writes : ℕ → List ℕ → ℕ → SinkTold → SinkTold → Type 0
Writes due text status old new =
    ((status ≡ due) × TakesJust old new text × (new.faults ≡ old.faults))
    ⊎ ((status ≡ WRITE_FAULT) × TakesPart old new text × Rose old.faults new.faults)

-- the source gave just one byte too many, or just these bytes to their end, without a fault, and
-- this is due for them
abbrev pub IsDueFor : KeeperTold → KeeperTold → SourceTold → SourceTold → List Entry → ℕ → List ℕ → Type 0
IsDueFor before then old new journal status text = (new.faults ≡ old.faults) × (
    (GivesSome old new (λ n. n ≡ MOST_INPUT + 1) × Uncalled before then × IsTooLarge journal status text)
    ⊎ ((bytes : List ℕ) × GivesToEnd old new bytes × (length bytes ≤ MOST_INPUT)
    × IsDue before then bytes journal status text))

-- there is no answer: a read failed, with no byte too many, or memory was wanting, with one at most
abbrev pub Fails : SourceTold → SourceTold → Failure → Type 0
Fails old new ReadFault = GivesSome old new (λ n. n ≤ MOST_INPUT) × Rose old.faults new.faults
Fails old new NoMemory = GivesSome old new (λ n. n ≤ MOST_INPUT + 1) × (new.faults ≡ old.faults)

-- the status where there is none
abbrev pub failure_status : Failure → ℕ
failure_status ReadFault = READ_FAULT
failure_status NoMemory = NO_MEMORY

-- what the source and the sink of the program tell
pub record StreamsTold : Type 0 where
  pub source : SourceTold
  pub sink : SinkTold

-- an input was read without a fault, and what is due for it was written
pub record Answers (before then : KeeperTold) (old new : StreamsTold) (journal : List Entry) (status : ℕ) : Type 0 where
  pub due_status : ℕ
  pub text : List ℕ
  pub due : IsDueFor before then old.source new.source journal due_status text
  pub writes : Writes due_status text status old.sink new.sink
