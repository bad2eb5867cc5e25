-- Whole reads and whole writes, over what a source and a sink tell before and after. This jar's own
-- rule: docs/DEFINITIONS.md.
use Rattle.std.specs.Prelude.{◌≡◌, ℕ, ◌+◌, ◌<◌, ◌≤◌, true, List, ◌++◌, length, take, Result, Ok, Err}
use Rattle.std.specs.Io.KnownBytes.{Appends, Consumes, IsAtEnd}
use Rattle.jar_edge.specs.Faults.{Rose}
use Rattle.jar_edge.specs.Told.{SourceTold, SinkTold}
use Rattle.jar_edge.specs.declared.refusal.ReadRefusal.{ReadRefusal}
use Rattle.jar_edge.specs.declared.refusal.ReadRefusal.TheVariants.{ReadFault, TooLarge, NoMemory}

-- reads gave just these bytes
abbrev pub GivesJust : SourceTold → SourceTold → List ℕ → Type 0
GivesJust old new bytes = (new.given ≡ old.given ++ bytes) × Consumes old.left new.left bytes

-- reads gave just these bytes, and the last one found the end behind them
abbrev pub GivesToEnd : SourceTold → SourceTold → List ℕ → Type 0
GivesToEnd old new bytes = GivesJust old new bytes × (new.ended ≡ true) × IsAtEnd new.left

-- reads gave just some bytes, as many as the fact on their number says
abbrev pub GivesSome : SourceTold → SourceTold → (ℕ → Type 0) → Type 0
GivesSome old new IsNumber = (bytes : List ℕ) × GivesJust old new bytes × IsNumber (length bytes)

-- how many bytes reads gave to a whole read that is refused: one past the limit is too much, and
-- else they are within it
abbrev pub GivesAtRefusal : SourceTold → SourceTold → ℕ → ReadRefusal → Type 0
GivesAtRefusal old new limit ReadFault = GivesSome old new (λ n. n ≤ limit)
GivesAtRefusal old new limit TooLarge = GivesSome old new (λ n. n ≡ limit + 1)
GivesAtRefusal old new limit NoMemory = GivesSome old new (λ n. n ≤ limit)

-- the count of faults rose exactly where the whole read is refused as a fault
abbrev pub CountsReadFault : {T : Type 0} → ℕ → ℕ → Result T ReadRefusal → Type 0
CountsReadFault before now (Ok bytes) = now ≡ before
CountsReadFault before now (Err ReadFault) = Rose before now
CountsReadFault before now (Err TooLarge) = now ≡ before
CountsReadFault before now (Err NoMemory) = now ≡ before

-- writes took just these bytes
abbrev pub TakesJust : SinkTold → SinkTold → List ℕ → Type 0
TakesJust old new bytes = (new.taken ≡ old.taken ++ bytes) × Appends old.written new.written bytes

-- writes took just some first bytes of these, and not all
abbrev pub TakesPart : SinkTold → SinkTold → List ℕ → Type 0
TakesPart old new bytes = (n : ℕ) × (n < length bytes) × TakesJust old new (take n bytes)
