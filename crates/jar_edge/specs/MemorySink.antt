-- What contracts see of a sink in memory. Its writes are numbered from 1; the number stands still
-- at the last value of a u64. This jar's own rule: docs/DEFINITIONS.md.
use Rattle.std.specs.Prelude.{◌≡◌, ◌⊎◌, ℕ, ◌-◌, ◌<◌, min, Some, List, ◌++◌, length, Contains}
use Rattle.jar_edge.specs.Faults.{one_more}
use Rattle.jar_edge.specs.Told.{SinkTold}

-- the bytes written, how many more there is room for, the most that a write takes, the numbers of
-- the writes that fail, and how many were made and failed
pub record MemoryOutput : Type 0 where
  pub written : List ℕ
  pub room : ℕ
  pub piece : ℕ
  pub failing : List ℕ
  pub calls : ℕ
  pub faults : ℕ

-- what the sink tells
abbrev pub sink_told : MemoryOutput → SinkTold
sink_told sink = record { taken = sink.written; faults = sink.faults; written = Some sink.written }

-- the next write, of a piece of this length, fails: by its number, or as there is no room for any
-- of it
abbrev pub IsWriteFailing : MemoryOutput → ℕ → Type 0
IsWriteFailing sink piece_length =
    Contains sink.failing (one_more sink.calls) ⊎ ((sink.room ≡ 0) × (0 < piece_length))

-- how many bytes a write takes of a piece of this length
abbrev pub taken_count : MemoryOutput → ℕ → ℕ
taken_count sink piece_length = min piece_length (min sink.piece sink.room)

-- the sink after a write that took these bytes
abbrev pub after_write : MemoryOutput → List ℕ → MemoryOutput
after_write sink bytes = record sink {
  written = sink.written ++ bytes;
  room = sink.room - length bytes;
  calls = one_more sink.calls;
}

-- the sink after a write that failed
abbrev pub after_write_fault : MemoryOutput → MemoryOutput
after_write_fault sink = record sink { calls = one_more sink.calls; faults = one_more sink.faults }
