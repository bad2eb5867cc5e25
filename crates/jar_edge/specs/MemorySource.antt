-- What contracts see of a source in memory. Its reads are numbered from 1; the number stands still
-- at the last value of a u64. This jar's own rule: docs/DEFINITIONS.md.
use Rattle.std.specs.Prelude.{ℕ, min, Bool, Some, List, ◌++◌, length, take, drop, Contains}
use Rattle.jar_edge.specs.Faults.{one_more}
use Rattle.jar_edge.specs.Told.{SourceTold, finds_end}

-- the bytes left, those that reads gave, whether the last read that succeeded found the end, the
-- most that a read gives, the numbers of the reads that fail, and how many were made and failed
pub record MemoryInput : Type 0 where
  pub left : List ℕ
  pub given : List ℕ
  pub ended : Bool
  pub piece : ℕ
  pub failing : List ℕ
  pub calls : ℕ
  pub faults : ℕ

-- what the source tells
abbrev pub source_told : MemoryInput → SourceTold
source_told source = record {
  given = source.given;
  ended = source.ended;
  faults = source.faults;
  left = Some source.left;
}

-- the next read fails, by its number
abbrev pub IsReadFailing : MemoryInput → Type 0
IsReadFailing source = Contains source.failing (one_more source.calls)

-- how many bytes a read into a buffer of this length gives
abbrev pub given_count : MemoryInput → ℕ → ℕ
given_count source buffer_length = min buffer_length (min source.piece (length source.left))

-- the source after a read that gave n bytes to a buffer of this length
abbrev pub after_read : MemoryInput → ℕ → ℕ → MemoryInput
after_read source n buffer_length = record source {
  left = drop n source.left;
  given = source.given ++ take n source.left;
  ended = finds_end n buffer_length;
  calls = one_more source.calls;
}

-- the source after a read that failed
abbrev pub after_read_fault : MemoryInput → MemoryInput
after_read_fault source = record source { calls = one_more source.calls; faults = one_more source.faults }
