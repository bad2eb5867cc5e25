-- What a stream tells, and how a call changes it. Each stream tells its history; what lies on its
-- other side it tells where it knows that. This jar's own rule: docs/DEFINITIONS.md.
use Rattle.std.specs.Prelude.{◌≡◌, ℕ, min, nat_lt, Bool, List, ◌++◌, length, take}
use Rattle.std.specs.Prelude.{Option, Result, MatchResult}
use Rattle.std.specs.Io.KnownBytes.{ReadConsumes, WriteAppends}

-- all bytes that the reads of a source gave, whether the last read that succeeded found the end,
-- how many failed, and the bytes that are left, where these are known
pub record SourceTold : Type 0 where
  pub given : List ℕ
  pub ended : Bool
  pub faults : ℕ
  pub left : Option (List ℕ)

-- all bytes that the writes of a sink took, how many were faults, and the bytes that it holds,
-- where these are known
pub record SinkTold : Type 0 where
  pub taken : List ℕ
  pub faults : ℕ
  pub written : Option (List ℕ)

-- a read that gave n bytes found the end: it gave nothing, and there was room in its buffer
abbrev pub finds_end : ℕ → ℕ → Bool
finds_end n room = nat_lt n (min 1 room)

-- a read gave the first n bytes of its buffer at `Ok(n)`, and nothing at `Err`
abbrev pub Gives : {E : Type 0} → SourceTold → SourceTold → Result ℕ E → List ℕ → Type 0
Gives old new result buffer = ReadConsumes old.left new.left result buffer × MatchResult result
    (λ n. (new.given ≡ old.given ++ take n buffer) × (new.ended ≡ finds_end n (length buffer)))
    (λ _. (new.given ≡ old.given) × (new.ended ≡ old.ended))

-- a write took the first n bytes of its piece at `Ok(n)`, and nothing at `Err`
abbrev pub Takes : {E : Type 0} → SinkTold → SinkTold → Result ℕ E → List ℕ → Type 0
Takes old new result piece = WriteAppends old.written new.written result piece × MatchResult result
    (λ n. new.taken ≡ old.taken ++ take n piece)
    (λ _. new.taken ≡ old.taken)
