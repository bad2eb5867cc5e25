-- Counts of faults. A count never falls, and at the last value of a u64 it stands still: there each
-- further fault counts as a rise. This jar's own rule: docs/DEFINITIONS.md.
use Rattle.std.specs.Prelude.{◌≡◌, ◌⊎◌, ℕ, ◌+◌, ◌-◌, ◌^◌, ◌<◌, min, Result, MatchResult}

-- the last value of a u64, at which a count stands still
abbrev pub last_count : ℕ
last_count = 2 ^ 64 - 1

-- one more, up to the last count
abbrev pub one_more : ℕ → ℕ
one_more count = min (count + 1) last_count

-- the count rose: it is one more, or it stood at the last count and stays there
abbrev pub Rose : ℕ → ℕ → Type 0
Rose before now = (now ≡ before + 1) ⊎ ((before ≡ last_count) × (now ≡ last_count))

-- the count rose exactly where the call was refused
abbrev pub CountsRefusal : {T E : Type 0} → ℕ → ℕ → Result T E → Type 0
CountsRefusal before now result = MatchResult result (λ _. now ≡ before) (λ _. Rose before now)

-- after a write took n bytes of a piece of this length: the count rose exactly where it took
-- nothing of something
pub record CountsTaken (before now n piece_length : ℕ) : Type 0 where
  pub moved : 0 < n → now ≡ before
  pub nothing_to_take : piece_length ≡ 0 → now ≡ before
  pub stuck : n ≡ 0 → 0 < piece_length → Rose before now
