-- Counts by caller. This jar's own rule: docs/DEFINITIONS.md.
use Rattle.std.specs.Prelude.{ℕ, ◌+◌, List, [], ◌∷◌, Bool, ◌==◌, if◌then◌else◌}
use Rattle.jar_types.specs.declared.tally.Tally.{Tally}

-- the tally is a caller's
abbrev pub is_of : ℕ → Tally → Bool
is_of caller t = t.caller == caller

-- how often a caller did it: not once where the list doesn't have him
abbrev pub tally_of : ℕ → List Tally → ℕ
tally_of caller [] = 0
tally_of caller (t ∷ ts) = if is_of caller t then t.count else tally_of caller ts

-- the caller did it once more
abbrev pub counted : ℕ → List Tally → List Tally
counted caller [] = record { caller = caller; count = 1 } ∷ []
counted caller (t ∷ ts) =
    if is_of caller t then record t { count = t.count + 1 } ∷ ts else t ∷ counted caller ts
