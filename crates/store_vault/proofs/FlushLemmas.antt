-- What is kept once a batch was committed.
use Rattle.std.proofs.Common.{◌≡◌, List, [], ◌∷◌}
use Rattle.std.specs.List.Sorted.{IsStrictlySortedBy}
use Rattle.commit_batches.specs.Waiting.{ChangesRise}
use Rattle.jar_types.specs.declared.row.RowChange.{RowChange}

-- no changes rise
pub none_rise : (changes : List RowChange) → changes ≡ [] → ChangesRise changes
unfolding IsStrictlySortedBy
none_rise [] none = tt
none_rise (change ∷ changes) none = absurd cc
