-- What the jar does itself: which of it takes a batch, and which takes no memory. This jar's own rule: docs/DEFINITIONS.md.
use Rattle.std.specs.Prelude.{Bool, true, false, ◌&&◌, ◌||◌, length, nat_le}
use Rattle.jar_types.specs.declared.entry.Own.{Own}
use Rattle.jar_types.specs.declared.entry.Own.TheVariants.{Want, WantAll, Begun, Loaded, Lost, Whole, Taken, Acked, CommitLost}
use Rattle.jar_types.specs.States.{JarState}
use Rattle.jar_types.specs.Steps.{own_may_stand}
use Rattle.commit_batches.specs.declared.pending.TheConstants.{MOST_PENDING}

-- a batch is taken
abbrev pub is_taking : Own → Bool
is_taking (Want key) = false
is_taking WantAll = false
is_taking (Begun key) = false
is_taking (Loaded key cookies) = false
is_taking (Lost key) = false
is_taking (Whole now) = false
is_taking Taken = true
is_taking (Acked place) = false
is_taking (CommitLost place) = false

-- a batch has ended: it was committed, or it was lost
abbrev pub is_ending : Own → Bool
is_ending (Want key) = false
is_ending WantAll = false
is_ending (Begun key) = false
is_ending (Loaded key cookies) = false
is_ending (Lost key) = false
is_ending (Whole now) = false
is_ending Taken = false
is_ending (Acked place) = true
is_ending (CommitLost place) = true

-- whether a batch is due: with force where a row changed or the last batch was lost, and else where enough rows changed too
abbrev pub is_batch_due : Bool → JarState → Bool
is_batch_due force s = own_may_stand s Taken && (force || nat_le MOST_PENDING (length s.batches.touched))
