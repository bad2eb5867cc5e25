-- Which histories the jar under its lock can have: legal journals, each entry with its cells and its owner. This jar's own
-- rule: docs/DEFINITIONS.md.
use Rattle.std.specs.Prelude.{◌≡◌, ℕ, List, [], ◌∷◌, ◌++◌, true}
use Rattle.std.specs.Coded.{×_prop}
use Rattle.std.specs.List.Sorted.{IsStrictlySortedBy}
use Rattle.std.proofs.Props.{props}
use Rattle.jar_types.specs.declared.entry.Event.{Event}
use Rattle.jar_types.specs.Ids.{text_cmp}
use Rattle.jar_types.specs.Journals.{Rules, IsLegal, events, stands, state_of, stored_keys}
use Rattle.jar_types.specs.States.{JarState, opening}
use Rattle.jar_types.specs.Steps.{after}
use Rattle.version_cells.specs.declared.listing.Listing.{Listing}
use Rattle.version_cells.specs.Lists.{IsListingOf, Lists, owner_at}
use Rattle.locked_jar.specs.LockedJars.{journal_of, listing_at}

-- the journal of a history is legal, and each entry is listed with its cells and its owner, where this pass owns what the
-- jar does itself
pub record IsHistory (r : Rules) (cutter : ℕ) (history : List Listing) : Type 0 where
  pub legal : IsLegal r (journal_of history)
  pub listed : Lists cutter (opening (stored_keys r)) (events (journal_of history)) history

-- no entry is a history
abbrev pub HistoriesBegin : Type 0
HistoriesBegin = (r : Rules) (cutter : ℕ) → IsStrictlySortedBy text_cmp r.hosts → IsHistory r cutter []

-- a history goes on with the listing of an event that may come next, for its owner
abbrev pub HistoriesGoOn : Type 0
HistoriesGoOn =
    (r : Rules) (cutter : ℕ) (history : List Listing) (v : Event) → IsHistory r cutter history
    → stands r (state_of (stored_keys r) (journal_of history)) v ≡ true
    → IsHistory r cutter (history ++ listing_at (owner_at cutter v) (state_of (stored_keys r) (journal_of history)) v ∷ [])

-- ---- that no public clause cites: that these facts have one proof at most

pub IsListingOf-prop : (cutter : ℕ) (s : JarState) (v : Event) (l : Listing) → IsProp (IsListingOf cutter s v l)
IsListingOf-prop cutter s v l = hlevel props

pub Lists-prop : (cutter : ℕ) (s : JarState) (vs : List Event) (ls : List Listing) → IsProp (Lists cutter s vs ls)
Lists-prop cutter s [] [] = hlevel props
Lists-prop cutter s [] (l ∷ ls) = hlevel props
Lists-prop cutter s (v ∷ vs) [] = hlevel props
Lists-prop cutter s (v ∷ vs) (l ∷ ls) = ×_prop (IsListingOf-prop cutter s v l) (Lists-prop cutter (after s v) vs ls)
