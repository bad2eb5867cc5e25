-- Which history of the words a jar's events have: a listing each, in their order, with the cells of the bound keys that the
-- event moves, its owner, and its entry. This jar's own rule: docs/DEFINITIONS.md.
--
-- That no public clause cites: what binds keys and commits entries together, the jar under its lock, is to come.
use Rattle.std.specs.Prelude.{◌≡◌, ℕ, List, [], ◌∷◌, filter_map, Option, None, Some}
use Rattle.jar_types.specs.declared.bound_key.BoundKey.{BoundKey}
use Rattle.jar_types.specs.declared.change.Change.{Change}
use Rattle.jar_types.specs.declared.entry.Event.{Event}
use Rattle.jar_types.specs.declared.entry.Event.TheVariants.{Call as CallEvent, Jar as JarEvent}
use Rattle.jar_types.specs.declared.entry.Own.{Own}
use Rattle.jar_types.specs.declared.entry.Own.TheVariants.{Want, WantAll, Begun, Loaded, Lost, Whole, Taken, Acked, CommitLost}
use Rattle.jar_types.specs.Bound.{cell_of}
use Rattle.jar_types.specs.Changes.{moved_keys}
use Rattle.jar_types.specs.States.{JarState}
use Rattle.jar_types.specs.Steps.{after, changes_at, entry_of}
use Rattle.version_cells.specs.declared.listing.Listing.{Listing}

-- the cells of the bound keys that changes move
abbrev pub cells_moved : List BoundKey → List Change → List ℕ
cells_moved bound changes = filter_map (λ key. cell_of key bound) (moved_keys changes)

-- the pass that owns what the jar does itself: the cutter's, but nobody's for a want, which a caller's call notes
abbrev pub owner_of_own : ℕ → Own → Option ℕ
owner_of_own cutter (Want key) = None
owner_of_own cutter WantAll = None
owner_of_own cutter (Begun key) = Some cutter
owner_of_own cutter (Loaded key cookies) = Some cutter
owner_of_own cutter (Lost key) = Some cutter
owner_of_own cutter (Whole now) = Some cutter
owner_of_own cutter Taken = Some cutter
owner_of_own cutter (Acked place) = Some cutter
owner_of_own cutter (CommitLost place) = Some cutter

-- the pass that owns the entry of an event: that of its caller, or the owner of what the jar does itself
abbrev pub owner_at : ℕ → Event → Option ℕ
owner_at cutter (CallEvent caller now op) = Some caller
owner_at cutter (JarEvent own) = owner_of_own cutter own

-- the listing is that of an event at a state
pub record IsListingOf (cutter : ℕ) (s : JarState) (v : Event) (l : Listing) : Type 0 where
  pub cells : l.cells ≡ cells_moved s.bound (changes_at s v)
  pub owner : l.owner ≡ owner_at cutter v
  pub about : l.about ≡ entry_of s v

-- the history lists just these events, from a state on
abbrev pub Lists : ℕ → JarState → List Event → List Listing → Type 0
Lists cutter s [] [] = Unit {0}
Lists cutter s [] (l ∷ ls) = ⊥
Lists cutter s (v ∷ vs) [] = ⊥
Lists cutter s (v ∷ vs) (l ∷ ls) = IsListingOf cutter s v l × Lists cutter (after s v) vs ls
