-- Cells that are made pending for one entry. This jar's own rule: docs/DEFINITIONS.md.
use Rattle.std.specs.Prelude.{◌≡◌, ℕ, List, [], ◌∷◌, take}
use Rattle.version_cells.specs.Listings.{IsCell, has}
use Rattle.version_cells.specs.Standing.{BatonStanding, baton_with_view}

-- each of these is a cell
abbrev pub AreCells : List ℕ → Type 0
AreCells [] = Unit {0}
AreCells (c ∷ cs) = IsCell c × AreCells cs

-- the baton with these pending cells
abbrev pub with_pending : BatonStanding → List ℕ → BatonStanding
with_pending s pending = baton_with_view s (record s.view { pending = pending })

-- just the first n of these cells are pending, and nothing else of the baton is new
pub record HasBumped (old : BatonStanding) (moved : List ℕ) (n : ℕ) (new : BatonStanding) : Type 0 where
  pub same : new ≡ with_pending old new.view.pending
  pub pending : (c : ℕ) → has c new.view.pending ≡ has c (take n moved)
