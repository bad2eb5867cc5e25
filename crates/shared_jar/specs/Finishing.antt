-- The passes of a jar that is closed. This jar's own rule: docs/DEFINITIONS.md.
use Rattle.std.specs.Prelude.{◌≡◌, List, [], ◌∷◌}
use Rattle.version_cells.specs.declared.listing.Listing.{Listing}
use Rattle.version_cells.specs.Listings.{StartsWith, owned}
use Rattle.version_cells.specs.Standing.{PassStanding}

-- A pass, when it was handed in and when the jar is closed: its caller, its front, its calls, its looks and its last look
-- are as they were; its front begins the history, in which the entries of its own number its calls
pub record IsFinished (history : List Listing) (old new : PassStanding) : Type 0 where
  pub number : new.view.number ≡ old.view.number
  pub front : new.front ≡ old.front
  pub calls : new.view.calls ≡ old.view.calls
  pub looks : new.view.looks ≡ old.view.looks
  pub last : new.view.own.last ≡ old.view.own.last
  pub begins : StartsWith history new.front
  pub owns : owned new.view.number history ≡ new.view.calls

-- pass by pass
abbrev pub AreFinished : List Listing → List PassStanding → List PassStanding → Type 0
AreFinished history [] [] = Unit {0}
AreFinished history [] (q ∷ qs) = ⊥
AreFinished history (p ∷ ps) [] = ⊥
AreFinished history (p ∷ ps) (q ∷ qs) = IsFinished history p q × AreFinished history ps qs
