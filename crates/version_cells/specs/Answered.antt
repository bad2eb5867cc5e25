-- Answered calls: what a front of a pass ends with, what always holds of a pass, and when one more
-- of its calls is answered.
-- This jar's own rule: docs/DEFINITIONS.md.
use Rattle.std.specs.Prelude.{◌≡◌, ◌≤◌, ◌+◌, ◌-◌, ◌^◌, ◌⊎◌, ℕ, List, [], length, min, take, Some}
use Rattle.version_cells.specs.declared.listing.Listing.{Listing}
use Rattle.version_cells.specs.declared.view.Kind.TheVariants.{Pass}
use Rattle.version_cells.specs.declared.view.View.{View}
use Rattle.version_cells.specs.Listings.{owner_of, owned, EndsWith}
use Rattle.version_cells.specs.Standing.{PassStanding}

-- a history ends with an entry that the pass n owns
abbrev pub EndsWithOwn : ℕ → List Listing → Type 0
EndsWithOwn n log = (e : Listing) × EndsWith log e × (owner_of e ≡ Some n)

-- a front of the pass n is empty, or ends with an entry that the pass owns
abbrev pub IsFront : ℕ → List Listing → Type 0
IsFront n front = (front ≡ []) ⊎ EndsWithOwn n front

-- What always holds of a pass with this view and these numbers of its own
pub record PassHolds (v : View) (caller looks seen front : ℕ) : Type 0 where
  pub is_pass : v.kind ≡ Pass
  pub numbered : v.number ≡ caller
  pub has_looked : looks ≡ min (length v.looks) (2 ^ 64 - 1)
  pub has_seen : seen ≡ length v.own.seen
  pub within : front ≤ seen
  pub is_front : IsFront caller (take front v.own.seen)

-- A call is to be answered: what the pass has seen ends with an entry that it owns, and has one of
-- these more than its front
abbrev pub MayAnswer : PassStanding → Type 0
MayAnswer p = EndsWithOwn p.view.number p.view.own.seen
    × (owned p.view.number p.view.own.seen ≡ owned p.view.number p.front + 1)
