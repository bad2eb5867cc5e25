-- The rule of the words in six points: what is true of words and views in every world.
-- This jar's own rule: docs/DEFINITIONS.md.
use Rattle.std.specs.Prelude.{◌≡◌, ◌<◌, ◌≤◌, ◌+◌, ℕ, List, [], ◌∷◌, length, take, true, false, Option, Some, None, slice_index}
use Rattle.version_cells.specs.declared.cells.TheConstants.{CELLS, WORDS}
use Rattle.version_cells.specs.declared.listing.Listing.{Listing}
use Rattle.version_cells.specs.declared.view.Look.{Look}
use Rattle.version_cells.specs.declared.view.Memory.{Memory}
use Rattle.version_cells.specs.declared.view.Kind.TheVariants.{Baton, Pass}
use Rattle.version_cells.specs.declared.view.View.{View}
use Rattle.version_cells.specs.Listings.{one, has, IsCell, turns, owned, StartsWith, EndsWith}
use Rattle.version_cells.specs.Views.{At, memories}

-- A last look was of a cell and made at a place within what was seen; it found at least the turns
-- of the cell up to that place, and at most what its word is now
abbrev pub LookFits : List ℕ → List Listing → Option Look → Type 0
LookFits words seen None = Unit {0}
LookFits words seen (Some s) =
    IsCell s.cell × (s.place ≤ length seen) × (turns s.cell (take s.place seen) ≤ s.number)
    × (s.number ≤ slice_index words s.cell)

-- What was seen begins the history, no more was found than stands there, and the last look fits
pub record Fits (words : List ℕ) (log : List Listing) (m : Memory) : Type 0 where
  pub begins : StartsWith log m.seen
  pub found : m.found ≤ length log
  pub look : LookFits words m.seen m.last

-- each of these memories fits
abbrev pub AllFit : List ℕ → List Listing → List Memory → Type 0
AllFit words log [] = Unit {0}
AllFit words log (m ∷ ms) = Fits words log m × AllFit words log ms

-- the view is that of the pass n
abbrev pub IsPassOf : ℕ → View → Type 0
IsPassOf n v = (v.kind ≡ Pass) × (v.number ≡ n)

-- a permit of n with these uses lies at the seat by
abbrev pub Holds : List View → ℕ → ℕ → ℕ → Type 0
Holds views by n uses =
    (v : View) × At views by v × (v.permit ≡ Some (record { number = n; uses = uses }))

-- Where a pass's permit is at home, no view holds it, and its calls are all entries that it owns
abbrev pub AtHome : List View → List Listing → ℕ → ℕ → Type 0
AtHome views log n calls = ((by uses : ℕ) → ¬ (Holds views by n uses)) × (owned n log ≡ calls)

-- Where it is away, just one view holds it, and its uses count beside the calls
abbrev pub Away : List View → List Listing → ℕ → ℕ → Type 0
Away views log n calls =
    (by : ℕ) × (uses : ℕ) × Holds views by n uses
    × ((other more : ℕ) → Holds views other n more → other ≡ by) × (owned n log ≡ calls + uses)

-- a last look is the last of the looks, and there is none where there are none
abbrev pub IsLastOf : List Look → Option Look → Type 0
IsLastOf looks None = looks ≡ []
IsLastOf looks (Some s) = EndsWith looks s

-- the last look of a pass is the last of its looks
abbrev pub RemembersLast : View → Type 0
RemembersLast v = v.kind ≡ Pass → IsLastOf v.looks v.own.last

-- The six points, of the baton's view b, with the history b.own.seen and the cells b.pending:
-- 1 sized and counted, 2 versions, 3 and 4 remembered and last, 5 the next four, 6 the last two
pub record Held (words : List ℕ) (views : List View) (b : View) : Type 0 where
  pub sized : length words ≡ WORDS
  pub counted : slice_index words 0 ≡ length b.own.seen
  pub versions : (c : ℕ) → 0 < c → c ≤ CELLS
      → slice_index words c ≡ turns c b.own.seen + one (has c b.pending)
  pub remembered : (by : ℕ) (v : View) → At views by v → AllFit words b.own.seen (memories v)
  pub last : (by : ℕ) (v : View) → At views by v → RemembersLast v
  pub numbers_differ : (by other n : ℕ) (v w : View) → At views by v → At views other w
      → IsPassOf n v → IsPassOf n w → by ≡ other
  pub numbers_below : (by n : ℕ) (v : View) → At views by v → IsPassOf n v → n < b.next
  pub owners_below : (n : ℕ) → b.next ≤ n → owned n b.own.seen ≡ 0
  pub permits_below : (by n uses : ℕ) → Holds views by n uses → n < b.next
  pub at_home : (by n : ℕ) (v : View) → At views by v → IsPassOf n v → v.away ≡ false
      → AtHome views b.own.seen n v.calls
  pub away : (by n : ℕ) (v : View) → At views by v → IsPassOf n v → v.away ≡ true
      → Away views b.own.seen n v.calls

-- One seat is a baton's, no other is, and the six points hold of its view
abbrev pub HasSixPoints : List ℕ → List View → Type 0
HasSixPoints words views =
    (seat : ℕ) × (b : View) × At views seat b × (b.kind ≡ Baton)
    × ((by : ℕ) (v : View) → At views by v → v.kind ≡ Baton → by ≡ seat) × Held words views b
