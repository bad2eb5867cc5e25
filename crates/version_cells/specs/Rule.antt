-- The rule of the table: the six points, the last two as sums over all views, which steps keep.
-- This jar's own rule: docs/DEFINITIONS.md.
use Rattle.std.specs.Prelude.{◌≡◌, ◌<◌, ◌≤◌, ◌+◌, ℕ, List, length, cond, slice_index, nat_lt}
use Rattle.version_cells.specs.declared.cells.TheConstants.{CELLS, WORDS, MOST_ENTRIES}
use Rattle.version_cells.specs.declared.view.Kind.TheVariants.{Baton}
use Rattle.version_cells.specs.declared.view.View.{View}
use Rattle.version_cells.specs.Listings.{one, total, has, turns, owned}
use Rattle.version_cells.specs.Views.{At, memories, is_pass_of, is_permit_of, uses_of}
use Rattle.version_cells.specs.Held.{AllFit, RemembersLast, HasSixPoints}

-- 1 for the view of the pass n
abbrev pub pass_count : ℕ → View → ℕ
pass_count n v = one (is_pass_of n v)

-- 1 for where the permit of n lies: with its pass, or with who holds it
abbrev pub permit_count : ℕ → View → ℕ
permit_count n v = cond v.away 0 (pass_count n v) + one (is_permit_of n v.permit)

-- the entries of the owner n that the view accounts for: calls of the pass, uses of the permit
abbrev pub entry_count : ℕ → View → ℕ
entry_count n v =
    cond (is_pass_of n v) v.calls 0 + cond (is_permit_of n v.permit) (uses_of v.permit) 0

-- The rule, of the baton's seat and view
pub record RuleAt (words : List ℕ) (views : List View) (seat : ℕ) (baton : View) : Type 0 where
  pub at_seat : At views seat baton
  pub is_baton : baton.kind ≡ Baton
  pub only : (by : ℕ) (v : View) → At views by v → v.kind ≡ Baton → by ≡ seat
  pub size : length words ≡ WORDS
  pub room : length baton.own.seen ≤ MOST_ENTRIES
  pub counted : slice_index words 0 ≡ length baton.own.seen
  pub versions : (c : ℕ) → 0 < c → c ≤ CELLS
      → slice_index words c ≡ turns c baton.own.seen + one (has c baton.pending)
  pub remembered : (by : ℕ) (v : View) → At views by v → AllFit words baton.own.seen (memories v)
  pub last : (by : ℕ) (v : View) → At views by v → RemembersLast v
  pub passes : (n : ℕ) → total (pass_count n) views ≡ one (nat_lt n baton.next)
  pub permits : (n : ℕ) → total (permit_count n) views ≡ one (nat_lt n baton.next)
  pub entries : (n : ℕ) → total (entry_count n) views ≡ owned n baton.own.seen

-- the rule holds of some seat and view
abbrev pub Rule : List ℕ → List View → Type 0
Rule words views = (seat : ℕ) × (baton : View) × RuleAt words views seat baton

-- The six points hold wherever the table's rule does
abbrev pub RuleHasSixPoints : Type 0
RuleHasSixPoints =
    (words : List ℕ) (views : List View) → Rule words views → HasSixPoints words views
