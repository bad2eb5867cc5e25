-- Worlds: the words and views that lists of steps lead to from the start.
-- This jar's own rule: docs/DEFINITIONS.md.
use Rattle.std.specs.Prelude.{◌≡◌, ◌≢◌, ◌+◌, ℕ, List, [], ◌∷◌, ◌++◌, replicate, false, Option, slice_index, slice_set}
use Rattle.version_cells.specs.declared.cells.TheConstants.{WORDS}
use Rattle.version_cells.specs.declared.listing.Listing.{Listing}
use Rattle.version_cells.specs.declared.view.Memory.{Memory}
use Rattle.version_cells.specs.declared.view.Permit.{Permit}
use Rattle.version_cells.specs.declared.view.Kind.TheVariants.{Baton, Pass}
use Rattle.version_cells.specs.declared.view.View.{View}
use Rattle.version_cells.specs.Listings.{has, IsCell}
use Rattle.version_cells.specs.Views.{At, first_baton, new_pass, copy_with, spent_view}
use Rattle.version_cells.specs.Moves.{after_new_pass, without_permit, baton_copy_with_permit, baton_copy, pass_copy, after_lending, pass_copy_with_permit, baton_with_copy, pass_with_copy, MayTake, IsOwn, after_bump, MayCommit, after_commit, after_look, after_front}
use Rattle.version_cells.specs.Held.{HasSixPoints}
use Rattle.version_cells.specs.Rule.{Rule}

-- the views, once the view at a seat was cut in two
abbrev pub cut : List View → ℕ → View → View → List View
cut views id left right = slice_set views id left ++ right ∷ []

-- the views, once a seat took another's view in
abbrev pub taken : List View → ℕ → View → ℕ → List View
taken views id both other = slice_set (slice_set views id both) other spent_view

-- a word, once it was added to
abbrev pub one_more : List ℕ → ℕ → List ℕ
one_more words c = slice_set words c (slice_index words c + 1)

-- One step from a world to the next: the seat id has the view v, and each row says what is allowed
pub data Step : List ℕ → List View → List ℕ → List View → Type 0 where
  makes_pass : (words : List ℕ) (views : List View) (id : ℕ) (v : View)
      → At views id v → v.kind ≡ Baton
      → Step words views words (cut views id (after_new_pass v) (new_pass v.next))
  copies_baton : (words : List ℕ) (views : List View) (id : ℕ) (v : View)
      → At views id v → v.kind ≡ Baton → Step words views words (cut views id v (baton_copy v))
  gives_permit : (words : List ℕ) (views : List View) (id : ℕ) (v : View)
      → At views id v → v.kind ≡ Baton
      → Step words views words (cut views id (without_permit v) (baton_copy_with_permit v))
  copies_pass : (words : List ℕ) (views : List View) (id : ℕ) (v : View)
      → At views id v → v.kind ≡ Pass → Step words views words (cut views id v (pass_copy v))
  lends : (words : List ℕ) (views : List View) (id : ℕ) (v : View)
      → At views id v → v.kind ≡ Pass → v.away ≡ false
      → Step words views words (cut views id (after_lending v) (pass_copy_with_permit v))
  baton_takes : (words : List ℕ) (views : List View) (id other : ℕ) (v : View) (m : Memory)
      (p : Option Permit) → At views id v → At views other (copy_with m p) → other ≢ id
      → v.kind ≡ Baton → MayTake v.permit p
      → Step words views words (taken views id (baton_with_copy v (copy_with m p)) other)
  pass_takes : (words : List ℕ) (views : List View) (id other : ℕ) (v : View) (m : Memory)
      (p : Option Permit) → At views id v → At views other (copy_with m p) → other ≢ id
      → v.kind ≡ Pass → IsOwn v.number p
      → Step words views words (taken views id (pass_with_copy v (copy_with m p)) other)
  fronts : (words : List ℕ) (views : List View) (id : ℕ) (v : View)
      → At views id v → v.kind ≡ Pass
      → Step words views words (slice_set views id (after_front v (slice_index words 0)))
  bumps : (words : List ℕ) (views : List View) (id : ℕ) (v : View) (c : ℕ)
      → At views id v → v.kind ≡ Baton → IsCell c → has c v.pending ≡ false
      → Step words views (one_more words c) (slice_set views id (after_bump v c))
  commits : (words : List ℕ) (views : List View) (id : ℕ) (v : View) (e : Listing)
      → At views id v → v.kind ≡ Baton → MayCommit v e
      → Step words views (one_more words 0) (slice_set views id (after_commit v e))
  looks : (words : List ℕ) (views : List View) (id : ℕ) (v : View) (c : ℕ)
      → At views id v → v.kind ≡ Pass → IsCell c
      → Step words views words (slice_set views id (after_look v c (slice_index words c)))

-- The worlds that any list of steps reaches, from words of 0 and the baton alone
pub data Reached : List ℕ → List View → Type 0 where
  start : (words : List ℕ) → words ≡ replicate WORDS 0 → Reached words (first_baton ∷ [])
  then : (words : List ℕ) (views : List View) (words' : List ℕ) (views' : List View)
      → Reached words views → Step words views words' views' → Reached words' views'

-- The words keep their rule: in every world that any list of the steps reaches, the table's rule
-- and the six points hold
abbrev pub WordsKeepTheirRule : Type 0
WordsKeepTheirRule =
    (words : List ℕ) (views : List View) → Reached words views
    → Rule words views × HasSixPoints words views
