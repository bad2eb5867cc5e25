-- What a contract sees of the baton and of a pass.
-- This jar's own rule: docs/DEFINITIONS.md.
use Rattle.std.specs.Prelude.{ℕ, zero, suc, List, [], ◌∷◌, ◌++◌, Option}
use Rattle.atomic_table.specs.Seated.{TableId}
use Rattle.jar_types.specs.declared.entry.Entry.{Entry}
use Rattle.version_cells.specs.declared.listing.Listing.{Listing}
use Rattle.version_cells.specs.declared.view.View.{View}
use Rattle.version_cells.specs.Views.{first_baton, new_pass}
use Rattle.version_cells.specs.Moves.{after_commit}

-- The baton: the table that it goes to, and what it knows
pub record BatonStanding : Type 0 where
  pub table : TableId
  pub view : View

-- the baton with another view
abbrev pub baton_with_view : BatonStanding → View → BatonStanding
baton_with_view s v = record s { view = v }

-- the baton, once it committed this entry
abbrev pub baton_with_listing : BatonStanding → Listing → BatonStanding
baton_with_listing s e = baton_with_view s (after_commit s.view e)

-- the baton, once so many passes were made
abbrev pub new_baton : TableId → ℕ → BatonStanding
new_baton t n = record { table = t; view = record first_baton { next = n } }

-- A pass: the table that it goes to, what it knows, and its front, the history up to and with the
-- entry of its last answered call
pub record PassStanding : Type 0 where
  pub table : TableId
  pub view : View
  pub front : List Listing

-- the pass with another view, and the front that it had
abbrev pub pass_with_view : PassStanding → View → PassStanding
pass_with_view s v = record s { view = v }

-- the pass, once its call is answered: its front is all that it has seen
abbrev pub pass_with_answer : PassStanding → PassStanding
pass_with_answer s = record s { front = s.view.own.seen }

-- a pass when it is made
abbrev pub new_pass_standing : TableId → ℕ → PassStanding
new_pass_standing t n = record { table = t; view = new_pass n; front = [] }

-- the passes of the first n numbers, in their order
abbrev pub new_passes : TableId → ℕ → List PassStanding
new_passes t zero = []
new_passes t (suc n) = new_passes t n ++ new_pass_standing t n ∷ []

-- what a commit adds to the history, by its cells, its owner and its entry
abbrev pub listing_of : List ℕ → Option ℕ → Entry → Listing
listing_of cells owner entry = record { cells = cells; owner = owner; about = entry }
