-- Listings, the entries of the history: the cells that one moves, its owner, and how often each
-- stands in a history.
-- This jar's own rule: docs/DEFINITIONS.md.
use Rattle.std.specs.Prelude.{◌≡◌, ◌<◌, ◌≤◌, ◌+◌, ◌==◌, ◌||◌, ℕ, List, [], ◌∷◌, ◌++◌, Bool, false, cond, Option, Some, None}
use Rattle.jar_types.specs.declared.entry.Entry.TheVariants.{Jar}
use Rattle.jar_types.specs.declared.entry.Own.TheVariants.{Whole}
use Rattle.version_cells.specs.declared.cells.TheConstants.{CELLS}
use Rattle.version_cells.specs.declared.listing.Listing.{Listing}

-- 1 for a fact that holds, else 0
abbrev pub one : Bool → ℕ
one b = cond b 1 0

-- f of each item, added up
abbrev pub total : {A : Type 0} → (A → ℕ) → List A → ℕ
total f [] = 0
total f (x ∷ xs) = f x + total f xs

-- whether the cell c stands in the list
abbrev pub has : ℕ → List ℕ → Bool
has c [] = false
has c (x ∷ xs) = (x == c) || has c xs

-- no cell stands twice in the list
abbrev pub IsDistinct : List ℕ → Type 0
IsDistinct [] = Unit {0}
IsDistinct (x ∷ xs) = (has x xs ≡ false) × IsDistinct xs

-- a cell is a number from 1 to how many there are
abbrev pub IsCell : ℕ → Type 0
IsCell c = (0 < c) × (c ≤ CELLS)

-- the cells that an entry moves: this word and the next are all that the rule reads of a listing
abbrev pub cells_of : Listing → List ℕ
cells_of e = e.cells

-- the number of the pass that owns an entry, if one does
abbrev pub owner_of : Listing → Option ℕ
owner_of e = e.owner

-- whether an owner is the pass n
abbrev pub is_owner : ℕ → Option ℕ → Bool
is_owner n None = false
is_owner n (Some m) = m == n

-- how many entries of a history move the cell c: what its version counts
abbrev pub turns : ℕ → List Listing → ℕ
turns c log = total (λ (e : Listing). one (has c (cells_of e))) log

-- how many entries of a history the pass n owns
abbrev pub owned : ℕ → List Listing → ℕ
owned n log = total (λ (e : Listing). one (is_owner n (owner_of e))) log

-- a history starts with what was seen of it
abbrev pub StartsWith : List Listing → List Listing → Type 0
StartsWith log seen = (rest : List Listing) × (log ≡ seen ++ rest)

-- a list ends with an item
abbrev pub EndsWith : {A : Type 0} → List A → A → Type 0
EndsWith {A} items last = (before : List A) × (items ≡ before ++ last ∷ [])

-- ---- that no public clause cites

-- the listing that stands for no commit
abbrev pub no_listing : Listing
no_listing = record { cells = []; owner = None; about = Jar (Whole 0) }
