-- When a pass and the baton may serve a call, and what a call leaves.
-- This jar's own rule: docs/DEFINITIONS.md.
use Rattle.std.specs.Prelude.{◌≡◌, ◌<◌, ◌+◌, ℕ, List, [], ◌∷◌, length, slice_index_or, false, Some, None}
use Rattle.atomic_table.specs.Seated.{TableId}
use Rattle.jar_types.specs.declared.entry.Entry.{Entry}
use Rattle.version_cells.specs.declared.cells.TheConstants.{MOST_ENTRIES}
use Rattle.version_cells.specs.declared.listing.Listing.{Listing}
use Rattle.version_cells.specs.Listings.{IsCell, owned}
use Rattle.version_cells.specs.Standing.{BatonStanding, PassStanding, listing_of}

-- the baton goes to this table, has no pending cell, and holds no permit
abbrev pub IsFree : TableId → BatonStanding → Type 0
IsFree t s = (s.table ≡ t) × (s.view.pending ≡ []) × (s.view.permit ≡ None)

-- one more entry may be committed
abbrev pub HasRoom : BatonStanding → Type 0
HasRoom s = length s.view.own.seen < MOST_ENTRIES

-- The pass goes to this table, its permit is at home, and each entry of its own that it has seen
-- counts once among its calls
abbrev pub IsHome : TableId → PassStanding → Type 0
IsHome t s =
    (s.table ≡ t) × (s.view.away ≡ false) × (owned s.view.number s.view.own.seen ≡ s.view.calls)

-- it is home, and its front has all entries of its own, so each call of it was answered
abbrev pub IsReady : TableId → PassStanding → Type 0
IsReady t s = IsHome t s × (owned s.view.number s.front ≡ s.view.calls)

-- baton and pass may serve a call that moves this cell
abbrev pub MayCall : TableId → BatonStanding → PassStanding → ℕ → Type 0
MayCall t baton pass cell = IsFree t baton × HasRoom baton × IsReady t pass × IsCell cell

-- each of these passes is ready
abbrev pub AllReady : TableId → List PassStanding → Type 0
AllReady t passes =
    (i : ℕ) (d : PassStanding) → i < length passes → IsReady t (slice_index_or passes i d)

-- the pass keeps its number, and its calls rose by this many
abbrev pub HasCounted : PassStanding → PassStanding → ℕ → Type 0
HasCounted old new more =
    (new.view.number ≡ old.view.number) × (new.view.calls ≡ old.view.calls + more)

-- the pass met the baton once, and made no look
abbrev pub HasMetOnce : PassStanding → PassStanding → Type 0
HasMetOnce old new = (new.view.fronts ≡ old.view.fronts + 1)
    × (new.view.looks ≡ old.view.looks) × (new.view.own.last ≡ old.view.own.last)

-- one call of the pass was made and answered, by one meeting and without a look
abbrev pub HasCalled : PassStanding → PassStanding → Type 0
HasCalled old new =
    HasCounted old new 1 × HasMetOnce old new × (new.front ≡ new.view.own.seen)

-- what a call of the pass adds to the history, with an entry that moves this cell
abbrev pub call_of : PassStanding → ℕ → Entry → Listing
call_of s cell entry = listing_of (cell ∷ []) (Some s.view.number) entry

-- ---- that no public clause cites

-- the identity that stands for no table
abbrev pub no_table : TableId
no_table = record { words = 0; slots = 0; views_name = 0; atom = 0; block = 0; offset = 0; slot_names = [] }
