-- The table of steps: what each makes of a view, and when a step is allowed.
-- This jar's own rule: docs/DEFINITIONS.md.
use Rattle.std.specs.Prelude.{◌≡◌, ◌<◌, ◌+◌, ℕ, List, [], ◌∷◌, ◌++◌, length, Bool, true, false, cond, Option, Some, None, nat_lt}
use Rattle.version_cells.specs.declared.cells.TheConstants.{MOST_ENTRIES}
use Rattle.version_cells.specs.declared.listing.Listing.{Listing}
use Rattle.version_cells.specs.declared.view.Look.{Look}
use Rattle.version_cells.specs.declared.view.Memory.{Memory}
use Rattle.version_cells.specs.declared.view.Permit.{Permit}
use Rattle.version_cells.specs.declared.view.View.{View}
use Rattle.version_cells.specs.Listings.{has, IsDistinct, cells_of, owner_of}
use Rattle.version_cells.specs.Views.{copy_with, uses_of}

-- Split: the baton, once it made a pass of the next number
abbrev pub after_new_pass : View → View
after_new_pass v = record v { next = v.next + 1 }

-- Split: a copy of the baton has all committed entries, no last look, and found 0
abbrev pub baton_memory : View → Memory
baton_memory v = record { seen = v.own.seen; last = None; found = 0 }

-- the copy that leaves the permit with the baton
abbrev pub baton_copy : View → View
baton_copy v = copy_with (baton_memory v) None

-- the copy that takes the baton's permit along
abbrev pub baton_copy_with_permit : View → View
baton_copy_with_permit v = copy_with (baton_memory v) v.permit

-- the baton, once a copy took its permit along
abbrev pub without_permit : View → View
without_permit v = record v { permit = None }

-- Split: a copy of a pass has what the pass remembers
abbrev pub pass_copy : View → View
pass_copy v = copy_with v.own None

-- the copy that takes the pass's permit along, with no uses
abbrev pub pass_copy_with_permit : View → View
pass_copy_with_permit v = copy_with v.own (Some (record { number = v.number; uses = 0 }))

-- the pass, once a copy took its permit along
abbrev pub after_lending : View → View
after_lending v = record v { away = true }

-- of two permits, one of which is there at most, the one that is there
abbrev pub either_permit : Option Permit → Option Permit → Option Permit
either_permit None q = q
either_permit (Some p) q = Some p

-- Join: the baton may take a copy in where one of the two at most has a permit
abbrev pub MayTake : Option Permit → Option Permit → Type 0
MayTake None q = Unit {0}
MayTake (Some p) None = Unit {0}
MayTake (Some p) (Some q) = ⊥

-- the baton, once it took a copy in: it notes what the copy remembers, and has its permit
abbrev pub baton_with_copy : View → View → View
baton_with_copy v w = record v { notes = w.own ∷ v.notes; permit = either_permit v.permit w.permit }

-- the baton, once the pass p lent it its permit
abbrev pub with_permit_of : View → View → View
with_permit_of b p = baton_with_copy b (pass_copy_with_permit p)

-- Join: the pass n may take a copy in that has no permit but that of n
abbrev pub IsOwn : ℕ → Option Permit → Type 0
IsOwn n None = Unit {0}
IsOwn n (Some p) = p.number ≡ n

-- whether a pass's permit is away, once a copy came in: a permit comes home
abbrev pub is_away_after : Bool → Option Permit → Bool
is_away_after a None = a
is_away_after a (Some p) = false

-- the pass, once it took a copy in: it notes it, and its calls rise by the uses of a permit
abbrev pub pass_with_copy : View → View → View
pass_with_copy v w = record v {
  notes = w.own ∷ v.notes;
  calls = v.calls + uses_of w.permit;
  away = is_away_after v.away w.permit;
}

-- the longer of two lists, the first where both have the same length
abbrev pub longer : List Listing → List Listing → List Listing
longer a b = cond (nat_lt (length a) (length b)) b a

-- the longest of what was seen and what the notes have seen
abbrev pub longest : List Listing → List Memory → List Listing
longest seen [] = seen
longest seen (m ∷ ms) = longest (longer seen m.seen) ms

-- Front: the pass, once it read this number of entries in word 0
abbrev pub after_front : View → ℕ → View
after_front v w = record v {
  own = record { seen = longest v.own.seen v.notes; last = v.own.last; found = w };
  fronts = v.fronts + 1;
}

-- Bump: the baton, once the cell is pending
abbrev pub after_bump : View → ℕ → View
after_bump v c = record v { pending = c ∷ v.pending }

-- an owner of an entry is the number of the permit
abbrev pub IsAllowed : Option ℕ → Option Permit → Type 0
IsAllowed None p = Unit {0}
IsAllowed (Some n) None = ⊥
IsAllowed (Some n) (Some p) = p.number ≡ n

-- Commit is allowed where the pending cells are just those of the entry, none twice, its owner is
-- the number of the baton's permit, and fewer entries stand than may be committed
abbrev pub MayCommit : View → Listing → Type 0
MayCommit v e =
    ((c : ℕ) → has c v.pending ≡ has c (cells_of e)) × IsDistinct (cells_of e)
    × IsAllowed (owner_of e) v.permit × (length v.own.seen < MOST_ENTRIES)

-- one use more, where the entry has an owner
abbrev pub permit_after : Option ℕ → Option Permit → Option Permit
permit_after None p = p
permit_after (Some n) None = None
permit_after (Some n) (Some p) = Some (record p { uses = p.uses + 1 })

-- the baton, once the entry is committed
abbrev pub after_commit : View → Listing → View
after_commit v e = record v {
  own = record v.own { seen = v.own.seen ++ e ∷ [] };
  pending = [];
  permit = permit_after (owner_of e) v.permit;
}

-- Look: what the pass notes, once it read this number in the word of the cell
abbrev pub look_of : View → ℕ → ℕ → Look
look_of v c w = record { cell = c; number = w; place = length v.own.seen }

-- the pass, once it looked
abbrev pub after_look : View → ℕ → ℕ → View
after_look v c w = record v {
  own = record v.own { last = Some (look_of v c w) };
  looks = v.looks ++ look_of v c w ∷ [];
}
