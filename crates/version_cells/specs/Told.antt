-- What a load of the number of entries tells a seat, and what a meeting makes of pass and baton.
-- This jar's own rule: docs/DEFINITIONS.md.
use Rattle.std.specs.Prelude.{◌≡◌, ◌≤◌, ◌+◌, ℕ, List, [], ◌∷◌, length, Bool, false, Option, Some, None}
use Rattle.version_cells.specs.declared.listing.Listing.{Listing}
use Rattle.version_cells.specs.declared.view.Look.{Look}
use Rattle.version_cells.specs.declared.view.Memory.{Memory}
use Rattle.version_cells.specs.declared.view.Permit.{Permit}
use Rattle.version_cells.specs.declared.view.View.{View}
use Rattle.version_cells.specs.Listings.{one, has, turns, owned, StartsWith}
use Rattle.version_cells.specs.Views.{uses_of}
use Rattle.version_cells.specs.Moves.{baton_memory, longest}

-- A last look found at most the turns of its cell in the baton's history, a pending one included
abbrev pub CoversLook : View → Option Look → Type 0
CoversLook b None = Unit {0}
CoversLook b (Some s) = s.number ≤ turns s.cell b.own.seen + one (has s.cell b.pending)

-- The baton covers a memory: its history starts with what was seen, and has what was found
abbrev pub Covers : View → Memory → Type 0
Covers b m = StartsWith b.own.seen m.seen × (m.found ≤ length b.own.seen) × CoversLook b m.last

-- The baton holds the pass's own permit or none, and its own where that is away
abbrev pub ComesHome : ℕ → Bool → Option Permit → Type 0
ComesHome n away None = away ≡ false
ComesHome n away (Some p) = p.number ≡ n

-- the pass p, once it met the baton b: it has seen all, its permit is home, and it noted b's copy
abbrev pub pass_after_meet : View → View → View
pass_after_meet p b = record p {
  own = record { seen = b.own.seen; last = p.own.last; found = length b.own.seen };
  notes = baton_memory b ∷ p.notes;
  calls = p.calls + uses_of b.permit;
  away = false;
  fronts = p.fronts + 1;
}

-- the baton b, once the pass p met it: it notes what the pass remembers then, and has no permit
abbrev pub baton_after_meet : View → View → View
baton_after_meet b p = record b { notes = (pass_after_meet p b).own ∷ b.notes; permit = None }

-- What a meeting of the pass p and the baton b tells: the history starts with what the pass had
-- seen, its entries of the pass number the calls and the permit's uses, and it covers the last look
pub record Met (p b : View) : Type 0 where
  pub begins : StartsWith b.own.seen p.own.seen
  pub owns : owned p.number b.own.seen ≡ p.calls + uses_of b.permit
  pub look : CoversLook b p.own.last

-- ---- that no public clause cites

-- the baton covers each of these memories
abbrev pub CoversAll : View → List Memory → Type 0
CoversAll b [] = Unit {0}
CoversAll b (m ∷ ms) = Covers b m × CoversAll b ms

-- A front step of the view finds the length of some history, which starts with all that the view
-- has seen or noted; where the permit is at home, the entries of the pass in it number its calls
pub record FrontTells (v : View) (found : ℕ) : Type 0 where
  pub log : List Listing
  pub begins : StartsWith log (longest v.own.seen v.notes)
  pub extends : StartsWith (longest v.own.seen v.notes) v.own.seen
  pub all : found ≡ length log
  pub calls : v.away ≡ false → owned v.number log ≡ v.calls
