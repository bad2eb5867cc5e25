-- What a caller's pass knows of the history before and after a call. This jar's own rule: docs/DEFINITIONS.md.
use Rattle.std.specs.Prelude.{◌≡◌, ◌≤◌, ◌+◌, List, [], ◌∷◌, ◌++◌, length, false, Option, None, Some}
use Rattle.atomic_table.specs.Seated.{TableId}
use Rattle.version_cells.specs.declared.listing.Listing.{Listing}
use Rattle.version_cells.specs.declared.view.Look.{Look}
use Rattle.version_cells.specs.Listings.{StartsWith, owned, turns}
use Rattle.version_cells.specs.Standing.{PassStanding}

-- the pass goes to these words, and its permit is at home
abbrev pub IsHome : TableId → PassStanding → Type 0
IsHome table p = (p.table ≡ table) × (p.view.away ≡ false)

-- and each of its calls was answered: the entries of its own in its front number its calls
abbrev pub IsReady : TableId → PassStanding → Type 0
IsReady table p = IsHome table p × (owned p.view.number p.front ≡ p.view.calls)

-- a last look found no more than the turns of its cell in a history
abbrev pub KnowsNoMore : List Listing → Option Look → Type 0
KnowsNoMore history None = Unit {0}
KnowsNoMore history (Some look) = look.number ≤ turns look.cell history

-- The pass met the baton at a history: it has seen all of it, which starts with what it had seen, by one front step that
-- found its length, and without a look; and its permit is at home
pub record HasMet (history : List Listing) (old new : PassStanding) : Type 0 where
  pub table : new.table ≡ old.table
  pub number : new.view.number ≡ old.view.number
  pub home : new.view.away ≡ false
  pub seen : new.view.own.seen ≡ history
  pub found : new.view.own.found ≡ length history
  pub fronts : new.view.fronts ≡ old.view.fronts + 1
  pub begins : StartsWith history old.view.own.seen
  pub looks : new.view.looks ≡ old.view.looks
  pub last : new.view.own.last ≡ old.view.own.last

-- The pass saw a history, and none of its calls was answered: its front and its calls stay, its calls are all of its own
-- there, and its last look found no more than the turns of its cell there
pub record HasSeen (history : List Listing) (old new : PassStanding) : Type 0 where
  pub met : HasMet history old new
  pub front : new.front ≡ old.front
  pub calls : new.view.calls ≡ old.view.calls
  pub owns : owned old.view.number history ≡ old.view.calls
  pub look : KnowsNoMore history old.view.own.last

-- A call of the pass was answered by the last entry of a history, behind `before`: that is its front, which is the old
-- front, entries of others, and this one; and its last look found no more than the turns of its cell before the entry
pub record HasAnswered (before : List Listing) (entry : Listing) (old new : PassStanding) : Type 0 where
  pub met : HasMet (before ++ entry ∷ []) old new
  pub front : new.front ≡ before ++ entry ∷ []
  pub begins : StartsWith before old.view.own.seen
  pub between : List Listing
  pub since : before ≡ old.front ++ between
  pub none_of_own : owned old.view.number between ≡ 0
  pub calls : new.view.calls ≡ old.view.calls + 1
  pub owns : owned old.view.number (before ++ entry ∷ []) ≡ new.view.calls
  pub look : KnowsNoMore before old.view.own.last

-- An entry that the pass owns was added to a history, and is no answer to a call of it: its front stays, and its calls
-- were all of its own before
pub record HasAdded (before : List Listing) (entry : Listing) (old new : PassStanding) : Type 0 where
  pub met : HasMet (before ++ entry ∷ []) old new
  pub front : new.front ≡ old.front
  pub begins : StartsWith before old.view.own.seen
  pub owned_before : owned old.view.number before ≡ old.view.calls
  pub calls : new.view.calls ≡ old.view.calls + 1
  pub owns : owned old.view.number (before ++ entry ∷ []) ≡ new.view.calls
