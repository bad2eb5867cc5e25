-- What a pass knows after a call of a jar that threads share: by the history that it has seen then,
-- since of what a lock held meanwhile nothing is told. This jar's own rule: docs/DEFINITIONS.md.
use Rattle.std.specs.Prelude.{◌≡◌, ◌<◌, ◌≤◌, ◌+◌, ℕ, List, [], ◌∷◌, ◌++◌, length, Bool, true, false, Some, Result, Ok, Err}
use Rattle.jar_types.specs.declared.cookie.Cookie.{Cookie}
use Rattle.jar_types.specs.declared.entry.Entry.{Entry}
use Rattle.jar_types.specs.declared.entry.Entry.TheVariants.{Call, Jar}
use Rattle.jar_types.specs.declared.entry.Own.TheVariants as own
use Rattle.jar_types.specs.declared.op.Op.{Op}
use Rattle.jar_types.specs.declared.op.Op.TheVariants.{Hear}
use Rattle.jar_types.specs.Batches.{Batches}
use Rattle.jar_types.specs.Journals.{Rules, state_of, stored_keys}
use Rattle.jar_types.specs.States.{JarState}
use Rattle.jar_types.specs.Tallies.{tally_of}
use Rattle.jar_types.specs.Waits.{is_awaited, is_lost, is_there, needs}
use Rattle.commit_batches.specs.declared.pending.TheConstants.{MOST_PENDING}
use Rattle.version_cells.specs.declared.listing.Listing.{Listing}
use Rattle.version_cells.specs.Listings.{StartsWith, owned}
use Rattle.version_cells.specs.Standing.{PassStanding}
use Rattle.locked_jar.specs.declared.receipt.CallRefusal.{CallRefusal}
use Rattle.locked_jar.specs.declared.receipt.CallRefusal.TheVariants.{Spent, Pending, NotYet, NoMemory}
use Rattle.locked_jar.specs.declared.receipt.Receipt.{Receipt}
use Rattle.locked_jar.specs.History.{IsHistory}
use Rattle.locked_jar.specs.LockedJars.{journal_of}
use Rattle.locked_jar.specs.Passes.{KnowsNoMore}
use Rattle.locked_jar.specs.Room.{served_in}
use Rattle.store_vault.specs.declared.refusal.FlushRefusal.{FlushRefusal}
use Rattle.store_vault.specs.declared.refusal.FlushRefusal.TheVariants as flush
use Rattle.store_vault.specs.declared.refusal.LoadRefusal.{LoadRefusal}
use Rattle.store_vault.specs.declared.refusal.LoadRefusal.TheVariants as load
use Rattle.store_vault.specs.declared.refusal.LoadStep.{LoadStep}
use Rattle.store_vault.specs.declared.refusal.LoadStep.TheVariants as step
use Rattle.store_vault.specs.declared.vault.TheConstants.{MOST_OWNS}
use Rattle.shared_jar.specs.Ending.{last_acked}

-- ---- what is seen

-- The pass p looked at the jar's history and became q: what it has seen is a legal history, which
-- begins with all that it had seen, and has as many entries as its last front step found; it made
-- no look
pub record SeesOn (r : Rules) (cutter : ℕ) (p q : PassStanding) : Type 0 where
  pub number : q.view.number ≡ p.view.number
  pub fronts : p.view.fronts < q.view.fronts
  pub history : IsHistory r cutter q.view.own.seen
  pub found : q.view.own.found ≡ length q.view.own.seen
  pub begins : StartsWith q.view.own.seen p.view.own.seen
  pub looks : q.view.looks ≡ p.view.looks
  pub last : q.view.own.last ≡ p.view.own.last

-- it did so, and no call of it was answered: its front and its calls stay, and its last look found
-- no more than the turns of its cell
pub record SeesMore (r : Rules) (cutter : ℕ) (p q : PassStanding) : Type 0 where
  pub on : SeesOn r cutter p q
  pub front : q.front ≡ p.front
  pub calls : q.view.calls ≡ p.view.calls
  pub look : KnowsNoMore q.view.own.seen p.view.own.last

-- the state of the history that a pass has seen
abbrev pub state_seen : Rules → PassStanding → JarState
state_seen r q = state_of (stored_keys r) (journal_of q.view.own.seen)

-- ---- a call that was answered

-- its entry is the last of the front, behind `before`, at the place of its receipt, past all that
-- the pass had seen
pub record StandsLast (p q : PassStanding) (op : Op) (now : ℕ) (receipt : Receipt)
    (before : List Listing) (entry : Listing) : Type 0 where
  pub last : q.front ≡ before ++ entry ∷ []
  pub about : entry.about ≡ Call p.view.number now op receipt.reply
  pub owner : entry.owner ≡ Some p.view.number
  pub place : receipt.place ≡ length q.front
  pub past : length p.view.own.seen < receipt.place

-- of its caller's entries the front has those of the old front and this one, and they number its
-- calls, which are one more
pub record CountsOne (p q : PassStanding) (before : List Listing) : Type 0 where
  pub between : List Listing
  pub since : before ≡ p.front ++ between
  pub none_of_own : owned p.view.number between ≡ 0
  pub calls : q.view.calls ≡ p.view.calls + 1
  pub owns : owned p.view.number q.front ≡ q.view.calls

-- what is seen, which is the front; where the call stands; what of its caller is in front; and that
-- the last look found no more than the turns of its cell before the call
pub record LearnsAnswer (r : Rules) (cutter : ℕ) (p q : PassStanding) (op : Op) (now : ℕ)
    (receipt : Receipt) : Type 0 where
  pub on : SeesOn r cutter p q
  pub front : q.front ≡ q.view.own.seen
  pub before : List Listing
  pub entry : Listing
  pub stands : StandsLast p q op now receipt before entry
  pub counts : CountsOne p q before
  pub look : KnowsNoMore before p.view.own.last

-- ---- a call that was refused

-- its cause, in the state of what is seen: callers have as many entries as they may; what the op
-- needs isn't there, was not lost, and is awaited; the actor whose posts it wants to hear has made
-- just so many, which are too few
abbrev pub CauseStands : Rules → JarState → Op → CallRefusal → Type 0
CauseStands r s op Spent = s.calls ≡ r.limit
CauseStands r s op (Pending what) =
    (needs op ≡ Some what) × (is_there s.loads what ≡ false) × (is_lost s.loads what ≡ false) ×
    (is_awaited s.loads what ≡ true)
CauseStands r s op (NotYet found) =
    (actor n : ℕ) × (op ≡ Hear actor n) × (tally_of actor s.posts ≡ found) × (found < n)
CauseStands r s op NoMemory = ⊥

-- the cause stands in what is seen; but where memory was wanting, the pass is as before
abbrev pub LearnsRefusal : Rules → ℕ → PassStanding → PassStanding → Op → CallRefusal → Type 0
LearnsRefusal r cutter p q op Spent =
    SeesMore r cutter p q × CauseStands r (state_seen r q) op Spent
LearnsRefusal r cutter p q op (Pending what) =
    SeesMore r cutter p q × CauseStands r (state_seen r q) op (Pending what)
LearnsRefusal r cutter p q op (NotYet found) =
    SeesMore r cutter p q × CauseStands r (state_seen r q) op (NotYet found)
LearnsRefusal r cutter p q op NoMemory = q ≡ p

-- ---- loads and commits

-- an entry of this kind stands in what is seen, past what had been seen
abbrev pub StandsPast : (Entry → Type 0) → PassStanding → PassStanding → Type 0
StandsPast IsOfKind p q =
    (before after : List Listing) × (l : Listing) × (q.view.own.seen ≡ before ++ l ∷ after)
    × (length p.view.own.seen ≤ length before) × IsOfKind l.about

abbrev pub IsLoaded : Entry → Type 0
IsLoaded e = (key : List ℕ) × (cookies : List Cookie) × (e ≡ Jar (own.Loaded key cookies))

abbrev pub IsWhole : Entry → Type 0
IsWhole e = (now : ℕ) × (e ≡ Jar (own.Whole now))

abbrev pub IsLost : Entry → Type 0
IsLost e = (key : List ℕ) × (e ≡ Jar (own.Lost key))

abbrev pub IsCommitLost : Entry → Type 0
IsCommitLost e = (place : ℕ) × (e ≡ Jar (own.CommitLost place))

-- loads and commits made as many entries of what is seen as they may
abbrev pub IsSpent : PassStanding → Type 0
IsSpent q = MOST_OWNS ≤ served_in (journal_of q.view.own.seen)

-- what a load shows, by its answer: the jar is whole; a Loaded, a Whole or a Lost stands past what
-- had been seen; or loads and commits have as many entries as they may
abbrev pub LoadShows : Rules → PassStanding → PassStanding → Result LoadStep LoadRefusal → Type 0
LoadShows r p q (Ok step.Idle) = (state_seen r q).loads.whole ≡ true
LoadShows r p q (Ok step.Key) = StandsPast IsLoaded p q
LoadShows r p q (Ok step.Whole) = StandsPast IsWhole p q
LoadShows r p q (Err load.StoreFault) = StandsPast IsLost p q
LoadShows r p q (Err load.NoMemory) = Unit {0}
LoadShows r p q (Err load.Spent) = IsSpent q

pub record LearnsLoad (r : Rules) (cutter : ℕ) (p q : PassStanding)
    (result : Result LoadStep LoadRefusal) : Type 0 where
  pub more : SeesMore r cutter p q
  pub shows : LoadShows r p q result

-- no batch is due: fewer rows were touched than make one, and with force none, and no batch is lost
pub record HasNoneDue (force : Bool) (b : Batches) : Type 0 where
  pub few : length b.touched < MOST_PENDING
  pub none : force ≡ true → (b.touched ≡ []) × (b.lost ≡ false)

-- what a flush shows, by its answer: the place of the last batch that was committed, and where that
-- had been seen, that none is due; a CommitLost past what had been seen; or that loads and commits
-- have as many entries as they may
abbrev pub FlushShows : Rules → Bool → PassStanding → PassStanding → Result ℕ FlushRefusal → Type 0
FlushShows r force p q (Ok place) =
    (place ≡ last_acked (journal_of q.view.own.seen))
    × (place ≤ length p.view.own.seen → HasNoneDue force (state_seen r q).batches)
FlushShows r force p q (Err flush.StoreFault) = StandsPast IsCommitLost p q
FlushShows r force p q (Err flush.NoMemory) = Unit {0}
FlushShows r force p q (Err flush.Spent) = IsSpent q

pub record LearnsFlush (r : Rules) (cutter : ℕ) (force : Bool) (p q : PassStanding)
    (result : Result ℕ FlushRefusal) : Type 0 where
  pub more : SeesMore r cutter p q
  pub shows : FlushShows r force p q result
