-- What a call makes of a locked jar and of its caller's pass, and why it makes no entry. This jar's own rule:
-- docs/DEFINITIONS.md.
use Rattle.std.specs.Prelude.{◌≡◌, ◌<◌, ℕ, length, Bool, true, false, None, Some}
use Rattle.jar_types.specs.declared.entry.Event.TheVariants.{Call as CallEvent, Jar as JarEvent}
use Rattle.jar_types.specs.declared.entry.Own.{Own}
use Rattle.jar_types.specs.declared.entry.Own.TheVariants.{Want, WantAll}
use Rattle.jar_types.specs.declared.jar_core.Awaited.{Awaited}
use Rattle.jar_types.specs.declared.jar_core.Awaited.TheVariants as awaited
use Rattle.jar_types.specs.declared.jar_core.CoreRefusal.{CoreRefusal}
use Rattle.jar_types.specs.declared.jar_core.CoreRefusal.TheVariants as core
use Rattle.jar_types.specs.declared.op.Op.{Op}
use Rattle.jar_types.specs.Steps.{call_step, own_may_stand}
use Rattle.jar_types.specs.Waits.{op_waits}
use Rattle.version_cells.specs.Standing.{PassStanding}
use Rattle.locked_jar.specs.declared.receipt.CallRefusal.{CallRefusal}
use Rattle.locked_jar.specs.declared.receipt.CallRefusal.TheVariants.{Spent, Pending, NotYet, NoMemory}
use Rattle.locked_jar.specs.declared.receipt.Receipt.{Receipt}
use Rattle.locked_jar.specs.LockedJars.{LockedJar, entered, listing_at}
use Rattle.locked_jar.specs.Passes.{HasAnswered, HasSeen}

-- A call was answered: nothing refused it, the jar took the step of its event, the receipt has its place and its reply,
-- and the pass knows so
pub record Answers (old new : LockedJar) (p q : PassStanding) (op : Op) (now : ℕ) (receipt : Receipt) : Type 0 where
  pub within : old.state.calls < old.limit
  pub there : op_waits old.state op ≡ None
  pub jar : new ≡ entered old (Some p.view.number) (CallEvent p.view.number now op)
  pub place : receipt.place ≡ length new.seen
  pub reply : receipt.reply ≡ (call_step old.state p.view.number now op).reply
  pub pass : HasAnswered old.seen (listing_at (Some p.view.number) old.state (CallEvent p.view.number now op)) p q

-- what the jar notes where a caller waits for this
abbrev pub want_of : Awaited → Own
want_of (awaited.Key key) = Want key
want_of awaited.All = WantAll

-- it is noted, where it may be: for nobody
abbrev pub noted : Bool → LockedJar → Own → LockedJar
noted true j own = entered j None (JarEvent own)
noted false j own = j

abbrev pub wanted : LockedJar → Awaited → LockedJar
wanted j what = noted (own_may_stand j.state (want_of what)) j (want_of what)

-- Why a call makes no entry, and what it leaves: the pass has seen the history, its cause among it, but for want of
-- memory, where all is as it was
abbrev pub RefusesCall : LockedJar → LockedJar → PassStanding → PassStanding → Op → CallRefusal → Type 0
RefusesCall old new p q op Spent = (old.state.calls ≡ old.limit) × (new ≡ old) × HasSeen new.seen p q
RefusesCall old new p q op (Pending what) =
    (old.state.calls < old.limit) × (op_waits old.state op ≡ Some (core.Pending what)) × (new ≡ wanted old what) × HasSeen new.seen p q
RefusesCall old new p q op (NotYet found) =
    (old.state.calls < old.limit) × (op_waits old.state op ≡ Some (core.NotYet found)) × (new ≡ old) × HasSeen new.seen p q
RefusesCall old new p q op NoMemory = (old.state.calls < old.limit) × (new ≡ old) × (q ≡ p)

-- the same, of what the core refuses an entry for
abbrev pub Refuses : LockedJar → LockedJar → PassStanding → PassStanding → CoreRefusal → CallRefusal → Type 0
Refuses old new p q refusal Spent = ⊥
Refuses old new p q refusal (Pending what) = (refusal ≡ core.Pending what) × (new ≡ wanted old what) × HasSeen new.seen p q
Refuses old new p q refusal (NotYet found) = (refusal ≡ core.NotYet found) × (new ≡ old) × HasSeen new.seen p q
Refuses old new p q refusal NoMemory = (new ≡ old) × (q ≡ p)
