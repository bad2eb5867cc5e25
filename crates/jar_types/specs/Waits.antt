-- What an op needs of the stored cookies, and why an event has no entry yet. This jar's own rule: docs/DEFINITIONS.md.
use Rattle.std.specs.Prelude.{◌≡◌, ℕ, List, Bool, true, false, not, ◌&&◌, Option, None, Some, option_map, if◌then◌else◌}
use Rattle.std.specs.Option.{option_or}
use Rattle.jar_types.specs.declared.entry.Event.{Event}
use Rattle.jar_types.specs.declared.entry.Event.TheVariants.{Call as CallEvent, Jar as JarEvent}
use Rattle.jar_types.specs.declared.entry.Own.{Own}
use Rattle.jar_types.specs.declared.entry.Own.TheVariants.{Want, WantAll, Begun, Loaded, Lost, Whole, Taken, Acked, CommitLost}
use Rattle.jar_types.specs.declared.jar_core.Awaited.{Awaited}
use Rattle.jar_types.specs.declared.jar_core.Awaited.TheVariants as awaited
use Rattle.jar_types.specs.declared.jar_core.CoreRefusal.{CoreRefusal}
use Rattle.jar_types.specs.declared.jar_core.CoreRefusal.TheVariants.{Pending, NotYet, NoMemory}
use Rattle.jar_types.specs.declared.jar_core.LoadWish.{LoadWish}
use Rattle.jar_types.specs.declared.jar_core.LoadWish.TheVariants as wish
use Rattle.jar_types.specs.declared.op.Op.{Op}
use Rattle.jar_types.specs.declared.op.Op.TheVariants.{Bind, Set, Get, Delete, All, Clear, Listen, Changes, Unlisten, Post, Hear}
use Rattle.jar_types.specs.declared.op.Reply.TheVariants.{StoreFault}
use Rattle.jar_types.specs.Loads.{Loads, is_loaded, is_wanted, is_marked, without_mark, next_key}
use Rattle.jar_types.specs.Posts.{op_wanting}
use Rattle.jar_types.specs.States.{JarState, Stepped, replied}

-- ---- what an op needs

-- what has to be loaded for an op: a key, or all
abbrev pub needs : Op → Option Awaited
needs (Bind key) = None
needs (Set cookie script secure) = Some (awaited.Key cookie.key)
needs (Get request) = Some (awaited.Key request.key)
needs (Delete key id) = Some (awaited.Key key)
needs All = Some awaited.All
needs Clear = Some awaited.All
needs (Listen scope) = None
needs (Changes number) = None
needs (Unlisten number) = None
needs Post = None
needs (Hear actor n) = None

-- it is there: the key is loaded, or the jar is whole
abbrev pub is_there : Loads → Awaited → Bool
is_there l (awaited.Key key) = is_loaded key l.keys
is_there l awaited.All = l.whole

-- a caller waits for it
abbrev pub is_awaited : Loads → Awaited → Bool
is_awaited l (awaited.Key key) = is_wanted key l.keys
is_awaited l awaited.All = l.all_wanted

-- a load of it was lost while callers waited
abbrev pub is_lost : Loads → Awaited → Bool
is_lost l (awaited.Key key) = is_marked key l.keys
is_lost l awaited.All = l.all_lost

-- its mark is gone
abbrev pub unmarked : Awaited → Loads → Loads
unmarked (awaited.Key key) l = record l { keys = without_mark key l.keys }
unmarked awaited.All l = record l { all_lost = false }

-- what isn't there, and wasn't lost
abbrev pub pending : Loads → Option Awaited → Option Awaited
pending l None = None
pending l (Some what) = if not (is_there l what) && not (is_lost l what) then Some what else None

-- what isn't there, and was lost
abbrev pub faulted : Loads → Option Awaited → Option Awaited
faulted l None = None
faulted l (Some what) = if not (is_there l what) && is_lost l what then Some what else None

-- a call that needs what was lost is told so, and the mark goes
abbrev pub fault_step : JarState → Awaited → Stepped
fault_step s what = replied (record s { loads = unmarked what s.loads }) StoreFault

-- ---- why an event has no entry yet

-- what an op waits for: what isn't loaded, and no load of it was lost; or posts
abbrev pub op_waits : JarState → Op → Option CoreRefusal
op_waits s op =
    option_or (option_map (λ what. Pending what) (pending s.loads (needs op)))
    (option_map (λ found. NotYet found) (op_wanting s op))

-- what an event waits for
abbrev pub waits : JarState → Event → Option CoreRefusal
waits s (CallEvent caller now op) = op_waits s op
waits s (JarEvent own) = None

-- whether making an entry ready may take memory: not for a batch that is taken or has ended
abbrev pub own_takes_memory : Own → Bool
own_takes_memory (Want key) = true
own_takes_memory WantAll = true
own_takes_memory (Begun key) = true
own_takes_memory (Loaded key cookies) = true
own_takes_memory (Lost key) = true
own_takes_memory (Whole now) = true
own_takes_memory Taken = false
own_takes_memory (Acked place) = false
own_takes_memory (CommitLost place) = false

abbrev pub takes_memory : Event → Bool
takes_memory (CallEvent caller now op) = true
takes_memory (JarEvent own) = own_takes_memory own

-- whether telling that an event waits so may take memory: the text of a key does, and what waits for nothing isn't told
abbrev pub may_want_memory : Option CoreRefusal → Bool
may_want_memory None = true
may_want_memory (Some (Pending (awaited.Key key))) = true
may_want_memory (Some (Pending awaited.All)) = false
may_want_memory (Some (NotYet found)) = false
may_want_memory (Some NoMemory) = false

-- why an event has no entry: it waits; or memory was wanting, where it waits for nothing, or for a key
abbrev pub Refuses : JarState → Event → CoreRefusal → Type 0
Refuses s v (Pending what) = waits s v ≡ Some (Pending what)
Refuses s v (NotYet found) = waits s v ≡ Some (NotYet found)
Refuses s v NoMemory = (may_want_memory (waits s v) ≡ true) × (takes_memory v ≡ true)

-- ---- what is loaded next

-- the key that is loaded next; else the jar becomes whole; else there is nothing to load
abbrev pub IsWish : Loads → LoadWish → Type 0
IsWish l (wish.Key key) = next_key l.keys ≡ Some key.now
IsWish l wish.Whole = (next_key l.keys ≡ None) × (l.whole ≡ false)
IsWish l wish.Idle = (next_key l.keys ≡ None) × (l.whole ≡ true)
