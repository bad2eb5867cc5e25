-- One step of the jar of one thread. This jar's own rule: docs/DEFINITIONS.md.
use Rattle.std.specs.Prelude.{◌≡◌, ℕ, ◌+◌, List, [], map, fold, Bool, true, ◌&&◌, Option, None, Some}
use Rattle.jar_types.specs.declared.change.Change.{Change}
use Rattle.jar_types.specs.declared.cookie.Cookie.{Cookie}
use Rattle.jar_types.specs.declared.jar_core.Awaited.{Awaited}
use Rattle.jar_types.specs.declared.op.Op.{Op}
use Rattle.jar_types.specs.declared.op.Op.TheVariants.{Bind, Set, Get, Delete, All, Clear, Listen, Changes, Unlisten, Post, Hear}
use Rattle.jar_types.specs.declared.entry.Own.{Own}
use Rattle.jar_types.specs.declared.entry.Own.TheVariants.{Want, WantAll, Begun, Loaded, Lost, Whole, Taken, Acked, CommitLost}
use Rattle.jar_types.specs.declared.entry.Event.{Event}
use Rattle.jar_types.specs.declared.entry.Event.TheVariants.{Call as CallEvent, Jar as JarEvent}
use Rattle.jar_types.specs.declared.entry.Entry.{Entry}
use Rattle.jar_types.specs.declared.entry.Entry.TheVariants.{Call, Jar}
use Rattle.jar_types.specs.declared.row.RowChange.{RowChange}
use Rattle.jar_types.specs.States.{JarState, Stepped, OwnStepped}
use Rattle.jar_types.specs.Batches.{touching, own_batches, may_commit}
use Rattle.jar_types.specs.Bound.{bind_step, turned}
use Rattle.jar_types.specs.Changes.{Changed, unchanged}
use Rattle.jar_types.specs.Sets.{set_step, with_cookie}
use Rattle.jar_types.specs.Gets.{get_step}
use Rattle.jar_types.specs.Deletes.{delete_step}
use Rattle.jar_types.specs.Listeners.{listen_step, changes_step, unlisten_step, hears}
use Rattle.jar_types.specs.Loads.{own_loads, may_load}
use Rattle.jar_types.specs.Posts.{post_step, hear_step}
use Rattle.jar_types.specs.Evictions.{swept}
use Rattle.jar_types.specs.RowChanges.{row_changes}
use Rattle.jar_types.specs.Waits.{needs, faulted, fault_step}
use Rattle.jar_types.specs.Wholes.{all_step, clear_step}

-- ---- calls

-- what a caller's op leads to at a moment, where what it needs is there
abbrev pub op_step : JarState → ℕ → ℕ → Op → Stepped
op_step s caller now (Bind key) = bind_step s key
op_step s caller now (Set cookie script secure) = set_step s now cookie script secure
op_step s caller now (Get request) = get_step s now request
op_step s caller now (Delete key id) = delete_step s now key id
op_step s caller now All = all_step s now
op_step s caller now Clear = clear_step s now
op_step s caller now (Listen scope) = listen_step s caller scope
op_step s caller now (Changes number) = changes_step s caller number
op_step s caller now (Unlisten number) = unlisten_step s caller number
op_step s caller now Post = post_step s caller
op_step s caller now (Hear actor n) = hear_step s

-- a call is told that what it needs was lost, or is carried out
abbrev pub call_where : Option Awaited → JarState → ℕ → ℕ → Op → Stepped
call_where (Some what) s caller now op = fault_step s what
call_where None s caller now op = op_step s caller now op

-- what a caller's op leads to at a moment
abbrev pub call_step : JarState → ℕ → ℕ → Op → Stepped
call_step s caller now op = call_where (faulted s.loads (needs op)) s caller now op

-- ---- what the jar does itself

-- loaded cookies come among the others
abbrev pub loaded_among : List Cookie → List Cookie → List Cookie
loaded_among loaded cookies = fold (λ all c. with_cookie c all) cookies loaded

-- what the jar does itself makes of the cookies: it is swept where it becomes whole, and loaded cookies are no change
abbrev pub own_changed : Own → List Cookie → Changed
own_changed (Want key) cookies = unchanged cookies
own_changed WantAll cookies = unchanged cookies
own_changed (Begun key) cookies = unchanged cookies
own_changed (Loaded key loaded) cookies = unchanged (loaded_among loaded cookies)
own_changed (Lost key) cookies = unchanged cookies
own_changed (Whole now) cookies = swept now cookies
own_changed Taken cookies = unchanged cookies
own_changed (Acked place) cookies = unchanged cookies
own_changed (CommitLost place) cookies = unchanged cookies

-- what the jar does itself: to the cookies, their loading, and the batches
abbrev pub own_step : JarState → Own → OwnStepped
own_step s own =
    let all = own_changed own s.cookies in
    record {
      state = record s {
        cookies = all.cookies;
        loads = own_loads own s.loads;
        batches = own_batches (s.entries + 1) own s.batches;
      };
      changes = all.changes;
    }

-- the moment of what the jar does itself, where that changes cookies
abbrev pub own_moment : Own → ℕ
own_moment (Want key) = 0
own_moment WantAll = 0
own_moment (Begun key) = 0
own_moment (Loaded key cookies) = 0
own_moment (Lost key) = 0
own_moment (Whole now) = now
own_moment Taken = 0
own_moment (Acked place) = 0
own_moment (CommitLost place) = 0

-- whether the jar may do this itself, whatever it loads and at what moment it becomes whole
abbrev pub own_may_stand : JarState → Own → Bool
own_may_stand s own = may_load own s.loads && may_commit own s.batches

-- the jar may do what it does itself; a caller may ask at every state
abbrev pub OwnMayStand : JarState → Event → Type 0
OwnMayStand s (CallEvent caller now op) = Unit {0}
OwnMayStand s (JarEvent own) = own_may_stand s own ≡ true

-- ---- what every event does

-- listeners hear of the changes that were made at a moment, and the cells of their keys turn
abbrev pub told : ℕ → List Change → JarState → JarState
told now changes s =
    record s { bound = map (turned changes) s.bound; listeners = map (hears now changes) s.listeners }

-- these changes of rows are to be committed
abbrev pub batched : List RowChange → JarState → JarState
batched rows s = record s { batches = touching rows s.batches }

-- the state with one caller's entry more
abbrev pub called : JarState → JarState
called s = record s { calls = s.calls + 1; entries = s.entries + 1 }

-- the state with one entry of the jar's own more
abbrev pub noted : JarState → JarState
noted s = record s { entries = s.entries + 1 }

-- the changes of stored rows that the jar makes itself: a load takes its rows from the store, and changes none
abbrev pub own_rows : Own → List Cookie → List RowChange
own_rows (Want key) cookies = []
own_rows WantAll cookies = []
own_rows (Begun key) cookies = []
own_rows (Loaded key loaded) cookies = []
own_rows (Lost key) cookies = []
own_rows (Whole now) cookies = row_changes cookies (swept now cookies).cookies
own_rows Taken cookies = []
own_rows (Acked place) cookies = []
own_rows (CommitLost place) cookies = []

-- the changes of stored rows that an event makes
abbrev pub rows_at : JarState → Event → List RowChange
rows_at s (CallEvent caller now op) = row_changes s.cookies (call_step s caller now op).state.cookies
rows_at s (JarEvent own) = own_rows own s.cookies

-- the state after an event
abbrev pub after : JarState → Event → JarState
after s (CallEvent caller now op) =
    let step = call_step s caller now op in
    called (batched (rows_at s (CallEvent caller now op)) (told now step.changes step.state))
after s (JarEvent own) =
    let step = own_step s own in
    noted (batched (rows_at s (JarEvent own)) (told (own_moment own) step.changes step.state))

-- the changes that an event makes of the cookies
abbrev pub changes_at : JarState → Event → List Change
changes_at s (CallEvent caller now op) = (call_step s caller now op).changes
changes_at s (JarEvent own) = (own_step s own).changes

-- the entry that an event makes
abbrev pub entry_of : JarState → Event → Entry
entry_of s (CallEvent caller now op) = Call caller now op (call_step s caller now op).reply
entry_of s (JarEvent own) = Jar own

-- the event of an entry
abbrev pub event_of : Entry → Event
event_of (Call caller now op reply) = CallEvent caller now op
event_of (Jar own) = JarEvent own
