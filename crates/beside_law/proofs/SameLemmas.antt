-- What a call leaves of the batches, and how many entries an event leaves.
use Rattle.std.proofs.Common.{◌≡◌, ◌+◌, ℕ, Option, None, Some, refl, ap}
use Rattle.jar_types.specs.declared.cookie.Cookie.{Cookie}
use Rattle.jar_types.specs.declared.entry.Event.{Event}
use Rattle.jar_types.specs.declared.entry.Event.TheVariants.{Call as CallEvent, Jar as JarEvent}
use Rattle.jar_types.specs.declared.jar_core.Awaited.{Awaited}
use Rattle.jar_types.specs.declared.op.Op.{Op}
use Rattle.jar_types.specs.declared.op.Op.TheVariants.{Bind, Set, Get, Delete, All, Clear, Listen, Changes, Unlisten, Post, Hear}
use Rattle.jar_types.specs.declared.op.Reply.{Reply}
use Rattle.jar_types.specs.Changes.{Changed}
use Rattle.jar_types.specs.Purges.{purge}
use Rattle.jar_types.specs.Sets.{barred, set_where}
use Rattle.jar_types.specs.States.{JarState}
use Rattle.jar_types.specs.Steps.{after, call_step, call_where, op_step}
use Rattle.jar_types.specs.Waits.{faulted, needs}

-- the entries and the batches are as before
pub record Same (s t : JarState) : Type 0 where
  pub entries : t.entries ≡ s.entries
  pub batches : t.batches ≡ s.batches

set_where_same : (bar : Option Reply) (s : JarState) (now : ℕ) (c : Cookie) (left : Changed) → Same s (set_where bar s now c left).state
set_where_same (Some reply) s now c left = record { entries = refl; batches = refl }
set_where_same None s now c left = record { entries = refl; batches = refl }

op_same : (s : JarState) (caller now : ℕ) (op : Op) → Same s (op_step s caller now op).state
op_same s caller now (Bind key) = record { entries = refl; batches = refl }
op_same s caller now (Set c script secure) =
    let left = purge c.key now s.cookies in set_where_same (barred script secure c left.cookies) s now c left
op_same s caller now (Get request) = record { entries = refl; batches = refl }
op_same s caller now (Delete key id) = record { entries = refl; batches = refl }
op_same s caller now All = record { entries = refl; batches = refl }
op_same s caller now Clear = record { entries = refl; batches = refl }
op_same s caller now (Listen scope) = record { entries = refl; batches = refl }
op_same s caller now (Changes number) = record { entries = refl; batches = refl }
op_same s caller now (Unlisten number) = record { entries = refl; batches = refl }
op_same s caller now Post = record { entries = refl; batches = refl }
op_same s caller now (Hear actor n) = record { entries = refl; batches = refl }

where_same : (fault : Option Awaited) (s : JarState) (caller now : ℕ) (op : Op) → Same s (call_where fault s caller now op).state
where_same (Some what) s caller now op = record { entries = refl; batches = refl }
where_same None s caller now op = op_same s caller now op

-- a call takes no batch and ends none, and is counted when it ends
pub call_same : (s : JarState) (caller now : ℕ) (op : Op) → Same s (call_step s caller now op).state
call_same s caller now op = where_same (faulted s.loads (needs op)) s caller now op

-- an event is one entry more
pub event_entries : (s : JarState) (v : Event) → (after s v).entries ≡ s.entries + 1
event_entries s (CallEvent caller now op) = ap (λ n. n + 1) (call_same s caller now op).entries
event_entries s (JarEvent own) = refl
