-- Each event makes one entry more.
use Rattle.std.proofs.Common.{◌≡◌, ◌+◌, ℕ, refl, arith}
use Rattle.std.specs.Prelude.{Option, None, Some}
use Rattle.jar_types.specs.declared.cookie.Cookie.{Cookie}
use Rattle.jar_types.specs.declared.entry.Event.{Event}
use Rattle.jar_types.specs.declared.entry.Event.TheVariants.{Call as CallEvent, Jar as JarEvent}
use Rattle.jar_types.specs.declared.jar_core.Awaited.{Awaited}
use Rattle.jar_types.specs.declared.op.Op.{Op}
use Rattle.jar_types.specs.declared.op.Op.TheVariants.{Bind, Set, Get, Delete, All, Clear, Listen, Changes, Unlisten, Post, Hear}
use Rattle.jar_types.specs.declared.op.Reply.{Reply}
use Rattle.jar_types.specs.Changes.{Changed}
use Rattle.jar_types.specs.Purges.{purge}
use Rattle.jar_types.specs.Sets.{barred, set_where}
use Rattle.jar_types.specs.States.{JarState}
use Rattle.jar_types.specs.Steps.{after, call_where, op_step}
use Rattle.jar_types.specs.Waits.{faulted, needs}

set_entries : (bar : Option Reply) (s : JarState) (now : ℕ) (c : Cookie) (left : Changed) → (set_where bar s now c left).state.entries ≡ s.entries
set_entries (Some reply) s now c left = refl
set_entries None s now c left = refl

-- an op makes none itself
op_entries : (s : JarState) (caller now : ℕ) (op : Op) → (op_step s caller now op).state.entries ≡ s.entries
op_entries s caller now (Bind key) = refl
op_entries s caller now (Set c script secure) =
    let left = purge c.key now s.cookies in set_entries (barred script secure c left.cookies) s now c left
op_entries s caller now (Get request) = refl
op_entries s caller now (Delete key id) = refl
op_entries s caller now All = refl
op_entries s caller now Clear = refl
op_entries s caller now (Listen scope) = refl
op_entries s caller now (Changes number) = refl
op_entries s caller now (Unlisten number) = refl
op_entries s caller now Post = refl
op_entries s caller now (Hear actor n) = refl

call_entries : (fault : Option Awaited) (s : JarState) (caller now : ℕ) (op : Op) → (call_where fault s caller now op).state.entries ≡ s.entries
call_entries (Some what) s caller now op = refl
call_entries None s caller now op = op_entries s caller now op

pub entries_rise : (s : JarState) (v : Event) → (after s v).entries ≡ s.entries + 1
entries_rise s (CallEvent caller now op) =
    let same = call_entries (faulted s.loads (needs op)) s caller now op in omega (arith, same)
entries_rise s (JarEvent own) = refl
