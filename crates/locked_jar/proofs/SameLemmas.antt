-- What an event leaves of a state: counters, posts, and the loading.
use Rattle.std.proofs.Common.{◌≡◌, ◌+◌, ℕ, List, Option, None, Some, refl, ap}
use Rattle.jar_types.specs.declared.cookie.Cookie.{Cookie}
use Rattle.jar_types.specs.declared.jar_core.Awaited.{Awaited}
use Rattle.jar_types.specs.declared.op.Op.{Op}
use Rattle.jar_types.specs.declared.op.Op.TheVariants.{Bind, Set, Get, Delete, All, Clear, Listen, Changes, Unlisten, Post, Hear}
use Rattle.jar_types.specs.declared.op.Reply.{Reply}
use Rattle.jar_types.specs.declared.entry.Own.{Own}
use Rattle.jar_types.specs.declared.tally.Tally.{Tally}
use Rattle.jar_types.specs.Batches.{Batches}
use Rattle.jar_types.specs.Changes.{Changed}
use Rattle.jar_types.specs.Loads.{Loads, own_loads}
use Rattle.jar_types.specs.Purges.{purge}
use Rattle.jar_types.specs.Sets.{barred, set_where}
use Rattle.jar_types.specs.States.{JarState}
use Rattle.jar_types.specs.declared.entry.Event.{Event}
use Rattle.jar_types.specs.declared.entry.Event.TheVariants.{Call as CallEvent, Jar as JarEvent}
use Rattle.jar_types.specs.Steps.{after, call_step, call_where, op_step}
use Rattle.jar_types.specs.Tallies.{counted}
use Rattle.jar_types.specs.Waits.{faulted, needs, unmarked}

-- the counters and the loading are as before
pub record Same (s t : JarState) : Type 0 where
  pub calls : t.calls ≡ s.calls
  pub entries : t.entries ≡ s.entries
  pub loads : t.loads ≡ s.loads
  pub batches : t.batches ≡ s.batches

set_where_same : (bar : Option Reply) (s : JarState) (now : ℕ) (c : Cookie) (left : Changed) → Same s (set_where bar s now c left).state
set_where_same (Some reply) s now c left = record { calls = refl; entries = refl; loads = refl; batches = refl }
set_where_same None s now c left = record { calls = refl; entries = refl; loads = refl; batches = refl }

-- an op counts no entry, and loads nothing
pub op_same : (s : JarState) (caller now : ℕ) (op : Op) → Same s (op_step s caller now op).state
op_same s caller now (Bind key) = record { calls = refl; entries = refl; loads = refl; batches = refl }
op_same s caller now (Set c script secure) =
    let left = purge c.key now s.cookies in set_where_same (barred script secure c left.cookies) s now c left
op_same s caller now (Get request) = record { calls = refl; entries = refl; loads = refl; batches = refl }
op_same s caller now (Delete key id) = record { calls = refl; entries = refl; loads = refl; batches = refl }
op_same s caller now All = record { calls = refl; entries = refl; loads = refl; batches = refl }
op_same s caller now Clear = record { calls = refl; entries = refl; loads = refl; batches = refl }
op_same s caller now (Listen scope) = record { calls = refl; entries = refl; loads = refl; batches = refl }
op_same s caller now (Changes number) = record { calls = refl; entries = refl; loads = refl; batches = refl }
op_same s caller now (Unlisten number) = record { calls = refl; entries = refl; loads = refl; batches = refl }
op_same s caller now Post = record { calls = refl; entries = refl; loads = refl; batches = refl }
op_same s caller now (Hear actor n) = record { calls = refl; entries = refl; loads = refl; batches = refl }

-- ---- posts

-- the posts after an op: one more of its caller for a Post
abbrev pub posts_after : Op → ℕ → List Tally → List Tally
posts_after (Bind key) caller posts = posts
posts_after (Set c script secure) caller posts = posts
posts_after (Get request) caller posts = posts
posts_after (Delete key id) caller posts = posts
posts_after All caller posts = posts
posts_after Clear caller posts = posts
posts_after (Listen scope) caller posts = posts
posts_after (Changes number) caller posts = posts
posts_after (Unlisten number) caller posts = posts
posts_after Post caller posts = counted caller posts
posts_after (Hear actor n) caller posts = posts

set_where_posts : (bar : Option Reply) (s : JarState) (now : ℕ) (c : Cookie) (left : Changed) → (set_where bar s now c left).state.posts ≡ s.posts
set_where_posts (Some reply) s now c left = refl
set_where_posts None s now c left = refl

op_posts : (s : JarState) (caller now : ℕ) (op : Op) → (op_step s caller now op).state.posts ≡ posts_after op caller s.posts
op_posts s caller now (Bind key) = refl
op_posts s caller now (Set c script secure) =
    let left = purge c.key now s.cookies in set_where_posts (barred script secure c left.cookies) s now c left
op_posts s caller now (Get request) = refl
op_posts s caller now (Delete key id) = refl
op_posts s caller now All = refl
op_posts s caller now Clear = refl
op_posts s caller now (Listen scope) = refl
op_posts s caller now (Changes number) = refl
op_posts s caller now (Unlisten number) = refl
op_posts s caller now Post = refl
op_posts s caller now (Hear actor n) = refl

-- what needs something is no Post
no_posts : (op : Op) (what : Awaited) (caller : ℕ) (posts : List Tally) (l : Loads) → faulted l (needs op) ≡ Some what → posts ≡ posts_after op caller posts
no_posts (Bind key) what caller posts l e = absurd cc
no_posts (Set c script secure) what caller posts l e = refl
no_posts (Get request) what caller posts l e = refl
no_posts (Delete key id) what caller posts l e = refl
no_posts All what caller posts l e = refl
no_posts Clear what caller posts l e = refl
no_posts (Listen scope) what caller posts l e = absurd cc
no_posts (Changes number) what caller posts l e = absurd cc
no_posts (Unlisten number) what caller posts l e = absurd cc
no_posts Post what caller posts l e = absurd cc
no_posts (Hear actor n) what caller posts l e = absurd cc

where_posts : (o : Option Awaited) (s : JarState) (caller now : ℕ) (op : Op) → faulted s.loads (needs op) ≡ o
    → (call_where o s caller now op).state.posts ≡ posts_after op caller s.posts
where_posts (Some what) s caller now op e = no_posts op what caller s.posts s.loads e
where_posts None s caller now op e = op_posts s caller now op

-- a call makes the posts of its op, whether it is told of a fault or not
pub call_posts : (s : JarState) (caller now : ℕ) (op : Op) → (after s (CallEvent caller now op)).posts ≡ posts_after op caller s.posts
call_posts s caller now op = where_posts (faulted s.loads (needs op)) s caller now op refl

-- ---- counters

where_calls : (o : Option Awaited) (s : JarState) (caller now : ℕ) (op : Op) → (call_where o s caller now op).state.calls ≡ s.calls
where_calls (Some what) s caller now op = refl
where_calls None s caller now op = (op_same s caller now op).calls

where_entries : (o : Option Awaited) (s : JarState) (caller now : ℕ) (op : Op) → (call_where o s caller now op).state.entries ≡ s.entries
where_entries (Some what) s caller now op = refl
where_entries None s caller now op = (op_same s caller now op).entries

-- a call is one entry more of the callers, and of all
pub call_calls : (s : JarState) (caller now : ℕ) (op : Op) → (after s (CallEvent caller now op)).calls ≡ s.calls + 1
call_calls s caller now op = ap (λ n. n + 1) (where_calls (faulted s.loads (needs op)) s caller now op)

pub call_entries : (s : JarState) (caller now : ℕ) (op : Op) → (after s (CallEvent caller now op)).entries ≡ s.entries + 1
call_entries s caller now op = ap (λ n. n + 1) (where_entries (faulted s.loads (needs op)) s caller now op)

pub event_entries : (s : JarState) (v : Event) → (after s v).entries ≡ s.entries + 1
event_entries s (CallEvent caller now op) = call_entries s caller now op
event_entries s (JarEvent own) = refl

-- what the jar does itself is no caller's entry
pub own_calls : (s : JarState) (own : Own) → (after s (JarEvent own)).calls ≡ s.calls
own_calls s own = refl

-- ---- the loading

-- the loading after a call: as it was, or without the mark of what was lost
abbrev pub loads_where : Option Awaited → Loads → Loads
loads_where (Some what) l = unmarked what l
loads_where None l = l

where_loads : (o : Option Awaited) (s : JarState) (caller now : ℕ) (op : Op) → (call_where o s caller now op).state.loads ≡ loads_where o s.loads
where_loads (Some what) s caller now op = refl
where_loads None s caller now op = (op_same s caller now op).loads

pub call_loads : (s : JarState) (caller now : ℕ) (op : Op) → (after s (CallEvent caller now op)).loads ≡ loads_where (faulted s.loads (needs op)) s.loads
call_loads s caller now op = where_loads (faulted s.loads (needs op)) s caller now op

pub own_loads_after : (s : JarState) (own : Own) → (after s (JarEvent own)).loads ≡ own_loads own s.loads
own_loads_after s own = refl

-- ---- batches

where_out : (o : Option Awaited) (s : JarState) (caller now : ℕ) (op : Op) → (call_where o s caller now op).state.batches ≡ s.batches
where_out (Some what) s caller now op = refl
where_out None s caller now op = (op_same s caller now op).batches

-- the batches to which a call's changes of rows come are those before
pub call_batches : (s : JarState) (caller now : ℕ) (op : Op) → (call_step s caller now op).state.batches ≡ s.batches
call_batches s caller now op = where_out (faulted s.loads (needs op)) s caller now op

-- no batch is taken or ends in a call
pub call_out : (s : JarState) (caller now : ℕ) (op : Op) → (after s (CallEvent caller now op)).batches.out ≡ s.batches.out
call_out s caller now op = ap (λ (b : Batches). b.out) (where_out (faulted s.loads (needs op)) s caller now op)
