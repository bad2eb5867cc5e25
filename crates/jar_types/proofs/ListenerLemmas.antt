-- Numbers of listeners are no greater than their callers' tallies, so one that is registered is the
-- only one of its number.
use Rattle.std.proofs.Common.{◌≡◌, ◌+◌, ◌≤◌, ℕ, List, [], ◌∷◌, ◌++◌, Bool, true, false, cond, refl, sym, ap, ◌∙◌, arith}
use Rattle.std.specs.Prelude.{filter, fold, map, not, ◌&&◌, ◌==◌, Option, None, Some, option_map}
use Rattle.std.specs.List.{AllByRecursion}
use Rattle.jar_types.specs.declared.change.Change.{Change}
use Rattle.jar_types.specs.declared.cookie.Cookie.{Cookie}
use Rattle.jar_types.specs.declared.entry.Event.{Event}
use Rattle.jar_types.specs.declared.entry.Event.TheVariants.{Call as CallEvent, Jar as JarEvent}
use Rattle.jar_types.specs.declared.jar_core.Awaited.{Awaited}
use Rattle.jar_types.specs.declared.listener.Listener.{Listener}
use Rattle.jar_types.specs.declared.listener.Scope.{Scope}
use Rattle.jar_types.specs.declared.op.Op.{Op}
use Rattle.jar_types.specs.declared.op.Op.TheVariants.{Bind, Set, Get, Delete, All, Clear, Listen, Changes, Unlisten, Post, Hear}
use Rattle.jar_types.specs.declared.op.Reply.{Reply}
use Rattle.jar_types.specs.declared.tally.Tally.{Tally}
use Rattle.jar_types.specs.Changes.{Changed}
use Rattle.jar_types.specs.HistoryLaws.{ListenersBegin}
use Rattle.jar_types.specs.Journals.{events, state_of}
use Rattle.jar_types.specs.Listeners.{hears, is_listener, listener_at, registered, taken_at}
use Rattle.jar_types.specs.Purges.{purge}
use Rattle.jar_types.specs.Sets.{barred, set_where}
use Rattle.jar_types.specs.States.{JarState, opening}
use Rattle.jar_types.specs.Steps.{after, call_step, call_where, op_step, own_moment, own_step}
use Rattle.jar_types.specs.Tallies.{counted, tally_of}
use Rattle.jar_types.specs.Waits.{faulted, needs}
use Rattle.jar_types.proofs.FindLemmas.{find_mapped}
use Rattle.jar_types.proofs.TallyLemmas.{counted_once, counted_least}

-- each number is at most the tally of its caller
abbrev Numbered : List Tally → List Listener → Type 0
Numbered listens listeners = AllByRecursion (λ l. l.number ≤ tally_of l.caller listens) listeners

hears_numbered : (listens : List Tally) (now : ℕ) (changes : List Change) (listeners : List Listener) → Numbered listens listeners
    → Numbered listens (map (hears now changes) listeners)
hears_numbered listens now changes [] all = tt
hears_numbered listens now changes (l ∷ ls) all = (all.0, hears_numbered listens now changes ls all.1)

taken_one : (listens : List Tally) (b : Bool) (l : Listener) → l.number ≤ tally_of l.caller listens
    → (cond b (record l { untaken = [] }) l).number ≤ tally_of (cond b (record l { untaken = [] }) l).caller listens
taken_one listens true l holds = holds
taken_one listens false l holds = holds

taken_numbered : (listens : List Tally) (caller number : ℕ) (listeners : List Listener) → Numbered listens listeners
    → Numbered listens (taken_at caller number listeners)
taken_numbered listens caller number [] all = tt
taken_numbered listens caller number (l ∷ ls) all =
    (taken_one listens (is_listener caller number l) l all.0, taken_numbered listens caller number ls all.1)

kept_one : (listens : List Tally) (keep : Bool) (l : Listener) (ls : List Listener) → l.number ≤ tally_of l.caller listens → Numbered listens ls
    → Numbered listens (cond keep (l ∷ ls) ls)
kept_one listens true l ls holds all = (holds, all)
kept_one listens false l ls holds all = all

kept_numbered : (listens : List Tally) (keep : Listener → Bool) (listeners : List Listener) → Numbered listens listeners
    → Numbered listens (filter keep listeners)
kept_numbered listens keep [] all = tt
kept_numbered listens keep (l ∷ ls) all =
    kept_one listens (keep l) l (filter keep ls) all.0 (kept_numbered listens keep ls all.1)

listen_numbered : (caller : ℕ) (listens : List Tally) (scope : Scope) (listeners : List Listener) → Numbered listens listeners
    → Numbered (counted caller listens) (listeners ++ registered caller (tally_of caller (counted caller listens)) scope ∷ [])
listen_numbered caller listens scope [] all = (omega arith, tt)
listen_numbered caller listens scope (l ∷ ls) all =
    let least = counted_least caller l.caller listens in
    let first = all.0 in
    (omega (arith, least, first), listen_numbered caller listens scope ls all.1)

set_where_numbered : (bar : Option Reply) (s : JarState) (now : ℕ) (c : Cookie) (left : Changed) → Numbered s.listens s.listeners
    → Numbered (set_where bar s now c left).state.listens (set_where bar s now c left).state.listeners
set_where_numbered (Some reply) s now c left all = all
set_where_numbered None s now c left all = all

op_numbered : (s : JarState) (caller now : ℕ) (op : Op) → Numbered s.listens s.listeners
    → Numbered (op_step s caller now op).state.listens (op_step s caller now op).state.listeners
op_numbered s caller now (Bind key) all = all
op_numbered s caller now (Set c script secure) all =
    let left = purge c.key now s.cookies in set_where_numbered (barred script secure c left.cookies) s now c left all
op_numbered s caller now (Get request) all = all
op_numbered s caller now (Delete key id) all = all
op_numbered s caller now All all = all
op_numbered s caller now Clear all = all
op_numbered s caller now (Listen scope) all = listen_numbered caller s.listens scope s.listeners all
op_numbered s caller now (Changes number) all = taken_numbered s.listens caller number s.listeners all
op_numbered s caller now (Unlisten number) all = kept_numbered s.listens (λ l. not (is_listener caller number l)) s.listeners all
op_numbered s caller now Post all = all
op_numbered s caller now (Hear actor n) all = all

call_numbered : (fault : Option Awaited) (s : JarState) (caller now : ℕ) (op : Op) → Numbered s.listens s.listeners
    → Numbered (call_where fault s caller now op).state.listens (call_where fault s caller now op).state.listeners
call_numbered (Some what) s caller now op all = all
call_numbered None s caller now op all = op_numbered s caller now op all

event_numbered : (s : JarState) (v : Event) → Numbered s.listens s.listeners → Numbered (after s v).listens (after s v).listeners
event_numbered s (CallEvent caller now op) all =
    let step = call_step s caller now op in
    hears_numbered step.state.listens now step.changes step.state.listeners (call_numbered (faulted s.loads (needs op)) s caller now op all)
event_numbered s (JarEvent own) all =
    hears_numbered s.listens (own_moment own) (own_step s own).changes s.listeners all

events_numbered : (s : JarState) (vs : List Event) → Numbered s.listens s.listeners → Numbered (fold after s vs).listens (fold after s vs).listeners
events_numbered s [] all = all
events_numbered s (v ∷ vs) all = events_numbered (after s v) vs (event_numbered s v all)

-- no other listener has the number of one that is registered
other_one : (caller number : ℕ) (listens : List Tally) (l : Listener) (c n : Bool) → (l.caller == caller) ≡ c → (l.number == number) ≡ n
    → l.number ≤ tally_of l.caller listens → tally_of caller listens + 1 ≡ number → (c && n) ≡ false
other_one caller number listens l true true is is' all next =
    let same : l.caller ≡ caller = grind arith in
    let equal : l.number ≡ number = grind arith in
    let least : l.number ≤ tally_of caller listens = rw (sym same) all in
    absurd (omega (arith, least, equal, next))
other_one caller number listens l true false is is' all next = refl
other_one caller number listens l false n is is' all next = refl

last_found : (caller number : ℕ) (listens : List Tally) (listeners : List Listener) (last : Listener) → Numbered listens listeners
    → tally_of caller listens + 1 ≡ number → is_listener caller number last ≡ true
    → listener_at caller number (listeners ++ last ∷ []) ≡ Some last
last_found caller number listens [] last all next it = ap (λ b. cond b (Some last) None) it
last_found caller number listens (l ∷ ls) last all next it =
    ap (λ b. cond b (Some l) (listener_at caller number (ls ++ last ∷ [])))
    (other_one caller number listens l (l.caller == caller) (l.number == number) refl refl all.0 next)
    ∙ last_found caller number listens ls last all.1 next it

is_registered : (caller number : ℕ) (scope : Scope) → is_listener caller number (registered caller number scope) ≡ true
is_registered caller number scope = grind arith

begins : (s : JarState) (caller now : ℕ) (scope : Scope) → Numbered s.listens s.listeners
    → let t = after s (CallEvent caller now (Listen scope)) in
    listener_at caller (tally_of caller t.listens) t.listeners ≡ Some (registered caller (tally_of caller t.listens) scope)
begins s caller now scope all =
    let number = tally_of caller (counted caller s.listens) in
    let new = registered caller number scope in
    find_mapped (is_listener caller number) (hears now []) (λ m. refl) (s.listeners ++ new ∷ [])
    ∙ ap (option_map (hears now [])) (last_found caller number s.listens s.listeners new all (sym (counted_once caller s.listens)) (is_registered caller number scope))

pub listeners_begin : ListenersBegin
unfolding state_of
listeners_begin keys journal caller now scope =
    begins (fold after (opening keys) (events journal)) caller now scope (events_numbered (opening keys) (events journal) tt)
