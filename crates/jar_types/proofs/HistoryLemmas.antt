-- What listeners have and how cells are turned after events: one lemma an op, and the induction
-- over events.
use Rattle.std.proofs.Common.{◌≡◌, ◌+◌, ℕ, List, [], ◌∷◌, ◌++◌, Bool, true, false, cond, refl, sym, ap, ◌∙◌, arith, append_assoc, append-nil}
use Rattle.std.specs.Prelude.{map, length, nat_lt, find, not, ◌&&◌, ◌==◌, Option, None, Some, option_map}
use Rattle.std.specs.List.{list_all}
use Rattle.std.proofs.lemmas.Slice.Eq.{bytes_eq-Decides}
use Rattle.jar_types.specs.declared.bound_key.BoundKey.{BoundKey}
use Rattle.jar_types.specs.declared.bound_key.TheConstants.{MOST_CELLS}
use Rattle.jar_types.specs.declared.change.Change.{Change}
use Rattle.jar_types.specs.declared.cookie.Cookie.{Cookie}
use Rattle.jar_types.specs.declared.entry.Event.{Event}
use Rattle.jar_types.specs.declared.entry.Event.TheVariants.{Call as CallEvent, Jar as JarEvent}
use Rattle.jar_types.specs.declared.jar_core.Awaited.{Awaited}
use Rattle.jar_types.specs.declared.listener.Listener.{Listener}
use Rattle.jar_types.specs.declared.op.Op.{Op}
use Rattle.jar_types.specs.declared.op.Op.TheVariants.{Bind, Set, Get, Delete, All, Clear, Listen, Changes, Unlisten, Post, Hear}
use Rattle.jar_types.specs.declared.op.Reply.{Reply}
use Rattle.jar_types.specs.Bound.{is_bound_to, bound_where, cell_of, changes_key, turned, version_of}
use Rattle.jar_types.specs.Changes.{Changed}
use Rattle.jar_types.specs.HistoryLaws.{moment_of, heard, op_spares, spares, ListenersHear, ListenersAreTaken, VersionsCountTurns}
use Rattle.jar_types.specs.Listeners.{admitted, hears, is_listener, listener_at, registered, taken_at}
use Rattle.jar_types.specs.Purges.{purge}
use Rattle.jar_types.specs.Sets.{barred, set_where, set_step}
use Rattle.jar_types.specs.States.{JarState}
use Rattle.jar_types.specs.Steps.{after, call_step, call_where, changes_at, op_step, own_moment, own_step, told}
use Rattle.jar_types.specs.Tallies.{counted, tally_of}
use Rattle.jar_types.specs.Waits.{faulted, needs}
use Rattle.jar_types.proofs.FindLemmas.{find_mapped, find_longer, find_kept, find_passes}

-- a Set changes the cookies of the state alone
set_where_bound : (bar : Option Reply) (s : JarState) (now : ℕ) (c : Cookie) (left : Changed) → (set_where bar s now c left).state.bound ≡ s.bound
set_where_bound (Some reply) s now c left = refl
set_where_bound None s now c left = refl

set_where_listeners : (bar : Option Reply) (s : JarState) (now : ℕ) (c : Cookie) (left : Changed) → (set_where bar s now c left).state.listeners ≡ s.listeners
set_where_listeners (Some reply) s now c left = refl
set_where_listeners None s now c left = refl

set_bound : (s : JarState) (now : ℕ) (c : Cookie) (script secure : Bool) → (set_step s now c script secure).state.bound ≡ s.bound
set_bound s now c script secure =
    let left = purge c.key now s.cookies in set_where_bound (barred script secure c left.cookies) s now c left

set_listeners : (s : JarState) (now : ℕ) (c : Cookie) (script secure : Bool) → (set_step s now c script secure).state.listeners ≡ s.listeners
set_listeners s now c script secure =
    let left = purge c.key now s.cookies in set_where_listeners (barred script secure c left.cookies) s now c left

-- ---- listeners

both : (a b : Bool) → (a && b) ≡ true → (a ≡ true) × (b ≡ true)
both true b h = (refl, h)
both false b h = absurd cc

-- a listener that is found has the caller and the number
pub is_found : (caller number : ℕ) (listeners : List Listener) (l : Listener) → listener_at caller number listeners ≡ Some l
    → (l.caller == caller ≡ true) × (l.number == number ≡ true)
is_found caller number listeners l e = both (l.caller == caller) (l.number == number) (find_passes (is_listener caller number) listeners l e)

-- the listener of another, or of another number, isn't the one
not_it : (caller number other wanted : ℕ) (b c : Bool) (l : Listener) → (other == caller) ≡ b → (wanted == number) ≡ c
    → cond b (not c) true ≡ true → is_listener caller number l ≡ true → is_listener other wanted l ≡ false
not_it caller number other wanted b c l is is' spared it = grind arith

taken_test : (caller number other wanted : ℕ) (l : Listener)
    → is_listener caller number (cond (is_listener other wanted l) (record l { untaken = [] }) l) ≡ is_listener caller number l
taken_test caller number other wanted l =
    elim (is_listener other wanted l) as (λ b. is_listener caller number (cond b (record l { untaken = [] }) l) ≡ is_listener caller number l)
    [ true ↦ refl | false ↦ refl ]

-- taking another's changes leaves the listener
taken_spares : (caller number other wanted : ℕ) (listeners : List Listener) (l : Listener) → listener_at caller number listeners ≡ Some l
    → is_listener other wanted l ≡ false → listener_at caller number (taken_at other wanted listeners) ≡ Some l
taken_spares caller number other wanted listeners l e other_one =
    find_mapped (is_listener caller number) (λ m. cond (is_listener other wanted m) (record m { untaken = [] }) m) (taken_test caller number other wanted) listeners
    ∙ ap (option_map (λ m. cond (is_listener other wanted m) (record m { untaken = [] }) m)) e
    ∙ ap (λ b. Some (cond b (record l { untaken = [] }) l)) other_one

spare_passes : (caller number other wanted : ℕ) → cond (other == caller) (not (wanted == number)) true ≡ true
    → (m : Listener) → is_listener caller number m ≡ true → not (is_listener other wanted m) ≡ true
spare_passes caller number other wanted spared m it =
    ap not (not_it caller number other wanted (other == caller) (wanted == number) m refl refl spared it)

-- an op that spares a listener leaves it as it is
op_leaves : (s : JarState) (other now : ℕ) (op : Op) (caller number : ℕ) (l : Listener) → listener_at caller number s.listeners ≡ Some l
    → cond (other == caller) (op_spares number op) true ≡ true
    → listener_at caller number (op_step s other now op).state.listeners ≡ Some l
op_leaves s other now (Bind key) caller number l e spared = e
op_leaves s other now (Set cookie script secure) caller number l e spared =
    ap (listener_at caller number) (set_listeners s now cookie script secure) ∙ e
op_leaves s other now (Get request) caller number l e spared = e
op_leaves s other now (Delete key id) caller number l e spared = e
op_leaves s other now All caller number l e spared = e
op_leaves s other now Clear caller number l e spared = e
op_leaves s other now (Listen scope) caller number l e spared =
    let n = tally_of other (counted other s.listens) in
    find_longer (is_listener caller number) s.listeners (registered other n scope ∷ []) l e
op_leaves s other now (Changes wanted) caller number l e spared =
    taken_spares caller number other wanted s.listeners l e
    (not_it caller number other wanted (other == caller) (wanted == number) l refl refl spared (find_passes (is_listener caller number) s.listeners l e))
op_leaves s other now (Unlisten wanted) caller number l e spared =
    find_kept (is_listener caller number) (λ m. not (is_listener other wanted m)) (spare_passes caller number other wanted spared) s.listeners l e
op_leaves s other now Post caller number l e spared = e
op_leaves s other now (Hear actor n) caller number l e spared = e

call_leaves : (fault : Option Awaited) (s : JarState) (other now : ℕ) (op : Op) (caller number : ℕ) (l : Listener)
    → listener_at caller number s.listeners ≡ Some l → cond (other == caller) (op_spares number op) true ≡ true
    → listener_at caller number (call_where fault s other now op).state.listeners ≡ Some l
call_leaves (Some what) s other now op caller number l e spared = e
call_leaves None s other now op caller number l e spared = op_leaves s other now op caller number l e spared

-- it hears of the changes
told_hears : (now : ℕ) (changes : List Change) (s : JarState) (caller number : ℕ) (l : Listener) → listener_at caller number s.listeners ≡ Some l
    → listener_at caller number (told now changes s).listeners ≡ Some (hears now changes l)
told_hears now changes s caller number l e =
    find_mapped (is_listener caller number) (hears now changes) (λ m. refl) s.listeners ∙ ap (option_map (hears now changes)) e

event_hears : (s : JarState) (v : Event) (caller number : ℕ) (l : Listener) → listener_at caller number s.listeners ≡ Some l
    → spares caller number v ≡ true
    → listener_at caller number (after s v).listeners ≡ Some (hears (moment_of v) (changes_at s v) l)
event_hears s (CallEvent other now op) caller number l e spared =
    let step = call_step s other now op in
    told_hears now step.changes step.state caller number l (call_leaves (faulted s.loads (needs op)) s other now op caller number l e spared)
event_hears s (JarEvent own) caller number l e spared =
    let step = own_step s own in told_hears (own_moment own) step.changes step.state caller number l e

pub listeners_hear : ListenersHear
listeners_hear s [] caller number l e spared = e ∙ ap (λ all. Some (record l { untaken = all })) (sym (append-nil l.untaken))
listeners_hear s (v ∷ vs) caller number l e spared =
    let parts = both (spares caller number v) (list_all (spares caller number) vs) spared in
    let l' = hears (moment_of v) (changes_at s v) l in
    listeners_hear (after s v) vs caller number l' (event_hears s v caller number l e parts.0) parts.1
    ∙ ap (λ all. Some (record l { untaken = all })) (append_assoc l.untaken (admitted l.scope (moment_of v) (changes_at s v)) (heard l.scope (after s v) vs))

pub listeners_are_taken : ListenersAreTaken
listeners_are_taken listeners caller number l e =
    find_mapped (is_listener caller number) (λ m. cond (is_listener caller number m) (record m { untaken = [] }) m) (taken_test caller number caller number) listeners
    ∙ ap (option_map (λ m. cond (is_listener caller number m) (record m { untaken = [] }) m)) e
    ∙ ap (λ b. Some (cond b (record l { untaken = [] }) l)) (find_passes (is_listener caller number) listeners l e)

-- ---- cells

turned_test : (changes : List Change) (key : List ℕ) (b : BoundKey) → is_bound_to key (turned changes b) ≡ is_bound_to key b
turned_test changes key b =
    elim (changes_key b.key changes) as (λ t. is_bound_to key (cond t (record b { version = b.version + 1 }) b) ≡ is_bound_to key b)
    [ true ↦ refl | false ↦ refl ]

same_key : (key : List ℕ) (b : BoundKey) → is_bound_to key b ≡ true → b.key ≡ key
same_key key b e = (bytes_eq-Decides b.key key).0 e

-- the version of a bound key after an entry
turned_version : (changes : List Change) (key : List ℕ) (b : BoundKey) → b.key ≡ key
    → (turned changes b).version ≡ b.version + cond (changes_key key changes) 1 0
turned_version changes key b same =
    rw (sym same) (elim (changes_key b.key changes) as (λ t. (cond t (record b { version = b.version + 1 }) b).version ≡ b.version + cond t 1 0)
    [ true ↦ refl | false ↦ omega arith ])

found_version : (changes : List Change) (key : List ℕ) (found : Option BoundKey) (version : ℕ)
    → ((b : BoundKey) → found ≡ Some b → b.key ≡ key) → option_map (λ b. b.version) found ≡ Some version
    → option_map (λ b. b.version) (option_map (turned changes) found) ≡ Some (version + cond (changes_key key changes) 1 0)
found_version changes key None version same e = absurd cc
found_version changes key (Some b) version same e =
    let is : b.version ≡ version = cc in
    ap Some (turned_version changes key b (same b refl) ∙ ap (λ n. n + cond (changes_key key changes) 1 0) is)

turn_found : (changes : List Change) (key : List ℕ) (found : Option BoundKey) → ((b : BoundKey) → found ≡ Some b → b.key ≡ key)
    → option_map (λ b. b.version) (option_map (turned changes) found)
    ≡ option_map (λ v. v + cond (changes_key key changes) 1 0) (option_map (λ b. b.version) found)
turn_found changes key None same = refl
turn_found changes key (Some b) same = ap Some (turned_version changes key b (same b refl))

-- the version of a key among turned ones
pub versions_turn : (changes : List Change) (key : List ℕ) (bound : List BoundKey)
    → version_of key (map (turned changes) bound) ≡ option_map (λ v. v + cond (changes_key key changes) 1 0) (version_of key bound)
versions_turn changes key bound =
    ap (option_map (λ b. b.version)) (find_mapped (is_bound_to key) (turned changes) (turned_test changes key) bound)
    ∙ turn_found changes key (find (is_bound_to key) bound) (λ b found. same_key key b (find_passes (is_bound_to key) bound b found))

told_version : (now : ℕ) (changes : List Change) (s : JarState) (key : List ℕ) (version : ℕ) → version_of key s.bound ≡ Some version
    → version_of key (told now changes s).bound ≡ Some (version + cond (changes_key key changes) 1 0)
told_version now changes s key version e =
    ap (option_map (λ b. b.version)) (find_mapped (is_bound_to key) (turned changes) (turned_test changes key) s.bound)
    ∙ found_version changes key (find (is_bound_to key) s.bound) version (λ b found. same_key key b (find_passes (is_bound_to key) s.bound b found)) e

-- a bound key stays bound
longer_version : (key : List ℕ) (bound more : List BoundKey) (found : Option BoundKey) (version : ℕ) → find (is_bound_to key) bound ≡ found
    → option_map (λ b. b.version) found ≡ Some version → version_of key (bound ++ more) ≡ Some version
longer_version key bound more None version is e = absurd cc
longer_version key bound more (Some b) version is e = ap (option_map (λ b. b.version)) (find_longer (is_bound_to key) bound more b is) ∙ e

next_version : (key other : List ℕ) (bound : List BoundKey) (room : Bool) (version : ℕ) → version_of key bound ≡ Some version
    → version_of key (cond room (bound ++ record { key = other; version = 0 } ∷ []) bound) ≡ Some version
next_version key other bound true version e =
    longer_version key bound (record { key = other; version = 0 } ∷ []) (find (is_bound_to key) bound) version refl e
next_version key other bound false version e = e

bound_version : (cell : Option ℕ) (key other : List ℕ) (bound : List BoundKey) (version : ℕ) → version_of key bound ≡ Some version
    → version_of key (bound_where cell other bound) ≡ Some version
bound_version (Some cell) key other bound version e = e
bound_version None key other bound version e = next_version key other bound (nat_lt (length bound) MOST_CELLS) version e

op_version : (s : JarState) (caller now : ℕ) (op : Op) (key : List ℕ) (version : ℕ) → version_of key s.bound ≡ Some version
    → version_of key (op_step s caller now op).state.bound ≡ Some version
op_version s caller now (Bind other) key version e = bound_version (cell_of other s.bound) key other s.bound version e
op_version s caller now (Set cookie script secure) key version e = ap (version_of key) (set_bound s now cookie script secure) ∙ e
op_version s caller now (Get request) key version e = e
op_version s caller now (Delete other id) key version e = e
op_version s caller now All key version e = e
op_version s caller now Clear key version e = e
op_version s caller now (Listen scope) key version e = e
op_version s caller now (Changes number) key version e = e
op_version s caller now (Unlisten number) key version e = e
op_version s caller now Post key version e = e
op_version s caller now (Hear actor n) key version e = e

call_version : (fault : Option Awaited) (s : JarState) (caller now : ℕ) (op : Op) (key : List ℕ) (version : ℕ)
    → version_of key s.bound ≡ Some version → version_of key (call_where fault s caller now op).state.bound ≡ Some version
call_version (Some what) s caller now op key version e = e
call_version None s caller now op key version e = op_version s caller now op key version e

event_version : (s : JarState) (v : Event) (key : List ℕ) (version : ℕ) → version_of key s.bound ≡ Some version
    → version_of key (after s v).bound ≡ Some (version + cond (changes_key key (changes_at s v)) 1 0)
event_version s (CallEvent caller now op) key version e =
    let step = call_step s caller now op in
    told_version now step.changes step.state key version (call_version (faulted s.loads (needs op)) s caller now op key version e)
event_version s (JarEvent own) key version e =
    let step = own_step s own in told_version (own_moment own) step.changes step.state key version e

pub versions_count_turns : VersionsCountTurns
versions_count_turns s [] key version e = e ∙ ap Some (omega arith)
versions_count_turns s (v ∷ vs) key version e =
    let one = cond (changes_key key (changes_at s v)) 1 0 in
    versions_count_turns (after s v) vs key (version + one) (event_version s v key version e)
    ∙ ap Some (omega arith)
