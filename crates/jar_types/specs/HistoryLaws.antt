-- What listeners have and how cells are turned, over the events that came, and not over a queue or a counter. This jar's
-- own rule: docs/DEFINITIONS.md.
use Rattle.std.specs.Prelude.{ℕ, ◌+◌, ◌≡◌, List, [], ◌∷◌, ◌++◌, Bool, true, not, ◌==◌, Some, fold, cond}
use Rattle.std.specs.List.{list_all}
use Rattle.jar_types.specs.declared.change.Change.{Change}
use Rattle.jar_types.specs.declared.entry.Entry.{Entry}
use Rattle.jar_types.specs.declared.entry.Event.{Event}
use Rattle.jar_types.specs.declared.entry.Event.TheVariants.{Call as CallEvent, Jar as JarEvent}
use Rattle.jar_types.specs.declared.listener.Listener.{Listener}
use Rattle.jar_types.specs.declared.listener.Scope.{Scope}
use Rattle.jar_types.specs.declared.op.Op.{Op}
use Rattle.jar_types.specs.declared.op.Op.TheVariants.{Bind, Set, Get, Delete, All, Clear, Listen, Changes, Unlisten, Post, Hear}
use Rattle.jar_types.specs.Bound.{changes_key, version_of}
use Rattle.jar_types.specs.Journals.{state_of}
use Rattle.jar_types.specs.Listeners.{admitted, listener_at, registered, taken_at}
use Rattle.jar_types.specs.States.{JarState}
use Rattle.jar_types.specs.Steps.{after, changes_at, own_moment}
use Rattle.jar_types.specs.Tallies.{tally_of}

-- ---- listeners

-- the moment of an event
abbrev pub moment_of : Event → ℕ
moment_of (CallEvent caller now op) = now
moment_of (JarEvent own) = own_moment own

-- the changes that a scope admits, of these events from a state on, each at its event's moment
abbrev pub heard : Scope → JarState → List Event → List Change
heard scope s [] = []
heard scope s (v ∷ vs) = admitted scope (moment_of v) (changes_at s v) ++ heard scope (after s v) vs

-- the op neither takes the changes of a listener of this number nor ends it
abbrev pub op_spares : ℕ → Op → Bool
op_spares number (Bind key) = true
op_spares number (Set cookie script secure) = true
op_spares number (Get request) = true
op_spares number (Delete key id) = true
op_spares number All = true
op_spares number Clear = true
op_spares number (Listen scope) = true
op_spares number (Changes other) = not (other == number)
op_spares number (Unlisten other) = not (other == number)
op_spares number Post = true
op_spares number (Hear actor n) = true

-- the event neither takes the changes of the listener nor ends it
abbrev pub spares : ℕ → ℕ → Event → Bool
spares caller number (CallEvent other now op) = cond (other == caller) (op_spares number op) true
spares caller number (JarEvent own) = true

-- over events that neither take a listener's changes nor end it, it gets just those that its scope admits, behind what it
-- had not taken before
abbrev pub ListenersHear : Type 0
ListenersHear =
    (s : JarState) (vs : List Event) (caller number : ℕ) (l : Listener)
    → listener_at caller number s.listeners ≡ Some l → list_all (spares caller number) vs ≡ true
    → listener_at caller number (fold after s vs).listeners ≡ Some (record l { untaken = l.untaken ++ heard l.scope s vs })

-- after a journal, one that is registered is found by its number, and has nothing untaken
abbrev pub ListenersBegin : Type 0
ListenersBegin =
    (keys : List (List ℕ)) (journal : List Entry) (caller now : ℕ) (scope : Scope)
    → let s = after (state_of keys journal) (CallEvent caller now (Listen scope)) in
    listener_at caller (tally_of caller s.listens) s.listeners ≡ Some (registered caller (tally_of caller s.listens) scope)

-- one whose changes are taken has nothing untaken
abbrev pub ListenersAreTaken : Type 0
ListenersAreTaken =
    (listeners : List Listener) (caller number : ℕ) (l : Listener)
    → listener_at caller number listeners ≡ Some l
    → listener_at caller number (taken_at caller number listeners) ≡ Some (record l { untaken = [] })

-- ---- cells

-- how many of these events, from a state on, changed cookies of a key
abbrev pub turns : List ℕ → JarState → List Event → ℕ
turns key s [] = 0
turns key s (v ∷ vs) = cond (changes_key key (changes_at s v)) 1 0 + turns key (after s v) vs

-- the version of a bound key rises by one for each of these
abbrev pub VersionsCountTurns : Type 0
VersionsCountTurns =
    (s : JarState) (vs : List Event) (key : List ℕ) (version : ℕ)
    → version_of key s.bound ≡ Some version
    → version_of key (fold after s vs).bound ≡ Some (version + turns key s vs)
