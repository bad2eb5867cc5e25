-- Listeners: which changes they get, and how they are registered, asked and ended. This jar's own rule:
-- docs/DEFINITIONS.md.
use Rattle.std.specs.Prelude.{ℕ, List, [], ◌∷◌, ◌++◌, filter, find, map, Bool, true, not, ◌&&◌, ◌==◌, bytes_eq, Option, None, Some, if◌then◌else◌}
use Rattle.std.specs.List.{list_any}
use Rattle.jar_types.specs.declared.change.Change.{Change}
use Rattle.jar_types.specs.declared.cookie.Cookie.{Cookie}
use Rattle.jar_types.specs.declared.listener.Listener.{Listener}
use Rattle.jar_types.specs.declared.listener.Scope.{Scope}
use Rattle.jar_types.specs.declared.listener.Scope.TheVariants.{All, Seen, Named}
use Rattle.jar_types.specs.declared.op.Reply.{Reply}
use Rattle.jar_types.specs.declared.op.Reply.TheVariants.{Listener as ListenerReply, Changes, NoListener, Flag}
use Rattle.jar_types.specs.Matches.{matches}
use Rattle.jar_types.specs.States.{JarState, Stepped, replied}
use Rattle.jar_types.specs.Tallies.{tally_of, counted}

-- a scope admits a cookie at a moment; its expiry plays no part
abbrev pub admits : Scope → ℕ → Cookie → Bool
admits All now c = true
admits (Seen q) now c = matches q c now
admits (Named q name) now c = matches q c now && bytes_eq c.name name

-- those of an entry's changes that a scope admits, at the entry's moment
abbrev pub admitted : Scope → ℕ → List Change → List Change
admitted scope now changes = filter (λ c. admits scope now c.cookie) changes

-- the listener after an entry that made these changes at a moment
abbrev pub hears : ℕ → List Change → Listener → Listener
hears now changes l = record l { untaken = l.untaken ++ admitted l.scope now changes }

-- the listener is the one of this caller that has the number
abbrev pub is_listener : ℕ → ℕ → Listener → Bool
is_listener caller number l = l.caller == caller && l.number == number

-- the listener of a caller that has a number; none where it was never registered, or has ended
abbrev pub listener_at : ℕ → ℕ → List Listener → Option Listener
listener_at caller number listeners = find (is_listener caller number) listeners

-- a listener that was just registered: nothing is untaken
abbrev pub registered : ℕ → ℕ → Scope → Listener
registered caller number scope = record { caller = caller; number = number; scope = scope; untaken = [] }

-- Listen: the caller has one listener more, whose number counts all that this caller registered
abbrev pub listen_step : JarState → ℕ → Scope → Stepped
listen_step s caller scope =
    let listens = counted caller s.listens in
    let number = tally_of caller listens in
    replied (record s { listens = listens; listeners = s.listeners ++ registered caller number scope ∷ [] })
    (ListenerReply number)

-- the listeners, of which the one of this caller that has the number has taken all its changes
abbrev pub taken_at : ℕ → ℕ → List Listener → List Listener
taken_at caller number listeners =
    map (λ l. if is_listener caller number l then record l { untaken = [] } else l) listeners

-- the changes that a listener had not taken
abbrev pub taken_reply : Option Listener → Reply
taken_reply None = NoListener
taken_reply (Some l) = Changes l.untaken

-- Changes: the listener takes its changes
abbrev pub changes_step : JarState → ℕ → ℕ → Stepped
changes_step s caller number =
    replied (record s { listeners = taken_at caller number s.listeners })
    (taken_reply (listener_at caller number s.listeners))

-- Unlisten: the listener ends
abbrev pub unlisten_step : JarState → ℕ → ℕ → Stepped
unlisten_step s caller number =
    replied (record s { listeners = filter (λ l. not (is_listener caller number l)) s.listeners })
    (Flag (list_any (is_listener caller number) s.listeners))
