-- Cells and their versions, the keys that changes move, and answers to scripts, at worked values.
-- These are this jar's own rules: docs/DEFINITIONS.md.
use Rattle.std.proofs.Common.{◌≡◌, ℕ, List, [], ◌∷◌, ◌++◌, false, None, Some, refl, replicate}
use Rattle.std.specs.Prelude.{codes}
use Rattle.jar_types.proofs.FactValues.{a, named, q, b, old, other, hidden, by_script}
use Rattle.jar_types.specs.declared.bound_key.BoundKey.{BoundKey}
use Rattle.jar_types.specs.declared.cookie.Cookie.{Cookie}
use Rattle.jar_types.specs.declared.entry.Event.{Event}
use Rattle.jar_types.specs.declared.entry.Event.TheVariants.{Call as CallEvent, Jar as JarEvent}
use Rattle.jar_types.specs.declared.entry.Own.TheVariants.{Whole}
use Rattle.jar_types.specs.declared.op.Op.TheVariants.{Set, Get}
use Rattle.jar_types.specs.declared.op.Reply.TheVariants.{Cell, Script}
use Rattle.jar_types.specs.Bound.{cell_of, version_of, turned, bind_step}
use Rattle.jar_types.specs.Changes.{inserted, overwritten, expired, moved_keys}
use Rattle.jar_types.specs.Gets.{get_step, until}
use Rattle.jar_types.specs.HistoryLaws.{turns}
use Rattle.jar_types.specs.States.{JarState, opening, replied}
use Rattle.jar_types.specs.Steps.{after}

-- an empty jar
abbrev s : JarState
s = opening []

-- ---- cells

abbrev bound : List BoundKey
bound = record { key = codes "h.test"; version = 4 } ∷ record { key = codes "i.test"; version = 0 } ∷ []

-- cells count from 1, in the order of the bindings; a key that isn't bound has none
cells : (cell_of (codes "h.test") bound ≡ Some 1) × (cell_of (codes "i.test") bound ≡ Some 2)
    × (cell_of (codes "test") bound ≡ None)
cells = (refl, refl, refl)

versions : (version_of (codes "h.test") bound ≡ Some 4) × (version_of (codes "i.test") bound ≡ Some 0)
    × (version_of (codes "test") bound ≡ None)
versions = (refl, refl, refl)

abbrev bound_jar : JarState
bound_jar = record s { bound = bound }

-- a key that is bound keeps its cell and its version
bound_again : bind_step bound_jar (codes "i.test") ≡ replied bound_jar (Cell (Some 2))
bound_again = refl

-- a new one gets the next cell, at version 0
bound_new : bind_step bound_jar (codes "test")
    ≡ replied (record s { bound = bound ++ record { key = codes "test"; version = 0 } ∷ [] }) (Cell (Some 3))
bound_new = refl

-- some bound keys, and what a key that isn't one of them is replied
abbrev some_bound : ℕ → JarState
some_bound n = record s { bound = replicate n (record { key = []; version = 0 }) }

-- the cell 4,096 is the last
last_cell : (bind_step (some_bound 4095) (codes "test")).reply ≡ Cell (Some 4096)
last_cell = refl

no_cell_left : bind_step (some_bound 4096) (codes "test") ≡ replied (some_bound 4096) (Cell None)
no_cell_left = refl

-- the version rises by one with an entry that changed the key's cookies, however many of them
turned_once : (turned (overwritten a ∷ inserted b ∷ []) (record { key = codes "h.test"; version = 4 }) ≡ record { key = codes "h.test"; version = 5 })
    × (turned (inserted a ∷ []) (record { key = codes "i.test"; version = 4 }) ≡ record { key = codes "i.test"; version = 4 })
    × (turned [] (record { key = codes "h.test"; version = 4 }) ≡ record { key = codes "h.test"; version = 4 })
turned_once = (refl, refl, refl)

-- the versions of both cells after an event
abbrev VersionsAfter : JarState → Event → ℕ → ℕ → Type 0
VersionsAfter t v first second =
    (after t v).bound ≡ record { key = codes "h.test"; version = first } ∷ record { key = codes "i.test"; version = second } ∷ []

abbrev with : List Cookie → JarState
with cookies = record bound_jar { cookies = cookies }

-- a Set raises that of its own key, as a purge does at a Get; a refreshed access raises none
set_turns : VersionsAfter bound_jar (CallEvent 0 5 (Set a false false)) 5 0
    × VersionsAfter bound_jar (CallEvent 0 5 (Set other false false)) 4 1
set_turns = (refl, refl)

purge_turns : VersionsAfter (with (old ∷ [])) (CallEvent 0 7 (Get q)) 5 0
purge_turns = refl

refresh_turns_none : VersionsAfter (with (a ∷ [])) (CallEvent 0 60005 (Get q)) 4 0
    × ((after (with (a ∷ [])) (CallEvent 0 60005 (Get q))).cookies ≡ record a { access = 60005 } ∷ [])
refresh_turns_none = (refl, refl)

-- how many of these events changed a cookie of the key: a Set, a Get that refreshes, a Set of
-- another key, the jar that becomes whole, and a Set of an expired cookie in the place of one
turned_twice : turns (codes "h.test") s
    (CallEvent 0 5 (Set a false false) ∷ CallEvent 0 60005 (Get q) ∷ CallEvent 0 60005 (Set other false false)
    ∷ JarEvent (Whole 60005) ∷ CallEvent 0 60006 (Set (record a { expiry = Some 9 }) false false) ∷ []) ≡ 2
turned_twice = refl

-- ---- moved keys

-- they ascend, and each is there once
moved : (moved_keys (expired other ∷ inserted a ∷ expired (record a { key = codes "a.test" }) ∷ expired a ∷ [])
    ≡ codes "a.test" ∷ codes "h.test" ∷ codes "i.test" ∷ []) × (moved_keys [] ≡ [])
moved = (refl, refl)

-- ---- answers to scripts

-- nothing ends an answer before the first moment past all
kept_for_ever : until [] [] ≡ 253402300800000
kept_for_ever = refl

-- the first of the expiries of the key, and of a minute past each access in the answer
kept_until : (until (record a { expiry = Some 90 } ∷ record b { expiry = Some 80 } ∷ a ∷ []) [] ≡ 80)
    × (until (a ∷ b ∷ []) (b ∷ a ∷ []) ≡ 60005) × (until (record a { expiry = Some 60004 } ∷ []) (a ∷ []) ≡ 60004)
kept_until = (refl, refl, refl)

-- what a script gets of an unbound key and of a bound one: an HttpOnly cookie isn't in it
abbrev second : Cookie
second = named (codes "b") (codes "2")

to_script : get_step (with (a ∷ second ∷ record hidden { name = codes "c" } ∷ [])) 6 by_script
    ≡ replied (with (a ∷ second ∷ record hidden { name = codes "c" } ∷ [])) (Script (codes "a=1; b=2") (Some 4) 60005)
to_script = refl

to_script_unbound : (get_step s 6 by_script).reply ≡ Script [] None 253402300800000
to_script_unbound = refl

-- a cookie of the key that isn't in the answer may end it, one of another key may not
abbrev below : Cookie
below = record second { path = codes "/x"; expiry = Some 90 }

ended_by_another : ((get_step (with (a ∷ below ∷ [])) 6 by_script).reply ≡ Script (codes "a=1") (Some 4) 90)
    × ((get_step (with (a ∷ record below { key = codes "i.test" } ∷ [])) 6 by_script).reply ≡ Script (codes "a=1") (Some 4) 60005)
ended_by_another = (refl, refl)

-- the version is that behind the purge, and the minute that behind the refreshed access
behind_the_get : (get_step (with (a ∷ record old { name = codes "o" } ∷ [])) 60005 by_script).reply
    ≡ Script (codes "a=1") (Some 5) 120005
behind_the_get = refl
