-- Tallies, listeners, deletes and posts at worked values. These are this jar's own rules:
-- docs/DEFINITIONS.md.
use Rattle.std.proofs.Common.{◌≡◌, List, [], ◌∷◌, ◌++◌, true, false, None, Some, refl}
use Rattle.std.specs.Prelude.{codes}
use Rattle.jar_types.proofs.FactValues.{a, named, q, b, b', old, other, hidden, by_script}
use Rattle.jar_types.specs.declared.change.Change.{Change}
use Rattle.jar_types.specs.declared.cookie.Cookie.{Cookie}
use Rattle.jar_types.specs.declared.cookie.CookieId.{CookieId}
use Rattle.jar_types.specs.declared.entry.Event.{Event}
use Rattle.jar_types.specs.declared.entry.Event.TheVariants.{Call as CallEvent, Jar as JarEvent}
use Rattle.jar_types.specs.declared.entry.Own.TheVariants.{Whole}
use Rattle.jar_types.specs.declared.jar_core.CoreRefusal.TheVariants.{NotYet, NoMemory}
use Rattle.jar_types.specs.declared.listener.Listener.{Listener}
use Rattle.jar_types.specs.declared.listener.Scope.{Scope}
use Rattle.jar_types.specs.declared.listener.Scope.TheVariants.{All, Seen, Named}
use Rattle.jar_types.specs.declared.op.Op.TheVariants.{Set, Changes, Unlisten, Post, Hear}
use Rattle.jar_types.specs.declared.op.Reply.TheVariants.{Flag, Listener as ListenerReply, Changes as ChangesReply, NoListener, Posted, Heard}
use Rattle.jar_types.specs.declared.request.Context.TheVariants.{LaxUnsafe}
use Rattle.jar_types.specs.declared.tally.Tally.{Tally}
use Rattle.jar_types.specs.Changes.{inserted, taken_away, overwritten, expired}
use Rattle.jar_types.specs.Deletes.{delete_step}
use Rattle.jar_types.specs.HistoryLaws.{heard, spares}
use Rattle.jar_types.specs.Listeners.{admits, hears, listen_step, changes_step, unlisten_step}
use Rattle.jar_types.specs.Posts.{post_step, hear_step, op_wanting}
use Rattle.jar_types.specs.States.{JarState, opening, replied}
use Rattle.jar_types.specs.Steps.{after}
use Rattle.jar_types.specs.Tallies.{tally_of, counted}
use Rattle.jar_types.specs.Waits.{Refuses}

-- an empty jar
abbrev s : JarState
s = opening []

-- ---- tallies

abbrev tallies : List Tally
tallies = record { caller = 0; count = 2 } ∷ record { caller = 3; count = 1 } ∷ []

-- each caller has his own, and one who isn't there has done nothing
tallied : (tally_of 0 tallies ≡ 2) × (tally_of 3 tallies ≡ 1) × (tally_of 1 tallies ≡ 0) × (tally_of 0 [] ≡ 0)
tallied = (refl, refl, refl, refl)

-- one more is the caller's alone
one_more : (counted 3 tallies ≡ record { caller = 0; count = 2 } ∷ record { caller = 3; count = 2 } ∷ [])
    × (counted 1 tallies ≡ tallies ++ record { caller = 1; count = 1 } ∷ [])
    × (counted 0 [] ≡ record { caller = 0; count = 1 } ∷ [])
one_more = (refl, refl, refl)

-- an entry of a caller counts among his and among all, one of the jar's own among all
counted_entries : ((after s (CallEvent 0 5 Post)).calls ≡ 1) × ((after s (CallEvent 0 5 Post)).entries ≡ 1)
    × ((after s (JarEvent (Whole 5))).calls ≡ 0) × ((after s (JarEvent (Whole 5))).entries ≡ 1)
counted_entries = (refl, refl, refl, refl)

-- ---- listeners

-- All admits each cookie, Seen those that the request matches, Named those of them that have the
-- name
admitted_by_all : (admits All 9 a ≡ true) × (admits All 9 other ≡ true) × (admits All 9 hidden ≡ true)
admitted_by_all = (refl, refl, refl)

admitted_where_seen : (admits (Seen q) 9 a ≡ true) × (admits (Seen q) 9 other ≡ false) × (admits (Seen q) 9 hidden ≡ true)
    × (admits (Seen by_script) 9 hidden ≡ false) × (admits (Seen q) 9 (named (codes "b") []) ≡ true)
admitted_where_seen = (refl, refl, refl, refl, refl)

admitted_by_name : (admits (Named q (codes "a")) 9 a ≡ true) × (admits (Named q (codes "a")) 9 (named (codes "b") []) ≡ false)
    × (admits (Named q (codes "a")) 9 (named (codes "aa") []) ≡ false) × (admits (Named q (codes "a")) 9 other ≡ false)
    × (admits (Named by_script (codes "a")) 9 hidden ≡ false)
admitted_by_name = (refl, refl, refl, refl, refl)

-- its expiry plays no part, and the moment is the entry's
admitted_at : (admits (Seen q) 9 old ≡ true) × (admits (Seen (record q { context = LaxUnsafe })) 120005 a ≡ true)
    × (admits (Seen (record q { context = LaxUnsafe })) 120006 a ≡ false)
admitted_at = (refl, refl, refl)

-- a listener, and what it has not taken
abbrev listening : Scope → List Change → Listener
listening scope untaken = record { caller = 0; number = 1; scope = scope; untaken = untaken }

-- a caller's first listener, and his second beside one of another caller
first_listener : listen_step s 0 All ≡ replied (record s {
  listens = record { caller = 0; count = 1 } ∷ [];
  listeners = listening All [] ∷ [];
}) (ListenerReply 1)
first_listener = refl

second_listener : (listen_step (record s { listens = tallies }) 3 All).reply ≡ ListenerReply 2
second_listener = refl

-- what is new comes behind what it had not taken, in order, and only what its scope admits
hears_in_order : hears 9 (expired other ∷ overwritten a ∷ inserted b ∷ []) (listening (Seen q) (inserted a ∷ []))
    ≡ listening (Seen q) (inserted a ∷ overwritten a ∷ inserted b ∷ [])
hears_in_order = refl

-- it gets an overwrite and what was inserted, and nothing of before it was registered
abbrev set_a : Event
set_a = CallEvent 0 5 (Set a false false)

abbrev set_b : Event
set_b = CallEvent 0 7 (Set b false false)

heard_since : (heard All (after s set_a) (set_b ∷ []) ≡ overwritten a ∷ inserted b' ∷ [])
    × (heard All s (set_a ∷ set_b ∷ []) ≡ inserted a ∷ overwritten a ∷ inserted b' ∷ [])
    × (heard (Named q (codes "b")) s (set_a ∷ set_b ∷ []) ≡ [])
heard_since = (refl, refl, refl)

-- one that takes its changes has none then, and gets the same once; the other one keeps its own
abbrev two : List Change → JarState
two untaken = record s { listeners = listening All untaken ∷ record (listening All (inserted a ∷ [])) { number = 2 } ∷ [] }

taken : changes_step (two (inserted a ∷ inserted b ∷ [])) 0 1 ≡ replied (two []) (ChangesReply (inserted a ∷ inserted b ∷ []))
taken = refl

taken_twice : changes_step (two []) 0 1 ≡ replied (two []) (ChangesReply [])
taken_twice = refl

-- no listener has this number, or it is another caller's
not_taken : (changes_step (two []) 0 3 ≡ replied (two []) NoListener) × (changes_step (two []) 1 1 ≡ replied (two []) NoListener)
not_taken = (refl, refl)

-- one that ends is there no more
ended : unlisten_step (two []) 0 2 ≡ replied (record s { listeners = listening All [] ∷ [] }) (Flag true)
ended = refl

not_ended : (unlisten_step (two []) 0 3 ≡ replied (two []) (Flag false)) × (unlisten_step (two []) 1 2 ≡ replied (two []) (Flag false))
not_ended = (refl, refl)

-- its own Changes and its own Unlisten alone don't spare it
spared : (spares 0 1 (CallEvent 0 5 (Changes 1)) ≡ false) × (spares 0 1 (CallEvent 0 5 (Unlisten 1)) ≡ false)
    × (spares 0 1 (CallEvent 0 5 (Changes 2)) ≡ true) × (spares 0 1 (CallEvent 1 5 (Unlisten 1)) ≡ true)
    × (spares 0 1 set_a ≡ true) × (spares 0 1 (JarEvent (Whole 5)) ≡ true)
spared = (refl, refl, refl, refl, refl, refl)

-- ---- Delete

abbrev a_id : CookieId
a_id = record { host = codes "h.test"; name = codes "a"; path = codes "/" }

abbrev holding : List Cookie → JarState
holding cookies = record s { cookies = cookies }

-- the cookie of the id leaves as one that a caller took away, and no other does
deleted : delete_step (holding (a ∷ named (codes "b") [] ∷ [])) 7 (codes "h.test") a_id
    ≡ record { state = holding (named (codes "b") [] ∷ []); reply = Flag true; changes = taken_away a ∷ [] }
deleted = refl

-- no cookie has the id, of which one part differs
not_deleted : (delete_step (holding (named (codes "b") [] ∷ [])) 7 (codes "h.test") a_id ≡ replied (holding (named (codes "b") [] ∷ [])) (Flag false))
    × (delete_step (holding (a ∷ [])) 7 (codes "h.test") (record a_id { path = codes "/a" }) ≡ replied (holding (a ∷ [])) (Flag false))
    × (delete_step (holding (a ∷ [])) 7 (codes "h.test") (record a_id { host = codes ".h.test" }) ≡ replied (holding (a ∷ [])) (Flag false))
not_deleted = (refl, refl, refl)

-- one that has expired left by that before
expired_before : delete_step (holding (old ∷ [])) 7 (codes "h.test") a_id
    ≡ record { state = holding []; reply = Flag false; changes = expired old ∷ [] }
expired_before = refl

-- ---- posts

-- each caller counts his own
posted : post_step (record s { posts = tallies }) 3
    ≡ replied (record s { posts = record { caller = 0; count = 2 } ∷ record { caller = 3; count = 2 } ∷ [] }) (Posted 2)
posted = refl

first_post : (post_step (record s { posts = tallies }) 1).reply ≡ Posted 1
first_post = refl

-- a Hear wants so many of its actor, and no other op wants any
wanting : (op_wanting (record s { posts = tallies }) (Hear 0 2) ≡ None) × (op_wanting (record s { posts = tallies }) (Hear 0 3) ≡ Some 2)
    × (op_wanting (record s { posts = tallies }) (Hear 1 1) ≡ Some 0) × (op_wanting s (Hear 0 0) ≡ None)
    × (op_wanting s Post ≡ None)
wanting = (refl, refl, refl, refl, refl)

heard_post : hear_step (record s { posts = tallies }) ≡ replied (record s { posts = tallies }) Heard
heard_post = refl

-- one that waits is told how many were made, and one that needn't wait isn't refused for it
refused : Refuses s (CallEvent 7 5 (Hear 1 1)) (NotYet 0)
refused = refl

not_refused : Refuses (record s { posts = tallies }) (CallEvent 7 5 (Hear 0 2)) (NotYet 2) → ⊥
not_refused h = let e : None ≡ Some (NotYet 2) = h in absurd cc

waits_first : Refuses s (CallEvent 7 5 (Hear 1 1)) NoMemory → ⊥
waits_first h = let e : false ≡ true = h.0 in absurd cc
