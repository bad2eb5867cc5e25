-- Legal journals, and journals of which each is refused by one cause. This jar's own rule:
-- docs/DEFINITIONS.md.
use Rattle.std.proofs.Common.{◌≡◌, ℕ, List, [], ◌∷◌, true, false, Some, refl}
use Rattle.std.specs.Prelude.{codes}
use Rattle.std.specs.List.Sorted.{IsStrictlySortedBy}
use Rattle.std.specs.declared.cmp.Ordering.TheVariants.{Less, Greater}
use Rattle.jar_types.proofs.FactValues.{a, q, b, b'}
use Rattle.jar_types.specs.declared.cookie.Cookie.{Cookie}
use Rattle.jar_types.specs.declared.cookie.CookieId.{CookieId}
use Rattle.jar_types.specs.declared.listener.Scope.TheVariants.{All}
use Rattle.jar_types.specs.declared.op.Op.{Op}
use Rattle.jar_types.specs.declared.op.Op.TheVariants.{Bind, Set, Get, Delete, Listen, Changes, Unlisten, Post, Hear}
use Rattle.jar_types.specs.declared.op.Reply.{Reply}
use Rattle.jar_types.specs.declared.op.Reply.TheVariants.{Cell, Stored, Replaced, Cookies, Script, Flag, Listener, Changes as ChangesReply, NoListener, Posted, Heard}
use Rattle.jar_types.specs.declared.entry.Own.TheVariants.{Whole}
use Rattle.jar_types.specs.declared.entry.Entry.{Entry}
use Rattle.jar_types.specs.declared.entry.Entry.TheVariants.{Call, Jar}
use Rattle.jar_types.specs.Changes.{inserted, overwritten}
use Rattle.jar_types.specs.Ids.{text_cmp}
use Rattle.jar_types.specs.Journals.{Rules, IsLegal, stored_keys}

-- a jar of one caller with two entries, opened at 5, where each host is its own key
abbrev r : Rules
r = record { hosts = []; callers = 1; limit = 2; start = 5; key_of = λ host. host }

abbrev set_a : ℕ → Entry
set_a caller = Call caller 5 (Set a false false) Stored

abbrev get_a : Entry
get_a = Call 0 6 (Get q) (Cookies (a ∷ []))

-- no host ascends, and one does
no_hosts : IsStrictlySortedBy text_cmp []
unfolding IsStrictlySortedBy
no_hosts = tt

one_host : IsStrictlySortedBy text_cmp (codes "h.test" ∷ [])
unfolding IsStrictlySortedBy
one_host = (tt, tt)

-- a journal that is legal
legal : IsLegal r (set_a 0 ∷ Jar (Whole 5) ∷ get_a ∷ [])
legal = record { hosts = no_hosts; replies = refl; standing = refl }

-- the jar becomes whole twice
second_whole : IsLegal r (Jar (Whole 5) ∷ Jar (Whole 5) ∷ []) → ⊥
second_whole h = let e : false ≡ true = h.standing in absurd cc

-- at another moment than its start
whole_later : IsLegal r (Jar (Whole 6) ∷ []) → ⊥
whole_later h = let e : false ≡ true = h.standing in absurd cc

-- before its keys are loaded
whole_unloaded : IsLegal (record r { hosts = codes "h.test" ∷ [] }) (Jar (Whole 5) ∷ []) → ⊥
whole_unloaded h = let e : false ≡ true = h.standing in absurd cc

-- a caller past the callers
stranger : IsLegal r (set_a 1 ∷ []) → ⊥
stranger h = let e : false ≡ true = h.standing in absurd cc

-- an entry past the limit, to which the jar's own don't count
past_limit : IsLegal r (set_a 0 ∷ Jar (Whole 5) ∷ get_a ∷ get_a ∷ []) → ⊥
past_limit h = let e : false ≡ true = h.standing in absurd cc

-- a cookie under another key than that of its host
other_key : IsLegal (record r { key_of = λ host. codes "test" }) (set_a 0 ∷ []) → ⊥
other_key h = let e : false ≡ true = h.standing in absurd cc

-- a call on a key that isn't loaded
unloaded_key : IsLegal (record r { hosts = codes ".h.test" ∷ [] }) (set_a 0 ∷ []) → ⊥
unloaded_key h = let e : false ≡ true = h.standing in absurd cc

-- a reply that isn't the jar's
false_reply : IsLegal r (Call 0 5 (Set a false false) Replaced ∷ []) → ⊥
false_reply h = let e = h.replies in absurd cc

forgotten_cookie : IsLegal r (set_a 0 ∷ Call 0 6 (Get q) (Cookies []) ∷ []) → ⊥
forgotten_cookie h = let e = h.replies in absurd cc

-- ---- the calls of this jar's own

-- a jar of two callers with as many entries as they like
abbrev many : Rules
many = record r { callers = 2; limit = 99 }

-- what caller 0 did at 7, and caller 1
abbrev did : Op → Reply → Entry
did op reply = Call 0 7 op reply

abbrev other_did : Op → Reply → Entry
other_did op reply = Call 1 7 op reply

-- a listener gets what was overwritten and inserted after it was registered, once, until it ends
listened : IsLegal many
    (set_a 0 ∷ did (Listen All) (Listener 1) ∷ did (Set b false false) Replaced
    ∷ did (Changes 1) (ChangesReply (overwritten a ∷ inserted b' ∷ [])) ∷ did (Changes 1) (ChangesReply [])
    ∷ did (Unlisten 1) (Flag true) ∷ did (Changes 1) NoListener ∷ did (Unlisten 1) (Flag false) ∷ [])
listened = record { hosts = no_hosts; replies = refl; standing = refl }

-- listeners and posts are counted by caller, and a Hear wants its actor's posts
posted : IsLegal many
    (did (Listen All) (Listener 1) ∷ other_did (Listen All) (Listener 1) ∷ did (Listen All) (Listener 2)
    ∷ did Post (Posted 1) ∷ other_did Post (Posted 1) ∷ did Post (Posted 2) ∷ other_did (Hear 0 2) Heard ∷ [])
posted = record { hosts = no_hosts; replies = refl; standing = refl }

abbrev a_id : CookieId
a_id = record { host = codes "h.test"; name = codes "a"; path = codes "/" }

abbrev h : List ℕ
h = codes "h.test"

abbrev script_got : List ℕ → ℕ → ℕ → Entry
script_got text version until = did (Get (record q { script = true })) (Script text (Some version) until)

-- a bound key's version counts the entries that changed its cookies, a Delete among them
bound : IsLegal many
    (did (Bind h) (Cell (Some 1)) ∷ set_a 0 ∷ script_got (codes "a=1") 1 60005 ∷ did (Bind (codes "i.test")) (Cell (Some 2))
    ∷ did (Delete h a_id) (Flag true) ∷ script_got [] 2 253402300800000 ∷ did (Bind h) (Cell (Some 1)) ∷ [])
bound = record { hosts = no_hosts; replies = refl; standing = refl }

-- a Hear before the posts that it wants, which no other caller's are
early_hear : IsLegal many (did Post (Posted 1) ∷ other_did (Hear 0 2) Heard ∷ []) → ⊥
early_hear h = let e : false ≡ true = h.standing in absurd cc

unheard_post : IsLegal many (other_did Post (Posted 1) ∷ did (Hear 0 1) Heard ∷ []) → ⊥
unheard_post h = let e : false ≡ true = h.standing in absurd cc

-- a Delete under another key than that of its host, and one on a key that isn't loaded
other_deleted : IsLegal many (did (Delete (codes "test") a_id) (Flag false) ∷ []) → ⊥
other_deleted h = let e : false ≡ true = h.standing in absurd cc

unloaded_delete : IsLegal (record many { hosts = codes "h.test" ∷ [] }) (did (Delete h a_id) (Flag false) ∷ []) → ⊥
unloaded_delete h = let e : false ≡ true = h.standing in absurd cc

-- a Get on one
unloaded_get : IsLegal (record many { hosts = codes "h.test" ∷ [] }) (did (Get q) (Cookies []) ∷ []) → ⊥
unloaded_get h = let e : false ≡ true = h.standing in absurd cc

-- a false cell: not from 1, another's, a second one of a key
cell_of_none : IsLegal many (did (Bind h) (Cell (Some 0)) ∷ []) → ⊥
cell_of_none h = let e = h.replies in absurd cc

cell_of_another : IsLegal many (did (Bind h) (Cell (Some 1)) ∷ did (Bind (codes "i.test")) (Cell (Some 1)) ∷ []) → ⊥
cell_of_another h = let e = h.replies in absurd cc

second_cell : IsLegal many (did (Bind h) (Cell (Some 1)) ∷ did (Bind h) (Cell (Some 2)) ∷ []) → ⊥
second_cell h = let e = h.replies in absurd cc

-- a version that missed a Set
old_version : IsLegal many (did (Bind h) (Cell (Some 1)) ∷ set_a 0 ∷ script_got (codes "a=1") 0 60005 ∷ []) → ⊥
old_version h = let e = h.replies in absurd cc

-- an answer is kept until the expiry of another cookie of the key, and not past it
abbrev below : Cookie
below = record b { path = codes "/x"; expiry = Some 9 }

true_until : IsLegal many
    (did (Bind h) (Cell (Some 1)) ∷ set_a 0 ∷ did (Set below false false) Stored ∷ script_got (codes "a=1") 2 9 ∷ [])
true_until = record { hosts = no_hosts; replies = refl; standing = refl }

false_until : IsLegal many
    (did (Bind h) (Cell (Some 1)) ∷ set_a 0 ∷ did (Set below false false) Stored ∷ script_got (codes "a=1") 2 60005 ∷ []) → ⊥
false_until h = let e = h.replies in absurd cc

-- changes that are taken twice, that were made before, and without what was overwritten
twice_taken : IsLegal many
    (did (Listen All) (Listener 1) ∷ set_a 0 ∷ did (Changes 1) (ChangesReply (inserted a ∷ []))
    ∷ did (Changes 1) (ChangesReply (inserted a ∷ [])) ∷ []) → ⊥
twice_taken h = let e = h.replies in absurd cc

heard_of_before : IsLegal many
    (set_a 0 ∷ did (Listen All) (Listener 1) ∷ did (Changes 1) (ChangesReply (inserted a ∷ [])) ∷ []) → ⊥
heard_of_before h = let e = h.replies in absurd cc

no_overwrite : IsLegal many
    (set_a 0 ∷ did (Listen All) (Listener 1) ∷ did (Set b false false) Replaced
    ∷ did (Changes 1) (ChangesReply (inserted b' ∷ [])) ∷ []) → ⊥
no_overwrite h = let e = h.replies in absurd cc

-- a listener that ended, and one of another caller
ended_listener : IsLegal many
    (did (Listen All) (Listener 1) ∷ did (Unlisten 1) (Flag true) ∷ did (Changes 1) (ChangesReply []) ∷ []) → ⊥
ended_listener h = let e = h.replies in absurd cc

other_listener : IsLegal many (did (Listen All) (Listener 1) ∷ other_did (Changes 1) (ChangesReply []) ∷ []) → ⊥
other_listener h = let e = h.replies in absurd cc

-- a post that is counted for all
posted_by_all : IsLegal many (did Post (Posted 1) ∷ other_did Post (Posted 2) ∷ []) → ⊥
posted_by_all h = let e = h.replies in absurd cc

-- ---- hosts

-- hosts that don't ascend
descending : IsLegal (record r { hosts = codes "b" ∷ codes "a" ∷ [] }) [] → ⊥
unfolding IsStrictlySortedBy
descending h = let e : Greater ≡ Less = h.hosts.0.0 in absurd cc

-- the keys of stored hosts ascend, each once, by hosts without the dot of a domain
keys : stored_keys (record r { hosts = codes ".h.test" ∷ codes "a.test" ∷ codes "h.test" ∷ [] }) ≡ codes "a.test" ∷ codes "h.test" ∷ []
keys = refl
