-- The jar that loads and the one in which all is loaded from the start, at a journal over three
-- stored rows; and journals for which the law would be false: each misses one of its premises. This
-- jar's own rule: docs/DEFINITIONS.md.
use Rattle.std.proofs.Common.{◌≡◌, ℕ, List, [], ◌∷◌, true, false, length, map, refl, ap}
use Rattle.std.specs.Prelude.{codes, bytes_eq, pos, if◌then◌else◌}
use Rattle.std.specs.List.Sorted.{IsStrictlySortedBy}
use Rattle.jar_types.specs.declared.cookie.Cookie.{Cookie}
use Rattle.jar_types.specs.declared.cookie.CookieId.{CookieId}
use Rattle.jar_types.specs.declared.op.Op.TheVariants.{Set, Get, Delete, All}
use Rattle.jar_types.specs.declared.op.Reply.TheVariants.{Stored, Replaced, Cookies, Flag, StoreFault}
use Rattle.jar_types.specs.declared.entry.Own.TheVariants.{Want, Begun, Loaded, Lost, Whole}
use Rattle.jar_types.specs.declared.entry.Entry.{Entry}
use Rattle.jar_types.specs.declared.entry.Entry.TheVariants.{Call, Jar}
use Rattle.jar_types.specs.declared.request.Request.{Request}
use Rattle.jar_types.specs.declared.request.Context.TheVariants.{Strict}
use Rattle.jar_types.specs.declared.row.Row.{Row}
use Rattle.jar_types.specs.declared.row.RowChange.TheVariants.{Put, Drop}
use Rattle.jar_types.specs.Changes.{inserted, overwritten, taken_away}
use Rattle.jar_types.specs.Ids.{text_cmp}
use Rattle.jar_types.specs.Journals.{Rules, IsLegal, all_stand, events, run, state_of, stored_keys}
use Rattle.jar_types.specs.RowChanges.{RowsRise}
use Rattle.jar_types.specs.Rows.{cookie_in, row_until}
use Rattle.jar_types.specs.States.{opening}
use Rattle.jar_types.specs.Stored.{IsHonest}
use Rattle.eager_law.specs.Eager.{eager_opening, eager_state, unlisted, loaded_part, change_lists, row_lists}
use Rattle.eager_law.specs.Laws.{IsAsEager}

-- ---- three stored rows of two keys

abbrev row : List ℕ → List ℕ → Row
row host name = record {
  host = host;
  name = name;
  path = codes "/";
  value = codes "1";
  creation = pos 0;
  expiry = pos 1000000;
  access = pos 0;
  secure = pos 0;
  http_only = pos 0;
  same_site = pos 0;
  priority = pos 0;
}

abbrev x : Row
x = row (codes ".a.test") (codes "x")

abbrev z : Row
z = row (codes "b.test") (codes "z")

abbrev y : Row
y = row (codes "www.a.test") (codes "y")

abbrev rows : List Row
rows = x ∷ z ∷ y ∷ []

rows_rise : RowsRise rows
unfolding IsStrictlySortedBy
rows_rise = ((refl, (refl, tt)), ((refl, tt), (tt, tt)))

-- a jar of one caller, opened over them at 0
abbrev r : Rules
r = record {
  hosts = codes ".a.test" ∷ codes "b.test" ∷ codes "www.a.test" ∷ [];
  callers = 1;
  limit = 9;
  start = 0;
  key_of = λ host. if bytes_eq host (codes "b.test") then codes "b.test" else codes "a.test";
}

hosts_rise : IsStrictlySortedBy text_cmp r.hosts
unfolding IsStrictlySortedBy
hosts_rise = ((refl, (refl, tt)), ((refl, tt), (tt, tt)))

abbrev a : List ℕ
a = codes "a.test"

abbrev b : List ℕ
b = codes "b.test"

abbrev of_a : List Cookie
of_a = cookie_in a x ∷ cookie_in a y ∷ []

abbrev of_b : Cookie
of_b = cookie_in b z

-- ---- the eager jar

-- it begins with all three cookies, and with no key loaded
begins : eager_opening r rows
    ≡ record (opening (a ∷ b ∷ [])) { cookies = cookie_in a x ∷ of_b ∷ cookie_in a y ∷ [] }
begins = refl

-- an unsound row stands for none
begins_soundly : (eager_opening r (record x { path = [] } ∷ z ∷ [])).cookies ≡ of_b ∷ []
begins_soundly = refl

-- no load lists anything; all else stays
lists_nothing : unlisted (Jar (Begun b) ∷ Jar (Loaded b (of_b ∷ [])) ∷ Call 0 5 All (Cookies (of_b ∷ [])) ∷ Jar (Whole 0) ∷ [])
    ≡ Jar (Begun b) ∷ Jar (Loaded b []) ∷ Call 0 5 All (Cookies (of_b ∷ [])) ∷ Jar (Whole 0) ∷ []
lists_nothing = refl

-- ---- a journal that loads one key of two: the other key's cookies are there in the eager jar
-- alone

abbrev get : Request
get = record { key = b; host = b; path = codes "/"; secure = true; script = false; context = Strict }

abbrev new : Cookie
new = record of_b { value = codes "2" }

abbrev z_id : CookieId
z_id = record { host = b; name = codes "z"; path = codes "/" }

abbrev one_key : List Entry
one_key =
    Jar (Want b) ∷ Jar (Begun b) ∷ Jar (Lost b) ∷ Call 0 0 (Get get) StoreFault ∷ Jar (Want b) ∷ Jar (Begun b)
    ∷ Jar (Loaded b (of_b ∷ [])) ∷ Call 0 1 (Get get) (Cookies (of_b ∷ [])) ∷ Call 0 2 (Set new false true) Replaced
    ∷ Call 0 3 (Delete b z_id) (Flag true) ∷ []

one_legal : IsLegal r one_key
one_legal = record { hosts = hosts_rise; replies = refl; standing = refl }

one_honest : IsHonest r rows one_key
one_honest = record { hosts = refl; loads = (tt, (tt, (tt, (tt, (tt, (tt, (refl, (tt, (tt, (tt, tt)))))))))) }

one_left : ((state_of (stored_keys r) one_key).cookies ≡ []) × ((eager_state r rows one_key).cookies ≡ of_a)
    × ((loaded_part (eager_state r rows one_key)).cookies ≡ [])
unfolding state_of
one_left = (refl, refl, refl)

-- what each entry changed of the cookies, and of the rows
one_changed : change_lists (opening (stored_keys r)) (events one_key)
    ≡ [] ∷ [] ∷ [] ∷ [] ∷ [] ∷ [] ∷ [] ∷ [] ∷ (overwritten of_b ∷ inserted new ∷ []) ∷ (taken_away new ∷ []) ∷ []
one_changed = refl

rows_changed : row_lists (opening (stored_keys r)) (events one_key)
    ≡ [] ∷ [] ∷ [] ∷ [] ∷ [] ∷ [] ∷ [] ∷ [] ∷ (Put (row_until new 1000000) ∷ []) ∷ (Drop z_id ∷ []) ∷ []
rows_changed = refl

-- ---- a jar that becomes whole

abbrev whole : List Entry
whole =
    Jar (Begun a) ∷ Jar (Loaded a of_a) ∷ Jar (Begun b) ∷ Jar (Loaded b (of_b ∷ [])) ∷ Jar (Whole 0)
    ∷ Call 0 5 All (Cookies (cookie_in a x ∷ of_b ∷ cookie_in a y ∷ [])) ∷ []

whole_legal : IsLegal r whole
whole_legal = record { hosts = hosts_rise; replies = refl; standing = refl }

whole_honest : IsHonest r rows whole
whole_honest = record { hosts = refl; loads = (tt, (refl, (tt, (refl, (tt, (tt, tt)))))) }

-- ---- where a premise is missing the law is false

-- the load leaves the stored cookie out: a legal journal, whose Get gets what the eager jar's
-- doesn't
abbrev dishonest : List Entry
dishonest = Jar (Want b) ∷ Jar (Begun b) ∷ Jar (Loaded b []) ∷ Call 0 0 (Get get) (Cookies []) ∷ []

dishonest_legal : IsLegal r dishonest
dishonest_legal = record { hosts = hosts_rise; replies = refl; standing = refl }

dishonest_differs : IsAsEager r rows dishonest → ⊥
dishonest_differs h =
    let got : Jar (Want b) ∷ Jar (Begun b) ∷ Jar (Loaded b []) ∷ Call 0 0 (Get get) (Cookies (of_b ∷ [])) ∷ []
    ≡ Jar (Want b) ∷ Jar (Begun b) ∷ Jar (Loaded b []) ∷ Call 0 0 (Get get) (Cookies []) ∷ [] = h.replies in
    absurd cc

-- or it lists one that isn't stored: that one is in the state, and in the eager jar's it isn't
abbrev made_up : Cookie
made_up = record of_b { name = codes "w" }

abbrev inventing : List Entry
inventing = Jar (Want b) ∷ Jar (Begun b) ∷ Jar (Loaded b (made_up ∷ of_b ∷ [])) ∷ []

inventing_legal : IsLegal r inventing
inventing_legal = record { hosts = hosts_rise; replies = refl; standing = refl }

one_more : length (made_up ∷ of_b ∷ []) ≡ length (of_b ∷ []) → ⊥
one_more e = absurd cc

inventing_differs : IsAsEager r rows inventing → ⊥
unfolding state_of
inventing_differs h = one_more (ap (λ s. length s.cookies) h.state)

-- a key's Delete of another key's id: each reply is that of the jar of one thread and each load is
-- honest, and only that the Delete isn't well keyed makes the journal illegal
abbrev unkeyed : List Entry
unkeyed = Jar (Begun a) ∷ Jar (Loaded a of_a) ∷ Call 0 0 (Delete a z_id) (Flag false) ∷ []

unkeyed_illegal : (run (opening (stored_keys r)) (events unkeyed) ≡ unkeyed) × IsHonest r rows unkeyed
    × (all_stand r (opening (stored_keys r)) (events unkeyed) ≡ false)
    × (all_stand (record r { key_of = λ host. a }) (opening (stored_keys r)) (events unkeyed) ≡ true)
unkeyed_illegal = (refl, record { hosts = refl; loads = (tt, (refl, (tt, tt))) }, refl, refl)

unkeyed_differs : IsAsEager r rows unkeyed → ⊥
unkeyed_differs h =
    let got : Jar (Begun a) ∷ Jar (Loaded a []) ∷ Call 0 0 (Delete a z_id) (Flag true) ∷ []
    ≡ Jar (Begun a) ∷ Jar (Loaded a []) ∷ Call 0 0 (Delete a z_id) (Flag false) ∷ [] = h.replies in
    absurd cc

-- and so with a Set that isn't: the eager jar has a cookie of its id
abbrev unkeyed_set : List Entry
unkeyed_set = Jar (Begun a) ∷ Jar (Loaded a of_a) ∷ Call 0 0 (Set (record of_b { key = a }) false true) Stored ∷ []

set_illegal : (run (opening (stored_keys r)) (events unkeyed_set) ≡ unkeyed_set) × IsHonest r rows unkeyed_set
    × (all_stand r (opening (stored_keys r)) (events unkeyed_set) ≡ false)
    × (all_stand (record r { key_of = λ host. a }) (opening (stored_keys r)) (events unkeyed_set) ≡ true)
set_illegal = (refl, record { hosts = refl; loads = (tt, (refl, (tt, tt))) }, refl, refl)

set_differs : IsAsEager r rows unkeyed_set → ⊥
set_differs h =
    let set : Jar (Begun a) ∷ Jar (Loaded a []) ∷ Call 0 0 (Set (record of_b { key = a }) false true) Replaced ∷ []
    ≡ Jar (Begun a) ∷ Jar (Loaded a []) ∷ Call 0 0 (Set (record of_b { key = a }) false true) Stored ∷ [] = h.replies in
    absurd cc

-- rows out of their order: the journal of the whole jar is legal and honest, and the eager jar's
-- cookies are in theirs
abbrev unordered : List Row
unordered = z ∷ x ∷ y ∷ []

unordered_honest : IsHonest r unordered whole
unordered_honest = record { hosts = refl; loads = (tt, (refl, (tt, (refl, (tt, (tt, tt)))))) }

-- how long the hosts of the cookies are
abbrev host_lengths : List Cookie → List ℕ
host_lengths cookies = map (λ c. length c.host) cookies

other_order : host_lengths (cookie_in a x ∷ of_b ∷ cookie_in a y ∷ []) ≡ host_lengths (of_b ∷ of_a) → ⊥
other_order e = absurd cc

unordered_differs : IsAsEager r unordered whole → ⊥
unfolding state_of
unordered_differs h = other_order (ap (λ s. host_lengths s.cookies) h.state)

-- a jar that was opened for no host: a Get needs no load
abbrev hostless : Rules
hostless = record r { hosts = [] }

abbrev unloaded : List Entry
unloaded = Call 0 0 (Get get) (Cookies []) ∷ []

hostless_legal : IsLegal hostless unloaded
unfolding IsStrictlySortedBy
hostless_legal = record { hosts = tt; replies = refl; standing = refl }

hostless_differs : IsAsEager hostless rows unloaded → ⊥
hostless_differs h =
    let got : Call 0 0 (Get get) (Cookies (of_b ∷ [])) ∷ [] ≡ Call 0 0 (Get get) (Cookies []) ∷ [] = h.replies in absurd cc
