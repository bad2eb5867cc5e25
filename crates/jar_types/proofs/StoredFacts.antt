-- Stored rows after journals that change them. This jar's own rule: docs/DEFINITIONS.md.
use Rattle.std.proofs.Common.{◌≡◌, List, [], ◌∷◌, ◌++◌, true, false, None, refl}
use Rattle.std.specs.Prelude.{codes, pos, negsuc}
use Rattle.jar_types.proofs.LoadFacts.{a, b, get, of_a, r, rows, x, y, z}
use Rattle.jar_types.specs.declared.cookie.Cookie.{Cookie}
use Rattle.jar_types.specs.declared.cookie.CookieId.{CookieId}
use Rattle.jar_types.specs.declared.entry.Entry.{Entry}
use Rattle.jar_types.specs.declared.entry.Entry.TheVariants.{Call, Jar}
use Rattle.jar_types.specs.declared.entry.Own.TheVariants.{Begun, Loaded}
use Rattle.jar_types.specs.declared.op.Op.TheVariants.{Set, Get, Delete}
use Rattle.jar_types.specs.declared.op.Reply.TheVariants.{Replaced, Cookies, Flag}
use Rattle.jar_types.specs.declared.row.Row.{Row}
use Rattle.jar_types.specs.Journals.{state_of}
use Rattle.jar_types.specs.RowChanges.{changed_rows}
use Rattle.jar_types.specs.declared.row.RowChange.TheVariants.{Put, Drop}
use Rattle.jar_types.specs.Rows.{cookie_in}
use Rattle.jar_types.specs.Stored.{IsHonest, cookies_of_rows, hosts_of, stored_rows}

-- nothing is loaded yet, and then a.test
pub nothing_loaded : stored_rows r rows [] ≡ rows
unfolding state_of
nothing_loaded = refl

abbrev load_a : List Entry
load_a = Jar (Begun a) ∷ Jar (Loaded a of_a) ∷ []

a_loaded : stored_rows r rows load_a ≡ rows
unfolding state_of
a_loaded = refl

-- a cookie that comes in the place of x takes the place of its row, and one that is taken away
-- takes its row along
abbrev new_x : Cookie
new_x = record (cookie_in a x) { value = codes "9"; creation = 5; access = 5 }

set_x : stored_rows r rows (load_a ++ Call 0 5 (Set new_x false true) Replaced ∷ [])
    ≡ record x { value = codes "9"; access = pos 5 } ∷ z ∷ y ∷ []
unfolding state_of
set_x = refl

abbrev x_id : CookieId
x_id = record { host = codes ".a.test"; name = codes "x"; path = codes "/" }

delete_x : stored_rows r rows (load_a ++ Call 0 5 (Delete a x_id) (Flag true) ∷ []) ≡ z ∷ y ∷ []
unfolding state_of
delete_x = refl

-- a session cookie in its place leaves no row
session_x : stored_rows r rows (load_a ++ Call 0 5 (Set (record new_x { expiry = None }) false true) Replaced ∷ []) ≡ z ∷ y ∷ []
unfolding state_of
session_x = refl

-- one that expires leaves with the next call on its key
expired_a : stored_rows r rows (load_a ++ Call 0 1000000 (Get (record get { key = a })) (Cookies []) ∷ []) ≡ z ∷ []
unfolding state_of
expired_a = refl

-- ---- an unsound row

-- a row of an access before the first moment
abbrev unsound : Row
unsound = record y { access = negsuc 0 }

abbrev with_unsound : List Row
with_unsound = x ∷ z ∷ unsound ∷ []

-- its host is a stored one, and it stands for no cookie
its_host : hosts_of with_unsound ≡ r.hosts
its_host = refl

no_cookie : cookies_of_rows r with_unsound ≡ cookie_in a x ∷ cookie_in b z ∷ []
no_cookie = refl

-- an honest load leaves it out, and so do the rows that are told of the store, before and after
abbrev load_x : List Entry
load_x = Jar (Begun a) ∷ Jar (Loaded a (cookie_in a x ∷ [])) ∷ []

left_out : IsHonest r with_unsound load_x
left_out = record { hosts = refl; loads = (tt, (refl, tt)) }

dishonest : IsHonest r with_unsound load_a → ⊥
dishonest h = let e = h.loads.1.0 in absurd cc

not_told : (stored_rows r with_unsound [] ≡ x ∷ z ∷ []) × (stored_rows r with_unsound load_x ≡ x ∷ z ∷ [])
unfolding state_of
not_told = (refl, refl)

-- it stays where it is until a cookie of its id is put there or dropped
stays : changed_rows with_unsound (Put (record x { value = codes "9" }) ∷ []) ≡ record x { value = codes "9" } ∷ z ∷ unsound ∷ []
stays = refl

put_over : changed_rows with_unsound (Put y ∷ []) ≡ rows
put_over = refl

dropped : changed_rows with_unsound (Drop (record { host = codes "www.a.test"; name = codes "y"; path = codes "/" }) ∷ []) ≡ x ∷ z ∷ []
dropped = refl

-- hosts of other rows, and a load of rows that aren't stored
other_hosts : IsHonest r (x ∷ z ∷ []) [] → ⊥
other_hosts h = let e = h.hosts in absurd cc

forgotten_row : IsHonest r rows (Jar (Begun a) ∷ Jar (Loaded a (cookie_in a x ∷ [])) ∷ []) → ⊥
forgotten_row h = let e = h.loads.1.0 in absurd cc
