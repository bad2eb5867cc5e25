-- A journal over stored rows, one of them unsound, of which the laws hold: what it changes, and what is then stored; and what
-- the definitions refuse. This jar's own rule: docs/DEFINITIONS.md.
use Rattle.std.proofs.Common.{◌≡◌, ℕ, ◌+◌, List, [], ◌∷◌, ◌++◌, true, false, None, refl, arith}
use Rattle.std.specs.Prelude.{codes, bytes_eq, ℤ, pos, negsuc, if◌then◌else◌, nat_le, option_to_list}
use Rattle.std.specs.List.Sorted.{IsStrictlySortedBy}
use Rattle.jar_values.specs.declared.moment.TheConstants.{MAX_MOMENT}
use Rattle.jar_types.specs.declared.cookie.Cookie.{Cookie}
use Rattle.jar_types.specs.declared.op.Op.TheVariants.{Set, Get, Delete}
use Rattle.jar_types.specs.declared.op.Reply.TheVariants.{Stored, Replaced, Flag}
use Rattle.jar_types.specs.declared.entry.Own.TheVariants.{Want, Begun, Loaded, Taken, Acked}
use Rattle.jar_types.specs.declared.entry.Entry.{Entry}
use Rattle.jar_types.specs.declared.entry.Entry.TheVariants.{Call, Jar}
use Rattle.jar_types.specs.declared.row.Row.{Row}
use Rattle.jar_types.specs.declared.row.RowChange.TheVariants.{Put, Drop}
use Rattle.jar_types.specs.Ids.{text_cmp}
use Rattle.jar_types.specs.Journals.{Rules, IsLegal, state_of}
use Rattle.jar_types.specs.RowChanges.{RowsRise, row_id, changed_rows, newest_over}
use Rattle.jar_types.specs.Rows.{cookie_in, row_until, is_sound_row, row_of}
use Rattle.jar_types.specs.Stored.{IsHonest, stored_rows, hosts_of, cookies_of_rows}
use Rattle.stored_law.specs.Coalescing.{is_row_of, is_change_of, ChangesRise}
use Rattle.stored_law.specs.HostLoads.{has_host, rows_of_host, hosts_of_key, cookies_of_hosts, IsOfHost, IsLoadOf}
use Rattle.stored_law.specs.Keeping.{IsStorable, OpIsStorable, AllStorable, row_changes_of}
use Rattle.std.specs.List.{AllZip, flat_map, list_all}
use Rattle.std.proofs.lemmas.Bool.{leb-true}
use Rattle.jar_types.specs.declared.request.Request.{Request}

-- ---- four stored rows of two keys, of which one is unsound

abbrev row : List ℕ → List ℕ → ℤ → Row
row host name expiry = record {
  host = host;
  name = name;
  path = codes "/";
  value = codes "1";
  creation = pos 0;
  expiry = expiry;
  access = pos 0;
  secure = pos 0;
  http_only = pos 0;
  same_site = pos 0;
  priority = pos 0;
}

abbrev x : Row
x = row (codes ".a.test") (codes "x") (pos 1000000)

abbrev unsound : Row
unsound = row (codes "b.test") (codes "w") (negsuc 0)

abbrev z : Row
z = row (codes "b.test") (codes "z") (pos 1000000)

abbrev y : Row
y = row (codes "www.a.test") (codes "y") (pos 1000000)

abbrev rows : List Row
rows = x ∷ unsound ∷ z ∷ y ∷ []

rows_rise : RowsRise rows
unfolding IsStrictlySortedBy
rows_rise = ((refl, (refl, (refl, tt))), ((refl, (refl, tt)), ((refl, tt), (tt, tt))))

-- a jar of one caller, opened over them at 0
abbrev r : Rules
r = record {
  hosts = codes ".a.test" ∷ codes "b.test" ∷ codes "www.a.test" ∷ [];
  callers = 1;
  limit = 9;
  start = 0;
  key_of = λ host. if bytes_eq host (codes "b.test") then codes "b.test" else codes "a.test";
}

hosts_rise : IsStrictlySortedBy text_cmp r.hosts
unfolding IsStrictlySortedBy
hosts_rise = ((refl, (refl, tt)), ((refl, tt), (tt, tt)))

abbrev a : List ℕ
a = codes "a.test"

abbrev b : List ℕ
b = codes "b.test"

-- ---- loads of them

host_of_x : (has_host (codes ".a.test") x ≡ true) × (has_host (codes "a.test") x ≡ false)
host_of_x = (refl, refl)

hosts_of_a : hosts_of_key r a (hosts_of rows) ≡ (codes ".a.test" ∷ codes "www.a.test" ∷ [])
hosts_of_a = refl

rows_of_b : rows_of_host b rows ≡ (unsound ∷ z ∷ [])
rows_of_b = refl

cookies_of_a : cookies_of_hosts r rows (hosts_of_key r a (hosts_of rows)) ≡ (cookie_in a x ∷ cookie_in a y ∷ [])
cookies_of_a = refl

-- rows of another host, rows that don't rise, and cookies of no rows
other_host : IsOfHost a (z ∷ []) → ⊥
other_host h = let e : codes "b.test" ≡ codes "a.test" = h.alone.0 in absurd (apart e)
  where
    apart : codes "b.test" ≡ codes "a.test" → ⊥
    apart e = let no : false ≡ true = (λ i. bytes_eq (e i) (codes "a.test")) in absurd cc

twice : IsOfHost b (z ∷ z ∷ []) → ⊥
unfolding IsStrictlySortedBy
twice h = absurd cc

from_nowhere : IsLoadOf r [] (cookie_in b z ∷ []) → ⊥
from_nowhere h = none h.lists h.rows h.is
  where
    none : (lists : List (List Row)) → AllZip IsOfHost [] lists → cookie_in b z ∷ [] ≡ flat_map (cookies_of_rows r) lists → ⊥
    none [] zip e = absurd cc
    none (rs ∷ lists) zip e = absurd zip

-- ---- a journal over them

-- z with another value, a new cookie v, and a session cookie
abbrev z' : Cookie
z' = record (cookie_in b z) { value = codes "2" }

abbrev v : Cookie
v = record (cookie_in b z) { name = codes "v"; creation = 3; access = 3 }

abbrev session : Cookie
session = record (cookie_in b z) { name = codes "s"; expiry = None }

abbrev before : List Entry
before = Jar (Want b) ∷ Jar (Begun b) ∷ Jar (Loaded b (cookie_in b z ∷ [])) ∷ Call 0 3 (Set z' false true) Replaced ∷ []

abbrev journal : List Entry
journal =
    before
    ++ Call 0 3 (Set v false true) Stored ∷ Call 0 3 (Set session false true) Stored ∷ Jar Taken ∷ Jar (Acked 7)
    ∷ Call 0 4 (Delete b (row_id z)) (Flag true) ∷ []

is_legal : IsLegal r journal
is_legal = record { hosts = hosts_rise; replies = refl; standing = refl }

is_honest : IsHonest r rows journal
is_honest = record { hosts = refl; loads = (tt, (tt, (refl, (tt, (tt, (tt, (tt, (tt, (tt, tt))))))))) }

storable : (c : Cookie) → list_all is_sound_row (option_to_list (row_of c)) ≡ true
    → nat_le c.creation MAX_MOMENT ≡ true → IsStorable c
storable c row creation = record { row = row; creation = leb-true c.creation MAX_MOMENT creation }

is_storable : AllStorable journal
is_storable =
    (tt, (tt, (tt, (storable z' refl refl, (storable v refl refl, (storable session refl refl, (tt, (tt, (tt, tt)))))))))

-- its changes: z' came, v came, the session cookie has no row, and z went
changes_made : row_changes_of r journal ≡ (Put (row_until z' 1000000) ∷ Put (row_until v 1000000) ∷ Drop (row_id z) ∷ [])
changes_made = refl

first_change : row_changes_of r before ≡ (Put (row_until z' 1000000) ∷ [])
first_change = refl

-- what is then held: the rows of a's hosts, which weren't loaded, v, and the unsound row
held : changed_rows rows (row_changes_of r journal) ≡ (x ∷ row_until v 1000000 ∷ unsound ∷ y ∷ [])
held = refl

-- what is to be stored
stored : stored_rows r rows journal ≡ (x ∷ row_until v 1000000 ∷ y ∷ [])
unfolding state_of
stored = refl

-- the newest change of each id
newest : newest_over [] (row_changes_of r journal) ≡ (Put (row_until v 1000000) ∷ Drop (row_id z) ∷ [])
newest = refl

ids : (is_row_of (row_id z) z ≡ true) × (is_row_of (row_id z) x ≡ false) × (is_change_of (row_id z) (Put z) ≡ true)
    × (is_change_of (row_id z) (Drop (row_id x)) ≡ false)
ids = (refl, refl, refl, refl)

-- two changes of one id don't rise
two_of_an_id : ChangesRise (Put z ∷ Drop (row_id z) ∷ []) → ⊥
unfolding IsStrictlySortedBy
two_of_an_id h = absurd cc

-- ---- what can't be stored

-- a cookie past the last moment, even of a session, one whose row is unsound, and an access past the last moment
late : IsStorable (record session { creation = MAX_MOMENT + 1 }) → ⊥
late h = let most = h.creation in absurd (omega arith)

blank : IsStorable (record v { path = codes "x" }) → ⊥
blank h = let e : false ≡ true = h.row in absurd cc

late_read : (q : Request) → OpIsStorable (MAX_MOMENT + 1) (Get q) → ⊥
late_read q h = absurd (omega (arith, h))
