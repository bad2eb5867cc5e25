-- Journals that load stored rows, and one in which a load is lost. This jar's own rule:
-- docs/DEFINITIONS.md.
use Rattle.std.proofs.Common.{◌≡◌, ℕ, List, [], ◌∷◌, true, false, None, Some, refl}
use Rattle.std.specs.Prelude.{codes, bytes_eq, pos, Option, if◌then◌else◌}
use Rattle.std.specs.List.Sorted.{IsStrictlySortedBy}
use Rattle.jar_types.specs.declared.cookie.Cookie.{Cookie}
use Rattle.jar_types.specs.declared.op.Op.TheVariants.{Get, All, Clear}
use Rattle.jar_types.specs.declared.op.Reply.TheVariants.{Cookies, Count, StoreFault}
use Rattle.jar_types.specs.declared.entry.Own.TheVariants.{Want, WantAll, Begun, Loaded, Lost, Whole}
use Rattle.jar_types.specs.declared.entry.Entry.{Entry}
use Rattle.jar_types.specs.declared.entry.Entry.TheVariants.{Call, Jar}
use Rattle.jar_types.specs.declared.request.Request.{Request}
use Rattle.jar_types.specs.declared.request.Context.TheVariants.{Strict}
use Rattle.jar_types.specs.declared.row.Row.{Row}
use Rattle.jar_types.specs.Ids.{text_cmp}
use Rattle.jar_types.specs.Journals.{Rules, IsLegal, state_of}
use Rattle.jar_types.specs.Loads.{KeyLoads, next_key, none_loaded, not_whole}
use Rattle.jar_types.specs.Waits.{IsWish}
use Rattle.jar_types.specs.declared.jar_core.LoadWish.TheVariants as wish
use Rattle.jar_types.specs.Rows.{cookie_in}
use Rattle.jar_types.specs.Stored.{IsHonest, stored_rows}

-- ---- three stored rows of two keys

abbrev pub row : List ℕ → List ℕ → List ℕ → Row
row host name value = record {
  host = host;
  name = name;
  path = codes "/";
  value = value;
  creation = pos 0;
  expiry = pos 1000000;
  access = pos 0;
  secure = pos 0;
  http_only = pos 0;
  same_site = pos 0;
  priority = pos 0;
}

abbrev pub x : Row
x = row (codes ".a.test") (codes "x") (codes "1")

abbrev pub z : Row
z = row (codes "b.test") (codes "z") (codes "3")

abbrev pub y : Row
y = row (codes "www.a.test") (codes "y") (codes "2")

abbrev pub rows : List Row
rows = x ∷ z ∷ y ∷ []

-- a jar of one caller, opened over them at 0
abbrev pub r : Rules
r = record {
  hosts = codes ".a.test" ∷ codes "b.test" ∷ codes "www.a.test" ∷ [];
  callers = 1;
  limit = 9;
  start = 0;
  key_of = λ host. if bytes_eq host (codes "b.test") then codes "b.test" else codes "a.test";
}

pub hosts_rise : IsStrictlySortedBy text_cmp r.hosts
unfolding IsStrictlySortedBy
hosts_rise = ((refl, (refl, tt)), ((refl, tt), (tt, tt)))

abbrev pub a : List ℕ
a = codes "a.test"

abbrev pub b : List ℕ
b = codes "b.test"

abbrev pub get : Request
get = record { key = b; host = b; path = codes "/"; secure = true; script = false; context = Strict }

abbrev pub got : List Cookie → Entry
got cookies = Call 0 0 (Get get) (Cookies cookies)

abbrev pub of_a : List Cookie
of_a = cookie_in a x ∷ cookie_in a y ∷ []

abbrev pub of_b : List Cookie
of_b = cookie_in b z ∷ []

-- ---- what a caller waits for is loaded first, and All waits for the whole jar

abbrev pub in_order : List Entry
in_order =
    Jar (Want b) ∷ Jar (Begun b) ∷ Jar (Loaded b of_b) ∷ got of_b ∷ Jar (Begun a) ∷ Jar (Loaded a of_a) ∷ Jar WantAll
    ∷ Jar (Whole 0) ∷ Call 0 0 All (Cookies (cookie_in a x ∷ cookie_in b z ∷ cookie_in a y ∷ [])) ∷ []

loads_in_order : IsLegal r in_order
loads_in_order = record { hosts = hosts_rise; replies = refl; standing = refl }

loads_honestly : IsHonest r rows in_order
loads_honestly = record { hosts = refl; loads = (tt, (tt, (refl, (tt, (tt, (refl, (tt, (tt, (tt, tt))))))))) }

-- and it changes no row
keeps_rows : stored_rows r rows in_order ≡ rows
unfolding state_of
keeps_rows = refl

-- a load that was lost is told once, and made up for
abbrev pub lost : List Entry
lost =
    Jar (Want b) ∷ Jar (Begun b) ∷ Jar (Lost b) ∷ Call 0 0 (Get get) StoreFault ∷ Jar (Begun a) ∷ Jar (Loaded a of_a)
    ∷ Jar (Want b) ∷ Jar (Begun b) ∷ Jar (Loaded b of_b) ∷ got of_b ∷ Jar (Whole 0) ∷ []

loses : IsLegal r lost
loses = record { hosts = hosts_rise; replies = refl; standing = refl }

-- one that was lost while a caller waited for the whole jar is told to the next All, and to no other
abbrev all_lost : List Entry
all_lost =
    Jar WantAll ∷ Jar (Begun a) ∷ Jar (Lost a) ∷ Call 0 0 All StoreFault ∷ Jar WantAll ∷ Jar (Begun a)
    ∷ Jar (Loaded a of_a) ∷ Jar (Begun b) ∷ Jar (Loaded b of_b) ∷ Jar (Whole 0) ∷ Call 0 0 Clear (Count 3) ∷ []

loses_all : IsLegal r all_lost
loses_all = record { hosts = hosts_rise; replies = refl; standing = refl }

-- ---- what is loaded next

abbrev keys : List (List ℕ) → Option (List ℕ) → KeyLoads
keys wanted begun = record { unloaded = a ∷ b ∷ []; wanted = wanted; begun = begun; lost = [] }

-- the key whose load has begun, else the first that is wanted, else the least; none where all are loaded
next : (next_key (keys (b ∷ []) (Some a)) ≡ Some a) × (next_key (keys (b ∷ a ∷ []) None) ≡ Some b)
    × (next_key (keys [] None) ≡ Some a) × (next_key (none_loaded []) ≡ None)
next = (refl, refl, refl, refl)

-- a jar all of whose keys are loaded is to become whole, and a whole one is idle
becomes_whole : IsWish (not_whole []) wish.Whole
becomes_whole = (refl, refl)

rests : IsWish (record (not_whole []) { whole = true }) wish.Idle
rests = (refl, refl)

-- not before, and not at once
not_yet_whole : IsWish (not_whole (a ∷ [])) wish.Whole → ⊥
not_yet_whole h = let e : Some a ≡ None = h.0 in absurd cc

not_yet_idle : IsWish (not_whole []) wish.Idle → ⊥
not_yet_idle h = let e : false ≡ true = h.1 in absurd cc

no_more_whole : IsWish (record (not_whole []) { whole = true }) wish.Whole → ⊥
no_more_whole h = let e : true ≡ false = h.1 in absurd cc
