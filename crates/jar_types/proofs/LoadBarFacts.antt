-- Of each cause that forbids an entry of loading a journal that it refuses. This jar's own rule:
-- docs/DEFINITIONS.md.
use Rattle.std.proofs.Common.{◌≡◌, List, [], ◌∷◌, true, false, None}
use Rattle.std.specs.Prelude.{codes}
use Rattle.jar_types.proofs.LoadFacts.{a, b, get, got, of_a, of_b, r, x, y}
use Rattle.jar_types.specs.declared.cookie.Cookie.{Cookie}
use Rattle.jar_types.specs.declared.op.Op.TheVariants.{Get, All, Clear}
use Rattle.jar_types.specs.declared.op.Reply.TheVariants.{Cookies, Count, StoreFault}
use Rattle.jar_types.specs.declared.entry.Own.TheVariants.{Want, WantAll, Begun, Loaded, Lost, Whole}
use Rattle.jar_types.specs.declared.entry.Entry.{Entry}
use Rattle.jar_types.specs.declared.entry.Entry.TheVariants.{Call, Jar}
use Rattle.jar_types.specs.Journals.{Rules, IsLegal}
use Rattle.jar_types.specs.Rows.{cookie_in}

-- a jar without stored hosts
abbrev empty : Rules
empty = record r { hosts = [] }

-- ---- wants

-- a want of a loaded key, and of one that no host has
pub want_of_loaded : IsLegal r (Jar (Begun a) ∷ Jar (Loaded a of_a) ∷ Jar (Want a) ∷ []) → ⊥
want_of_loaded h = let e : false ≡ true = h.standing in absurd cc

want_of_no_key : IsLegal r (Jar (Want (codes "c.test")) ∷ []) → ⊥
want_of_no_key h = let e : false ≡ true = h.standing in absurd cc

-- of a wanted key, and of a marked one
want_of_wanted : IsLegal r (Jar (Want b) ∷ Jar (Want b) ∷ []) → ⊥
want_of_wanted h = let e : false ≡ true = h.standing in absurd cc

want_of_marked : IsLegal r (Jar (Want b) ∷ Jar (Begun b) ∷ Jar (Lost b) ∷ Jar (Want b) ∷ []) → ⊥
want_of_marked h = let e : false ≡ true = h.standing in absurd cc

-- a want of all twice, of a whole jar, and of all where that was lost
all_wanted_twice : IsLegal r (Jar WantAll ∷ Jar WantAll ∷ []) → ⊥
all_wanted_twice h = let e : false ≡ true = h.standing in absurd cc

want_of_whole : IsLegal empty (Jar (Whole 0) ∷ Jar WantAll ∷ []) → ⊥
want_of_whole h = let e : false ≡ true = h.standing in absurd cc

want_of_lost : IsLegal r (Jar WantAll ∷ Jar (Begun a) ∷ Jar (Lost a) ∷ Jar WantAll ∷ []) → ⊥
want_of_lost h = let e : false ≡ true = h.standing in absurd cc

-- ---- loads that begin

-- of another key than the least, than the first wanted, and while one has begun
begun_out_of_order : IsLegal r (Jar (Begun b) ∷ []) → ⊥
begun_out_of_order h = let e : false ≡ true = h.standing in absurd cc

begun_unwanted : IsLegal r (Jar (Want b) ∷ Jar (Begun a) ∷ []) → ⊥
begun_unwanted h = let e : false ≡ true = h.standing in absurd cc

begun_second : IsLegal r (Jar (Want b) ∷ Jar (Want a) ∷ Jar (Begun a) ∷ []) → ⊥
begun_second h = let e : false ≡ true = h.standing in absurd cc

begun_twice : IsLegal r (Jar (Begun a) ∷ Jar (Begun a) ∷ []) → ⊥
begun_twice h = let e : false ≡ true = h.standing in absurd cc

begun_meanwhile : IsLegal r (Jar (Begun a) ∷ Jar (Want b) ∷ Jar (Begun b) ∷ []) → ⊥
begun_meanwhile h = let e : false ≡ true = h.standing in absurd cc

begun_of_none : IsLegal empty (Jar (Begun a) ∷ []) → ⊥
begun_of_none h = let e : false ≡ true = h.standing in absurd cc

-- ---- loads that end

-- a load of a.test that lists this cookie
abbrev loading : Cookie → List Entry
loading c = Jar (Begun a) ∷ Jar (Loaded a (c ∷ [])) ∷ []

abbrev stored : Cookie
stored = cookie_in a x

-- a cookie whose row is unsound, or that has none
loaded_unsound : IsLegal r (loading (record stored { value = codes "1;" })) → ⊥
loaded_unsound h = let e : false ≡ true = h.standing in absurd cc

loaded_session : IsLegal r (loading (record stored { expiry = None })) → ⊥
loaded_session h = let e : false ≡ true = h.standing in absurd cc

-- one of another key, one whose host another key has, and one of a host that isn't stored
loaded_other_key : IsLegal r (Jar (Want b) ∷ Jar (Begun b) ∷ Jar (Loaded b of_a) ∷ []) → ⊥
loaded_other_key h = let e : false ≡ true = h.standing in absurd cc

loaded_other_host : IsLegal r (loading (record stored { host = codes "b.test" })) → ⊥
loaded_other_host h = let e : false ≡ true = h.standing in absurd cc

loaded_no_host : IsLegal r (loading (record stored { host = codes "a.test" })) → ⊥
loaded_no_host h = let e : false ≡ true = h.standing in absurd cc

-- in false order, and one twice
loaded_out_of_order : IsLegal r (Jar (Begun a) ∷ Jar (Loaded a (cookie_in a y ∷ stored ∷ [])) ∷ []) → ⊥
loaded_out_of_order h = let e : false ≡ true = h.standing in absurd cc

loaded_one_twice : IsLegal r (Jar (Begun a) ∷ Jar (Loaded a (stored ∷ stored ∷ [])) ∷ []) → ⊥
loaded_one_twice h = let e : false ≡ true = h.standing in absurd cc

-- of a key whose load hasn't begun, or is over
loaded_unbegun : IsLegal r (Jar (Loaded a of_a) ∷ []) → ⊥
loaded_unbegun h = let e : false ≡ true = h.standing in absurd cc

loaded_another : IsLegal r (Jar (Begun a) ∷ Jar (Loaded b of_b) ∷ []) → ⊥
loaded_another h = let e : false ≡ true = h.standing in absurd cc

loaded_twice : IsLegal r (Jar (Begun a) ∷ Jar (Loaded a of_a) ∷ Jar (Loaded a of_a) ∷ []) → ⊥
loaded_twice h = let e : false ≡ true = h.standing in absurd cc

lost_unbegun : IsLegal r (Jar (Lost a) ∷ []) → ⊥
lost_unbegun h = let e : false ≡ true = h.standing in absurd cc

lost_another : IsLegal r (Jar (Begun a) ∷ Jar (Lost b) ∷ []) → ⊥
lost_another h = let e : false ≡ true = h.standing in absurd cc

lost_twice : IsLegal r (Jar (Begun a) ∷ Jar (Lost a) ∷ Jar (Lost a) ∷ []) → ⊥
lost_twice h = let e : false ≡ true = h.standing in absurd cc

lost_after : IsLegal r (Jar (Begun a) ∷ Jar (Loaded a of_a) ∷ Jar (Lost a) ∷ []) → ⊥
lost_after h = let e : false ≡ true = h.standing in absurd cc

-- a jar that becomes whole before all its keys are loaded
whole_early : IsLegal r (Jar (Begun a) ∷ Jar (Loaded a of_a) ∷ Jar (Whole 0) ∷ []) → ⊥
whole_early h = let e : false ≡ true = h.standing in absurd cc

-- ---- calls that wait

-- All and Clear before the jar is whole, all of whose keys are loaded
all_early : IsLegal empty (Call 0 0 All (Cookies []) ∷ []) → ⊥
all_early h = let e : false ≡ true = h.standing in absurd cc

clear_early : IsLegal empty (Call 0 0 Clear (Count 0) ∷ []) → ⊥
clear_early h = let e : false ≡ true = h.standing in absurd cc

-- a call on a key that is wanted, and on one whose load has begun
call_on_wanted : IsLegal r (Jar (Want b) ∷ got of_b ∷ []) → ⊥
call_on_wanted h = let e : false ≡ true = h.standing in absurd cc

call_on_begun : IsLegal r (Jar (Want b) ∷ Jar (Begun b) ∷ got of_b ∷ []) → ⊥
call_on_begun h = let e : false ≡ true = h.standing in absurd cc

-- ---- marks

-- a load of b.test that is lost while it is wanted
abbrev marking : List Entry → List Entry
marking rest = Jar (Want b) ∷ Jar (Begun b) ∷ Jar (Lost b) ∷ rest

-- a call on a marked key has no other reply than StoreFault, and one call alone has it
answered_on_marked : IsLegal r (marking (got [] ∷ [])) → ⊥
answered_on_marked h = let e = h.replies in absurd cc

faulted_twice : IsLegal r (marking (Call 0 0 (Get get) StoreFault ∷ Call 0 0 (Get get) StoreFault ∷ [])) → ⊥
faulted_twice h = let e : false ≡ true = h.standing in absurd cc

-- nobody waited for what was lost
faulted_unwanted : IsLegal r (Jar (Begun a) ∷ Jar (Lost a) ∷ Call 0 0 (Get (record get { key = a })) StoreFault ∷ []) → ⊥
faulted_unwanted h = let e : false ≡ true = h.standing in absurd cc

-- a call on a loaded key
faulted_loaded : IsLegal empty (Call 0 0 (Get get) StoreFault ∷ []) → ⊥
faulted_loaded h = let e = h.replies in absurd cc

-- All is told StoreFault where it was wanted while a load was lost, and not where it wasn't
faulted_all : IsLegal r (Jar (Begun a) ∷ Jar (Lost a) ∷ Call 0 0 All StoreFault ∷ []) → ⊥
faulted_all h = let e : false ≡ true = h.standing in absurd cc
