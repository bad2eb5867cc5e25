-- Changes of stored rows and the batches of them, at worked values: a commit that is lost and made
-- up for, and of each cause that forbids an entry of commits a journal that it refuses. This jar's
-- own rule: docs/DEFINITIONS.md.
use Rattle.std.proofs.Common.{◌≡◌, ℕ, List, [], ◌∷◌, true, false, None, Some, refl}
use Rattle.std.specs.Prelude.{codes, option_map, pos}
use Rattle.jar_values.specs.declared.attributes.Priority.TheVariants.{High}
use Rattle.jar_values.specs.declared.attributes.SameSite.TheVariants.{Lax}
use Rattle.std.specs.List.Sorted.{IsStrictlySortedBy}
use Rattle.jar_types.proofs.FactValues.{a, b, q}
use Rattle.jar_types.specs.declared.cookie.Cookie.{Cookie}
use Rattle.jar_types.specs.declared.cookie.CookieId.{CookieId}
use Rattle.jar_types.specs.declared.entry.Entry.{Entry}
use Rattle.jar_types.specs.declared.entry.Entry.TheVariants.{Call, Jar}
use Rattle.jar_types.specs.declared.entry.Event.{Event}
use Rattle.jar_types.specs.declared.entry.Event.TheVariants.{Call as CallEvent, Jar as JarEvent}
use Rattle.jar_types.specs.declared.entry.Own.TheVariants.{Whole, Taken, Acked, CommitLost}
use Rattle.jar_types.specs.declared.op.Op.TheVariants.{Set, Get, Delete, Clear}
use Rattle.jar_types.specs.declared.op.Reply.TheVariants.{Stored, Count}
use Rattle.jar_types.specs.declared.row.Row.{Row}
use Rattle.jar_types.specs.declared.row.RowChange.TheVariants.{Put, Drop}
use Rattle.jar_types.specs.Ids.{text_cmp}
use Rattle.jar_types.specs.Journals.{Rules, IsLegal}
use Rattle.jar_types.specs.RowChanges.{newest_over, row_at, row_change, row_changes}
use Rattle.jar_types.specs.Rows.{row_of, row_until}
use Rattle.jar_types.specs.States.{JarState, opening}
use Rattle.jar_types.specs.Steps.{own_moment, rows_at}

-- a jar of one caller without stored hosts, which may do as much as it likes
abbrev pub r : Rules
r = record { hosts = []; callers = 1; limit = 99; start = 0; key_of = λ host. host }

pub none_rise : IsStrictlySortedBy text_cmp []
unfolding IsStrictlySortedBy
none_rise = tt

-- a, where it expires at 100000; its row; and its id
abbrev pub kept : Cookie
kept = record a { expiry = Some 100000 }

abbrev pub row : Row
row = row_until kept 100000

abbrev pub id : CookieId
id = record { host = codes "h.test"; name = codes "a"; path = codes "/" }

abbrev pub holding : List Cookie → JarState
holding cookies = record (opening []) { cookies = cookies }

-- ---- the changes of an event

abbrev setting : ℕ → Cookie → Event
setting now c = CallEvent 0 now (Set c false false)

-- a session cookie changes no row; another one puts its own
pub set_session : rows_at (holding []) (setting 5 a) ≡ []
set_session = refl

set_kept : rows_at (holding []) (setting 5 kept) ≡ Put row ∷ []
set_kept = refl

-- it is put once more where its access is refreshed, and not where that is too early
refreshed : rows_at (holding (kept ∷ [])) (CallEvent 0 60005 (Get q)) ≡ Put (record row { access = pos 60005 }) ∷ []
refreshed = refl

not_refreshed : rows_at (holding (kept ∷ [])) (CallEvent 0 60004 (Get q)) ≡ []
not_refreshed = refl

-- it is dropped where it is taken away, where it expires, and where a session cookie comes in its
-- place
taken_away : rows_at (holding (kept ∷ [])) (CallEvent 0 6 (Delete (codes "h.test") id)) ≡ Drop id ∷ []
taken_away = refl

expired : rows_at (holding (kept ∷ [])) (CallEvent 0 100000 (Get q)) ≡ Drop id ∷ []
expired = refl

replaced : rows_at (holding (kept ∷ [])) (setting 6 b) ≡ Drop id ∷ []
replaced = refl

-- a jar that becomes whole drops none while it isn't too full, not even one that has expired
not_swept : rows_at (holding (kept ∷ [])) (JarEvent (Whole 100000)) ≡ []
not_swept = refl

-- what the jar does itself is told at the moment at which it becomes whole, and else at none
moments : (own_moment (Whole 7) ≡ 7) × (own_moment Taken ≡ 0)
moments = (refl, refl)

-- a row that stays is no change, and one that differs in one column is put
same_again : row_change (kept ∷ []) (kept ∷ []) id ≡ None
same_again = refl

abbrev IsPut : Cookie → Type 0
IsPut c = row_change (kept ∷ []) (c ∷ []) id ≡ option_map (λ r. Put r) (row_of c)

each_column : IsPut (record kept { value = codes "2" }) × IsPut (record kept { creation = 4 }) × IsPut (record kept { expiry = Some 9 })
    × IsPut (record kept { access = 6 }) × IsPut (record kept { secure = true }) × IsPut (record kept { http_only = true })
    × IsPut (record kept { same_site = Lax }) × IsPut (record kept { priority = High })
each_column = (refl, refl, refl, refl, refl, refl, refl, refl)

-- the key is no column
no_column : row_change (kept ∷ []) (record kept { key = codes "test" } ∷ []) id ≡ None
no_column = refl

none_there : (row_at id [] ≡ None) × (row_at id (a ∷ []) ≡ None) × (row_at id (kept ∷ []) ≡ Some row)
none_there = (refl, refl, refl)

-- changes come in the order of their ids
abbrev z : Cookie
z = record kept { name = codes "z" }

in_order : row_changes (z ∷ []) (kept ∷ []) ≡ Put row ∷ Drop (record id { name = codes "z" }) ∷ []
in_order = refl

-- ---- older changes and newer ones

abbrev later : Row
later = record row { value = codes "2" }

abbrev z_row : Row
z_row = row_until z 100000

-- the newer one of an id stands in the place of the older, and the order stays
newest : newest_over (Put row ∷ Put z_row ∷ []) (Put later ∷ []) ≡ Put later ∷ Put z_row ∷ []
newest = refl

dropped : newest_over (Put row ∷ Put z_row ∷ []) (Drop id ∷ []) ≡ Drop id ∷ Put z_row ∷ []
dropped = refl

put_between : newest_over (Put z_row ∷ []) (Put later ∷ []) ≡ Put later ∷ Put z_row ∷ []
put_between = refl

-- ---- commits

abbrev set_kept_at : ℕ → Entry
set_kept_at now = Call 0 now (Set kept false false) Stored

abbrev set_z_at : ℕ → Entry
set_z_at now = Call 0 now (Set z false false) Stored

-- a commit that is lost and made up for
abbrev made_up_for : List Entry → List Entry
made_up_for rest =
    set_kept_at 5 ∷ Jar Taken ∷ Jar (CommitLost 2) ∷ set_z_at 5 ∷ Jar Taken ∷ Jar (Acked 5) ∷ rest

commits : IsLegal r (made_up_for [])
commits = record { hosts = none_rise; replies = refl; standing = refl }

-- and one that is taken again though nothing more was touched
retried : IsLegal r (set_kept_at 5 ∷ Jar Taken ∷ Jar (CommitLost 2) ∷ Jar Taken ∷ Jar (Acked 4) ∷ [])
retried = record { hosts = none_rise; replies = refl; standing = refl }

-- a batch that is taken where nothing was touched: at first, after a session cookie, and once the
-- last one was committed
taken_of_nothing : IsLegal r (Jar Taken ∷ []) → ⊥
taken_of_nothing h = let e : false ≡ true = h.standing in absurd cc

taken_of_session : IsLegal r (Call 0 5 (Set a false false) Stored ∷ Jar Taken ∷ []) → ⊥
taken_of_session h = let e : false ≡ true = h.standing in absurd cc

taken_after : IsLegal r (made_up_for (Jar Taken ∷ [])) → ⊥
taken_after h = let e : false ≡ true = h.standing in absurd cc

-- while one is out
taken_twice : IsLegal r (set_kept_at 5 ∷ Jar Taken ∷ set_z_at 5 ∷ Jar Taken ∷ []) → ⊥
taken_twice h = let e : false ≡ true = h.standing in absurd cc

-- a batch that ends: of another place, and where none is out
acked_of_another : IsLegal r (set_kept_at 5 ∷ Jar Taken ∷ Jar (Acked 1) ∷ []) → ⊥
acked_of_another h = let e : false ≡ true = h.standing in absurd cc

acked_of_none : IsLegal r (set_kept_at 5 ∷ Jar (Acked 1) ∷ []) → ⊥
acked_of_none h = let e : false ≡ true = h.standing in absurd cc

acked_twice : IsLegal r (set_kept_at 5 ∷ Jar Taken ∷ Jar (Acked 2) ∷ Jar (Acked 2) ∷ []) → ⊥
acked_twice h = let e : false ≡ true = h.standing in absurd cc

lost_of_another : IsLegal r (set_kept_at 5 ∷ Jar Taken ∷ Jar (CommitLost 3) ∷ []) → ⊥
lost_of_another h = let e : false ≡ true = h.standing in absurd cc

lost_of_none : IsLegal r (set_kept_at 5 ∷ Jar (CommitLost 1) ∷ []) → ⊥
lost_of_none h = let e : false ≡ true = h.standing in absurd cc

lost_and_acked : IsLegal r (set_kept_at 5 ∷ Jar Taken ∷ Jar (CommitLost 2) ∷ Jar (Acked 2) ∷ []) → ⊥
lost_and_acked h = let e : false ≡ true = h.standing in absurd cc

-- ---- Clear

-- it counts what lives
clears : IsLegal r
    (Jar (Whole 0) ∷ set_kept_at 5 ∷ set_z_at 5 ∷ Call 0 5 (Set (record z { name = codes "y"; expiry = Some 7 }) false false) Stored
    ∷ Call 0 7 Clear (Count 2) ∷ Call 0 7 Clear (Count 0) ∷ [])
clears = record { hosts = none_rise; replies = refl; standing = refl }

counts_the_expired : IsLegal r (Jar (Whole 0) ∷ set_kept_at 5 ∷ Call 0 100000 Clear (Count 1) ∷ []) → ⊥
counts_the_expired h = let e = h.replies in absurd cc
