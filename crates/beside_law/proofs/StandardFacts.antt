-- A journal of a commit that is lost and made up for, over a stored row of a key that isn't loaded:
-- what waits and what is held after each of its entries. This jar's own rule: docs/DEFINITIONS.md.
use Rattle.std.proofs.Common.{◌≡◌, List, [], ◌∷◌, true, false, Some, take, refl}
use Rattle.std.specs.Prelude.{codes, nat_le, option_to_list, pos}
use Rattle.std.specs.List.{list_all}
use Rattle.std.specs.List.Sorted.{IsStrictlySortedBy}
use Rattle.std.proofs.lemmas.Bool.{leb-true}
use Rattle.jar_values.specs.declared.attributes.Priority.TheVariants.{Medium}
use Rattle.jar_values.specs.declared.attributes.SameSite.TheVariants.{Unspecified}
use Rattle.jar_values.specs.declared.moment.TheConstants.{MAX_MOMENT}
use Rattle.jar_types.specs.declared.cookie.Cookie.{Cookie}
use Rattle.jar_types.specs.declared.entry.Entry.{Entry}
use Rattle.jar_types.specs.declared.entry.Entry.TheVariants.{Call, Jar}
use Rattle.jar_types.specs.declared.entry.Own.TheVariants.{Begun, Taken, Acked, CommitLost}
use Rattle.jar_types.specs.declared.op.Op.TheVariants.{Set, Delete}
use Rattle.jar_types.specs.declared.op.Reply.TheVariants.{Stored, Replaced, Flag}
use Rattle.jar_types.specs.declared.row.Row.{Row}
use Rattle.jar_types.specs.declared.row.RowChange.TheVariants.{Put, Drop}
use Rattle.jar_types.specs.Ids.{text_cmp}
use Rattle.jar_types.specs.Journals.{IsLegal, Rules, state_of}
use Rattle.jar_types.specs.RowChanges.{RowsRise, changed_rows, row_id}
use Rattle.jar_types.specs.Rows.{cookie_in, is_sound_row, row_of, row_until}
use Rattle.jar_types.specs.Stored.{IsHonest, sound_rows, stored_rows}
use Rattle.stored_law.specs.HostLoads.{cookies_of_hosts, hosts_of_key}
use Rattle.stored_law.specs.Keeping.{AllStorable, IsStorable, row_changes_of}
use Rattle.beside_law.specs.Beside.{beside_of, nothing_beside}
use Rattle.beside_law.specs.Held.{held_of}
use Rattle.beside_law.proofs.AckedLemmas.{batch_is_stored, held_is_stored}
use Rattle.beside_law.proofs.LoadLemmas.{loads_stay_honest}

-- ---- a stored row of b.test, and a cookie of a.test

abbrev stored : Row
stored = record {
  host = codes "b.test";
  name = codes "s";
  path = codes "/";
  value = codes "1";
  creation = pos 0;
  expiry = pos 1000000;
  access = pos 0;
  secure = pos 0;
  http_only = pos 0;
  same_site = pos 0;
  priority = pos 0;
}

abbrev rows : List Row
rows = stored ∷ []

rows_rise : RowsRise rows
unfolding IsStrictlySortedBy
rows_rise = (tt, tt)

abbrev first : Cookie
first = record {
  key = codes "a.test";
  host = codes "a.test";
  name = codes "a";
  path = codes "/";
  value = codes "1";
  creation = 5;
  access = 5;
  expiry = Some 100000;
  secure = false;
  http_only = false;
  same_site = Unspecified;
  priority = Medium;
}

-- one that comes in its place, and that one as it is stored there
abbrev second : Cookie
second = record first { value = codes "2"; creation = 7; access = 7 }

abbrev row : Row
row = row_until first 100000

abbrev row' : Row
row' = row_until (record second { creation = 5 }) 100000

-- a jar of one caller, opened over the stored row at 0, in which each host is its own key
abbrev r : Rules
r = record { hosts = codes "b.test" ∷ []; callers = 1; limit = 9; start = 0; key_of = λ host. host }

hosts_rise : IsStrictlySortedBy text_cmp r.hosts
unfolding IsStrictlySortedBy
hosts_rise = (tt, tt)

-- ---- the journal

abbrev journal : List Entry
journal =
    Call 0 5 (Set first false false) Stored ∷ Jar Taken ∷ Jar (CommitLost 2) ∷ Call 0 7 (Set second false false) Replaced ∷ Jar Taken ∷ Jar (Acked 5)
    ∷ Call 0 8 (Delete (codes "a.test") (row_id row)) (Flag true) ∷ Jar (Begun (codes "b.test")) ∷ []

is_legal : IsLegal r journal
is_legal = record { hosts = hosts_rise; replies = refl; standing = refl }

is_honest : IsHonest r rows journal
is_honest = record { hosts = refl; loads = (tt, (tt, (tt, (tt, (tt, (tt, (tt, (tt, tt)))))))) }

storable : (c : Cookie) → list_all is_sound_row (option_to_list (row_of c)) ≡ true → nat_le c.creation MAX_MOMENT ≡ true → IsStorable c
storable c row creation = record { row = row; creation = leb-true c.creation MAX_MOMENT creation }

is_storable : AllStorable journal
is_storable = (storable first refl refl, (tt, (tt, (storable second refl refl, (tt, (tt, (tt, (tt, tt))))))))

-- ---- what waits and what is held after each entry

at_first : (beside_of r [] ≡ nothing_beside) × (held_of r rows [] ≡ rows)
unfolding beside_of held_of
at_first = (refl, refl)

-- a Set
set_first : (beside_of r (take 1 journal) ≡ record { pending = Put row ∷ []; kept = []; acked = 0 }) × (held_of r rows (take 1 journal) ≡ rows)
unfolding beside_of held_of
set_first = (refl, refl)

-- its batch, which was lost
taken_first : (beside_of r (take 2 journal) ≡ record { pending = []; kept = Put row ∷ []; acked = 0 }) × (held_of r rows (take 2 journal) ≡ rows)
unfolding beside_of held_of
taken_first = (refl, refl)

lost : (beside_of r (take 3 journal) ≡ record { pending = []; kept = Put row ∷ []; acked = 0 }) × (held_of r rows (take 3 journal) ≡ rows)
unfolding beside_of held_of
lost = (refl, refl)

-- a second Set, over what is kept
set_second : (beside_of r (take 4 journal) ≡ record { pending = Put row' ∷ []; kept = Put row ∷ []; acked = 0 })
    × (held_of r rows (take 4 journal) ≡ rows)
unfolding beside_of held_of
set_second = (refl, refl)

-- the next batch has the newest change, and is committed
taken_second : (beside_of r (take 5 journal) ≡ record { pending = []; kept = Put row' ∷ []; acked = 0 }) × (held_of r rows (take 5 journal) ≡ rows)
unfolding beside_of held_of
taken_second = (refl, refl)

acked : (beside_of r (take 6 journal) ≡ record { pending = []; kept = []; acked = 5 }) × (held_of r rows (take 6 journal) ≡ row' ∷ stored ∷ [])
unfolding beside_of held_of
acked = (refl, refl)

-- what comes then waits, and what is held is what was to be stored at the fifth entry
at_last : (beside_of r journal ≡ record { pending = Drop (row_id row) ∷ []; kept = []; acked = 5 }) × (held_of r rows journal ≡ row' ∷ stored ∷ [])
unfolding beside_of held_of
at_last = (refl, refl)

stored_then : (stored_rows r rows (take 5 journal) ≡ row' ∷ stored ∷ []) × (stored_rows r rows journal ≡ stored ∷ [])
unfolding state_of
stored_then = (refl, refl)

-- and the laws say the same
held_is : sound_rows (held_of r rows journal) ≡ stored_rows r rows (take (beside_of r journal).acked journal)
held_is = held_is_stored r rows journal rows_rise is_legal is_honest is_storable

-- while the first batch is out, its change makes of what is held what was to be stored then
abbrev while_out : List Entry
while_out = take 2 journal

out_legal : IsLegal r while_out
out_legal = record { hosts = hosts_rise; replies = refl; standing = refl }

out_honest : IsHonest r rows while_out
out_honest = record { hosts = refl; loads = (tt, (tt, tt)) }

batch_is : sound_rows (changed_rows (held_of r rows while_out) (beside_of r while_out).kept) ≡ row ∷ stored ∷ []
unfolding state_of
batch_is = batch_is_stored r rows while_out 2 rows_rise out_legal out_honest (storable first refl refl, (tt, tt)) refl

load_is : cookies_of_hosts r (held_of r rows journal) (hosts_of_key r (codes "b.test") r.hosts) ≡ cookie_in (codes "b.test") stored ∷ []
unfolding state_of
load_is = loads_stay_honest r rows journal (codes "b.test") rows_rise is_legal is_honest refl

-- ---- a journal that isn't legal

-- it says that a batch was committed which was never taken: nothing is held of it
abbrev never_taken : List Entry
never_taken = Call 0 5 (Set first false false) Stored ∷ Jar (Acked 1) ∷ []

not_legal : IsLegal r never_taken → ⊥
not_legal h = let e : false ≡ true = h.standing in absurd cc

nothing_held : (held_of r rows never_taken ≡ rows)
    × (changed_rows rows (row_changes_of r (take (beside_of r never_taken).acked never_taken)) ≡ row ∷ stored ∷ [])
unfolding beside_of held_of
nothing_held = (refl, refl)
