-- What is stored beside a jar: the journals that load just what stands in the rows, and the rows after a journal. This
-- jar's own rule: docs/DEFINITIONS.md.
use Rattle.std.specs.Prelude.{◌≡◌, ℕ, List, ◌++◌, filter, filter_map, map, Bool, not, ◌&&◌}
use Rattle.std.specs.List.{AllByRecursion}
use Rattle.jar_types.specs.declared.cookie.Cookie.{Cookie}
use Rattle.jar_types.specs.declared.entry.Entry.{Entry}
use Rattle.jar_types.specs.declared.entry.Entry.TheVariants.{Call, Jar}
use Rattle.jar_types.specs.declared.entry.Own.{Own}
use Rattle.jar_types.specs.declared.entry.Own.TheVariants.{Want, WantAll, Begun, Loaded, Lost, Whole, Taken, Acked, CommitLost}
use Rattle.jar_types.specs.declared.row.Row.{Row}
use Rattle.jar_types.specs.Ids.{text_cmp}
use Rattle.jar_types.specs.Journals.{Rules, key_at, stored_keys, state_of}
use Rattle.jar_types.specs.Loads.{is_loaded}
use Rattle.jar_types.specs.Orders.{ascending, in_order}
use Rattle.jar_types.specs.Purges.{has_key}
use Rattle.jar_types.specs.RowChanges.{row_cmp}
use Rattle.jar_types.specs.Rows.{is_sound_row, cookie_of_row, row_of}
use Rattle.jar_types.specs.States.{JarState}

-- the hosts of rows, ascending, each once
abbrev pub hosts_of : List Row → List (List ℕ)
hosts_of rows = ascending text_cmp (map (λ row. row.host) rows)

-- the rows that stand for cookies
abbrev pub sound_rows : List Row → List Row
sound_rows rows = filter is_sound_row rows

-- the cookies that rows stand for, by the keys of hosts
abbrev pub cookies_of_rows : Rules → List Row → List Cookie
cookies_of_rows r rows = filter_map (cookie_of_row r.key_of) rows

-- those of them that a key has
abbrev pub stored_cookies : Rules → List Row → List ℕ → List Cookie
stored_cookies r rows key = filter (has_key key) (cookies_of_rows r rows)

-- a load lists just the cookies of its key that these rows stand for
abbrev pub OwnIsHonest : Rules → List Row → Own → Type 0
OwnIsHonest r rows (Want key) = Unit {0}
OwnIsHonest r rows WantAll = Unit {0}
OwnIsHonest r rows (Begun key) = Unit {0}
OwnIsHonest r rows (Loaded key cookies) = cookies ≡ stored_cookies r rows key
OwnIsHonest r rows (Lost key) = Unit {0}
OwnIsHonest r rows (Whole now) = Unit {0}
OwnIsHonest r rows Taken = Unit {0}
OwnIsHonest r rows (Acked place) = Unit {0}
OwnIsHonest r rows (CommitLost place) = Unit {0}

abbrev pub EntryIsHonest : Rules → List Row → Entry → Type 0
EntryIsHonest r rows (Call caller now op reply) = Unit {0}
EntryIsHonest r rows (Jar own) = OwnIsHonest r rows own

-- the hosts are those of these rows, and each load lists just the cookies that they stand for
pub record IsHonest (r : Rules) (rows : List Row) (journal : List Entry) : Type 0 where
  pub hosts : r.hosts ≡ hosts_of rows
  pub loads : AllByRecursion (EntryIsHonest r rows) journal

-- the row is sound, and its key isn't loaded
abbrev pub is_left_stored : Rules → JarState → Row → Bool
is_left_stored r s row = is_sound_row row && not (is_loaded (key_at r row.host) s.loads.keys)

-- the rows beside a state, where the jar was opened over these: those that it has not loaded, and those of its cookies that
-- have an expiry, in the order of their ids
abbrev pub rows_beside : Rules → List Row → JarState → List Row
rows_beside r rows s = in_order row_cmp (filter (is_left_stored r s) rows ++ filter_map row_of s.cookies)

-- the rows that are to be stored after a journal
abbrev pub stored_rows : Rules → List Row → List Entry → List Row
stored_rows r rows journal = rows_beside r rows (state_of (stored_keys r) journal)
