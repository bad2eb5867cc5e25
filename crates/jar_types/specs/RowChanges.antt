-- Changes of stored rows: those between two lists of cookies, one for each id whose row differs; and what they make of the
-- rows. This jar's own rule: docs/DEFINITIONS.md.
use Rattle.std.specs.Prelude.{◌≡◌, ℕ, List, ◌++◌, map, filter, find, fold, filter_map, Bool, true, false, not, ◌&&◌, bytes_eq, if◌then◌else◌}
use Rattle.std.specs.Prelude.{Option, None, Some, option_and_then}
use Rattle.std.specs.List.Sorted.{IsStrictlySortedBy}
use Rattle.std.specs.Ordering.{int_eq, is_eq}
use Rattle.std.specs.declared.cmp.Ordering.{Ordering}
use Rattle.jar_types.specs.declared.cookie.Cookie.{Cookie}
use Rattle.jar_types.specs.declared.cookie.CookieId.{CookieId}
use Rattle.jar_types.specs.declared.row.Row.{Row}
use Rattle.jar_types.specs.declared.row.RowChange.{RowChange}
use Rattle.jar_types.specs.declared.row.RowChange.TheVariants.{Put, Drop}
use Rattle.jar_types.specs.Ids.{id_cmp, id_of}
use Rattle.jar_types.specs.Orders.{ascending, put_by}
use Rattle.jar_types.specs.Rows.{row_of}

-- ---- rows by their ids

-- the id of a row
abbrev pub row_id : Row → CookieId
row_id row = record { host = row.host; name = row.name; path = row.path }

-- rows are ordered by their ids
abbrev pub row_cmp : Row → Row → Ordering
row_cmp r r' = id_cmp (row_id r) (row_id r')

-- the ids of the rows rise strictly, so no two are the same
abbrev pub RowsRise : List Row → Type 0
RowsRise rows = IsStrictlySortedBy row_cmp rows

-- both rows are the same, column by column
abbrev pub same_row : Row → Row → Bool
same_row r r' =
    bytes_eq r.host r'.host
    && (bytes_eq r.name r'.name
    && (bytes_eq r.path r'.path
    && (bytes_eq r.value r'.value
    && (int_eq r.creation r'.creation
    && (int_eq r.expiry r'.expiry
    && (int_eq r.access r'.access
    && (int_eq r.secure r'.secure
    && (int_eq r.http_only r'.http_only
    && (int_eq r.same_site r'.same_site
    && int_eq r.priority r'.priority)))))))))

-- ---- the changes between two lists of cookies

-- the cookie has the id
abbrev pub has_id : CookieId → Cookie → Bool
has_id id c = is_eq (id_cmp id (id_of c))

-- the row that stands for the cookie of an id among these; none where there is no such cookie, or it is a session cookie
abbrev pub row_at : CookieId → List Cookie → Option Row
row_at id cookies = option_and_then row_of (find (has_id id) cookies)

-- both are none, or the same row
abbrev pub same_rows : Option Row → Option Row → Bool
same_rows None None = true
same_rows None (Some row) = false
same_rows (Some row) None = false
same_rows (Some row) (Some other) = same_row row other

-- the row of an id became this one, or went
abbrev pub became : CookieId → Option Row → RowChange
became id None = Drop id
became id (Some row) = Put row

-- what became of the row of an id, where it isn't what it was
abbrev pub row_change : List Cookie → List Cookie → CookieId → Option RowChange
row_change before later id =
    if same_rows (row_at id before) (row_at id later) then None else Some (became id (row_at id later))

-- the ids of two lists of cookies, in their order, each once
abbrev pub ids_of_both : List Cookie → List Cookie → List CookieId
ids_of_both before later = ascending id_cmp (map id_of (before ++ later))

-- one change for each id whose row differs, in the order of the ids
abbrev pub row_changes : List Cookie → List Cookie → List RowChange
row_changes before later = filter_map (row_change before later) (ids_of_both before later)

-- ---- what changes make of the rows

-- the id of a change
abbrev pub change_id : RowChange → CookieId
change_id (Put row) = row_id row
change_id (Drop id) = id

-- changes are ordered by their ids
abbrev pub change_cmp : RowChange → RowChange → Ordering
change_cmp c d = id_cmp (change_id c) (change_id d)

-- the rows after a change: the row in the place of its id, or without the one of an id
abbrev pub rows_after : List Row → RowChange → List Row
rows_after rows (Put row) = put_by row_cmp row rows
rows_after rows (Drop id) = filter (λ row. not (is_eq (id_cmp id (row_id row)))) rows

-- the rows after these changes, one after another
abbrev pub changed_rows : List Row → List RowChange → List Row
changed_rows rows changes = fold rows_after rows changes

-- changes of which each id has one, the newest, in the order of the ids: after these older ones the newer came
abbrev pub newest_over : List RowChange → List RowChange → List RowChange
newest_over older newer = fold (λ changes change. put_by change_cmp change changes) older newer
