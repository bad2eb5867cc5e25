-- What a walk of two lists of cookies adds to the changes of rows, cookie by cookie. This jar's own rule:
-- docs/DEFINITIONS.md.
use Rattle.std.specs.Prelude.{List, [], ◌∷◌, Bool, true, false, Option, None, Some}
use Rattle.jar_types.specs.declared.cookie.Cookie.{Cookie}
use Rattle.jar_types.specs.declared.cookie.CookieId.{CookieId}
use Rattle.jar_types.specs.declared.row.Row.{Row}
use Rattle.jar_types.specs.declared.row.RowChange.{RowChange}
use Rattle.jar_types.specs.declared.row.RowChange.TheVariants.{Put, Drop}
use Rattle.jar_types.specs.Ids.{id_of}
use Rattle.jar_types.specs.RowChanges.{became, same_rows}
use Rattle.jar_types.specs.Rows.{row_of}

-- the row of an id goes, where there is one
abbrev pub drop_where : Option Row → CookieId → List RowChange
drop_where None id = []
drop_where (Some row) id = Drop id ∷ []

-- a cookie left
abbrev pub drop_of : Cookie → List RowChange
drop_of c = drop_where (row_of c) (id_of c)

-- the row comes, where there is one
abbrev pub put_where : Option Row → List RowChange
put_where None = []
put_where (Some row) = Put row ∷ []

-- a cookie came
abbrev pub put_of : Cookie → List RowChange
put_of c = put_where (row_of c)

-- the row of an id is the same, or became this one
abbrev pub change_where : Bool → CookieId → Option Row → List RowChange
change_where true id row = []
change_where false id row = became id row ∷ []

-- a cookie became another of its id
abbrev pub change_of : Cookie → Cookie → List RowChange
change_of c d = change_where (same_rows (row_of c) (row_of d)) (id_of d) (row_of d)
