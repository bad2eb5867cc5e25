-- The table of cookies, and the texts of its statements. This jar's own rule: docs/DEFINITIONS.md.
use Rattle.std.specs.Prelude.{true, false, [], ◌∷◌, None, codes, List, ℕ}
use Rattle.sqlite_value.specs.Keys.{plain}
use Rattle.sqlite.specs.Collation.TheVariants.{Binary}
use Rattle.sqlite.specs.declared.types.Value.TheVariants.{Null}
use Rattle.sqlite.specs.Kind.TheVariants.{Integer, Text}
use Rattle.sqlite_schema.specs.declared.schema.Column.{Column}
use Rattle.sqlite_schema.specs.declared.schema.Index.{Index}
use Rattle.sqlite.specs.Table.{Table}
use Rattle.sqlite.specs.Schema.{Schema}

-- ---- the texts

-- makes the table where it isn't there
abbrev pub create_text : List ℕ
create_text = codes "CREATE TABLE IF NOT EXISTS cookies(host TEXT NOT NULL, name TEXT NOT NULL, path TEXT NOT NULL, value TEXT NOT NULL, creation INTEGER NOT NULL, expiry INTEGER NOT NULL, access INTEGER NOT NULL, secure INTEGER NOT NULL, http_only INTEGER NOT NULL, same_site INTEGER NOT NULL, priority INTEGER NOT NULL, PRIMARY KEY(host, name, path)) STRICT"

-- asks for the host of each row
abbrev pub hosts_text : List ℕ
hosts_text = codes "SELECT host FROM cookies ORDER BY host, name, path"

-- asks for the rows of a host
abbrev pub load_text : List ℕ
load_text = codes "SELECT name, path, value, creation, expiry, access, secure, http_only, same_site, priority FROM cookies WHERE host = ?1 ORDER BY name, path"

-- puts a row in the place of its id
abbrev pub put_text : List ℕ
put_text = codes "INSERT INTO cookies(host, name, path, value, creation, expiry, access, secure, http_only, same_site, priority) VALUES(?1, ?2, ?3, ?4, ?5, ?6, ?7, ?8, ?9, ?10, ?11) ON CONFLICT(host, name, path) DO UPDATE SET value = excluded.value, creation = excluded.creation, expiry = excluded.expiry, access = excluded.access, secure = excluded.secure, http_only = excluded.http_only, same_site = excluded.same_site, priority = excluded.priority"

-- drops the row of an id
abbrev pub drop_text : List ℕ
drop_text = codes "DELETE FROM cookies WHERE host = ?1 AND name = ?2 AND path = ?3"

-- ---- the table

-- nothing is there
abbrev pub no_schema : Schema
no_schema = record { tables = []; indexes = []; views = [] }

abbrev pub text_column : List ℕ → Column
text_column name = record { name = name; kind = Text; is_strict = true; not_null = true; default = Null; collation = Binary }

abbrev pub number_column : List ℕ → Column
number_column name = record { name = name; kind = Integer; is_strict = true; not_null = true; default = Null; collation = Binary }

-- the table of the creation text; its columns are counted from 1, behind the rowid
abbrev pub cookie_table : Table
cookie_table = record {
  name = codes "cookies";
  tree = 0;
  columns = text_column (codes "host") ∷ text_column (codes "name") ∷ text_column (codes "path") ∷ text_column (codes "value")
      ∷ number_column (codes "creation") ∷ number_column (codes "expiry") ∷ number_column (codes "access")
      ∷ number_column (codes "secure") ∷ number_column (codes "http_only") ∷ number_column (codes "same_site")
      ∷ number_column (codes "priority") ∷ [];
  key = None;
  primary = 1 ∷ 2 ∷ 3 ∷ [];
  uniques = (1 ∷ 2 ∷ 3 ∷ []) ∷ [];
  orders = plain ∷ [];
  checks = [];
  references = [];
  computed = [];
  stamps = record { places = []; terms = []; formats = [] };
  is_counted = false;
}

-- the index that its key makes
abbrev pub key_index : Index
key_index = record {
  name = codes "sqlite_autoindex_cookies_1";
  tree = 1;
  table = 0;
  columns = 1 ∷ 2 ∷ 3 ∷ [];
  order = plain;
  is_unique = true;
}

-- the table alone is there
abbrev pub cookie_schema : Schema
cookie_schema = record { tables = cookie_table ∷ []; indexes = key_index ∷ []; views = [] }
