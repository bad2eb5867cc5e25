-- What each text is understood as.
use Rattle.std.proofs.Common.{◌≡◌, false, refl, Ok, List, ℕ, [], ◌∷◌, None, Some, pos, negsuc, codes}
use Rattle.sqlite_tied.specs.Compute.{everything}
use Rattle.sqlite.specs.Listing.{understood, reads_listing}
use Rattle.sqlite.specs.Compile.{table_defined_by}
use Rattle.sqlite.specs.Change.{created}
use Rattle.sqlite.specs.Collation.TheVariants.{Binary}
use Rattle.sqlite.specs.Command.TheVariants.{CreateTable, Nothing, Select, InsertOr, Delete}
use Rattle.sqlite.specs.Query.{Query, inner, end}
use Rattle.sqlite.specs.Source.TheVariants.{Values}
use Rattle.sqlite.specs.Term.{Term, lit, col}
use Rattle.sqlite.specs.declared.types.Value.TheVariants.{Null, Int}
use Rattle.sqlite.proofs.Callers.{IsPlain, command_of, statement_of}
use Rattle.sqlite_schema.specs.declared.command.Conflict.TheVariants.{Abort}
use Rattle.sqlite_schema.specs.declared.command.Upsert.{Upsert}
use Rattle.sqlite_sql.specs.Term.{op2}
use Rattle.sqlite_sql.specs.declared.ops.BinaryOp.TheVariants.{Compare}
use Rattle.sqlite_sql.specs.declared.ops.CompareOp.TheVariants.{Eq}
use Rattle.sqlite_value.specs.Keys.{ascending}
use Rattle.sqlite_keeper.specs.CookieTable.{no_schema, cookie_schema, cookie_table}
use Rattle.sqlite_keeper.specs.CookieTable.{create_text, hosts_text, load_text, put_text, drop_text}

-- ---- queries over the table

-- a column of the table equals a parameter
abbrev pub equals : ℕ → ℕ → Term
equals column param = op2 (Compare Eq Binary) (col 1 column) (col 0 param)

-- the rows that pass, in no order
abbrev pub picked : List Term → List Term → Query
picked filter project = record {
  from = inner 0 end;
  filter = filter;
  group = None;
  project = project;
  distinct = false;
  collations = [];
  order = [];
  limit = lit (Int (negsuc 0));
  offset = lit (Int (pos 0));
}

abbrev pub hosts_query : Query
hosts_query = record (picked [] (col 1 1 ∷ [])) {
  order = (col 1 1, ascending Binary) ∷ (col 1 2, ascending Binary) ∷ (col 1 3, ascending Binary) ∷ [];
}

abbrev pub load_query : Query
load_query = record (picked (equals 1 0 ∷ [])
    (col 1 2 ∷ col 1 3 ∷ col 1 4 ∷ col 1 5 ∷ col 1 6 ∷ col 1 7 ∷ col 1 8 ∷ col 1 9 ∷ col 1 10 ∷ col 1 11 ∷ [])) {
      order = (col 1 2, ascending Binary) ∷ (col 1 3, ascending Binary) ∷ [];
    }

abbrev pub load_names : List (List ℕ)
load_names =
    codes "name" ∷ codes "path" ∷ codes "value" ∷ codes "creation" ∷ codes "expiry" ∷ codes "access" ∷ codes "secure"
    ∷ codes "http_only" ∷ codes "same_site" ∷ codes "priority" ∷ []

abbrev pub drop_query : Query
drop_query = picked (equals 1 0 ∷ equals 2 1 ∷ equals 3 2 ∷ []) (col 1 0 ∷ [])

-- what a put inserts: no rowid of its own, then the parameters
abbrev pub put_terms : List Term
put_terms =
    lit Null ∷ col 0 0 ∷ col 0 1 ∷ col 0 2 ∷ col 0 3 ∷ col 0 4 ∷ col 0 5 ∷ col 0 6 ∷ col 0 7 ∷ col 0 8 ∷ col 0 9
    ∷ col 0 10 ∷ []

-- what it makes of the row that is there: its rowid and id, and the other columns of the new one
abbrev pub update_query : Query
update_query = picked (equals 0 11 ∷ [])
    (col 1 0 ∷ col 1 0 ∷ col 1 1 ∷ col 1 2 ∷ col 1 3 ∷ col 0 16 ∷ col 0 17 ∷ col 0 18 ∷ col 0 19 ∷ col 0 20 ∷ col 0 21
    ∷ col 0 22 ∷ col 0 23 ∷ [])

abbrev pub put_clause : Upsert
put_clause = record { target = Some (1 ∷ 2 ∷ 3 ∷ []); update = Some (record { lets = []; body = update_query }) }

-- ---- the creation text

pub create_is : (command_of (understood no_schema create_text) ≡ CreateTable) × (table_defined_by create_text ≡ Ok cookie_table)
unfolding understood everything
create_is = (refl, refl)

pub create_plain : IsPlain (understood no_schema create_text)
unfolding understood everything
create_plain = (refl, refl)

pub create_whole : statement_of create_text (understood no_schema create_text) ≡ create_text
unfolding understood everything
create_whole = refl

pub created_is : created no_schema cookie_table ≡ cookie_schema
unfolding understood everything
created_is = refl

-- where the table is there it does nothing
pub again_is : command_of (understood cookie_schema create_text) ≡ Nothing
unfolding understood everything
again_is = refl

pub again_plain : IsPlain (understood cookie_schema create_text)
unfolding understood everything
again_plain = (refl, refl)

-- ---- the texts that read

pub hosts_is : (command_of (understood cookie_schema hosts_text) ≡ Select (record { lets = []; body = hosts_query }) (codes "host" ∷ []))
    × (reads_listing cookie_schema hosts_text ≡ false)
unfolding understood everything
hosts_is = (refl, refl)

pub hosts_plain : IsPlain (understood cookie_schema hosts_text)
unfolding understood everything
hosts_plain = (refl, refl)

pub load_is : (command_of (understood cookie_schema load_text) ≡ Select (record { lets = []; body = load_query }) load_names)
    × (reads_listing cookie_schema load_text ≡ false)
unfolding understood everything
load_is = (refl, refl)

pub load_plain : IsPlain (understood cookie_schema load_text)
unfolding understood everything
load_plain = (refl, refl)

-- ---- the texts that write

pub put_is : command_of (understood cookie_schema put_text) ≡ InsertOr 0 Abort (Values put_terms 12) (put_clause ∷ [])
unfolding understood everything
put_is = refl

pub put_plain : IsPlain (understood cookie_schema put_text)
unfolding understood everything
put_plain = (refl, refl)

pub drop_is : command_of (understood cookie_schema drop_text) ≡ Delete 0 (record { lets = []; body = drop_query })
unfolding understood everything
drop_is = refl

pub drop_plain : IsPlain (understood cookie_schema drop_text)
unfolding understood everything
drop_plain = (refl, refl)
