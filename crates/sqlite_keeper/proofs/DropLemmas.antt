-- What the statement of a drop does to the rows.
use Rattle.std.proofs.Common.{◌≡◌, ◌⊎◌, inl, inr, ℕ, Bool, true, false, not, cond, ◌&&◌, List, [], ◌∷◌, map, filter, flat_map, refl, sym, ap, subst, ◌∙◌, is_eq, IsPermutation, None, Ok, Err, Result}
use Rattle.std.specs.List.{list_all}
use Rattle.std.proofs.lemmas.List.Sorted.{IsPermutation-map}
use Rattle.std.proofs.lemmas.List.Kept.{IsStrictlySortedBy-filter}
use Rattle.sqlite.specs.declared.types.Value.TheVariants.{Null, Text}
use Rattle.sqlite.specs.Order.{Row as Cells}
use Rattle.sqlite.specs.Term.{Term}
use Rattle.sqlite.specs.Query.{IsAnswer, output, Output, end, matches_as}
use Rattle.sqlite.specs.Command.TheVariants.{Delete}
use Rattle.sqlite.specs.Program.{overlay}
use Rattle.sqlite.specs.Effect.{Database}
use Rattle.sqlite.specs.Edit.{edit_of, id_in, without_all}
use Rattle.sqlite.specs.Rowids.TheVariants.{Given}
use Rattle.sqlite.specs.Does.{Tally, Does}
use Rattle.sqlite.specs.Rows.{Written}
use Rattle.sqlite.specs.Tree.{Trees, rowid}
use Rattle.sqlite.specs.Listing.{understood}
use Rattle.sqlite.specs.State.{State, mode_of, Executes}
use Rattle.sqlite.proofs.Callers.{runs_as, one_step, statement_of}
use Rattle.sqlite_sql.specs.Term.{eval_all, holds}
use Rattle.sqlite_schema.specs.declared.program.Program.{Program}
use Rattle.sqlite_rules.specs.Calls.{ids_of}
use Rattle.sqlite_keyed.proofs.KeyedLemmas.{IsKeyedBy-delete_where}
use Rattle.sqlite_keyed.proofs.ListLemmas.{map-map, filter-map, filter_same, flat_map-map, flat_map_same_on, IsPermutation-filter, all-filter}
use Rattle.jar_types.specs.declared.cookie.CookieId.{CookieId}
use Rattle.jar_types.specs.declared.row.Row.{Row}
use Rattle.jar_types.specs.declared.row.RowChange.TheVariants as change
use Rattle.jar_types.specs.Ids.{id_cmp}
use Rattle.jar_types.specs.RowChanges.{row_cmp, row_id, rows_after}
use Rattle.sqlite_keeper.specs.CookieTable.{drop_text, cookie_schema, cookie_table}
use Rattle.sqlite_keeper.specs.TableRows.{HoldsRows, HasUtf8, stored_cells}
use Rattle.sqlite_keeper.proofs.NumberedLemmas.{numbers, left}
use Rattle.sqlite_keeper.proofs.ReadLemmas.{Numbered, seen_by, text_eq, passing_ones}
use Rattle.sqlite_keeper.proofs.RowOrder.{same_texts, has_texts, tied_back}
use Rattle.sqlite_keeper.proofs.TextFacts.{picked, drop_query, drop_is, drop_plain}

-- a query in no order shows the rows that pass, in some order
pub picks : (terms project : List Term) (db : Trees) (params : Cells) (all : List Numbered) (out : List Cells) (p : Numbered → Bool)
    → ((n : Numbered) → list_all (holds (seen_by params n)) terms ≡ p n) → db 0 ≡ map stored_cells all
    → IsAnswer (picked terms project) (overlay db []) params out
    → IsPermutation (map (λ n. eval_all project (seen_by params n)) (filter p all)) out
picks terms project db params all out p each stores a =
    let found : flat_map (λ r. matches_as Null db terms end (params ∷ r ∷ [])) (map stored_cells all) ≡ map (seen_by params) (filter p all) =
    flat_map-map _ stored_cells all
    ∙ flat_map_same_on _ (λ n. cond (p n) (seen_by params n ∷ []) []) (λ n. ap (λ b. cond b (seen_by params n ∷ []) []) (each n)) all
    ∙ passing_ones p (seen_by params) all in
    let staged : a.staged ≡ map (seen_by params) (filter p all) = a.grouped ∙ rw stores found in
    let kept : map (λ (o : Output). o.1) a.kept ≡ map (λ n. eval_all project (seen_by params n)) (filter p all) =
    ap (map (λ (o : Output). o.1))
    (a.distinct ∙ ap (map (output (picked terms project))) staged ∙ map-map (output (picked terms project)) (seen_by params) _)
    ∙ map-map (λ (o : Output). o.1) _ _ in
    subst (λ l. IsPermutation l out) kept
    (subst (λ l. IsPermutation (map (λ (o : Output). o.1) a.kept) l) (sym a.shown) (IsPermutation-map (λ (o : Output). o.1) _ _ a.same))

-- a part that gave a value didn't stop on the way
pub went : {B E R : Type 0} {b : B} {Stops : E → Type 0} → ((stop : E) × Stops stop × (Ok b ≡ Err stop)) ⊎ R → R
went (inl stopped) = absurd (let e = stopped.2 in cc)
went (inr on) = on

pub same_value : {B E : Type 0} {a b : B} → ◌≡◌ {A = Result B E} (Ok a) (Ok b) → a ≡ b
same_value e = cc

three_tests : (a b c : Bool) → (a && (b && (c && true))) ≡ (a && (b && c))
three_tests a b true = refl
three_tests a b false = refl

-- the rows without that of the id, as the statement leaves them
pub dropped : (id : CookieId) (rows : List Row) → filter (λ row. not (has_texts id row)) rows ≡ rows_after rows (change.Drop id)
dropped id rows =
    filter_same (λ row. not (has_texts id row)) (λ row. not (is_eq (id_cmp id (row_id row)))) (λ row. ap not (sym (tied_back id row))) rows

pub drops : (old new : State) (id : CookieId) (rows : List Row) (count : ℕ) → HoldsRows old.now rows
    → Executes drop_text (Text id.host ∷ Text id.name ∷ Text id.path ∷ []) old new (Ok count)
    → HoldsRows new.now (rows_after rows (change.Drop id))
drops old new id rows count t ran =
    let params = Text id.host ∷ Text id.name ∷ Text id.path ∷ [] in
    let db = old.now.trees in
    let q : Program = record { lets = []; body = drop_query } in
    let w = runs_as drop_text params old new cookie_schema t.schema (Delete 0 q) drop_is drop_plain count ran in
    let text = statement_of drop_text (understood cookie_schema drop_text) in
    let done = went (subst (λ s. Does old.step_limit (mode_of old) params (record old.now { schema = s }) text None (Delete 0 q)
    (Ok (w.tally, new.now))) t.schema w.changed) in
    let now = ap (λ (p : Tally × Database). p.1) (same_value (went (went done.2).2).2) in
    let given = went done.1 in
    let written = went given.2 in
    let trees : done.0.trees ≡ written.0 = ap (λ (it : Written). it.trees) (same_value written.2) in
    let applied = one_step cookie_schema _ db written.0 (edit_of db cookie_table (ids_of given.0) Given 0 []) refl written.1 in
    let goes = λ (n : Numbered). has_texts id n.1 in
    let some = picks drop_query.filter drop_query.project db params t.numbered given.0 goes
    (λ n. rw (text_eq n.1.host id.host, text_eq n.1.name id.name, text_eq n.1.path id.path)
    (three_tests (same_texts n.1.host id.host) (same_texts n.1.name id.name) (same_texts n.1.path id.path))) t.stores (given.1.answer Null) in
    let gone : IsPermutation (numbers (filter goes t.numbered)) (ids_of given.0) =
    subst (λ l. IsPermutation l (ids_of given.0)) (map-map (λ r. id_in (rowid r)) _ _) (IsPermutation-map (λ r. id_in (rowid r)) _ _ some) in
    let stays = filter (λ n. not (goes n)) t.numbered in
    let rest : written.0 0 ≡ map stored_cells stays =
    applied.rows ∙ ap (λ l. without_all l (ids_of given.0)) t.stores ∙ left goes t.numbered (ids_of given.0) t.keyed gone in
    let after = filter (λ row. not (has_texts id row)) rows in
    subst (λ l. HoldsRows new.now l) (dropped id rows) (subst (λ d. HoldsRows d after) (sym now) (record {
      schema = refl;
      numbered = stays;
      stores = ap (λ (d : Trees). d 0) trees ∙ rest;
      keyed = IsKeyedBy-delete_where (λ n. n.0) goes t.numbered t.keyed;
      same = subst (λ l. IsPermutation l after) (filter-map _ (λ n. n.1) t.numbered)
          (IsPermutation-filter (λ row. not (has_texts id row)) _ _ t.same);
      rise = IsStrictlySortedBy-filter row_cmp (λ row. not (has_texts id row)) rows t.rise;
      texts = all-filter HasUtf8 (λ row. not (has_texts id row)) rows t.texts;
    }))
