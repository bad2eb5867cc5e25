-- The statement of a put places its row.
use Rattle.std.proofs.Common.{◌≡◌, inl, inr, ℕ, ℤ, Bool, true, false, not, ◌&&◌, List, [], ◌∷◌, ◌++◌, map, filter, drop, refl, sym, ap, subst, ◌∙◌, IsPermutation, Some, None, Option, Ok}
use Rattle.std.specs.List.{AllByRecursion}
use Rattle.std.proofs.lemmas.List.Sorted.{IsPermutation-refl}
use Rattle.sqlite.specs.declared.types.Value.TheVariants.{Null, Int}
use Rattle.sqlite.specs.Order.{Row as Cells}
use Rattle.sqlite.specs.Command.TheVariants.{InsertOr}
use Rattle.sqlite.specs.Source.TheVariants.{Values}
use Rattle.sqlite.specs.Edit.{Edit, edit_of, without_all, next_rowid, with_rowid}
use Rattle.sqlite.specs.Rowids.TheVariants.{Chosen, Given}
use Rattle.sqlite.specs.Cast.{cast_row}
use Rattle.sqlite.specs.Does.{Tally, Does}
use Rattle.sqlite.specs.Rows.{Task, Written, Clears, Puts, Resolves, Upserts, Meets, Judged, Tries, TriesEach, nothing, count_of}
use Rattle.sqlite.specs.Effect.{Database}
use Rattle.sqlite.specs.Tree.{Trees, rowid}
use Rattle.sqlite.specs.Listing.{understood}
use Rattle.sqlite.specs.State.{State, mode_of, Executes}
use Rattle.sqlite.proofs.Callers.{runs_as, one_step, statement_of, one_permutation}
use Rattle.sqlite_sql.specs.Term.{eval_all}
use Rattle.sqlite_rules.specs.Keys.{AreConflicts, conflicts}
use Rattle.sqlite_rules.specs.Edit.{Applies, numbered}
use Rattle.sqlite_rules.specs.Calls.{ids_of}
use Rattle.sqlite_rules.specs.Lists.{Has}
use Rattle.sqlite_rules.specs.declared.error.Refusal.{Refusal}
use Rattle.sqlite_schema.specs.declared.schema.Keys.TheVariants.{Enforced}
use Rattle.sqlite_schema.specs.declared.command.Conflict.TheVariants.{Abort}
use Rattle.sqlite_trees.proofs.ListLemmas as lists
use Rattle.sqlite_keyed.proofs.ListLemmas.{all_weaker}
use Rattle.jar_types.specs.declared.row.Row.{Row}
use Rattle.jar_types.specs.declared.row.RowChange.TheVariants as change
use Rattle.jar_types.specs.Orders.{put_by}
use Rattle.jar_types.specs.RowChanges.{row_cmp, row_id, rows_after}
use Rattle.sqlite_keeper.specs.CookieTable.{put_text, cookie_schema, cookie_table, key_index}
use Rattle.sqlite_keeper.specs.TableRows.{HoldsRows, HasUtf8, row_cells, stored_cells}
use Rattle.sqlite_keeper.proofs.DropLemmas.{picks, went, same_value}
use Rattle.sqlite_keeper.proofs.NumberedLemmas.{same_number, numbers, left}
use Rattle.sqlite_keeper.proofs.PutLemmas.{cast_source, cast_stored, number_eq, conflict_is, one_of_id, one_of_number, texts_are, none_of_id, origin, Laid, placing}
use Rattle.sqlite_keeper.proofs.ReadLemmas.{Numbered, seen_by}
use Rattle.sqlite_keeper.proofs.RowOrder.{has_texts}
use Rattle.sqlite_keeper.proofs.TextFacts.{put_terms, put_clause, put_is, put_plain, update_query}

one_test : (b : Bool) → (b && true) ≡ b
one_test true = refl
one_test false = refl

module _ (limit : Option ℕ) (row : Row) (utf8 : HasUtf8 row) (db : Trees) (rows : List Row) (told : Laid (db 0) rows) where
  abbrev task : Task
  task = record { limit = limit; keys = Enforced; schema = cookie_schema; table = cookie_table; params = row_cells row }

  abbrev has_its_id : Row → Bool
  has_its_id = has_texts (row_id row)

  abbrev others : List Cells
  others = map stored_cells (filter (λ n. not (has_its_id n.1)) told.numbered)

  -- one step that puts the row, once those of its id are out
  settled : (j : ℤ) (gone : List ℤ) (edit : Edit) (next : Trees) → edit.table ≡ cookie_table → edit.gone ≡ gone
      → edit.news ≡ stored_cells (j, row) ∷ [] → without_all (db 0) gone ≡ others
      → Applies cookie_schema Enforced db edit next → Laid (next 0) (put_by row_cmp row rows)
  settled j gone edit next same_table same_gone same_news rest applied =
      let all : edit ≡ record { table = cookie_table; gone = gone; news = stored_cells (j, row) ∷ [] } =
      rw (same_table, same_gone, same_news) refl in
      let made = subst (λ e. Applies cookie_schema Enforced db e next) all applied in
      placing (j, row) told.numbered rows (without_all (db 0) gone) (next 0) told.keyed told.same told.rise told.texts utf8 rest
      made.fresh made.rows

  -- where no row has the id
  inserted : (j : ℤ) → AllByRecursion (λ n. has_its_id n.1 ≡ false) told.numbered → (one : Written)
      → Puts task (stored_cells (j, row)) db (Ok one) → Laid (one.trees 0) (put_by row_cmp row rows)
  inserted j none one puts =
      let put = went puts in
      let trees : one.trees ≡ put.0 = ap (λ (it : Written). it.trees) (same_value put.2) in
      let edit : Edit = edit_of db cookie_table [] Given 0 (stored_cells (j, row) ∷ []) in
      let rest : db 0 ≡ others =
      told.stores ∙ ap (map stored_cells) (sym (lists.filter_all (λ n. not (has_its_id n.1)) told.numbered
      (all_weaker _ (λ n. not (has_its_id n.1) ≡ true) (λ n e. ap not e) told.numbered none))) in
      subst (λ (t : Trees). Laid (t 0) (put_by row_cmp row rows)) (sym trees)
      (settled j [] edit put.0 refl refl (ap (λ cells. cells ∷ []) (cast_stored (j, row))) rest
      (one_step cookie_schema Enforced db put.0 edit refl put.1))

  cleared : (j : ℤ) (found : List Cells) (one : Written) → Clears task Abort (stored_cells (j, row)) db found (Ok one)
      → Puts task (stored_cells (j, row)) db (Ok one)
  cleared j [] one puts = puts
  cleared j (x ∷ more) one puts = puts

  -- where one has it, it gets the values of the new one
  updated : (n : Numbered) → Has told.numbered n → has_its_id n.1 ≡ true → (there : Cells) → there ≡ Int n.0 ∷ [] → (j : ℤ) (one : Written)
      → Resolves task (stored_cells (j, row)) db there put_clause.update (Ok one) → Laid (one.trees 0) (put_by row_cmp row rows)
  updated n has pass there is j one resolves =
      let given = subst (λ t. Resolves task (stored_cells (j, row)) db t put_clause.update (Ok one)) is resolves in
      let params = row_cells row ++ Int n.0 ∷ Int j ∷ row_cells row in
      let found = went given in
      let put = went found.2 in
      let trees : one.trees ≡ put.0 = ap (λ (it : Written). it.trees) (same_value put.2) in
      let some = picks update_query.filter update_query.project db params told.numbered found.0 (λ m. same_number m.0 n.0)
      (λ m. rw (number_eq m.0 n.0) (one_test (same_number m.0 n.0))) told.stores (found.1.answer Null) in
      let alone = subst (λ l. IsPermutation (map (λ m. eval_all update_query.project (seen_by params m)) l) found.0)
      (one_of_number told.numbered n told.keyed has) some in
      let cells = one_permutation _ found.0 alone in
      let texts = texts_are row n.1 pass in
      let edit : Edit = edit_of db cookie_table (ids_of found.0) Given 1 found.0 in
      let news : edit.news ≡ stored_cells (n.0, row) ∷ [] =
      ap (λ l. numbered Given (without_all (db 0) (ids_of found.0)) (map (λ r. cast_row cookie_table (drop 1 r)) l)) cells
      ∙ rw (texts.0, texts.1, texts.2) (ap (λ r. r ∷ []) (cast_stored (n.0, row))) in
      let mixed : IsPermutation (numbers (filter (λ m. has_its_id m.1) told.numbered)) (n.0 ∷ []) =
      subst (λ l. IsPermutation (numbers l) (n.0 ∷ [])) (sym (one_of_id row told.numbered rows n told.same told.rise has pass))
      (IsPermutation-refl (n.0 ∷ [])) in
      let rest : without_all (db 0) (n.0 ∷ []) ≡ others =
      ap (λ l. without_all l (n.0 ∷ [])) told.stores ∙ left (λ m. has_its_id m.1) told.numbered (n.0 ∷ []) told.keyed mixed in
      subst (λ (t : Trees). Laid (t 0) (put_by row_cmp row rows)) (sym trees)
      (settled n.0 (n.0 ∷ []) edit put.0 refl (ap ids_of cells) news rest (one_step cookie_schema Enforced db put.0 edit refl put.1))

  met_with : (j : ℤ) (found : List Cells) (one : Written)
      → AreConflicts (Some (1 ∷ 2 ∷ 3 ∷ [])) (key_index ∷ []) cookie_table (db 0) (stored_cells (j, row)) found
      → Meets task (Upserts task Abort (stored_cells (j, row)) db []) (stored_cells (j, row)) db put_clause found (Ok one)
      → Laid (one.trees 0) (put_by row_cmp row rows)
  met_with j [] one conflict meets =
      inserted j (none_of_id j row told.numbered (λ cells has e. conflict.complete cells (subst (λ l. Has l cells) (sym told.stores) has) e))
      one (cleared j meets.0 one meets.2)
  met_with j (there ∷ more) one conflict meets =
      let c = conflict.sound there (inl refl) in
      let o = origin told.numbered c.0 (subst (λ l. Has l c.0) told.stores c.1) in
      let pass = sym (conflict_is j row o.0)
      ∙ subst (λ r. conflicts (Some (1 ∷ 2 ∷ 3 ∷ [])) (key_index ∷ []) cookie_table (stored_cells (j, row)) r ≡ true) o.2 c.2 in
      updated o.0 o.1 pass there (c.3 ∙ ap (λ r. rowid r ∷ []) o.2) j one meets

  judged : (j : ℤ) (verdict : Option Refusal) (one : Written)
      → Judged task Abort (put_clause ∷ []) (stored_cells (j, row)) db verdict (Ok one) → Laid (one.trees 0) (put_by row_cmp row rows)
  judged j None one h = met_with j h.0 one h.1 h.2
  judged j (Some why) one h = absurd (cc)

  tried : (j : ℤ) (one : Written) → Tries task Abort (put_clause ∷ []) (stored_cells (j, row)) db (Ok one)
      → Laid (one.trees 0) (put_by row_cmp row rows)
  tried j one (inl h) = absurd (let e = h.1 in cc)
  tried j one (inr h) = judged j h.0 one h.2

pub puts : (old new : State) (row : Row) → HasUtf8 row → (rows : List Row) (count : ℕ) → HoldsRows old.now rows
    → Executes put_text (row_cells row) old new (Ok count) → HoldsRows new.now (rows_after rows (change.Put row))
puts old new row utf8 rows count t ran =
    let params = row_cells row in
    let db = old.now.trees in
    let command = InsertOr 0 Abort (Values put_terms 12) (put_clause ∷ []) in
    let told : Laid (db 0) rows =
    record { numbered = t.numbered; stores = t.stores; keyed = t.keyed; same = t.same; rise = t.rise; texts = t.texts } in
    let w = runs_as put_text params old new cookie_schema t.schema command put_is put_plain count ran in
    let text = statement_of put_text (understood cookie_schema put_text) in
    let done = went (subst (λ s. Does old.step_limit (mode_of old) params (record old.now { schema = s }) text None command
    (Ok (w.tally, new.now))) t.schema w.changed) in
    let now = ap (λ (p : Tally × Database). p.1) (same_value (went (went done.2).2).2) in
    let sourced = went done.1 in
    let counter = went sourced.2 in
    let each = went counter.2 in
    let counts = went each.2 in
    let its_task = task old.step_limit row utf8 db rows told in
    let one = went (subst (λ l. TriesEach its_task Abort (put_clause ∷ []) l (count_of counter.0) (nothing db) (Ok each.0)) sourced.1.1 each.1) in
    let made : with_rowid Chosen (db 0) (cast_row cookie_table (Null ∷ row_cells row)) ≡ stored_cells (next_rowid (db 0), row) =
    ap (with_rowid Chosen (db 0)) (cast_source row) in
    let laid = tried old.step_limit row utf8 db rows told (next_rowid (db 0)) one.0
    (subst (λ n. Tries its_task Abort (put_clause ∷ []) n db (Ok one.0)) made one.1) in
    let first : each.0.0.trees ≡ one.0.trees = ap (λ (p : Written × ℤ). p.0.trees) (same_value one.2) in
    let second : counts.0 ≡ each.0.0.trees = same_value counts.1 in
    let third : done.0.trees ≡ counts.0 = ap (λ (it : Written). it.trees) (same_value counts.2) in
    let after = put_by row_cmp row rows in
    let there = subst (λ (d : Trees). Laid (d 0) after) (sym (third ∙ second ∙ first)) laid in
    subst (λ d. HoldsRows d after) (sym now) (record {
      schema = refl;
      numbered = there.numbered;
      stores = there.stores;
      keyed = there.keyed;
      same = there.same;
      rise = there.rise;
      texts = there.texts;
    })
