-- What a commit, and the creation text, make of the rows.
use Rattle.std.proofs.Common.{◌≡◌, inl, inr, ℕ, List, [], ◌∷◌, ◌++◌, false, IsTrue, refl, sym, ap, subst, ◌∙◌, arith, None, Ok, Err, Result, IfErr, OnOk, OnErr, true≢false}
use Rattle.std.proofs.lemmas.List.Sorted.{IsPermutation-refl}
use Rattle.sqlite.specs.declared.error.Error.{Error}
use Rattle.sqlite.specs.declared.types.Value.TheVariants.{Text}
use Rattle.sqlite.specs.Command.TheVariants.{CreateTable, Nothing}
use Rattle.sqlite.specs.Change.{created, next_tree}
use Rattle.sqlite.specs.Does.{Tally, lacks_sequence}
use Rattle.sqlite.specs.Effect.{Database}
use Rattle.sqlite.specs.Tree.{Trees}
use Rattle.sqlite.specs.State.{State, HasCleanDisk, Executes, ExecutesInside, Writes, IsUnchanged, IsRolledBack, KeepsCommit, Survives}
use Rattle.sqlite.specs.Steps.{FailsToCommit}
use Rattle.sqlite.proofs.Callers.{runs_as}
use Rattle.sqlite.proofs.StateLemmas.{survives_then}
use Rattle.jar_types.specs.declared.cookie.CookieId.{CookieId}
use Rattle.jar_types.specs.declared.row.Row.{Row}
use Rattle.jar_types.specs.declared.row.RowChange.{RowChange}
use Rattle.jar_types.specs.declared.row.RowChange.TheVariants as change
use Rattle.jar_types.specs.RowChanges.{rows_after, changed_rows}
use Rattle.jar_keeper.proofs.RowLemmas.{none_rise}
use Rattle.sqlite.specs.Held.{Held, state}
use Rattle.sqlite_trees.specs.declared.store.Store.{Ghosts}
use Rattle.sqlite_keeper.specs.Changing.{Makes, MakesOrKeeps, RefusesTable, begun}
use Rattle.sqlite_keeper.specs.CookieTable.{no_schema, create_text, put_text, drop_text, cookie_schema, cookie_table}
use Rattle.sqlite_keeper.specs.TableRows.{HoldsRows, FindsRows, ShowsRows, ShowsIfOpen, TreesHold, HasUtf8, row_cells}
use Rattle.sqlite_keeper.proofs.DropLemmas.{drops, went, same_value}
use Rattle.sqlite_keeper.proofs.StateLemmas.{statement_stays, rolled_back, not_ended, Ends, committed_shows, survives_begun}
use Rattle.sqlite_keeper.proofs.TextFacts.{create_is, create_plain, create_whole, created_is, again_is, again_plain}
use Rattle.sqlite_keeper.proofs.UpsertLemmas.{puts}

-- ---- one change

pub put_makes : (old new : State) (row : Row) → HasUtf8 row → (r : Result ℕ Error) → ExecutesInside 0 put_text (row_cells row) old new r
    → MakesOrKeeps (change.Put row ∷ []) old new r
put_makes old new row utf8 (Ok count) ran = record { shows = ran.1; makes = λ rows holds. puts old new row utf8 rows count holds ran.0 }
put_makes old new row utf8 (Err e) ran = statement_stays put_text (row_cells row) old new e ran

pub drop_makes : (old new : State) (id : CookieId) (r : Result ℕ Error)
    → ExecutesInside 0 drop_text (Text id.host ∷ Text id.name ∷ Text id.path ∷ []) old new r
    → MakesOrKeeps (change.Drop id ∷ []) old new r
drop_makes old new id (Ok count) ran = record { shows = ran.1; makes = λ rows holds. drops old new id rows count holds ran.0 }
drop_makes old new id (Err e) ran = statement_stays drop_text _ old new e ran

-- ---- several changes in turn

pub none_made : (s : State) → IsTrue s.in_transaction → IsTrue s.is_open → Makes [] s s
none_made s inside here = record {
  shows = record { was_open = here; is_open = here; now_is = refl; committed_is = refl; mode = inside };
  makes = λ rows holds. holds;
}

pub changed_on : (rows : List Row) (done more : List RowChange) → changed_rows rows (done ++ more) ≡ changed_rows (changed_rows rows done) more
changed_on rows [] more = refl
changed_on rows (first ∷ done) more = changed_on (rows_after rows first) done more

pub more_made : (done : List RowChange) (next : RowChange) (old mid new : State) → Makes done old mid → Makes (next ∷ []) mid new
    → Makes (done ++ next ∷ []) old new
more_made done next old mid new a b = record {
  shows = record {
    was_open = a.shows.was_open;
    is_open = b.shows.is_open;
    now_is = refl;
    committed_is = b.shows.committed_is ∙ a.shows.committed_is;
    mode = b.shows.mode;
  };
  makes = λ rows holds. subst (HoldsRows new.now) (sym (changed_on rows done (next ∷ [])))
      (b.makes (changed_rows rows done) (a.makes rows holds));
}

pub made_stays : (done : List RowChange) (old mid new : State) → Makes done old mid → KeepsCommit mid new → KeepsCommit old new
made_stays done old mid new a kept = record {
  was_open = λ _. a.shows.was_open;
  committed = λ here. kept.committed here ∙ a.shows.committed_is;
}

pub kept_at : {X : Type 0} (changes : List RowChange) (old new : State) (r : Result X Error) → IsTrue (Rattle.std.specs.Prelude.is_err r) → KeepsCommit old new
    → MakesOrKeeps changes old new r
kept_at changes old new (Ok x) is kept = absurd (true≢false (sym is))
kept_at changes old new (Err e) is kept = kept

-- ---- the end of a commit

trees_hold : (s : State) (trees : Trees) (rows : List Row) → trees ≡ s.now.trees → HoldsRows s.now rows → TreesHold trees rows
trees_hold s trees rows is holds = record {
  schema = refl;
  numbered = holds.numbered;
  stores = ap (λ (d : Trees). d 0) is ∙ holds.stores;
  keyed = holds.keyed;
  same = holds.same;
  rise = holds.rise;
  texts = holds.texts;
}

module _ (changes : List RowChange) (old mid end : State) where
  abbrev pub Leaves : Trees → Type 0
  Leaves trees = (rows : List Row) → ShowsIfOpen old rows → TreesHold trees (changed_rows rows changes)

  module _ (made : Makes changes (begun old) mid) where
    pub commit_done : {X : Type 0} (r : Result X Error) → OnOk r (Ends mid end)
        → OnOk r ((rows : List Row) → ShowsIfOpen old rows → ShowsRows end (changed_rows rows changes))
    commit_done (Ok x) ends =
        λ rows shows. committed_shows mid end (changed_rows rows changes) ends (made.makes rows (shows made.shows.was_open).holds)
    commit_done (Err e) ends = tt

    pub commit_kept : {X : Type 0} (r : Result X Error) → IfErr r (FailsToCommit mid end)
        → OnErr r ((rows : List Row) → ShowsIfOpen old rows → ShowsIfOpen end rows)
    commit_kept (Ok x) fails = tt
    commit_kept (Err e) fails =
        rolled_back old mid end (record { was_open = λ _. made.shows.was_open; committed = λ _. made.shows.committed_is })
        (not_ended mid end e made.shows.mode fails)

  -- a crash leaves what it could leave, or the changed rows
  pub commit_survives : (HasCleanDisk mid → Makes changes (begun old) mid) → Survives (begun old) mid (λ _. ⊥)
      → Survives mid end (λ trees. trees ≡ mid.now.trees) → Survives old end Leaves
  commit_survives made one two =
      survives_begun old end Leaves (survives_then (begun old) mid end _ _ Leaves (λ _ trees none. absurd none)
      (λ clean trees is rows shows.
      let made_now = made (omega (arith, two.clean)) in
      trees_hold mid trees (changed_rows rows changes) is (made_now.makes rows (shows made_now.shows.was_open).holds)) one two)

  pub refused_survives : Survives (begun old) mid (λ _. ⊥) → Survives mid end (λ _. ⊥) → Survives old end Leaves
  refused_survives one two =
      survives_begun old end Leaves
      (survives_then (begun old) mid end _ _ Leaves (λ _ trees none. absurd none) (λ _ trees none. absurd none) one two)

-- ---- the creation text

creates : (old new : State) (count : ℕ) → old.now.schema ≡ no_schema → Executes create_text [] old new (Ok count) → HoldsRows new.now []
creates old new count has ran =
    let w = subst (λ t. Writes old new None CreateTable t [] count) create_whole
    (runs_as create_text [] old new no_schema has CreateTable create_is.0 create_plain count ran) in
    let all = went w.changed in
    let first = went all.1 in
    let made = first.1 in
    let both : Ok made.table ≡ Ok cookie_table = sym made.defined ∙ create_is.1 in
    let same : made.table ≡ cookie_table = cc in
    let schema : first.0.schema ≡ cookie_schema =
    made.is ∙ ap (λ s. created s made.table) has ∙ ap (created no_schema) same ∙ created_is in
    let plain : lacks_sequence first.0.schema ≡ false = ap lacks_sequence schema in
    let now : new.now ≡ first.0 = ap (λ (p : Tally × Database). p.1) (same_value all.2) ∙ same_value (rw plain at first.2) in
    let empty : new.now.trees 0 ≡ [] =
    ap (λ (d : Database). d.trees 0) now ∙ subst (λ s. first.0.trees (next_tree s) ≡ []) has made.empty in
    record {
      schema = ap (λ (d : Database). d.schema) now ∙ schema;
      numbered = [];
      stores = empty;
      keyed = tt;
      same = IsPermutation-refl [];
      rise = none_rise [] refl;
      texts = tt;
    }

creates_again : (old new : State) (rows : List Row) (count : ℕ) → HoldsRows old.now rows → Executes create_text [] old new (Ok count)
    → IsUnchanged old new
creates_again old new rows count holds ran =
    (runs_as create_text [] old new cookie_schema holds.schema Nothing again_is again_plain count ran).0

table_made : (old new : State) (rows : List Row) (count : ℕ) → FindsRows old.now rows → Executes create_text [] old new (Ok count)
    → HoldsRows new.now rows
table_made old new rows count (inl none) ran = subst (HoldsRows new.now) (sym none.1) (creates old new count none.0 ran)
table_made old new rows count (inr holds) ran =
    subst (λ d. HoldsRows d rows) (sym (creates_again old new rows count holds ran).0.now_is) holds

pub creation_done : {X : Type 0} (old mid end : State) (count : ℕ) (r : Result X Error)
    → ExecutesInside 0 create_text [] (begun old) mid (Ok count) → OnOk r (Ends mid end)
    → OnOk r ((rows : List Row) → FindsRows old.now rows → ShowsRows end rows)
creation_done old mid end count (Ok x) ran ends =
    λ rows found. committed_shows mid end rows ends (table_made (begun old) mid rows count found ran.0)
creation_done old mid end count (Err e) ran ends = tt

pub commit_open : {X : Type 0} (mid end : State) (r : Result X Error) → OnOk r (Ends mid end) → OnOk r (IsTrue end.is_open)
commit_open mid end (Ok x) ends = ends.1.is_open
commit_open mid end (Err e) ends = tt

-- what holds holds where a call was refused
pub at_refusal : {X E P : Type 0} (r : Result X E) → P → OnErr r P
at_refusal (Ok x) p = tt
at_refusal (Err e) p = p

-- what follows a statement that changed nothing
pub after_same : {X : Type 0} (changes : List RowChange) (old mid new : State) (r : Result X Error) → IsUnchanged old mid
    → MakesOrKeeps changes mid new r → MakesOrKeeps changes old new r
after_same changes old mid new (Ok x) same made = record {
  shows = record {
    was_open = same.0.was_open;
    is_open = made.shows.is_open;
    now_is = refl;
    committed_is = made.shows.committed_is ∙ same.0.committed_is;
    mode = made.shows.mode;
  };
  makes = λ rows holds. made.makes rows (subst (λ d. HoldsRows d rows) (sym same.0.now_is) holds);
}
after_same changes old mid new (Err e) same kept = record {
  was_open = λ _. same.0.was_open;
  committed = λ here. kept.committed here ∙ same.0.committed_is;
}

-- ---- why no table was made

pub refused_commit : {X S : Type 0} (g : Ghosts S) (old : State) (mid : Held S) (end : State) (r : Result X Error)
    → IfErr r (FailsToCommit (state g mid) end) → IfErr r (RefusesTable g old end)
refused_commit g old mid end (Ok x) fails = tt
refused_commit g old mid end (Err e) fails = (mid, inr fails)

pub refused_statement : {X S : Type 0} (g : Ghosts S) (old : State) (mid : Held S) (end : State) (e : Error) (r : Result X Error)
    → IfErr r (λ x. x ≡ e) → ExecutesInside 0 create_text [] (begun old) (state g mid) (Err e) → IsRolledBack (state g mid) end
    → IfErr r (RefusesTable g old end)
refused_statement g old mid end e (Ok x) is ran undone = tt
refused_statement g old mid end e (Err x) is ran undone =
    (mid, inl (subst (λ why. ExecutesInside 0 create_text [] (begun old) (state g mid) (Err why)) (sym is) ran, undone))
