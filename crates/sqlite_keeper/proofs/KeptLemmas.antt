-- What the calls of a keeper leave of what it tells, and of what a crash may leave.
use Rattle.std.proofs.Common.{◌≡◌, inl, inr, ℕ, List, [], ◌++◌, IsTrue, false, refl, sym, ap, subst, ◌∙◌, arith, Result, Ok, Err, OnErr, OnOk, IfOk, IsErr, None, true≢false}
use Rattle.std.specs.Prelude.{◌↔◌}
use Rattle.sqlite_trees.specs.Tree.{Trees}
use Rattle.sqlite_trees.specs.declared.store.Store.{Ghosts}
use Rattle.sqlite.specs.Held.{Held, state}
use Rattle.sqlite.specs.State.{State, HasCleanDisk, Survives}
use Rattle.jar_types.specs.declared.row.Row.{Row}
use Rattle.jar_types.specs.declared.row.RowChange.{RowChange}
use Rattle.jar_types.specs.RowChanges.{changed_rows}
use Rattle.jar_keeper.specs.Keepers.{TellsSame, TellsChanged, LeavesNoMore, LeavesJust, LeavesMaybe, CommitLeaves}
use Rattle.jar_keeper.specs.declared.refusal.KeeperRefusal.{KeeperRefusal}
use Rattle.sqlite_keeper.specs.CookieTable.{cookie_schema}
use Rattle.sqlite_keeper.specs.Kept.{KeptTable, TellsTable, MayLeaveTable, IsUndisturbed, IsKept}
use Rattle.sqlite_keeper.specs.Laws.{holds_once}
use Rattle.sqlite_keeper.specs.TableRows.{HoldsRows, FindsRows, ShowsRows, ShowsIfOpen, TreesHold}
use Rattle.sqlite_keeper.proofs.CommitLemmas.{changed_on}

-- trees hold one list of rows
pub trees_once : (trees : Trees) (rows others : List Row) → TreesHold trees rows → TreesHold trees others → rows ≡ others
trees_once trees rows others = holds_once (record { schema = cookie_schema; trees = trees }) rows others

-- the trees of a database that holds rows hold them
pub trees_of : (s : State) (trees : Trees) (rows : List Row) → trees ≡ s.now.trees → HoldsRows s.now rows → TreesHold trees rows
trees_of s trees rows is holds = record {
  schema = refl;
  numbered = holds.numbered;
  stores = ap (λ (d : Trees). d 0) is ∙ holds.stores;
  keyed = holds.keyed;
  same = holds.same;
  rise = holds.rise;
  texts = holds.texts;
}

module _ {S : Type 0} (g : Ghosts S) (old new : KeptTable S) where
  -- ---- a call that changes no rows

  module _ (same_found : new.found ≡ old.found) (same_committed : new.committed ≡ old.committed) where
    pub tells_on : (rows : List Row) → TellsTable g old rows → TellsTable g new rows
    tells_on rows told = (
      told.0,
      subst (λ h. FindsRows (state g h).now told.0) (sym same_found) told.1,
      told.2 ∙ ap (changed_rows told.0) (sym same_committed),
    )

    pub tells_back : (rows : List Row) → TellsTable g new rows → TellsTable g old rows
    tells_back rows told =
        (told.0, subst (λ h. FindsRows (state g h).now told.0) same_found told.1, told.2 ∙ ap (changed_rows told.0) same_committed)

    pub tells_same : TellsSame (TellsTable g old) (TellsTable g new)
    tells_same rows = (tells_on rows, tells_back rows)

    pub kept_on : (HasCleanDisk (state g new.conn) → HasCleanDisk (state g old.conn)) → IsKept g old → new.conn.in_transaction ≡ false
        → new.conn.step_limit ≡ old.conn.step_limit
        → (HasCleanDisk (state g new.conn) → (rows : List Row) → ShowsIfOpen (state g old.conn) rows → ShowsIfOpen (state g new.conn) rows)
        → IsKept g new
    kept_on since kept mode limit shows = record {
      autocommit = mode;
      unlimited = limit ∙ kept.unlimited;
      holds = λ clean rows told. shows clean rows (kept.holds (since clean) rows (tells_back rows told));
    }

  pub leaves_less : Survives (state g old.conn) (state g new.conn) (λ _. ⊥) → IsUndisturbed g new
      → LeavesNoMore (MayLeaveTable g old) (MayLeaveTable g new)
  leaves_less survives clean left may =
      (may.0, elim (survives.crash clean may.0 may.1) [ inl before ↦ before | inr none ↦ absurd none ], may.2)

  -- ---- a commit

  module _ (changes : List RowChange) (same_found : new.found ≡ old.found) (noted : new.committed ≡ old.committed ++ changes) where
    changed : (first : List Row) → changed_rows first new.committed ≡ changed_rows (changed_rows first old.committed) changes
    changed first = ap (changed_rows first) noted ∙ changed_on first old.committed changes

    pub tells_changed : TellsChanged changes (TellsTable g old) (TellsTable g new)
    tells_changed = record {
      changed = λ rows told. (
        told.0,
        subst (λ h. FindsRows (state g h).now told.0) (sym same_found) told.1,
        ap (λ l. changed_rows l changes) told.2 ∙ sym (changed told.0),
      );
      alone = λ rows told. (
        changed_rows told.0 old.committed,
        (told.0, subst (λ h. FindsRows (state g h).now told.0) same_found told.1, refl),
        told.2 ∙ changed told.0,
      );
    }

    pub kept_changed : (HasCleanDisk (state g new.conn) → HasCleanDisk (state g old.conn)) → IsKept g old → new.conn.in_transaction ≡ false
        → new.conn.step_limit ≡ old.conn.step_limit
        → (HasCleanDisk (state g new.conn) → (rows : List Row) → ShowsIfOpen (state g old.conn) rows
        → ShowsRows (state g new.conn) (changed_rows rows changes))
        → IsKept g new
    kept_changed since kept mode limit shows = record {
      autocommit = mode;
      unlimited = limit ∙ kept.unlimited;
      holds = λ clean rows told here.
          let before = tells_changed.alone rows told in
          subst (ShowsRows (state g new.conn)) (sym before.2) (shows clean before.0 (kept.holds (since clean) before.0 before.1));
    }

  -- what a crash may leave where a commit was refused
  pub leaves_maybe : (changes : List RowChange) → IsKept g old → (HasCleanDisk (state g new.conn) → HasCleanDisk (state g old.conn))
      → Survives (state g old.conn) (state g new.conn)
      (λ trees. (rows : List Row) → ShowsIfOpen (state g old.conn) rows → TreesHold trees (changed_rows rows changes))
      → IsUndisturbed g new → (rows : List Row) → TellsTable g old rows
      → LeavesMaybe (changed_rows rows changes) (MayLeaveTable g old) (MayLeaveTable g new)
  leaves_maybe changes kept since survives clean rows told left may =
      elim (survives.crash clean may.0 may.1) [
        | inl before ↦ inl (may.0, before, may.2)
        | inr committed ↦ inr (trees_once may.0 left (changed_rows rows changes) may.2 (committed rows (kept.holds (since clean) rows told)))
      ]

-- what a crash leaves of an open connection that shows rows: just these
pub leaves_just : {S : Type 0} (g : Ghosts S) (keeper : KeptTable S) (rows : List Row)
    → ((trees : Trees) → (state g keeper.conn).may_leave trees → trees ≡ (state g keeper.conn).committed.trees)
    → (state g keeper.conn).may_leave (state g keeper.conn).committed.trees
    → ShowsRows (state g keeper.conn) rows → LeavesJust rows (MayLeaveTable g keeper)
leaves_just g keeper rows only stays shows left =
    let s = state g keeper.conn in
    let now : s.committed.trees ≡ s.now.trees = ap (λ (d : Rattle.sqlite.specs.Effect.Database). d.trees) (sym shows.settled) in
    let there : TreesHold s.committed.trees rows = trees_of s s.committed.trees rows now shows.holds in (
      λ may. trees_once s.committed.trees left rows (subst (λ t. TreesHold t left) (only may.0 may.1) may.2) there,
      λ e. (s.committed.trees, stays, subst (TreesHold s.committed.trees) (sym e) there),
    )

-- ---- the invariant after a call

module _ {S : Type 0} (g : Ghosts S) (conn conn' found : Held S) (committed : List RowChange) (faults faults' : ℕ)
    (kept : IsKept g (record { conn = conn; found = found; committed = committed; faults = faults })) where
  abbrev before : KeptTable S
  before = record { conn = conn; found = found; committed = committed; faults = faults }

  abbrev after : KeptTable S
  after = record { conn = conn'; found = found; committed = committed; faults = faults' }

  -- that only read, or was refused
  pub read_kept : {P : Trees → Type 0} → conn'.in_transaction ≡ false → Survives (state g conn) (state g conn') P
      → (HasCleanDisk (state g conn') → (rows : List Row) → ShowsIfOpen (state g conn) rows → ShowsIfOpen (state g conn') rows)
      → IsKept g after
  read_kept mode survives shows =
      kept_on g before after refl refl (λ clean. omega (arith, survives.clean, clean)) kept mode survives.limit shows

  -- that committed
  pub commit_kept : {P : Trees → Type 0} (changes done : List RowChange) → done ≡ committed ++ changes → conn'.in_transaction ≡ false
      → Survives (state g conn) (state g conn') P
      → (HasCleanDisk (state g conn') → (rows : List Row) → ShowsIfOpen (state g conn) rows
      → ShowsRows (state g conn') (changed_rows rows changes))
      → IsKept g (record after { committed = done })
  commit_kept changes done noted mode survives shows =
      kept_changed g before (record after { committed = done }) changes refl noted (λ clean. omega (arith, survives.clean, clean)) kept
      mode survives.limit shows

-- ---- what a crash leaves of an open connection

module _ {S : Type 0} (g : Ghosts S) (settled : (s : S) (db : Trees) → IsTrue (g.view s).is_open → g.recovers s db → db ≡ (g.view s).committed)
    (stays : (s : S) → IsTrue (g.view s).is_open → g.recovers s (g.view s).committed) where
  pub leaves_shown : (keeper : KeptTable S) → IsTrue (state g keeper.conn).is_open → (rows : List Row)
      → ShowsRows (state g keeper.conn) rows → LeavesJust rows (MayLeaveTable g keeper)
  leaves_shown keeper here rows shows =
      leaves_just g keeper rows (λ trees may. settled keeper.conn.store trees here may) (stays keeper.conn.store here) shows

-- ---- a keeper that is made

module _ {S : Type 0} (g : Ghosts S) (conn found : Held S) (same : found ≡ conn) (conn' : Held S) (done : List RowChange) (none : done ≡ [])
    (faults : ℕ) where
  abbrev fresh : KeptTable S
  fresh = record { conn = conn'; found = found; committed = done; faults = faults }

  pub fresh_tells : (rows : List Row) → TellsTable g fresh rows ↔ FindsRows (state g conn).now rows
  fresh_tells rows = (
    λ told. subst (λ h. FindsRows (state g h).now rows) same
        (subst (FindsRows (state g found).now) (sym (told.2 ∙ ap (changed_rows told.0) none)) told.1),
    λ finds. (rows, subst (λ h. FindsRows (state g h).now rows) (sym same) finds, sym (ap (changed_rows rows) none)),
  )

  pub fresh_kept : conn'.in_transaction ≡ false → conn'.step_limit ≡ None
      → (HasCleanDisk (state g conn') → (rows : List Row) → FindsRows (state g conn).now rows → ShowsRows (state g conn') rows)
      → IsKept g fresh
  fresh_kept mode limit made = record {
    autocommit = mode;
    unlimited = limit;
    holds = λ clean rows told here. made clean rows ((fresh_tells rows).0 told);
  }

  -- a crash leaves just what is told
  pub fresh_leaves : ((s : S) (db : Trees) → IsTrue (g.view s).is_open → g.recovers s db → db ≡ (g.view s).committed)
      → ((s : S) → IsTrue (g.view s).is_open → g.recovers s (g.view s).committed) → IsTrue (state g conn').is_open
      → ((rows : List Row) → FindsRows (state g conn).now rows → ShowsRows (state g conn') rows)
      → (rows : List Row) → TellsTable g fresh rows → LeavesJust rows (MayLeaveTable g fresh)
  fresh_leaves settled stays here made rows told =
      leaves_shown g settled stays fresh here rows (made rows ((fresh_tells rows).0 told))

-- ---- a commit, by its result

pub on_refusal : {X E P : Type 0} (r : Result X E) → IsErr r → OnErr r P → P
on_refusal (Ok x) is p = absurd (true≢false (sym is))
on_refusal (Err e) is p = p

pub on_success : {X E P : Type 0} (r : Result X E) (x : X) → r ≡ Ok x → OnOk r P → P
on_success (Ok y) x is p = p
on_success (Err e) x is p = absurd cc

pub at_success : {X E : Type 0} (r : Result X E) (x : X) (P : X → Type 0) → r ≡ Ok x → IfOk r P → P x
at_success (Ok y) x P is p = let same : y ≡ x = cc in subst P same p
at_success (Err e) x P is p = absurd cc

pub refusal_leaves : (changes : List RowChange) (told old new : List Row → Type 0) (r : Result (Unit {0}) KeeperRefusal) → IsErr r
    → ((rows : List Row) → told rows → LeavesMaybe (changed_rows rows changes) old new) → CommitLeaves changes told old new r
refusal_leaves changes told old new (Ok done) is maybe = absurd (true≢false (sym is))
refusal_leaves changes told old new (Err e) is maybe = maybe
