-- The laws of a script's run over a keeper that holds rows and never fails: of its loads, of what
-- is held at its end, and of its answers.
use Rattle.std.proofs.Common.{◌≡◌, suc, List, [], ◌∷◌, Bool, true, false, length, refl, ap, sym, ◌∙◌, arith, subst}
use Rattle.std.specs.Prelude.{◌&&◌, ◌||◌, is_none, map, nat_lt}
use Rattle.std.proofs.lemmas.Bool.Decides.{nat_tests}
use Rattle.jar_types.specs.declared.cookie.CookieId.{CookieId}
use Rattle.jar_types.specs.declared.entry.Entry.{Entry}
use Rattle.jar_types.specs.declared.row.Row.{Row}
use Rattle.jar_types.specs.declared.row.RowChange.{RowChange}
use Rattle.jar_types.specs.Journals.{IsLegal}
use Rattle.jar_types.specs.RowChanges.{RowsRise, change_id, changed_rows}
use Rattle.jar_types.specs.Stored.{IsHonest, hosts_of, sound_rows, stored_rows}
use Rattle.eager_law.specs.Laws.{IsAsEager}
use Rattle.eager_law.proofs.RunLemmas.{loading_changes_no_answer}
use Rattle.stored_law.specs.Keeping.{AllStorable, row_changes_of}
use Rattle.stored_law.proofs.LoadLemmas.{hosts_ascend}
use Rattle.stored_law.proofs.StoredLemmas.{changes_are_stored}
use Rattle.script_text.specs.declared.script.Script.{Script}
use Rattle.script_text.specs.Admitted.{IsAdmitted}
use Rattle.run_report.specs.declared.item.Item.{Item}
use Rattle.script_run.specs.Rounds.{EndsOver, IsHistoryOver, Over, committed_where, is_due, rounds, rounds_over}
use Rattle.script_run.specs.Runs.{Run}
use Rattle.script_run.specs.StoredRuns.{IsTimed, StoredRunsAreEager, StoredRunsAreHonest, StoredRunsAreKept}
use Rattle.script_run.proofs.ClosedLemmas.{closed_flush, closed_rounds}
use Rattle.script_run.proofs.HeldRunLemmas.{IsBatched, end_is_over, rounds_are_over, rules_over}
use Rattle.script_run.proofs.LegalLemmas.{serial_legal}
use Rattle.script_run.proofs.OverLemmas.{runs_over_rows}
use Rattle.script_run.proofs.StorableLemmas.{IsStored, stored_closed}

-- ---- nothing is pending at the end

untaken : (none more lost : Bool) → none ≡ true → lost ≡ false → ((none && (more || lost)) && true) ≡ false → more ≡ false
untaken false more lost none kept e = absurd cc
untaken true true lost none kept e = absurd cc
untaken true false lost none kept e = refl

none_touched : (ids : List CookieId) → nat_lt 0 (length ids) ≡ false → ids ≡ []
none_touched [] e = refl
none_touched (i ∷ is) e =
    let some : nat_lt 0 (suc (length is)) ≡ true = grind (arith, nat_tests) in
    let no : true ≡ false = sym some ∙ e in
    absurd cc

no_changes : (changes : List RowChange) → map change_id changes ≡ [] → changes ≡ []
no_changes [] e = refl
no_changes (c ∷ cs) e = absurd cc

-- a batch was due and committed, or no row changed
drained : (r : Run) (due : Bool) → is_due true r ≡ due → IsBatched r.state.batches r.pending → (committed_where due true r).pending ≡ []
drained r true is batched = refl
drained r false is batched =
    let b = r.state.batches in
    let none = none_touched b.touched (untaken (is_none b.out) (nat_lt 0 (length b.touched)) b.lost (ap is_none batched.out) batched.lost is) in
    no_changes r.pending (batched.touched ∙ none)

end_drained : (script : Script) (rows : List Row) (end : Over) → IsAdmitted script → RowsRise rows → EndsOver script rows end → end.run.pending ≡ []
end_drained script rows end admitted rises ends =
    let o = rounds_over script rows (suc ends.earlier) in
    ap (λ (e : Over). e.run.pending) ends.is ∙ drained o.run (is_due true o.run) refl (rounds_are_over script rows (suc ends.earlier) admitted rises).1

-- ---- the laws

-- its journal is legal
end_legal : (script : Script) (rows : List Row) (end : Over) → IsAdmitted script → RowsRise rows → EndsOver script rows end
    → IsLegal (rules_over script rows) end.run.journal
end_legal script rows end admitted rises ends =
    serial_legal script (hosts_of rows) end.run admitted (hosts_ascend rows) (runs_over_rows script rows end rises ends)

-- and each of its calls stores what can be stored
end_storable : (script : Script) (rows : List Row) (end : Over) → IsAdmitted script → IsTimed script → RowsRise rows → EndsOver script rows end
    → AllStorable end.run.journal
end_storable script rows end admitted timed rises ends =
    let e = runs_over_rows script rows end rises ends in
    let closed = stored_closed script (hosts_of rows) admitted timed in
    let r = rounds script (hosts_of rows) (e.last ∷ e.earlier) in
    subst IsStored (sym e.is) (closed_flush script IsStored closed true e.commits r (closed_rounds script IsStored closed (hosts_of rows) (e.last ∷ e.earlier) tt))

pub stored_runs_are_honest : StoredRunsAreHonest
stored_runs_are_honest script rows end admitted rises ends =
    record { hosts = refl; loads = (end_is_over script rows end admitted rises ends).0.honest }

pub stored_runs_are_kept : StoredRunsAreKept
stored_runs_are_kept script rows end admitted timed rises ends =
    let rules = rules_over script rows in
    let over = end_is_over script rows end admitted rises ends in
    let held : end.held ≡ changed_rows rows (row_changes_of rules end.run.journal) =
    sym (ap (changed_rows end.held) (end_drained script rows end admitted rises ends)) ∙ over.0.tells in
    ap sound_rows held
    ∙ changes_are_stored rules rows end.run.journal rises (end_legal script rows end admitted rises ends)
    (stored_runs_are_honest script rows end admitted rises ends) (end_storable script rows end admitted timed rises ends)

pub stored_runs_are_eager : StoredRunsAreEager
stored_runs_are_eager script rows end admitted rises ends =
    loading_changes_no_answer (rules_over script rows) rows end.run.journal rises (end_legal script rows end admitted rises ends)
    (stored_runs_are_honest script rows end admitted rises ends)

-- ---- the laws of a history

pub history_is_honest : (script : Script) (rows : List Row) (items : List (List Item)) (journal : List Entry) (held : List Row) → IsAdmitted script → RowsRise rows
    → IsHistoryOver script rows items journal held → IsHonest (rules_over script rows) rows journal
history_is_honest script rows items journal held admitted rises h =
    subst (IsHonest (rules_over script rows) rows) (sym h.journal_is) (stored_runs_are_honest script rows h.end admitted rises h.ends)

pub history_is_kept : (script : Script) (rows : List Row) (items : List (List Item)) (journal : List Entry) (held : List Row) → IsAdmitted script → IsTimed script
    → RowsRise rows → IsHistoryOver script rows items journal held → sound_rows held ≡ stored_rows (rules_over script rows) rows journal
history_is_kept script rows items journal held admitted timed rises h =
    ap sound_rows h.held_are
    ∙ stored_runs_are_kept script rows h.end admitted timed rises h.ends
    ∙ ap (stored_rows (rules_over script rows) rows) (sym h.journal_is)

pub history_is_eager : (script : Script) (rows : List Row) (items : List (List Item)) (journal : List Entry) (held : List Row) → IsAdmitted script → RowsRise rows
    → IsHistoryOver script rows items journal held → IsAsEager (rules_over script rows) rows journal
history_is_eager script rows items journal held admitted rises h =
    subst (IsAsEager (rules_over script rows) rows) (sym h.journal_is) (stored_runs_are_eager script rows h.end admitted rises h.ends)
