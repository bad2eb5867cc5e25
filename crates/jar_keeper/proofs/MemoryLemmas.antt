-- A keeper in memory whose rows were changed.
use Rattle.std.proofs.Common.{◌≡◌, inl, inr, List, [], refl, sym, ap, ◌∙◌, subst, Contains, arith}
use Rattle.jar_types.specs.RowChanges.{RowsRise, changed_rows}
use Rattle.jar_types.specs.declared.row.Row.{Row}
use Rattle.jar_types.specs.declared.row.RowChange.{RowChange}
use Rattle.jar_keeper.specs.Keepers.{TellsChanged, LeavesJust}
use Rattle.jar_keeper.specs.MemoryRows.{MemoryRows, KeepsRows, MayLeaveRows}
use Rattle.jar_keeper.proofs.RowLemmas.{changed_rise}

none_in : (rows : List Row) → Contains [] rows → ⊥
none_in rows noted = absurd (omega (arith, noted.1))

module _ (changes : List RowChange) (old new : MemoryRows) (rises : RowsRise old.rows) (is : new.rows ≡ changed_rows old.rows changes) where
  -- it tells the changed rows
  pub tells_changed : TellsChanged changes (KeepsRows old) (KeepsRows new)
  tells_changed = record {
    changed = λ rows told. (ap (λ r. changed_rows r changes) told.0 ∙ sym is, changed_rise rows changes told.1);
    alone = λ rows told. (old.rows, (refl, rises), told.0 ∙ is);
  }

  -- and where it noted no other list, a crash leaves just these
  pub leaves_changed : new.also_leaves ≡ [] → (rows : List Row) → KeepsRows old rows → LeavesJust (changed_rows rows changes) (MayLeaveRows new)
  leaves_changed none rows told left =
      let same : new.rows ≡ changed_rows rows changes = is ∙ ap (λ r. changed_rows r changes) (sym told.0) in (
        λ may. elim may.0 [ inl own ↦ own ∙ same | inr noted ↦ absurd (none_in left (subst (λ lists. Contains lists left) none noted)) ],
        λ e. (inl (e ∙ sym same), subst RowsRise (sym e) (changed_rise rows changes told.1)),
      )
