use Rattle.std.proofs.Common.{◌≡◌, ap, ◌∙◌, subst, sym}
use Rattle.jar_types.specs.RowChanges.{RowsRise, changed_rows}
use Rattle.jar_keeper.proofs.RowLemmas.{changed_rise}
use Rattle.jar_keeper.proofs.MemoryLemmas.{tells_changed, leaves_changed}
use Rattle.jar_keeper.proofs.memory_keeper.MemKeeperKeeper.commit.Goals as goal

pub note-requires : goal.note-requires
note-requires c = rw c.in_ok-rows.ensures (changed_rise c.self.inside.rows c.as_slice.result.now c.self.invariant.0)

pub replace-requires : goal.replace-requires
replace-requires c = rw c.in_ok-rows.ensures (changed_rise c.self.inside.rows c.as_slice.result.now c.self.invariant.0)

-- the keeper's rows, before and after
rows_were : (c : goal.After-replace) → c.args.self.now.rows ≡ c.self.inside.rows
rows_were c = sym (ap (λ k. k.rows) c.begin_call-fails.ensures.count) ∙ sym (ap (λ k. k.rows) c.self.view_is)

rows_are : (c : goal.After-replace) → c.replace.new.self.rows ≡ changed_rows c.args.self.now.rows c.args.changes.now
rows_are c =
    ap (λ k. k.rows) c.replace.ensures ∙ c.in_ok-rows.ensures ∙ ap (changed_rows c.self.inside.rows) c.as_slice.ensures
    ∙ ap (λ rows. changed_rows rows c.args.changes.now) (sym (rows_were c))

pub returns-clause-told : goal.returns-clause-told
returns-clause-told c =
    tells_changed c.args.changes.now c.args.self.now c.replace.new.self (subst RowsRise (sym (rows_were c)) c.self.invariant.0) (rows_are c)

pub returns-clause-left : goal.returns-clause-left
returns-clause-left c =
    leaves_changed c.args.changes.now c.args.self.now c.replace.new.self (subst RowsRise (sym (rows_were c)) c.self.invariant.0) (rows_are c)
    (ap (λ k. k.also_leaves) c.replace.ensures)
