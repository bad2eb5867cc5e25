use Rattle.std.proofs.Common.{◌≡◌, ℕ, List, refl, sym, ap, ◌∙◌, ◌||◌, ◌∷◌}
use Rattle.std.specs.Prelude.{slice_index_or, ◌==◌}
use Rattle.version_cells.specs.Listings.{has}
use Rattle.version_cells.specs.Moves.{after_bump}
use Rattle.version_cells.specs.Standing.{BatonStanding, baton_with_view}
use Rattle.locked_jar.specs.Moving.{with_pending}
use Rattle.locked_jar.proofs.MovingLemmas.{cell_in, more, fresh_at}
use Rattle.locked_jar.proofs.moving.bump_each.Goals as goal

pub loop-cell-init : goal.loop-cell-init
loop-cell-init c = record {
  same = refl;
  pending = λ d. ap (λ (l : List ℕ). has d l) c.requires.free;
}

pub bump-requires-clause-cell : goal.bump-requires-clause-cell
bump-requires-clause-cell c = cell_in c.args.moved.now c.loop-cell.cell-index c.requires.cells.1 c.loop-cell-test.true

pub bump-requires-clause-free : goal.bump-requires-clause-free
bump-requires-clause-free c = c.loop-cell.invariant.pending _ ∙ fresh_at c.args.moved.now c.loop-cell.cell-index c.requires.cells.0 c.loop-cell-test.true

pub loop-cell-preserved : goal.loop-cell-preserved
loop-cell-preserved c =
    let cell : ℕ = slice_index_or c.args.moved.now c.loop-cell.cell-index 0 in
    let k = c.loop-cell.invariant in
    let f : c.bump.new.baton ≡ with_pending c.args.baton.now (cell ∷ c.loop-cell.baton.view.pending) =
    c.bump.ensures ∙ ap (λ (u : BatonStanding). baton_with_view u (after_bump u.view cell)) k.same in
    record {
      same = f ∙ ap (λ (p : List ℕ). with_pending c.args.baton.now p) (sym (ap (λ (u : BatonStanding). u.view.pending) f));
      pending = λ d. ap (λ (u : BatonStanding). has d u.view.pending) f ∙ ap (λ t. (cell == d) || t) (k.pending d) ∙ sym (more d c.args.moved.now c.loop-cell.cell-index c.loop-cell-test.true);
    }
