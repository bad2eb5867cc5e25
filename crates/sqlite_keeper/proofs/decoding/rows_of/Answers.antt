use Rattle.std.proofs.Common.{◌≡◌, [], map, fold, get_or, add-one, sym, ap, ◌∙◌, arith, rules}
use Rattle.jar_types.specs.RowChanges.{row_cmp}
use Rattle.sqlite_keeper.specs.Rising.{added}
use Rattle.sqlite_keeper.specs.TableRows.{shown_cells}
use Rattle.sqlite_keeper.proofs.RisingLemmas.{none_sorted, none_all, behind, one_more_added, whole, all_added, same_map, HasOwner, have_owner}
use Rattle.sqlite_keeper.proofs.decoding.rows_of.Goals as goal

pub loop-cells-init : goal.loop-cells-init
loop-cells-init c = (
  none_all (λ row. row.host ≡ c.args.host.now) c.new-rows.result.items c.new-rows.ensures.items,
  none_sorted row_cmp c.new-rows.result.items c.new-rows.ensures.items,
  λ rows is owned. c.new-rows.ensures.items,
)

pub loop-cells-preserved : goal.loop-cells-preserved
loop-cells-preserved c = (
  c.in_ok-add_row.ensures.hosts c.loop-cells.invariant.0,
  c.in_ok-add_row.ensures.rises c.loop-cells.invariant.1,
  λ rows is owned.
      let here : c.cells-item.result ≡ get_or c.args.shown.now c.loop-cells.cells-index c.cells-item.result = search rules in
      let b = behind shown_cells (HasOwner c.args.host.now) rows c.args.shown.now c.loop-cells.cells-index c.cells-item.result is
      c.loop-cells-test.true here owned in
      c.in_ok-add_row.ensures.value b.origin b.is b.holds.1 b.holds.0
      ∙ ap (λ given. added row_cmp given b.origin) (c.loop-cells.invariant.2 rows is owned)
      ∙ sym (rw add-one (one_more_added row_cmp (λ row. row) rows c.loop-cells.cells-index b.origin b.taken)),
)

pub returns-clause-rises : goal.returns-clause-rises
returns-clause-rises c = rw c.from_vec.ensures (c.loop-cells.invariant.0, c.loop-cells.invariant.1)

pub returns-clause-value : goal.returns-clause-value
returns-clause-value c rows is of rise texts =
    c.from_vec.ensures ∙ c.loop-cells.invariant.2 rows is (have_owner c.args.host.now rows of texts)
    ∙ ap (λ rs. fold (added row_cmp) [] (map (λ row. row) rs))
    (whole shown_cells rows c.args.shown.now c.loop-cells.cells-index is (omega (arith, c.loop-cells-test.false)))
    ∙ ap (fold (added row_cmp) []) (same_map rows) ∙ all_added row_cmp [] rows rise
