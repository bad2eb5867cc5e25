use Rattle.std.proofs.Common.{◌≡◌, [], map, fold, get_or, add-one, sym, ap, ◌∙◌, arith, rules}
use Rattle.jar_types.specs.Ids.{text_cmp}
use Rattle.sqlite_keeper.specs.Rising.{added}
use Rattle.sqlite_keeper.specs.TableRows.{HasUtf8, host_cells}
use Rattle.sqlite_keeper.proofs.RisingLemmas.{none_sorted, behind, one_more_added, whole, hosts_added}
use Rattle.sqlite_keeper.proofs.decoding.hosts_shown.Goals as goal

pub loop-cells-init : goal.loop-cells-init
loop-cells-init c = (none_sorted text_cmp c.new-hosts.result.items c.new-hosts.ensures.items, λ rows is texts. c.new-hosts.ensures.items)

pub loop-cells-preserved : goal.loop-cells-preserved
loop-cells-preserved c = (
  c.in_ok-add_host.ensures.rises c.loop-cells.invariant.0,
  λ rows is texts.
      let here : c.cells-item.result ≡ get_or c.args.shown.now c.loop-cells.cells-index c.cells-item.result = search rules in
      let b = behind host_cells HasUtf8 rows c.args.shown.now c.loop-cells.cells-index c.cells-item.result is c.loop-cells-test.true here texts in
      c.in_ok-add_host.ensures.value b.origin b.is b.holds
      ∙ ap (λ hosts. added text_cmp hosts b.origin.host) (c.loop-cells.invariant.1 rows is texts)
      ∙ sym (rw add-one (one_more_added text_cmp (λ row. row.host) rows c.loop-cells.cells-index b.origin b.taken)),
)

pub returns-clause-value : goal.returns-clause-value
returns-clause-value c rows is rise texts =
    c.from_vec.ensures ∙ c.loop-cells.invariant.1 rows is texts
    ∙ ap (λ rs. fold (added text_cmp) [] (map (λ row. row.host) rs))
    (whole host_cells rows c.args.shown.now c.loop-cells.cells-index is (omega (arith, c.loop-cells-test.false)))
    ∙ hosts_added rows rise
