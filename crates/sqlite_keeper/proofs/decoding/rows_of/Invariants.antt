use Rattle.std.proofs.Common.{◌≡◌, List, [], map, fold, take}
use Rattle.std.specs.List.{AllByRecursion}
use Rattle.jar_keeper.specs.HostRows.{AreOfHost}
use Rattle.jar_types.specs.RowChanges.{RowsRise, row_cmp}
use Rattle.jar_types.specs.declared.row.Row.{Row}
use Rattle.sqlite_keeper.specs.Rising.{added}
use Rattle.sqlite_keeper.specs.TableRows.{shown_cells}
use Rattle.sqlite_keeper.proofs.RisingLemmas.{HasOwner}
use Rattle.sqlite_keeper.proofs.decoding.rows_of.Given as goal

abbrev pub invariant-loop-cells : goal.invariant-loop-cells
invariant-loop-cells l =
    AreOfHost l.host l.rows.items × RowsRise l.rows.items
    × ((rows : List Row) → l.shown ≡ map shown_cells rows → AllByRecursion (HasOwner l.host) rows
    → l.rows.items ≡ fold (added row_cmp) [] (map (λ row. row) (take l.cells-index rows)))
