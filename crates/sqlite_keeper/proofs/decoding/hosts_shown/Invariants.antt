use Rattle.std.proofs.Common.{◌≡◌, List, [], map, fold, take}
use Rattle.std.specs.List.{AllByRecursion}
use Rattle.std.specs.List.Sorted.{IsStrictlySortedBy}
use Rattle.jar_types.specs.Ids.{text_cmp}
use Rattle.jar_types.specs.declared.row.Row.{Row}
use Rattle.sqlite_keeper.specs.Rising.{added}
use Rattle.sqlite_keeper.specs.TableRows.{HasUtf8, host_cells}
use Rattle.sqlite_keeper.proofs.decoding.hosts_shown.Given as goal

abbrev pub invariant-loop-cells : goal.invariant-loop-cells
invariant-loop-cells l =
    IsStrictlySortedBy text_cmp l.hosts.items
    × ((rows : List Row) → l.shown ≡ map host_cells rows → AllByRecursion HasUtf8 rows
    → l.hosts.items ≡ fold (added text_cmp) [] (map (λ row. row.host) (take l.cells-index rows)))
