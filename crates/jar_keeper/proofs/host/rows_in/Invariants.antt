use Rattle.std.proofs.Common.{◌≡◌, take}
use Rattle.jar_keeper.specs.HostRows.{rows_of_host}
use Rattle.jar_keeper.proofs.host.rows_in.Given as goal

abbrev pub invariant-loop-row : goal.invariant-loop-row
invariant-loop-row l = l.found.items ≡ rows_of_host l.host (take l.row-index l.rows)
