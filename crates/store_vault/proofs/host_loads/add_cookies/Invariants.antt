use Rattle.std.proofs.Common.{◌≡◌, ◌++◌, drop}
use Rattle.jar_types.specs.Stored.{cookies_of_rows}
use Rattle.store_vault.specs.Loading.{rules_of}
use Rattle.store_vault.proofs.host_loads.add_cookies.Given as goal

abbrev pub invariant-loop-row : goal.invariant-loop-row
invariant-loop-row l =
    l.cookies ++ cookies_of_rows (rules_of l.stored 0 0) (drop l.row-index l.rows) ≡ l.initial.cookies ++ cookies_of_rows (rules_of l.stored 0 0) l.rows
