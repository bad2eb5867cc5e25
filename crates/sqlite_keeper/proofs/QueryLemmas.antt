-- What a query in a transaction answers, where the connection shows rows.
use Rattle.std.proofs.Common.{◌≡◌, ℕ, List, [], ◌∷◌, map, Ok, Err, Result, IfOk, OnOk, IsTrue, Vec, Global}
use Rattle.sqlite.specs.declared.types.Value.TheVariants.{Text}
use Rattle.sqlite.specs.Order.{Row as Cells}
use Rattle.sqlite.specs.declared.error.Error.{Error}
use Rattle.sqlite.specs.State.{State, Shown}
use Rattle.jar_types.specs.declared.row.Row.{Row}
use Rattle.jar_keeper.specs.HostRows.{rows_of_host}
use Rattle.sqlite_keeper.specs.Changing.{begun}
use Rattle.sqlite_keeper.specs.CookieTable.{hosts_text, load_text}
use Rattle.sqlite_keeper.specs.TableRows.{ShowsIfOpen, host_cells, shown_cells}
use Rattle.sqlite_keeper.proofs.ReadLemmas.{loads, lists_hosts}
use Rattle.sqlite_keeper.proofs.StateLemmas.{shown_open}

pub hosts_answered : (old mid : State) (r : Result (Vec Cells Global) Error) → IfOk r (λ out. Shown hosts_text [] (begun old) mid out.items)
    → IfOk r (λ out. (rows : List Row) → ShowsIfOpen old rows → out.items ≡ map host_cells rows)
hosts_answered old mid (Ok out) shown =
    λ rows shows. lists_hosts (begun old) mid rows out.items (shows (shown_open hosts_text [] (begun old) mid out.items shown)).holds shown
hosts_answered old mid (Err e) shown = tt

pub rows_answered : (host : List ℕ) (old mid : State) (r : Result (Vec Cells Global) Error)
    → IfOk r (λ out. Shown load_text (Text host ∷ []) (begun old) mid out.items)
    → IfOk r (λ out. (rows : List Row) → ShowsIfOpen old rows → out.items ≡ map shown_cells (rows_of_host host rows))
rows_answered host old mid (Ok out) shown =
    λ rows shows. loads (begun old) mid host rows out.items
    (shows (shown_open load_text (Text host ∷ []) (begun old) mid out.items shown)).holds shown
rows_answered host old mid (Err e) shown = tt

-- a connection that answered was open
pub answered_open : (sql : List ℕ) (params : Cells) (old mid : State) (r : Result (Vec Cells Global) Error)
    → IfOk r (λ out. Shown sql params (begun old) mid out.items) → OnOk r (IsTrue old.is_open)
answered_open sql params old mid (Ok out) shown = shown_open sql params (begun old) mid out.items shown
answered_open sql params old mid (Err e) shown = tt
