-- A run over a keeper that holds rows and never fails: it is one alone, and one over the hosts of the rows.
use Rattle.std.proofs.Common.{◌≡◌, ◌≢◌, ◌<◌, ◌≤◌, ◌⊎◌, ℕ, suc, zero, List, [], ◌∷◌, Bool, true, false, Some, refl, ap, sym, ◌∙◌, arith, subst, ⊎_elim, inl, inr}
use Rattle.std.specs.List.{AllByRecursion}
use Rattle.std.proofs.lemmas.Bool.{cases_eq}
use Rattle.jar_types.specs.declared.cookie.Cookie.{Cookie}
use Rattle.jar_types.specs.declared.entry.Own.TheVariants.{Loaded}
use Rattle.jar_types.specs.declared.row.Row.{Row}
use Rattle.jar_types.specs.Journals.{Rules, own_fits}
use Rattle.jar_types.specs.RowChanges.{RowsRise, newest_over}
use Rattle.jar_types.specs.Stored.{hosts_of}
use Rattle.stored_law.specs.HostLoads.{cookies_of_hosts, hosts_of_key}
use Rattle.stored_law.proofs.ChangeLemmas.{changed_rows_rise}
use Rattle.stored_law.proofs.LoadLemmas.{hosts_ascend, known_load, loads_fit}
use Rattle.script_text.specs.declared.script.Script.{Script}
use Rattle.script_run.specs.Legal.{RunsAreOne, RunsOverRows}
use Rattle.script_run.specs.Rounds.{EndsOver, GoOn, GoOnOver, IsFitting, Over, Service, flushed_over, gives_of, held_where, flushed, is_due, loaded_over, round, rounds, rounds_over, rules_of}
use Rattle.script_run.specs.Runs.{Run, is_done}

-- ---- what is held

held_rises_where : (due : Bool) (r : Run) (held : List Row) → RowsRise held → RowsRise (held_where due r held)
held_rises_where true r held rises = changed_rows_rise held (newest_over r.kept r.pending) rises
held_rises_where false r held rises = rises

-- it is in the order of ids
pub held_rises : (script : Script) (rows : List Row) (n : ℕ) → RowsRise rows → RowsRise (rounds_over script rows n).held
held_rises script rows zero rises = rises
held_rises script rows (suc n) rises =
    let o = rounds_over script rows n in
    let u = loaded_over script (rules_of script (hosts_of rows)) o in
    held_rises_where (is_due false u) u o.held (held_rises script rows n rises)

-- ---- the services of such a keeper

some_is : (a b : List Cookie) → Some a ≡ Some b → a ≡ b
some_is a b e = cc

-- its loads fit
pub gives_fit : (r : Rules) (held : List Row) (rows : List Row) → r.hosts ≡ hosts_of rows → RowsRise held → IsFitting r (gives_of r held)
gives_fit r held rows hosts rises key cookies is =
    let load = known_load r held (hosts_of_key r key r.hosts) rises in
    let fits = loads_fit r key (cookies_of_hosts r held (hosts_of_key r key r.hosts)) (rw hosts (hosts_ascend rows)) load in
    subst (λ cs. own_fits r (Loaded key cs) ≡ true) (some_is (cookies_of_hosts r held (hosts_of_key r key r.hosts)) cookies is) fits

abbrev service_at : Script → List Row → ℕ → Service
service_at script rows n = record { gives = gives_of (rules_of script (hosts_of rows)) (rounds_over script rows n).held; commits = true }

-- of so many rounds, the last of them first
abbrev services : Script → List Row → ℕ → List Service
services script rows zero = []
services script rows (suc n) = service_at script rows n ∷ services script rows n

services_fit : (script : Script) (rows : List Row) (n : ℕ) → RowsRise rows
    → AllByRecursion (λ service. IsFitting (rules_of script (hosts_of rows)) service.gives) (services script rows n)
services_fit script rows zero rises = tt
services_fit script rows (suc n) rises =
    (gives_fit (rules_of script (hosts_of rows)) (rounds_over script rows n).held rows refl (held_rises script rows n rises), services_fit script rows n rises)

same_rounds : (script : Script) (rows : List Row) (n : ℕ) → (rounds_over script rows n).run ≡ rounds script (hosts_of rows) (services script rows n)
same_rounds script rows zero = refl
same_rounds script rows (suc n) = ap (round script (service_at script rows n)) (same_rounds script rows n)

go_on : (script : Script) (rows : List Row) (n : ℕ) → GoOnOver script rows n → GoOn script (hosts_of rows) (services script rows n)
go_on script rows zero first = tt
go_on script rows (suc n) first = (ap (is_done script) (sym (same_rounds script rows (suc n))) ∙ first.0, go_on script rows n first.1)

pub runs_over_rows : RunsOverRows
runs_over_rows script rows end rises ends =
    let n = suc ends.earlier in
    let same = same_rounds script rows n in
    record {
      last = service_at script rows ends.earlier;
      earlier = services script rows ends.earlier;
      commits = true;
      fitting = services_fit script rows n rises;
      is = ap (λ (o : Over). o.run) ends.is ∙ ap (flushed true true) same;
      done = ap (is_done script) (sym same) ∙ ends.done;
      first = go_on script rows ends.earlier ends.first;
    }

-- ---- there is one alone

goes_on : (script : Script) (rows : List Row) (n k : ℕ) → GoOnOver script rows n → suc k ≤ n → is_done script (rounds_over script rows (suc k)).run ≡ false
goes_on script rows zero k first low = absurd (omega (arith, low))
goes_on script rows (suc n) k first low =
    ⊎_elim
    (λ (same : k ≡ n). rw same first.0)
    (λ (other : k ≢ n). goes_on script rows n k first.1 (omega (arith, low, other))) (cases_eq k n)

counts : (script : Script) (rows : List Row) (end other : Over) (e : EndsOver script rows end) (f : EndsOver script rows other) → e.earlier < f.earlier → ⊥
counts script rows end other e f lt =
    let not_yet = goes_on script rows f.earlier e.earlier f.first lt in
    let no : true ≡ false = sym e.done ∙ not_yet in
    absurd cc

apart : (m n : ℕ) → m ≢ n → (m < n) ⊎ (n < m)
apart zero zero ne = absurd (ne refl)
apart zero (suc n) ne = inl (omega arith)
apart (suc m) zero ne = inr (omega arith)
apart (suc m) (suc n) ne =
    ⊎_elim (λ (h : m < n). inl (omega arith)) (λ (h : n < m). inr (omega arith)) (apart m n (λ e. ne (ap suc e)))

pub runs_are_one : RunsAreOne
runs_are_one script rows end other e f =
    let below = counts script rows end other e f in
    let above = counts script rows other end f e in
    let same : e.earlier ≡ f.earlier = ⊎_elim (λ (h : e.earlier ≡ f.earlier). h) (λ (ne : e.earlier ≢ f.earlier). absurd (⊎_elim below above (apart e.earlier f.earlier ne))) (cases_eq e.earlier f.earlier) in
    e.is ∙ (ap (λ n. flushed_over true (rounds_over script rows (suc n))) same ∙ sym f.is)
