-- What the eager jar begins with: the cookies of rows rise where the rows do, and of none is the
-- key loaded.
use Rattle.std.proofs.Common.{◌≡◌, ℕ, List, [], ◌∷◌, Bool, true, false, cond, None, Some, refl, sym, ap, ◌∙◌}
use Rattle.std.specs.Prelude.{map, not, bytes_eq}
use Rattle.std.specs.List.{AllByRecursion, cons_option, list_any}
use Rattle.std.specs.List.Sorted.{IsStrictlySortedBy}
use Rattle.std.specs.Ordering.{is_eq}
use Rattle.std.specs.declared.cmp.Ordering.TheVariants.{Less}
use Rattle.jar_values.specs.Hosts.{undotted}
use Rattle.jar_types.specs.declared.cookie.Cookie.{Cookie}
use Rattle.jar_types.specs.declared.row.Row.{Row}
use Rattle.jar_types.specs.Ids.{cookie_cmp, text_cmp, RisesById}
use Rattle.jar_types.specs.Journals.{Rules, key_at, stored_keys}
use Rattle.jar_types.specs.Loads.{is_loaded, none_loaded}
use Rattle.jar_types.specs.RowChanges.{row_cmp, RowsRise}
use Rattle.jar_types.specs.Rows.{cookie_in, is_sound_row}
use Rattle.jar_types.specs.States.{opening}
use Rattle.jar_types.specs.Stored.{cookies_of_rows, hosts_of}
use Rattle.eager_law.specs.Eager.{eager_opening, loaded_part}
use Rattle.eager_law.proofs.MemberLemmas.{Member, weaker, own_members, any_member, any_mapped}
use Rattle.eager_law.proofs.FilterLemmas.{none_kept}
use Rattle.eager_law.proofs.AscendingLemmas.{any_ascending}
use Rattle.eager_law.proofs.PartLemmas.{part, IsKeyed, same_texts, text_itself}
use Rattle.eager_law.proofs.LoadLemmas.{opening_fits}
use Rattle.eager_law.proofs.OwnLemmas.{StateFits}

-- the key of a host
abbrev key : Rules → Row → List ℕ
key r row = r.key_of (undotted row.host)

-- what holds of the cookies of rows one by one
cookies_at : (P : Cookie → Type 0) (r : Rules) (row : Row) (cookies : List Cookie) (b : Bool)
    → P (cookie_in (key r row) row)
    → AllByRecursion P cookies
    → AllByRecursion P (cons_option (cond b (Some (cookie_in (key r row) row)) None) cookies)
cookies_at P r row cookies true h all = (h, all)
cookies_at P r row cookies false h all = all

cookies_all : (P : Cookie → Type 0) (r : Rules) (rows : List Row)
    → AllByRecursion (λ row. P (cookie_in (key r row) row)) rows
    → AllByRecursion P (cookies_of_rows r rows)
cookies_all P r [] all = tt
cookies_all P r (row ∷ rows) all =
    cookies_at P r row (cookies_of_rows r rows) (is_sound_row row) all.0 (cookies_all P r rows all.1)

-- ---- their ids

rise_at : (r : Rules) (row : Row) (cookies : List Cookie) (b : Bool)
    → AllByRecursion (λ c. cookie_cmp (cookie_in (key r row) row) c ≡ Less) cookies
    → RisesById cookies → RisesById (cons_option (cond b (Some (cookie_in (key r row) row)) None) cookies)
unfolding IsStrictlySortedBy
rise_at r row cookies true all rises = (all, rises)
rise_at r row cookies false all rises = rises

-- they rise as those of the rows
pub cookies_rise : (r : Rules) (rows : List Row) → RowsRise rows → RisesById (cookies_of_rows r rows)
unfolding IsStrictlySortedBy
cookies_rise r [] rises = tt
cookies_rise r (row ∷ rows) rises =
    rise_at r row (cookies_of_rows r rows) (is_sound_row row)
    (cookies_all (λ c. cookie_cmp (cookie_in (key r row) row) c ≡ Less) r rows
    (weaker (λ other. row_cmp row other ≡ Less) (λ other. cookie_cmp (cookie_in (key r row) row) (cookie_in (key r other) other) ≡ Less) (λ other e. e) rows rises.0))
    (cookies_rise r rows rises.1)

-- ---- their keys

every_row : (r : Rules) (rows : List Row) → AllByRecursion (λ row. IsKeyed r (cookie_in (key r row) row)) rows
every_row r [] = tt
every_row r (row ∷ rows) = (refl, every_row r rows)

pub cookies_keyed : (r : Rules) (rows : List Row) → AllByRecursion (IsKeyed r) (cookies_of_rows r rows)
cookies_keyed r rows = cookies_all (IsKeyed r) r rows (every_row r rows)

-- the key of each row is one of those that aren't loaded
key_stored : (r : Rules) (rows : List Row) → r.hosts ≡ hosts_of rows → (row : Row) → Member rows row
    → list_any (bytes_eq (key r row)) (stored_keys r) ≡ true
key_stored r rows hosts row i =
    let is_key = bytes_eq (key r row) in
    let is_host = λ (host : List ℕ). is_key (key_at r host) in
    any_ascending text_cmp is_key (λ a b e. ap is_key (sym (same_texts a b (ap is_eq e)))) (map (key_at r) r.hosts)
    ∙ any_mapped is_key (key_at r) r.hosts
    ∙ ap (list_any is_host) hosts
    ∙ any_ascending text_cmp is_host (λ a b e. ap is_host (sym (same_texts a b (ap is_eq e)))) (map (λ row. row.host) rows)
    ∙ any_mapped is_host (λ (row : Row). row.host) rows
    ∙ any_member (λ (other : Row). is_host other.host) rows row i (text_itself (key r row))

-- so of the cookies of the rows none is there when the jar opens
pub none_loaded_yet : (r : Rules) (rows : List Row) → r.hosts ≡ hosts_of rows
    → part (none_loaded (stored_keys r)) (cookies_of_rows r rows) ≡ []
none_loaded_yet r rows hosts =
    none_kept (λ c. is_loaded c.key (none_loaded (stored_keys r))) (cookies_of_rows r rows)
    (cookies_all (λ c. is_loaded c.key (none_loaded (stored_keys r)) ≡ false) r rows
    (weaker (Member rows) (λ row. is_loaded (key r row) (none_loaded (stored_keys r)) ≡ false) (λ row i. ap not (key_stored r rows hosts row i)) rows
    (own_members rows)))

pub opening_part : (r : Rules) (rows : List Row) → r.hosts ≡ hosts_of rows
    → loaded_part (eager_opening r rows) ≡ opening (stored_keys r)
opening_part r rows hosts = ap (λ cs. record (opening (stored_keys r)) { cookies = cs }) (none_loaded_yet r rows hosts)

pub opening_state : (r : Rules) (rows : List Row) → RowsRise rows → StateFits r rows (eager_opening r rows)
opening_state r rows rises = record {
  loads = opening_fits (stored_keys r);
  cookies = record { rises = cookies_rise r rows rises; keyed = cookies_keyed r rows; stored = λ key e. refl };
}
