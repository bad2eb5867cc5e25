-- The cookies of the rows of one host after another: they rise, and are stored ones of the key.
use Rattle.std.proofs.Common.{◌≡◌, ℕ, List, [], ◌∷◌, Bool, true, false, cond, refl, sym, ap, ◌∙◌}
use Rattle.std.specs.Prelude.{map, bytes_eq, ◌&&◌, ◌||◌, Option, None, Some, option_to_list}
use Rattle.std.specs.List.{AllByRecursion, AllZip, cons_option, flat_map, list_all, list_any}
use Rattle.std.specs.List.Sorted.{IsStrictlySortedBy}
use Rattle.std.specs.Ordering.{is_lt, ordering_then}
use Rattle.std.specs.declared.cmp.Ordering.TheVariants.{Less}
use Rattle.jar_types.specs.declared.cookie.Cookie.{Cookie}
use Rattle.jar_types.specs.declared.row.Row.{Row}
use Rattle.jar_types.specs.Ids.{text_cmp, id_of, cookie_cmp, RisesById}
use Rattle.jar_types.specs.Journals.{Rules, key_at, is_stored, ids_rise}
use Rattle.jar_types.specs.Loads.{has_text}
use Rattle.jar_types.specs.RowChanges.{row_id, RowsRise}
use Rattle.jar_types.specs.Rows.{is_sound_row, cookie_in, cookie_of_row}
use Rattle.jar_types.specs.Stored.{cookies_of_rows}
use Rattle.stored_law.specs.HostLoads.{is_host_of, hosts_of_key, HostsAscend, IsOfHost}
use Rattle.stored_law.proofs.AtLemmas.{Below, append_rises}
use Rattle.stored_law.proofs.MadeLemmas.{made_rises}
use Rattle.stored_law.proofs.FoundLemmas.{all_append}
use Rattle.stored_law.proofs.SoundLemmas.{row_again, cookie_id}
use Rattle.stored_law.proofs.TextLemmas.{text_is, text_itself, Ascends, ascending_ascends}

pub hosts_ascend : HostsAscend
hosts_ascend rows = ascending_ascends (map (λ row. row.host) rows)

-- ---- what the cookies of rows have

made_all_at : (P : Cookie → Type 0) (made : Option Cookie) (left : List Cookie) → ((c : Cookie) → made ≡ Some c → P c) → AllByRecursion P left
    → AllByRecursion P (cons_option made left)
made_all_at P None left holds all = all
made_all_at P (Some c) left holds all = (holds c refl, all)

-- what each cookie has whose row is one of these
pub rows_all : (P : Cookie → Type 0) (Q : Row → Type 0) (r : Rules) → ((row : Row) (c : Cookie) → Q row → cookie_of_row r.key_of row ≡ Some c → P c)
    → (rows : List Row) → AllByRecursion Q rows → AllByRecursion P (cookies_of_rows r rows)
rows_all P Q r holds [] all = tt
rows_all P Q r holds (row ∷ rows) all =
    made_all_at P (cookie_of_row r.key_of row) (cookies_of_rows r rows) (λ c e. holds row c all.0 e) (rows_all P Q r holds rows all.1)

-- what each cookie of a load has
pub lists_all : (P : Cookie → Type 0) (Q : List ℕ → Type 0) (r : Rules) → ((row : Row) (c : Cookie) → Q row.host → cookie_of_row r.key_of row ≡ Some c → P c)
    → (hosts : List (List ℕ)) (lists : List (List Row)) → AllByRecursion Q hosts → AllZip IsOfHost hosts lists
    → AllByRecursion P (flat_map (cookies_of_rows r) lists)
lists_all P Q r holds [] [] all zip = tt
lists_all P Q r holds [] (rows ∷ lists) all zip = absurd zip
lists_all P Q r holds (host ∷ hosts) [] all zip = absurd zip
lists_all P Q r holds (host ∷ hosts) (rows ∷ lists) all zip =
    all_append P (cookies_of_rows r rows) (flat_map (cookies_of_rows r) lists)
    (rows_all P (λ row. row.host ≡ host) r (λ row c is e. holds row c (rw is all.0) e) rows zip.0.alone)
    (lists_all P Q r holds hosts lists all.1 zip.1)

-- ---- they rise

pub cookies_rise : (r : Rules) (rows : List Row) → RowsRise rows → RisesById (cookies_of_rows r rows)
cookies_rise r rows rises = made_rises row_id id_of (cookie_of_row r.key_of) (cookie_id r.key_of) rows rises

pub host_of : (r : Rules) (row : Row) (c : Cookie) → cookie_of_row r.key_of row ≡ Some c → c.host ≡ row.host
host_of r row c e = ap (λ i. i.host) (cookie_id r.key_of row c e)

less_by_host : (c d : Cookie) → text_cmp c.host d.host ≡ Less → cookie_cmp c d ≡ Less
less_by_host c d e =
    ap (λ w. ordering_then w (ordering_then (text_cmp c.name d.name) (text_cmp c.path d.path))) e

pub lists_rise : (r : Rules) (hosts : List (List ℕ)) (lists : List (List Row)) → Ascends hosts → AllZip IsOfHost hosts lists
    → RisesById (flat_map (cookies_of_rows r) lists)
unfolding IsStrictlySortedBy
lists_rise r [] [] ascends zip = tt
lists_rise r [] (rows ∷ lists) ascends zip = absurd zip
lists_rise r (host ∷ hosts) [] ascends zip = absurd zip
lists_rise r (host ∷ hosts) (rows ∷ lists) ascends zip =
    let rest = flat_map (cookies_of_rows r) lists in
    append_rises id_of (cookies_of_rows r rows) rest (cookies_rise r rows zip.0.rises) (lists_rise r hosts lists ascends.1 zip.1)
    (rows_all (λ c. Below id_of c rest) (λ row. row.host ≡ host) r (
    λ row c is e.
    let at_host : c.host ≡ host = host_of r row c e ∙ is in
    lists_all (λ d. cookie_cmp c d ≡ Less) (λ other. text_cmp host other ≡ Less) r (
    λ row' d less e'.
    less_by_host c d (ap (λ h. text_cmp h d.host) at_host ∙ ap (text_cmp host) (host_of r row' d e') ∙ less)
    ) hosts lists ascends.0 zip.1
    ) rows zip.0.alone)

lt_all : (c : Cookie) (cs : List Cookie) → AllByRecursion (λ d. cookie_cmp c d ≡ Less) cs → list_all (λ d. is_lt (cookie_cmp c d)) cs ≡ true
lt_all c [] all = refl
lt_all c (d ∷ ds) all = ap (λ w. is_lt w && list_all (λ e. is_lt (cookie_cmp c e)) ds) all.0 ∙ lt_all c ds all.1

pub ids_rise_from : (cs : List Cookie) → RisesById cs → ids_rise cs ≡ true
unfolding IsStrictlySortedBy
ids_rise_from [] rises = refl
ids_rise_from (c ∷ cs) rises = ap (λ b. b && ids_rise cs) (lt_all c cs rises.0) ∙ ids_rise_from cs rises.1

-- ---- they are stored ones of the key

-- the host is a stored one of the key
pub record IsOfKey (r : Rules) (key host : List ℕ) : Type 0 where
  pub of : bytes_eq key (key_at r host) ≡ true
  pub stored : has_text host r.hosts ≡ true

pub hosts_of_key_are : (r : Rules) (key : List ℕ) (hosts : List (List ℕ)) → AllByRecursion (λ host. has_text host r.hosts ≡ true) hosts
    → AllByRecursion (IsOfKey r key) (hosts_of_key r key hosts)
hosts_of_key_are r key [] all = tt
hosts_of_key_are r key (host ∷ hosts) all = at_head (is_host_of r key host) refl (hosts_of_key_are r key hosts all.1)
  where
    at_head : (b : Bool) → is_host_of r key host ≡ b → AllByRecursion (IsOfKey r key) (hosts_of_key r key hosts)
        → AllByRecursion (IsOfKey r key) (cond b (host ∷ hosts_of_key r key hosts) (hosts_of_key r key hosts))
    at_head true is rest = (record { of = is; stored = all.0 }, rest)
    at_head false is rest = rest

pub stored_at : (r : Rules) (key : List ℕ) (row : Row) (b : Bool) (c : Cookie) → is_sound_row row ≡ b → IsOfKey r key row.host
    → cond b (Some (cookie_in (key_at r row.host) row)) None ≡ Some c → is_stored r key c ≡ true
stored_at r key row false c sound of_key e = absurd cc
stored_at r key row true c sound of_key e =
    let is : cookie_in (key_at r row.host) row ≡ c = cc in
    let own : key_at r row.host ≡ key = sym (text_is key (key_at r row.host) of_key.of) in
    rw (sym is) (
    ap (λ o. list_any is_sound_row (option_to_list o) && (bytes_eq (key_at r row.host) key && (bytes_eq key (key_at r row.host) && has_text row.host r.hosts))) (row_again (key_at r row.host) row sound)
    ∙ ap (λ b. (b || false) && (bytes_eq (key_at r row.host) key && (bytes_eq key (key_at r row.host) && has_text row.host r.hosts))) sound
    ∙ ap (λ k. bytes_eq k key && (bytes_eq key (key_at r row.host) && has_text row.host r.hosts)) own
    ∙ ap (λ b. b && (bytes_eq key (key_at r row.host) && has_text row.host r.hosts)) (text_itself key)
    ∙ ap (λ b. b && has_text row.host r.hosts) of_key.of
    ∙ of_key.stored
    )

pub all_true : (p : Cookie → Bool) (cs : List Cookie) → AllByRecursion (λ c. p c ≡ true) cs → list_all p cs ≡ true
all_true p [] all = refl
all_true p (c ∷ cs) all = ap (λ b. b && list_all p cs) all.0 ∙ all_true p cs all.1
