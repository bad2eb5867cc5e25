-- Loads, host after host: their cookies rise and are stored ones of the key; and where the rows are known, they are all.
use Rattle.std.proofs.Common.{◌≡◌, ℕ, List, [], ◌∷◌, ◌++◌, Bool, true, false, cond, refl, sym, ap, ◌∙◌}
use Rattle.std.specs.Prelude.{map, bytes_eq, ◌&&◌, ◌||◌, Option, None, Some, option_and_then}
use Rattle.std.specs.List.{AllZip, flat_map, list_all}
use Rattle.std.specs.List.Sorted.{IsStrictlySortedBy}
use Rattle.std.specs.Option.{option_or}
use Rattle.std.proofs.lemmas.List.Concat.{flat_map-append}
use Rattle.std.proofs.lemmas.List.Elements.{filter-append}
use Rattle.std.proofs.lemmas.List.Kept.{IsStrictlySortedBy-filter}
use Rattle.jar_types.specs.declared.cookie.Cookie.{Cookie}
use Rattle.jar_types.specs.declared.cookie.CookieId.{CookieId}
use Rattle.jar_types.specs.declared.row.Row.{Row}
use Rattle.jar_types.specs.Ids.{text_cmp, id_of, cookie_cmp, RisesById}
use Rattle.jar_types.specs.Journals.{Rules, key_at, is_stored, ids_rise}
use Rattle.jar_types.specs.Loads.{has_text}
use Rattle.jar_types.specs.Purges.{has_key}
use Rattle.jar_types.specs.RowChanges.{row_id, row_cmp, RowsRise}
use Rattle.jar_types.specs.Rows.{is_sound_row, cookie_in, cookie_of_row}
use Rattle.jar_types.specs.Stored.{hosts_of, cookies_of_rows, stored_cookies}
use Rattle.stored_law.specs.HostLoads.{has_host, rows_of_host, is_host_of, hosts_of_key, cookies_of_hosts, HostsAscend, LoadsAreHonest, StoredCookiesFit, IsOfHost, IsLoadOf, RowsAreOfHosts, LoadsBegin, LoadsGoOn, LoadsFit}
use Rattle.stored_law.proofs.AtLemmas.{at, found, at_same, same_lists}
use Rattle.stored_law.proofs.MadeLemmas.{found_filter, found_made}
use Rattle.stored_law.proofs.FoundLemmas.{find_append, find_sieved, find_none, all_filter, kept_where, or_none}
use Rattle.stored_law.proofs.HostLemmas.{rows_all, cookies_rise, host_of, lists_all, lists_rise, ids_rise_from, IsOfKey, hosts_of_key_are, stored_at, all_true}
use Rattle.stored_law.proofs.SoundLemmas.{cookie_id}
use Rattle.stored_law.proofs.TextLemmas.{text_is, text_itself, text_turned, Ascends, Under, not_under, ascending_ascends, ascending_has, left_has, all_there}
use Rattle.std.proofs.lemmas.Bool.{or_parts}
use Rattle.jar_types.proofs.FindLemmas.{find_passes}

pub hosts_ascend : HostsAscend
hosts_ascend rows = ascending_ascends (map (λ row. row.host) rows)

-- ---- a load begins and goes on

pub loads_begin : LoadsBegin
loads_begin r = record { lists = []; rows = tt; is = refl }

one_list : (r : Rules) (rows : List Row) → flat_map (cookies_of_rows r) (rows ∷ []) ≡ cookies_of_rows r rows
one_list r rows = end (cookies_of_rows r rows)
  where
    end : (cs : List Cookie) → cs ++ [] ≡ cs
    end [] = refl
    end (c ∷ cs) = ap (λ ds. c ∷ ds) (end cs)

zip_push : (hosts : List (List ℕ)) (lists : List (List Row)) (host : List ℕ) (rows : List Row) → AllZip IsOfHost hosts lists → IsOfHost host rows
    → AllZip IsOfHost (hosts ++ host ∷ []) (lists ++ rows ∷ [])
zip_push [] [] host rows zip one = (one, tt)
zip_push [] (rs ∷ lists) host rows zip one = absurd zip
zip_push (h ∷ hosts) [] host rows zip one = absurd zip
zip_push (h ∷ hosts) (rs ∷ lists) host rows zip one = (zip.0, zip_push hosts lists host rows zip.1 one)

pub loads_go_on : LoadsGoOn
loads_go_on r hosts cookies host rows load one = record {
  lists = load.lists ++ rows ∷ [];
  rows = zip_push hosts load.lists host rows load.rows one;
  is =
      ap (λ cs. cs ++ cookies_of_rows r rows) load.is
      ∙ sym (flat_map-append (cookies_of_rows r) load.lists (rows ∷ []) ∙ ap (λ cs. flat_map (cookies_of_rows r) load.lists ++ cs) (one_list r rows));
}

-- the hosts of a key, and the cookies of hosts, with one host more
pub hosts_of_key_go_on : (r : Rules) (key : List ℕ) (hosts : List (List ℕ)) (host : List ℕ)
    → hosts_of_key r key (hosts ++ host ∷ []) ≡ hosts_of_key r key hosts ++ cond (is_host_of r key host) (host ∷ []) []
hosts_of_key_go_on r key hosts host = filter-append (is_host_of r key) hosts (host ∷ [])

pub cookies_go_on : (r : Rules) (rows : List Row) (hosts : List (List ℕ)) (host : List ℕ)
    → cookies_of_hosts r rows (hosts ++ host ∷ []) ≡ cookies_of_hosts r rows hosts ++ cookies_of_rows r (rows_of_host host rows)
cookies_go_on r rows hosts host =
    let own = λ (h : List ℕ). cookies_of_rows r (rows_of_host h rows) in
    flat_map-append own hosts (host ∷ []) ∙ ap (λ cs. cookies_of_hosts r rows hosts ++ cs) (one_list r (rows_of_host host rows))

pub rows_are_of_hosts : RowsAreOfHosts
rows_are_of_hosts host rows rises = record {
  alone = all_filter (λ row. row.host ≡ host) (has_host host) (λ row e. text_is row.host host e) rows;
  rises = IsStrictlySortedBy-filter row_cmp (has_host host) rows rises;
}

pub loads_fit : LoadsFit
loads_fit r key cookies ascends load =
    let hosts = hosts_of_key r key r.hosts in
    let cs = flat_map (cookies_of_rows r) load.lists in
    let stored = all_true (is_stored r key) cs (lists_all (λ c. is_stored r key c ≡ true) (IsOfKey r key) r (λ row c of_key e. stored_at r key row (is_sound_row row) c refl of_key e) hosts load.lists (hosts_of_key_are r key r.hosts (all_there r.hosts)) load.rows) in
    let rise = ids_rise_from cs (lists_rise r hosts load.lists (IsStrictlySortedBy-filter text_cmp (is_host_of r key) r.hosts ascends) load.rows) in
    ap (λ ds. list_all (is_stored r key) ds && ids_rise ds) load.is
    ∙ ap (λ b. b && ids_rise cs) stored
    ∙ rise

-- ---- where the rows are known

-- the rows of these hosts are such a load
rows_by_host : (rows : List Row) → RowsRise rows → (hosts : List (List ℕ)) → AllZip IsOfHost hosts (map (λ host. rows_of_host host rows) hosts)
rows_by_host rows rises [] = tt
rows_by_host rows rises (host ∷ hosts) = (rows_are_of_hosts host rows rises, rows_by_host rows rises hosts)

cookies_by_host : (r : Rules) (rows : List Row) (hosts : List (List ℕ))
    → cookies_of_hosts r rows hosts ≡ flat_map (cookies_of_rows r) (map (λ host. rows_of_host host rows) hosts)
cookies_by_host r rows [] = refl
cookies_by_host r rows (host ∷ hosts) = ap (λ cs. cookies_of_rows r (rows_of_host host rows) ++ cs) (cookies_by_host r rows hosts)

pub known_load : (r : Rules) (rows : List Row) (hosts : List (List ℕ)) → RowsRise rows → IsLoadOf r hosts (cookies_of_hosts r rows hosts)
known_load r rows hosts rises = record {
  lists = map (λ host. rows_of_host host rows) hosts;
  rows = rows_by_host rows rises hosts;
  is = cookies_by_host r rows hosts;
}

-- a cookie of a host is found among those of the hosts where the host is among them
none_of_host : (r : Rules) (i : CookieId) (host : List ℕ) (rows : List Row) → bytes_eq i.host host ≡ false
    → found id_of i (cookies_of_rows r (rows_of_host host rows)) ≡ None
none_of_host r i host rows other =
    find_none (at id_of i) (cookies_of_rows r (rows_of_host host rows))
    (rows_all (λ c. at id_of i c ≡ false) (λ row. row.host ≡ host) r (λ row c is e. apart c (host_of r row c e ∙ is) (at id_of i c) refl) (rows_of_host host rows)
    (all_filter (λ row. row.host ≡ host) (has_host host) (λ row e. text_is row.host host e) rows))
  where
    apart : (c : Cookie) → c.host ≡ host → (b : Bool) → at id_of i c ≡ b → at id_of i c ≡ false
    apart c is false e = e
    apart c is true e =
        let same : bytes_eq i.host host ≡ true = ap (λ j. bytes_eq j.host host) (at_same id_of i c e) ∙ ap (λ h. bytes_eq h host) is ∙ text_itself host in
        absurd cc

found_by_host_at : (r : Rules) (rows : List Row) (i : CookieId) (host : List ℕ) (hosts : List (List ℕ)) (same : Bool) → bytes_eq i.host host ≡ same → Under host hosts
    → found id_of i (cookies_of_hosts r rows hosts) ≡ cond (has_text i.host hosts) (found id_of i (cookies_of_rows r (rows_of_host i.host rows))) None
    → option_or (found id_of i (cookies_of_rows r (rows_of_host host rows))) (found id_of i (cookies_of_hosts r rows hosts))
    ≡ cond (same || has_text i.host hosts) (found id_of i (cookies_of_rows r (rows_of_host i.host rows))) None
found_by_host_at r rows i host hosts true is under e =
    let own = text_is i.host host is in
    let gone : has_text i.host hosts ≡ false = ap (λ h. has_text h hosts) own ∙ not_under host hosts under in
    ap (option_or (found id_of i (cookies_of_rows r (rows_of_host host rows)))) (e ∙ ap (λ b. cond b (found id_of i (cookies_of_rows r (rows_of_host i.host rows))) None) gone)
    ∙ or_none (found id_of i (cookies_of_rows r (rows_of_host host rows)))
    ∙ ap (λ h. found id_of i (cookies_of_rows r (rows_of_host h rows))) (sym own)
found_by_host_at r rows i host hosts false is under e =
    ap (λ o. option_or o (found id_of i (cookies_of_hosts r rows hosts))) (none_of_host r i host rows is) ∙ e

found_by_host : (r : Rules) (rows : List Row) (i : CookieId) (hosts : List (List ℕ)) → Ascends hosts
    → found id_of i (cookies_of_hosts r rows hosts) ≡ cond (has_text i.host hosts) (found id_of i (cookies_of_rows r (rows_of_host i.host rows))) None
unfolding IsStrictlySortedBy
found_by_host r rows i [] ascends = refl
found_by_host r rows i (host ∷ hosts) ascends =
    find_append (at id_of i) (cookies_of_rows r (rows_of_host host rows)) (cookies_of_hosts r rows hosts)
    ∙ found_by_host_at r rows i host hosts (bytes_eq i.host host) refl ascends.0 (found_by_host r rows i hosts ascends.1)

-- the cookie of an id is that of its row
pub found_cookie : (r : Rules) (rows : List Row) (i : CookieId) → RowsRise rows
    → found id_of i (cookies_of_rows r rows) ≡ option_and_then (cookie_of_row r.key_of) (found row_id i rows)
found_cookie r rows i rises = found_made row_id id_of (cookie_of_row r.key_of) (cookie_id r.key_of) i rows rises

row_has_host : (i : CookieId) (row : Row) → at row_id i row ≡ true → has_host i.host row ≡ true
row_has_host i row e = ap (λ j. bytes_eq row.host j.host) (at_same row_id i row e) ∙ text_itself row.host

found_of_host : (r : Rules) (rows : List Row) (i : CookieId) → RowsRise rows
    → found id_of i (cookies_of_rows r (rows_of_host i.host rows)) ≡ option_and_then (cookie_of_row r.key_of) (found row_id i rows)
found_of_host r rows i rises =
    found_cookie r (rows_of_host i.host rows) i (IsStrictlySortedBy-filter row_cmp (has_host i.host) rows rises)
    ∙ ap (option_and_then (cookie_of_row r.key_of)) (find_sieved (at row_id i) (has_host i.host) (λ row e. row_has_host i row e) rows)

-- a row that is there has its host among the hosts
row_there : (i : CookieId) (rows : List Row) → has_text i.host (map (λ row. row.host) rows) ≡ false → found row_id i rows ≡ None
row_there i [] none = refl
row_there i (row ∷ rows) none =
    let parts = or_parts (bytes_eq i.host row.host) (has_text i.host (map (λ row. row.host) rows)) none in
    ap (λ b. cond b (Some row) (found row_id i rows)) (apart (at row_id i row) refl parts.0) ∙ row_there i rows parts.1
  where
    apart : (b : Bool) → at row_id i row ≡ b → bytes_eq i.host row.host ≡ false → at row_id i row ≡ false
    apart false e other = e
    apart true e other = let same : bytes_eq i.host row.host ≡ true = text_turned i.host row.host ∙ row_has_host i row e in absurd cc

pub host_there : (i : CookieId) (rows : List Row) (row : Row) → found row_id i rows ≡ Some row → has_text i.host (hosts_of rows) ≡ true
host_there i rows row e = ascending_has i.host (map (λ row. row.host) rows) ∙ at_host (has_text i.host (map (λ row. row.host) rows)) refl
  where
    at_host : (b : Bool) → has_text i.host (map (λ row. row.host) rows) ≡ b → b ≡ true
    at_host true is = refl
    at_host false is = let no : Some row ≡ None = sym e ∙ row_there i rows is in absurd cc

key_at_row : (r : Rules) (key : List ℕ) (row : Row) (b : Bool)
    → cond (bytes_eq key (key_at r row.host)) (cond b (Some (cookie_in (key_at r row.host) row)) None) None
    ≡ kept_where (has_key key) (cond b (Some (cookie_in (key_at r row.host) row)) None)
key_at_row r key row true = ap (λ t. cond t (Some (cookie_in (key_at r row.host) row)) None) (text_turned key (key_at r row.host))
key_at_row r key row false = none (bytes_eq key (key_at r row.host))
  where
    none : (b : Bool) → cond b None None ≡ (let none : Option Cookie = None in none)
    none true = refl
    none false = refl

honest_at : (r : Rules) (rows : List Row) (key : List ℕ) (i : CookieId) (o : Option Row) → found row_id i rows ≡ o
    → cond (has_text i.host (hosts_of rows) && is_host_of r key i.host) (option_and_then (cookie_of_row r.key_of) o) None
    ≡ kept_where (has_key key) (option_and_then (cookie_of_row r.key_of) o)
honest_at r rows key i None is = none (has_text i.host (hosts_of rows) && is_host_of r key i.host)
  where
    none : (b : Bool) → cond b None None ≡ (let none : Option Cookie = None in none)
    none true = refl
    none false = refl
honest_at r rows key i (Some row) is =
    let own : i ≡ row_id row = at_same row_id i row (find_passes (at row_id i) rows row is) in
    ap (λ b. cond (b && is_host_of r key i.host) (cookie_of_row r.key_of row) None) (host_there i rows row is)
    ∙ ap (λ j. cond (is_host_of r key j.host) (cookie_of_row r.key_of row) None) own
    ∙ key_at_row r key row (is_sound_row row)

pub loads_are_honest : LoadsAreHonest
loads_are_honest r rows key rises =
    let all = hosts_of rows in
    let hosts = hosts_of_key r key all in
    let ascends = IsStrictlySortedBy-filter text_cmp (is_host_of r key) all (hosts_ascend rows) in
    let rise : RisesById (cookies_of_hosts r rows hosts) =
    rw (cookies_by_host r rows hosts) (lists_rise r hosts (map (λ host. rows_of_host host rows) hosts) ascends (rows_by_host rows rises hosts)) in
    let stored_rise : RisesById (stored_cookies r rows key) = IsStrictlySortedBy-filter cookie_cmp (has_key key) (cookies_of_rows r rows) (cookies_rise r rows rises) in
    same_lists id_of (cookies_of_hosts r rows hosts) (stored_cookies r rows key) rise stored_rise λ i.
    found_by_host r rows i hosts ascends
    ∙ ap (λ b. cond b (found id_of i (cookies_of_rows r (rows_of_host i.host rows))) None) (left_has (is_host_of r key) i.host all)
    ∙ ap (λ o. cond (has_text i.host all && is_host_of r key i.host) o None) (found_of_host r rows i rises)
    ∙ honest_at r rows key i (found row_id i rows) refl
    ∙ sym (found_filter id_of i (has_key key) (cookies_of_rows r rows) (cookies_rise r rows rises) ∙ ap (kept_where (has_key key)) (found_cookie r rows i rises))

pub stored_cookies_fit : StoredCookiesFit
stored_cookies_fit r rows key rises same =
    let hosts = hosts_of_key r key r.hosts in
    let load = known_load r rows hosts rises in
    let ascends : Ascends r.hosts = rw same (hosts_ascend rows) in
    let fits = loads_fit r key (cookies_of_hosts r rows hosts) ascends load in
    let is : cookies_of_hosts r rows hosts ≡ stored_cookies r rows key =
    ap (λ hs. cookies_of_hosts r rows (hosts_of_key r key hs)) same ∙ loads_are_honest r rows key rises in
    ap (λ cs. list_all (is_stored r key) cs && ids_rise cs) (sym is) ∙ fits
