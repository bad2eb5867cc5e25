-- Laws of loads, which ask for the rows of one host after another: the cookies of a key's hosts are those that are stored
-- of the key, and a load of them fits. This jar's own rule: docs/DEFINITIONS.md.
use Rattle.std.specs.Prelude.{◌≡◌, ℕ, List, [], ◌∷◌, ◌++◌, filter, Bool, true, bytes_eq}
use Rattle.std.specs.List.{AllByRecursion, AllZip, flat_map}
use Rattle.std.specs.List.Sorted.{IsStrictlySortedBy}
use Rattle.jar_types.specs.declared.cookie.Cookie.{Cookie}
use Rattle.jar_types.specs.declared.entry.Own.TheVariants.{Loaded}
use Rattle.jar_types.specs.declared.row.Row.{Row}
use Rattle.jar_types.specs.Ids.{text_cmp}
use Rattle.jar_types.specs.Journals.{Rules, key_at, own_fits}
use Rattle.jar_types.specs.RowChanges.{RowsRise}
use Rattle.jar_types.specs.Stored.{hosts_of, cookies_of_rows, stored_cookies}

-- ---- hosts and their rows

-- the row is of the host
abbrev pub has_host : List ℕ → Row → Bool
has_host host row = bytes_eq row.host host

-- the rows of a host
abbrev pub rows_of_host : List ℕ → List Row → List Row
rows_of_host host rows = filter (has_host host) rows

-- the key is that of the host
abbrev pub is_host_of : Rules → List ℕ → List ℕ → Bool
is_host_of r key host = bytes_eq key (key_at r host)

-- the hosts of a key
abbrev pub hosts_of_key : Rules → List ℕ → List (List ℕ) → List (List ℕ)
hosts_of_key r key hosts = filter (is_host_of r key) hosts

-- the cookies that the rows of these hosts stand for, host after host
abbrev pub cookies_of_hosts : Rules → List Row → List (List ℕ) → List Cookie
cookies_of_hosts r rows hosts = flat_map (λ host. cookies_of_rows r (rows_of_host host rows)) hosts

-- the hosts of rows ascend, and no two are the same
abbrev pub HostsAscend : Type 0
HostsAscend = (rows : List Row) → IsStrictlySortedBy text_cmp (hosts_of rows)

-- ---- where the rows are known

-- the cookies of a key's hosts, host after host, are those that are stored of the key
abbrev pub LoadsAreHonest : Type 0
LoadsAreHonest =
    (r : Rules) (rows : List Row) (key : List ℕ) → RowsRise rows
    → cookies_of_hosts r rows (hosts_of_key r key (hosts_of rows)) ≡ stored_cookies r rows key

-- a load of all that is stored of a key fits
abbrev pub StoredCookiesFit : Type 0
StoredCookiesFit =
    (r : Rules) (rows : List Row) (key : List ℕ) → RowsRise rows → r.hosts ≡ hosts_of rows
    → own_fits r (Loaded key (stored_cookies r rows key)) ≡ true

-- ---- where they aren't known

-- the rows are of the host alone, and their ids rise
pub record IsOfHost (host : List ℕ) (rows : List Row) : Type 0 where
  pub alone : AllByRecursion (λ row. row.host ≡ host) rows
  pub rises : RowsRise rows

-- the cookies are those of some rows of each of these hosts, host after host
pub record IsLoadOf (r : Rules) (hosts : List (List ℕ)) (cookies : List Cookie) : Type 0 where
  pub lists : List (List Row)
  pub rows : AllZip IsOfHost hosts lists
  pub is : cookies ≡ flat_map (cookies_of_rows r) lists

-- the rows of a host, of rows that rise, are of the host alone, and rise
abbrev pub RowsAreOfHosts : Type 0
RowsAreOfHosts = (host : List ℕ) (rows : List Row) → RowsRise rows → IsOfHost host (rows_of_host host rows)

-- a load begins without hosts and cookies
abbrev pub LoadsBegin : Type 0
LoadsBegin = (r : Rules) → IsLoadOf r [] []

-- it goes on with the cookies of one host more
abbrev pub LoadsGoOn : Type 0
LoadsGoOn =
    (r : Rules) (hosts : List (List ℕ)) (cookies : List Cookie) (host : List ℕ) (rows : List Row)
    → IsLoadOf r hosts cookies → IsOfHost host rows → IsLoadOf r (hosts ++ host ∷ []) (cookies ++ cookies_of_rows r rows)

-- a load of all hosts of a key fits
abbrev pub LoadsFit : Type 0
LoadsFit =
    (r : Rules) (key : List ℕ) (cookies : List Cookie) → IsStrictlySortedBy text_cmp r.hosts
    → IsLoadOf r (hosts_of_key r key r.hosts) cookies → own_fits r (Loaded key cookies) ≡ true
