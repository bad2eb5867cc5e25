-- The stored cookies of a key, host after host.
use Rattle.std.proofs.Common.{◌≡◌, ◌<◌, ◌+◌, ℕ, List, [], ◌∷◌, ◌++◌, Bool, true, false, cond, Option, None, Some, length, map, take, get_or, refl, ap, sym, ◌∙◌, subst}
use Rattle.std.specs.Prelude.{◌||◌, bytes_eq, filter, find, option_map}
use Rattle.std.specs.List.Sorted.{IsStrictlySortedBy}
use Rattle.std.proofs.lemmas.List.{take_more}
use Rattle.jar_types.specs.declared.cookie.Cookie.{Cookie}
use Rattle.jar_types.specs.declared.row.Row.{Row}
use Rattle.jar_types.specs.declared.entry.Own.TheVariants.{Loaded}
use Rattle.jar_types.specs.Ids.{text_cmp}
use Rattle.jar_types.specs.Journals.{Rules, own_fits}
use Rattle.jar_types.specs.Loads.{has_text}
use Rattle.jar_types.specs.RowChanges.{RowsRise}
use Rattle.jar_types.specs.Stored.{cookies_of_rows}
use Rattle.jar_values.specs.Hosts.{undotted}
use Rattle.jar_keeper.specs.HostRows.{AreOfHost}
use Rattle.key_loader.specs.declared.group.Group.{Group}
use Rattle.key_loader.specs.Groups.{group_in, groups_among, hosts_of, keys_among}
use Rattle.stored_law.specs.HostLoads.{IsLoadOf, cookies_of_hosts, hosts_of_key, rows_of_host}
use Rattle.stored_law.proofs.LoadLemmas.{cookies_go_on, loads_fit, loads_go_on}
use Rattle.stored_law.proofs.TextLemmas.{ascending_has, text_is}
use Rattle.store_vault.specs.Loading.{cookies_over}

-- one host more
longer : (hosts : List (List ℕ)) (i : ℕ) (host : List ℕ) → i < length hosts → host ≡ get_or hosts i host → take (i + 1) hosts ≡ take i hosts ++ host ∷ []
longer hosts i host within read = take_more hosts i host within ∙ ap (λ (h : List ℕ). take i hosts ++ h ∷ []) (sym read)

-- a load goes on with the rows of one host more
pub load_on : (r : Rules) (hosts : List (List ℕ)) (i : ℕ) (host : List ℕ) (cookies more : List Cookie) (rows : List Row) → i < length hosts → host ≡ get_or hosts i host
    → IsLoadOf r (take i hosts) cookies → AreOfHost host rows × RowsRise rows → more ≡ cookies ++ cookies_of_rows r rows
    → IsLoadOf r (take (i + 1) hosts) more
load_on r hosts i host cookies more rows within read load own is =
    rw (longer hosts i host within read, is) (loads_go_on r (take i hosts) cookies host rows load (record { alone = own.0; rises = own.1 }))

-- and with those of the rows that are held
pub held_on : (r : Rules) (held : List Row) (hosts : List (List ℕ)) (i : ℕ) (host : List ℕ) (cookies more : List Cookie) (rows : List Row) → i < length hosts → host ≡ get_or hosts i host
    → cookies ≡ cookies_of_hosts r held (take i hosts) → rows ≡ rows_of_host host held → more ≡ cookies ++ cookies_of_rows r rows
    → more ≡ cookies_of_hosts r held (take (i + 1) hosts)
held_on r held hosts i host cookies more rows within read so_far own is =
    is
    ∙ (ap (λ cs. cs ++ cookies_of_rows r rows) so_far
    ∙ (ap (λ own. cookies_of_hosts r held (take i hosts) ++ cookies_of_rows r own) own
    ∙ (sym (cookies_go_on r held (take i hosts) host) ∙ ap (cookies_of_hosts r held) (sym (longer hosts i host within read)))))

-- ---- the hosts of a key

abbrev found_in : (List ℕ → List ℕ) → List (List ℕ) → List ℕ → List (List ℕ) → Option (List (List ℕ))
found_in keys hosts key among = hosts_of key (map (group_in keys hosts) among)

some_is : (a b : List (List ℕ)) → Some a ≡ Some b → a ≡ b
some_is a b e = cc

group_at : (is : Bool) (keys : List ℕ → List ℕ) (hosts : List (List ℕ)) (key k : List ℕ) (ks : List (List ℕ)) (found : List (List ℕ)) → bytes_eq key k ≡ is
    → (found_in keys hosts key ks ≡ Some found → found ≡ filter (λ host. bytes_eq key (keys (undotted host))) hosts)
    → option_map (λ (g : Group). g.hosts) (cond is (Some (group_in keys hosts k)) (find (λ (g : Group). bytes_eq key g.key) (map (group_in keys hosts) ks))) ≡ Some found
    → found ≡ filter (λ host. bytes_eq key (keys (undotted host))) hosts
group_at true keys hosts key k ks found e rest is =
    let same : key ≡ k = text_is key k e in
    sym (some_is (group_in keys hosts k).hosts found is) ∙ ap (λ j. filter (λ host. bytes_eq j (keys (undotted host))) hosts) (sym same)
group_at false keys hosts key k ks found e rest is = rest is

-- the group of a key has the hosts of the key
group_found : (keys : List ℕ → List ℕ) (hosts : List (List ℕ)) (key : List ℕ) (among found : List (List ℕ)) → found_in keys hosts key among ≡ Some found
    → found ≡ filter (λ host. bytes_eq key (keys (undotted host))) hosts
group_found keys hosts key [] found is = absurd cc
group_found keys hosts key (k ∷ ks) found is = group_at (bytes_eq key k) keys hosts key k ks found refl (group_found keys hosts key ks found) is

missing_at : (is : Bool) (keys : List ℕ → List ℕ) (hosts : List (List ℕ)) (key k : List ℕ) (ks : List (List ℕ)) → bytes_eq key k ≡ is
    → (found_in keys hosts key ks ≡ None → has_text key ks ≡ false)
    → option_map (λ (g : Group). g.hosts) (cond is (Some (group_in keys hosts k)) (find (λ (g : Group). bytes_eq key g.key) (map (group_in keys hosts) ks))) ≡ None
    → (is || has_text key ks) ≡ false
missing_at true keys hosts key k ks e rest is = absurd cc
missing_at false keys hosts key k ks e rest is = rest is

group_missing : (keys : List ℕ → List ℕ) (hosts : List (List ℕ)) (key : List ℕ) (among : List (List ℕ)) → found_in keys hosts key among ≡ None → has_text key among ≡ false
group_missing keys hosts key [] is = refl
group_missing keys hosts key (k ∷ ks) is = missing_at (bytes_eq key k) keys hosts key k ks refl (group_missing keys hosts key ks) is

none_at : (is : Bool) (host : List ℕ) (rest : List (List ℕ)) (more : Bool) → (is || more) ≡ false → (more ≡ false → rest ≡ []) → cond is (host ∷ rest) rest ≡ []
none_at true host rest more none f = absurd cc
none_at false host rest more none f = f none

no_hosts : (keys : List ℕ → List ℕ) (key : List ℕ) (hosts : List (List ℕ)) → has_text key (map (λ host. keys (undotted host)) hosts) ≡ false
    → filter (λ host. bytes_eq key (keys (undotted host))) hosts ≡ []
no_hosts keys key [] none = refl
no_hosts keys key (h ∷ hs) none =
    none_at (bytes_eq key (keys (undotted h))) h (filter (λ host. bytes_eq key (keys (undotted host))) hs) (has_text key (map (λ host. keys (undotted host)) hs)) none
    (no_hosts keys key hs)

-- the hosts of a key by the plan of these rules
abbrev pub planned : Rules → List ℕ → Option (List (List ℕ))
planned r key = hosts_of key (groups_among r.key_of r.hosts)

pub plan_hosts : (r : Rules) (key : List ℕ) (found : List (List ℕ)) → planned r key ≡ Some found → found ≡ hosts_of_key r key r.hosts
plan_hosts r key found is = group_found r.key_of r.hosts key (keys_among r.key_of r.hosts) found is

pub plan_without : (r : Rules) (key : List ℕ) → planned r key ≡ None → hosts_of_key r key r.hosts ≡ []
plan_without r key is =
    no_hosts r.key_of key r.hosts
    (sym (ascending_has key (map (λ host. r.key_of (undotted host)) r.hosts)) ∙ group_missing r.key_of r.hosts key (keys_among r.key_of r.hosts) is)

-- ---- what the load of a key gives

pub some_fit : (r : Rules) (key : List ℕ) (cookies : List Cookie) (found : List (List ℕ)) → IsStrictlySortedBy text_cmp r.hosts
    → planned r key ≡ Some found → IsLoadOf r found cookies → own_fits r (Loaded key cookies) ≡ true
some_fit r key cookies found rises is load = loads_fit r key cookies rises (subst (λ hs. IsLoadOf r hs cookies) (plan_hosts r key found is) load)

pub none_fit : (r : Rules) (key : List ℕ) (cookies : List Cookie) → cookies ≡ [] → own_fits r (Loaded key cookies) ≡ true
none_fit r key cookies none = rw none refl

pub some_over : (r : Rules) (key : List ℕ) (held : List Row) (cookies : List Cookie) (found : List (List ℕ)) → planned r key ≡ Some found
    → cookies ≡ cookies_of_hosts r held found → cookies ≡ cookies_over r held key
some_over r key held cookies found is all = all ∙ ap (cookies_of_hosts r held) (plan_hosts r key found is)

pub none_over : (r : Rules) (key : List ℕ) (held : List Row) (cookies : List Cookie) → planned r key ≡ None → cookies ≡ [] → cookies ≡ cookies_over r held key
none_over r key held cookies is none = none ∙ sym (ap (cookies_of_hosts r held) (plan_without r key is))
