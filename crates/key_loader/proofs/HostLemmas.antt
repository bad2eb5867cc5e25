-- Groups of hosts: one more host, and the group of a key.
use Rattle.std.proofs.Common.{◌≡◌, ℕ, zero, suc, ◌<◌, List, [], ◌∷◌, ◌++◌, Bool, true, false, cond, length, get_or, set, take, refl, sym, ap, ◌∙◌, subst, arith}
use Rattle.std.specs.Prelude.{◌+◌, filter, find, map, None, Some, option_map}
use Rattle.std.specs.List.{AllByRecursion}
use Rattle.std.specs.List.Sorted.{IsStrictlySortedBy}
use Rattle.std.specs.Str.{bytes_eq}
use Rattle.std.specs.declared.cmp.Ordering.TheVariants.{Less, Greater}
use Rattle.std.proofs.lemmas.Bool.{false_from_ne_true}
use Rattle.std.proofs.lemmas.List.{append-nil, take_more}
use Rattle.std.proofs.lemmas.List.Elements.{filter-append}
use Rattle.jar_values.specs.Hosts.{undotted}
use Rattle.jar_types.specs.Ids.{text_cmp}
use Rattle.jar_types.specs.Loads.{has_text}
use Rattle.key_loader.specs.declared.group.Group.{Group}
use Rattle.key_loader.specs.Groups.{group_in, hosted, hosts_of, keys_of, with_host, without_hosts}
use Rattle.key_loader.specs.Places.{IsPlaceOf, key_at}
use Rattle.key_loader.proofs.OrderLemmas.{apart, flipped, same_text, equal_text}
use Rattle.key_loader.proofs.PlaceLemmas.{apart_from}

-- ---- the keys of groups

pub keys_without : (keys : List (List ℕ)) → keys_of (map without_hosts keys) ≡ keys
keys_without [] = refl
keys_without (k ∷ ks) = ap (λ xs. k ∷ xs) (keys_without ks)

pub keys_in : (key_of : List ℕ → List ℕ) (hosts keys : List (List ℕ)) → keys_of (map (group_in key_of hosts) keys) ≡ keys
keys_in key_of hosts [] = refl
keys_in key_of hosts (k ∷ ks) = ap (λ xs. k ∷ xs) (keys_in key_of hosts ks)

-- ---- one more host

none_hosted : (key host : List ℕ) (groups : List Group) → AllByRecursion (λ k. bytes_eq k key ≡ false) (keys_of groups)
    → with_host key host groups ≡ groups
none_hosted key host [] all = refl
none_hosted key host (g ∷ gs) all =
    ap (λ (b : Bool). cond b (record g { hosts = g.hosts ++ host ∷ [] }) g ∷ with_host key host gs) all.0
    ∙ ap (λ (rest : List Group). g ∷ rest) (none_hosted key host gs all.1)

-- the group of the key, with the host
abbrev pub more : List ℕ → Group → Group
more host g = record g { hosts = g.hosts ++ host ∷ [] }

after_differ : (key x : List ℕ) (keys : List (List ℕ)) → x ≡ key → AllByRecursion (λ k. text_cmp x k ≡ Less) keys
    → AllByRecursion (λ k. bytes_eq k key ≡ false) keys
after_differ key x [] e all = tt
after_differ key x (k ∷ ks) e all =
    (ap (bytes_eq k) (sym e) ∙ apart k x Greater (flipped x k Less all.0) refl, after_differ key x ks e all.1)

later_key : (x : List ℕ) (keys : List (List ℕ)) (i : ℕ) → AllByRecursion (λ k. text_cmp x k ≡ Less) keys → i < length keys
    → text_cmp x (key_at keys i) ≡ Less
later_key x [] i all i_in = absurd (omega arith)
later_key x (k ∷ ks) zero all i_in = all.0
later_key x (k ∷ ks) (suc i) all i_in = later_key x ks i all.1 (omega arith)

pub host_set : (key host : List ℕ) (groups : List Group) (i : ℕ) (d : Group) → IsStrictlySortedBy text_cmp (keys_of groups)
    → IsPlaceOf key (keys_of groups) (Some i) → set groups i (more host (get_or groups i d)) ≡ with_host key host groups
unfolding IsStrictlySortedBy
host_set key host [] i d rises at = refl
host_set key host (g ∷ gs) zero d rises at =
    ap (λ (b : Bool). cond b (more host g) g ∷ gs) (sym (ap (λ k. bytes_eq k key) at.1 ∙ same_text key))
    ∙ ap (λ (rest : List Group). hosted key host g ∷ rest) (sym (none_hosted key host gs (after_differ key g.key (keys_of gs) at.1 rises.0)))
host_set key host (g ∷ gs) (suc i) d rises at =
    let later : text_cmp g.key (key_at (keys_of gs) i) ≡ Less = later_key g.key (keys_of gs) i rises.0 (omega arith) in
    let other : bytes_eq g.key key ≡ false = apart g.key key Less (ap (text_cmp g.key) (sym at.1) ∙ later) refl in
    ap (λ (b : Bool). cond b (more host g) g ∷ set gs i (more host (get_or gs i d))) (sym other)
    ∙ ap (λ (rest : List Group). hosted key host g ∷ rest) (host_set key host gs i d rises.1 (omega arith, at.1))

missing_differ : (key : List ℕ) (keys : List (List ℕ)) → has_text key keys ≡ false → AllByRecursion (λ k. bytes_eq k key ≡ false) keys
missing_differ key [] missing = tt
missing_differ key (k ∷ ks) missing =
    let both = apart_from (bytes_eq key k) (has_text key ks) missing in
    let other : bytes_eq k key ≡ true → ⊥ = λ e. same_twice (equal_text k key e) both.0 in
    (false_from_ne_true (bytes_eq k key) other, missing_differ key ks both.1)
  where
    same_twice : k ≡ key → bytes_eq key k ≡ false → ⊥
    same_twice e other =
        let same : bytes_eq key k ≡ true = subst (λ x. bytes_eq key x ≡ true) (sym e) (same_text key) in
        let never : true ≡ false = sym same ∙ other in absurd cc

pub host_missing : (key host : List ℕ) (groups : List Group) → has_text key (keys_of groups) ≡ false → groups ≡ with_host key host groups
host_missing key host groups missing = sym (none_hosted key host groups (missing_differ key (keys_of groups) missing))

-- ---- the groups of hosts, one host after the other

hosted_at : (key_of : List ℕ → List ℕ) (hosts : List (List ℕ)) (host key : List ℕ) (b : Bool) → bytes_eq key (key_of (undotted host)) ≡ b
    → cond b (more host (group_in key_of hosts key)) (group_in key_of hosts key) ≡ group_in key_of (hosts ++ host ∷ []) key
hosted_at key_of hosts host key b e =
    by_test b ∙ ap (λ (t : Bool). record { key = key; hosts = kept ++ cond t (host ∷ []) [] }) (sym e)
    ∙ ap (λ (hs : List (List ℕ)). record { key = key; hosts = hs }) (sym (filter-append (λ h. bytes_eq key (key_of (undotted h))) hosts (host ∷ [])))
  where
    kept : List (List ℕ)
    kept = filter (λ h. bytes_eq key (key_of (undotted h))) hosts

    by_test : (t : Bool) → cond t (more host (group_in key_of hosts key)) (group_in key_of hosts key) ≡ record { key = key; hosts = kept ++ cond t (host ∷ []) [] }
    by_test true = refl
    by_test false = ap (λ (hs : List (List ℕ)). record { key = key; hosts = hs }) (sym (append-nil kept))

pub host_added : (key_of : List ℕ → List ℕ) (hosts : List (List ℕ)) (host : List ℕ) (keys : List (List ℕ))
    → with_host (key_of (undotted host)) host (map (group_in key_of hosts) keys) ≡ map (group_in key_of (hosts ++ host ∷ [])) keys
host_added key_of hosts host [] = refl
host_added key_of hosts host (k ∷ ks) =
    ap (λ (g : Group). g ∷ with_host (key_of (undotted host)) host (map (group_in key_of hosts) ks)) (hosted_at key_of hosts host k (bytes_eq k (key_of (undotted host))) refl)
    ∙ ap (λ (gs : List Group). group_in key_of (hosts ++ host ∷ []) k ∷ gs) (host_added key_of hosts host ks)

pub groups_more : (key_of : List ℕ → List ℕ) (hosts : List (List ℕ)) (i : ℕ) (host : List ℕ) (keys : List (List ℕ)) → i < length hosts
    → host ≡ get_or hosts i host → with_host (key_of (undotted host)) host (map (group_in key_of (take i hosts)) keys)
    ≡ map (group_in key_of (take (i + 1) hosts)) keys
groups_more key_of hosts i host keys i_in read =
    let longer : take (i + 1) hosts ≡ take i hosts ++ host ∷ [] = take_more hosts i host i_in ∙ ap (λ (h : List ℕ). take i hosts ++ h ∷ []) (sym read) in
    host_added key_of (take i hosts) host keys ∙ ap (λ (hs : List (List ℕ)). map (group_in key_of hs) keys) (sym longer)

-- ---- the hosts of a key

pub hosts_at : (key : List ℕ) (groups : List Group) (i : ℕ) (d : Group) → IsStrictlySortedBy text_cmp (keys_of groups)
    → IsPlaceOf key (keys_of groups) (Some i) → Some (get_or groups i d).hosts ≡ hosts_of key groups
unfolding IsStrictlySortedBy
hosts_at key [] i d rises at = absurd (omega (arith, at.0))
hosts_at key (g ∷ gs) zero d rises at =
    ap (λ (b : Bool). option_map (λ (h : Group). h.hosts) (cond b (Some g) (find (λ (h : Group). bytes_eq key h.key) gs))) (sym (ap (bytes_eq key) at.1 ∙ same_text key))
hosts_at key (g ∷ gs) (suc i) d rises at =
    let later : text_cmp g.key (key_at (keys_of gs) i) ≡ Less = later_key g.key (keys_of gs) i rises.0 (omega arith) in
    let other : bytes_eq key g.key ≡ false = apart key g.key Greater (flipped g.key key Less (ap (text_cmp g.key) (sym at.1) ∙ later)) refl in
    hosts_at key gs i d rises.1 (omega arith, at.1)
    ∙ ap (λ (b : Bool). option_map (λ (h : Group). h.hosts) (cond b (Some g) (find (λ (h : Group). bytes_eq key h.key) gs))) (sym other)

pub hosts_missing : (key : List ℕ) (groups : List Group) → has_text key (keys_of groups) ≡ false → None ≡ hosts_of key groups
hosts_missing key [] missing = refl
hosts_missing key (g ∷ gs) missing =
    let both = apart_from (bytes_eq key g.key) (has_text key (keys_of gs)) missing in
    hosts_missing key gs both.1
    ∙ ap (λ (b : Bool). option_map (λ (h : Group). h.hosts) (cond b (Some g) (find (λ (h : Group). bytes_eq key h.key) gs))) (sym both.0)
