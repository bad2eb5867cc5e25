-- What a search in a rising list finds.
use Rattle.std.proofs.Common.{◌≡◌, ℕ, ◌<◌, ◌≤◌, List, [], false, ◌⊎◌, inl, inr, length, get_or, refl, sym, ap, ◌∙◌, subst, arith}
use Rattle.std.specs.Prelude.{◌+◌, nat_eq, is_ok, Option, Result, Ok, Err}
use Rattle.std.specs.List.Sorted.{IsBinarySearchResult, IsPartitionPoint, IsSearchInRange, IsSortedByKey, IsStrictlySortedBy}
use Rattle.std.specs.Ordering.{is_lt, nat_cmp}
use Rattle.std.specs.Result.{result_ok}
use Rattle.std.specs.Str.{bytes_eq}
use Rattle.std.specs.declared.cmp.Ordering.TheVariants.{Less, Greater}
use Rattle.std.proofs.lemmas.Bool.{cases_lt, eq-eqb, ne_eqb}
use Rattle.std.proofs.lemmas.Cmp.{nat_list_cmp_total}
use Rattle.std.proofs.lemmas.List.{get_or-map, length-map}
use Rattle.std.proofs.lemmas.List.Elements.{All-from_get_or}
use Rattle.std.proofs.lemmas.List.Folds.{list_any_at, list_any_none}
use Rattle.std.proofs.lemmas.List.Sorted.{searchable_from_sorted, searched}
use Rattle.std.proofs.lemmas.Map.Keys.{Less-from_sorted, non_decreasing_from_sorted}
use Rattle.std.proofs.lemmas.Map.Lookups.{exact_bytes}
use Rattle.jar_types.specs.Ids.{text_cmp}
use Rattle.key_loader.specs.declared.group.Group.{Group}
use Rattle.key_loader.specs.Groups.{keys_of, without_hosts}
use Rattle.key_loader.specs.Places.{IsPlaceOf, has_place, key_at}
use Rattle.key_loader.proofs.OrderLemmas.{apart, flipped}

-- ---- a place among others

pub place_there : (places : List ℕ) (place : ℕ) (r : Result ℕ ℕ) → IsBinarySearchResult (λ y. nat_cmp y place) places r
    → IsStrictlySortedBy nat_cmp places → is_ok r ≡ has_place place places
place_there places place (Ok i) found rises =
    let at = searched places place (Ok i) found (λ i j. non_decreasing_from_sorted places rises i j 0) in
    sym (list_any_at (nat_eq place) places i 0 at.0 (eq-eqb place (get_or places i 0) (sym at.1)))
place_there places place (Err i) found rises =
    let at = searched places place (Err i) found (λ i j. non_decreasing_from_sorted places rises i j 0) in
    sym (list_any_none (nat_eq place) places (All-from_get_or (λ y. nat_eq place y ≡ false) places 0 (λ k k_in. other k k_in (cases_lt k i) at.1 at.2)))
  where
    other : (k : ℕ) → k < length places → (k < i) ⊎ (i ≤ k) → ((k : ℕ) → k < i → get_or places k 0 < place)
        → ((k : ℕ) → i ≤ k → k < length places → place < get_or places k 0) → nat_eq place (get_or places k 0) ≡ false
    other k k_in (inl before) less more =
        let lt : get_or places k 0 < place = less k before in ne_eqb place (get_or places k 0) (λ e. absurd (omega arith))
    other k k_in (inr after) less more =
        let gt : place < get_or places k 0 = more k after k_in in ne_eqb place (get_or places k 0) (λ e. absurd (omega arith))

-- ---- a key among those of groups

abbrev key_in : Group → List ℕ
key_in g = g.key

-- some group, for where there is none
none : Group
none = without_hosts []

pub key_is : (groups : List Group) (i : ℕ) (d : Group) → i < length groups → key_at (keys_of groups) i ≡ (get_or groups i d).key
key_is groups i d i_in = get_or-map key_in groups i d [] i_in

in_order : (groups : List Group) → IsStrictlySortedBy text_cmp (keys_of groups) → IsSortedByKey key_in text_cmp groups
in_order groups rises k d low k_in =
    let next = Less-from_sorted text_cmp (keys_of groups) k (k + 1) [] rises (omega arith) (omega (arith, length-map groups key_in)) in
    let less : text_cmp (get_or groups k d).key (get_or groups (k + 1) d).key ≡ Less =
    sym (ap (text_cmp (get_or groups k d).key) (key_is groups (k + 1) d k_in)) ∙ sym (ap (λ x. text_cmp x (key_at (keys_of groups) (k + 1))) (key_is groups k d (omega arith))) ∙ next in
    ap is_lt (flipped (get_or groups k d).key (get_or groups (k + 1) d).key Less less)

pub place_found : (groups : List Group) (key : List ℕ) (r : Result ℕ ℕ) → IsSearchInRange r (length groups)
    → IsBinarySearchResult (λ (g : Group). text_cmp g.key key) groups r → IsStrictlySortedBy text_cmp (keys_of groups)
    → IsPlaceOf key (keys_of groups) (result_ok r)
place_found groups key (Ok i) bound found rises =
    (omega (arith, length-map groups key_in), key_is groups i none bound ∙ exact_bytes (get_or groups i none).key key (found none))
place_found groups key (Err i) bound found rises =
    list_any_none (bytes_eq key) (keys_of groups)
    (All-from_get_or (λ y. bytes_eq key y ≡ false) (keys_of groups) [] (λ k k_in. other k (omega (arith, length-map groups key_in)) (cases_lt k i)))
  where
    at : IsPartitionPoint (λ (g : Group). text_cmp g.key key ≡ Less) (λ (g : Group). text_cmp g.key key ≡ Greater) groups i
    at = found (searchable_from_sorted nat_list_cmp_total key_in groups key (in_order groups rises))

    other : (k : ℕ) → k < length groups → (k < i) ⊎ (i ≤ k) → bytes_eq key (key_at (keys_of groups) k) ≡ false
    other k k_in (inl before) =
        ap (bytes_eq key) (key_is groups k none k_in)
        ∙ apart key (get_or groups k none).key Greater (flipped (get_or groups k none).key key Less (at.0 k none (omega arith) before)) refl
    other k k_in (inr after) =
        ap (bytes_eq key) (key_is groups k none k_in)
        ∙ apart key (get_or groups k none).key Less (flipped (get_or groups k none).key key Greater (at.1 k none after k_in)) refl

-- the place is the same in the same groups
pub moved_place : (key : List ℕ) (r : Option ℕ) (xs ys : List Group) → xs ≡ ys → IsPlaceOf key (keys_of xs) r → IsPlaceOf key (keys_of ys) r
moved_place key r xs ys same at = subst (λ (gs : List Group). IsPlaceOf key (keys_of gs) r) same at
