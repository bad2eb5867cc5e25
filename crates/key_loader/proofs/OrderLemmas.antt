-- Texts in order: there is one way to list them so that they rise, each once.
use Rattle.std.proofs.Common.{◌≡◌, ℕ, List, [], ◌∷◌, Bool, true, false, ◌||◌, cond, refl, sym, ap, ◌∙◌, subst}
use Rattle.std.specs.Prelude.{map}
use Rattle.std.specs.Cmp.Lexicographic.{texts_ties}
use Rattle.std.specs.List.{AllByRecursion, dedup, dedup_from}
use Rattle.std.specs.List.Sorted.{IsPermutation, IsSorted, IsStrictlySortedBy}
use Rattle.std.specs.Ordering.{is_lt, is_eq, ordering_reverse}
use Rattle.std.specs.Str.{bytes_eq}
use Rattle.std.specs.declared.cmp.Ordering.{Ordering}
use Rattle.std.specs.declared.cmp.Ordering.TheVariants.{Less, Equal, Greater}
use Rattle.std.proofs.lemmas.Cmp.{nat_list_cmp_total}
use Rattle.std.proofs.lemmas.List.Kept.{IsStrictlySortedBy-dedup}
use Rattle.std.proofs.lemmas.List.Sorted.{list_any-IsPermutation}
use Rattle.std.proofs.lemmas.Map.Lookups.{exact_bytes}
use Rattle.std.proofs.lemmas.Map.Text.{is_eq-slice_cmp}
use Rattle.std.proofs.lemmas.Slice.Eq.{bytes_eq-Decides}
use Rattle.jar_types.specs.Ids.{text_cmp}
use Rattle.jar_types.specs.Loads.{has_text}
use Rattle.jar_types.specs.Orders.{placed_once, ascending}
use Rattle.jar_values.specs.Hosts.{undotted}
use Rattle.key_loader.specs.Groups.{keys_among}

pub same_text : (x : List ℕ) → bytes_eq x x ≡ true
same_text x = (bytes_eq-Decides x x).1 refl

pub equal_text : (x y : List ℕ) → bytes_eq x y ≡ true → x ≡ y
equal_text x y e = (bytes_eq-Decides x y).0 e

pub apart : (x y : List ℕ) (w : Ordering) → text_cmp x y ≡ w → is_eq w ≡ false → bytes_eq x y ≡ false
apart x y w e not_equal = sym (is_eq-slice_cmp x y) ∙ ap is_eq e ∙ not_equal

pub flipped : (x y : List ℕ) (w : Ordering) → text_cmp x y ≡ w → text_cmp y x ≡ ordering_reverse w
flipped x y w e = nat_list_cmp_total.antisymm y x ∙ ap ordering_reverse e

-- ---- tests

pub neither : (a b : Bool) → a ≡ false → b ≡ false → (a || b) ≡ false
neither false b p q = q
neither true b p q = absurd cc

twice : (a b c : Bool) → a ≡ b → (b || c) ≡ (a || (b || c))
twice true true c e = refl
twice false false c e = refl
twice true false c e = absurd cc
twice false true c e = absurd cc

swapped : (a b c : Bool) → (b || (a || c)) ≡ (a || (b || c))
swapped true true c = refl
swapped true false c = refl
swapped false true c = refl
swapped false false c = refl

-- ---- rising lists

none_after : (q : List ℕ) (xs : List (List ℕ)) → AllByRecursion (λ y. text_cmp q y ≡ Less) xs → has_text q xs ≡ false
none_after q [] all = refl
none_after q (x ∷ xs) all = neither (bytes_eq q x) (has_text q xs) (apart q x Less all.0 refl) (none_after q xs all.1)

all_after : (x y : List ℕ) (ys : List (List ℕ)) → text_cmp x y ≡ Less → AllByRecursion (λ z. text_cmp y z ≡ Less) ys
    → AllByRecursion (λ z. text_cmp x z ≡ Less) ys
all_after x y [] e all = tt
all_after x y (z ∷ zs) e all = (nat_list_cmp_total.trans x y z e all.0, all_after x y zs e all.1)

-- where the first of a rising list comes after a text, that isn't there
not_before : (x y : List ℕ) (ys : List (List ℕ)) → text_cmp x y ≡ Less → IsStrictlySortedBy text_cmp (y ∷ ys)
    → has_text x (y ∷ ys) ≡ false
unfolding IsStrictlySortedBy
not_before x y ys e rises = none_after x (y ∷ ys) (e, all_after x y ys e rises.0)

-- ---- the ascending list

placed_all : (P : List ℕ → Type 0) (x : List ℕ) (ys : List (List ℕ)) → P x → AllByRecursion P ys
    → AllByRecursion P (placed_once text_cmp x ys)
placed_all P x [] p all = (p, tt)
placed_all P x (y ∷ ys) p all =
    elim (text_cmp x y) as
    (λ w. AllByRecursion P (cond (is_lt w) (x ∷ (y ∷ ys)) (cond (is_eq w) (y ∷ ys) (y ∷ placed_once text_cmp x ys))))
    [ Less ↦ (p, all) | Equal ↦ all | Greater ↦ (all.0, placed_all P x ys p all.1) ]

placed_at : (x y : List ℕ) (ys : List (List ℕ)) (w : Ordering) → text_cmp x y ≡ w → IsStrictlySortedBy text_cmp (y ∷ ys)
    → IsStrictlySortedBy text_cmp (placed_once text_cmp x ys)
    → IsStrictlySortedBy text_cmp (cond (is_lt w) (x ∷ (y ∷ ys)) (cond (is_eq w) (y ∷ ys) (y ∷ placed_once text_cmp x ys)))
unfolding IsStrictlySortedBy
placed_at x y ys Less e rises rest = ((e, all_after x y ys e rises.0), rises)
placed_at x y ys Equal e rises rest = rises
placed_at x y ys Greater e rises rest = (placed_all (λ z. text_cmp y z ≡ Less) x ys (flipped x y Greater e) rises.0, rest)

placed_rises : (x : List ℕ) (ys : List (List ℕ)) → IsStrictlySortedBy text_cmp ys
    → IsStrictlySortedBy text_cmp (placed_once text_cmp x ys)
unfolding IsStrictlySortedBy
placed_rises x [] rises = (tt, tt)
placed_rises x (y ∷ ys) rises = placed_at x y ys (text_cmp x y) refl rises (placed_rises x ys rises.1)

pub ascending_rises : (xs : List (List ℕ)) → IsStrictlySortedBy text_cmp (ascending text_cmp xs)
unfolding IsStrictlySortedBy
ascending_rises [] = tt
ascending_rises (x ∷ xs) = placed_rises x (ascending text_cmp xs) (ascending_rises xs)

placed_has_at : (q x y : List ℕ) (ys : List (List ℕ)) (w : Ordering) → text_cmp x y ≡ w
    → has_text q (placed_once text_cmp x ys) ≡ (bytes_eq q x || has_text q ys)
    → has_text q (cond (is_lt w) (x ∷ (y ∷ ys)) (cond (is_eq w) (y ∷ ys) (y ∷ placed_once text_cmp x ys)))
    ≡ (bytes_eq q x || (bytes_eq q y || has_text q ys))
placed_has_at q x y ys Less e rest = refl
placed_has_at q x y ys Equal e rest = twice (bytes_eq q x) (bytes_eq q y) (has_text q ys) (ap (bytes_eq q) (exact_bytes x y e))
placed_has_at q x y ys Greater e rest =
    ap (λ b. bytes_eq q y || b) rest ∙ swapped (bytes_eq q x) (bytes_eq q y) (has_text q ys)

placed_has : (q x : List ℕ) (ys : List (List ℕ)) → has_text q (placed_once text_cmp x ys) ≡ (bytes_eq q x || has_text q ys)
placed_has q x [] = refl
placed_has q x (y ∷ ys) = placed_has_at q x y ys (text_cmp x y) refl (placed_has q x ys)

pub ascending_has : (q : List ℕ) (xs : List (List ℕ)) → has_text q (ascending text_cmp xs) ≡ has_text q xs
ascending_has q [] = refl
ascending_has q (x ∷ xs) = placed_has q x (ascending text_cmp xs) ∙ ap (λ b. bytes_eq q x || b) (ascending_has q xs)

-- ---- what a sorted list is without its repetitions

dedup_has_at : (q x y : List ℕ) (ys : List (List ℕ)) (b : Bool) → bytes_eq y x ≡ b
    → has_text q (dedup_from bytes_eq x ys) ≡ (bytes_eq q x || has_text q ys)
    → has_text q (dedup_from bytes_eq y ys) ≡ (bytes_eq q y || has_text q ys)
    → has_text q (cond b (dedup_from bytes_eq x ys) (x ∷ dedup_from bytes_eq y ys))
    ≡ (bytes_eq q x || (bytes_eq q y || has_text q ys))
dedup_has_at q x y ys true e first next =
    first ∙ ap (λ z. bytes_eq q z || has_text q ys) (sym (equal_text y x e))
    ∙ twice (bytes_eq q x) (bytes_eq q y) (has_text q ys) (ap (bytes_eq q) (sym (equal_text y x e)))
dedup_has_at q x y ys false e first next = ap (λ b. bytes_eq q x || b) next

dedup_has : (q x : List ℕ) (xs : List (List ℕ)) → has_text q (dedup_from bytes_eq x xs) ≡ (bytes_eq q x || has_text q xs)
dedup_has q x [] = refl
dedup_has q x (y ∷ ys) = dedup_has_at q x y ys (bytes_eq y x) refl (dedup_has q x ys) (dedup_has q y ys)

all_dedup_has : (q : List ℕ) (xs : List (List ℕ)) → has_text q (dedup bytes_eq xs) ≡ has_text q xs
all_dedup_has q [] = refl
all_dedup_has q (x ∷ xs) = dedup_has q x xs

-- ---- rising lists of the same texts

first_there : (x : List ℕ) (xs : List (List ℕ)) → has_text x (x ∷ xs) ≡ true
first_there x xs = ap (λ b. b || has_text x xs) (same_text x)

tails_at : (q x : List ℕ) (xs ys : List (List ℕ)) (b : Bool) → bytes_eq q x ≡ b → has_text x xs ≡ false → has_text x ys ≡ false
    → (b || has_text q xs) ≡ (b || has_text q ys) → has_text q xs ≡ has_text q ys
tails_at q x xs ys true e not_left not_right same =
    let is_x : q ≡ x = equal_text q x e in
    subst (λ p. has_text p xs ≡ has_text p ys) (sym is_x) (not_left ∙ sym not_right)
tails_at q x xs ys false e not_left not_right same = same

-- both have the same texts
abbrev AreSame : List (List ℕ) → List (List ℕ) → Type 0
AreSame xs ys = (q : List ℕ) → has_text q xs ≡ has_text q ys

same_at : (x y : List ℕ) (xs ys : List (List ℕ)) (w : Ordering) → text_cmp x y ≡ w → IsStrictlySortedBy text_cmp (x ∷ xs)
    → IsStrictlySortedBy text_cmp (y ∷ ys) → AreSame (x ∷ xs) (y ∷ ys) → (AreSame xs ys → xs ≡ ys) → x ∷ xs ≡ y ∷ ys
unfolding IsStrictlySortedBy
same_at x y xs ys Less e left right same rest =
    let there : has_text x (x ∷ xs) ≡ true = first_there x xs in
    let missing : has_text x (y ∷ ys) ≡ false = not_before x y ys e right in
    let never : true ≡ false = sym there ∙ same x ∙ missing in
    absurd cc
same_at x y xs ys Greater e left right same rest =
    let there : has_text y (y ∷ ys) ≡ true = first_there y ys in
    let missing : has_text y (x ∷ xs) ≡ false = not_before y x xs (flipped x y Greater e) left in
    let never : true ≡ false = sym there ∙ sym (same y) ∙ missing in
    absurd cc
same_at x y xs ys Equal e left right same rest =
    let is_y : x ≡ y = exact_bytes x y e in
    let not_right : has_text x ys ≡ false = subst (λ z. has_text z ys ≡ false) (sym is_y) (none_after y ys right.0) in
    let tails : AreSame xs ys = λ q. tails_at q x xs ys (bytes_eq q x) refl (none_after x xs left.0) not_right
    (subst (λ z. (bytes_eq q x || has_text q xs) ≡ (bytes_eq q z || has_text q ys)) (sym is_y) (same q)) in
    ap (λ z. z ∷ xs) is_y ∙ ap (λ zs. y ∷ zs) (rest tails)

pub same_rising : (xs ys : List (List ℕ)) → IsStrictlySortedBy text_cmp xs → IsStrictlySortedBy text_cmp ys → AreSame xs ys
    → xs ≡ ys
unfolding IsStrictlySortedBy
same_rising [] [] left right same = refl
same_rising [] (y ∷ ys) left right same = let never : false ≡ true = same y ∙ first_there y ys in absurd cc
same_rising (x ∷ xs) [] left right same = let never : false ≡ true = sym (same x) ∙ first_there x xs in absurd cc
same_rising (x ∷ xs) (y ∷ ys) left right same =
    same_at x y xs ys (text_cmp x y) refl left right same (same_rising xs ys left.1 right.1)

-- texts that were sorted, without their repetitions, are the ascending list
pub sorted_is : (xs sorted : List (List ℕ)) → IsPermutation xs sorted → IsSorted text_cmp sorted
    → dedup bytes_eq sorted ≡ ascending text_cmp xs
sorted_is xs sorted moved in_order =
    same_rising (dedup bytes_eq sorted) (ascending text_cmp xs)
    (IsStrictlySortedBy-dedup nat_list_cmp_total texts_ties sorted in_order) (ascending_rises xs)
    (λ q. all_dedup_has q sorted ∙ sym (list_any-IsPermutation (bytes_eq q) xs sorted moved) ∙ sym (ascending_has q xs))

-- the keys of hosts rise
pub keys_rise : (key_of : List ℕ → List ℕ) (hosts : List (List ℕ)) → IsStrictlySortedBy text_cmp (keys_among key_of hosts)
keys_rise key_of hosts = ascending_rises (map (λ (host : List ℕ). key_of (undotted host)) hosts)
