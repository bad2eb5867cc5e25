-- Ids that are put in their order, each once.
use Rattle.std.proofs.Common.{◌≡◌, List, [], ◌∷◌, ◌++◌, Bool, true, false, cond, refl, ap, ◌∙◌}
use Rattle.std.specs.List.{AllByRecursion}
use Rattle.std.specs.List.Sorted.{IsStrictlySortedBy}
use Rattle.std.specs.Ordering.{is_lt, is_eq, ordering_reverse}
use Rattle.std.specs.declared.cmp.Ordering.{Ordering}
use Rattle.std.specs.declared.cmp.Ordering.TheVariants.{Less, Equal, Greater}
use Rattle.jar_types.specs.declared.cookie.CookieId.{CookieId}
use Rattle.jar_types.specs.Ids.{id_cmp}
use Rattle.jar_types.specs.Orders.{ascending, placed_once}
use Rattle.plain_jar.proofs.IdLemmas.{id_total}

-- all of these come after an id
abbrev pub Above : CookieId → List CookieId → Type 0
Above i js = AllByRecursion (λ j. id_cmp i j ≡ Less) js

-- the other way round
pub flipped : (i j : CookieId) (w : Ordering) → id_cmp i j ≡ w → id_cmp j i ≡ ordering_reverse w
flipped i j w e = id_total.antisymm j i ∙ ap ordering_reverse e

pub weaker : {X : Type 0} (P Q : X → Type 0) → ((x : X) → P x → Q x) → (xs : List X) → AllByRecursion P xs → AllByRecursion Q xs
weaker P Q f [] all = tt
weaker P Q f (x ∷ xs) all = (f x all.0, weaker P Q f xs all.1)

pub joined_all : {X : Type 0} (P : X → Type 0) (xs ys : List X) → AllByRecursion P xs → AllByRecursion P ys → AllByRecursion P (xs ++ ys)
joined_all P [] ys all more = more
joined_all P (x ∷ xs) ys all more = (all.0, joined_all P xs ys all.1 more)

-- what comes after one that comes after i
pub above_next : (i j : CookieId) (ks : List CookieId) → id_cmp i j ≡ Less → Above j ks → Above i ks
above_next i j ks e all = weaker (λ k. id_cmp j k ≡ Less) (λ k. id_cmp i k ≡ Less) (λ k h. id_total.trans i j k e h) ks all

-- ---- one id

once_all_at : (P : CookieId → Type 0) (x y : CookieId) (ys zs : List CookieId) (b d : Bool) → P x → AllByRecursion P (y ∷ ys) → AllByRecursion P zs
    → AllByRecursion P (cond b (x ∷ (y ∷ ys)) (cond d (y ∷ ys) (y ∷ zs)))
once_all_at P x y ys zs true d p all more = (p, all)
once_all_at P x y ys zs false true p all more = all
once_all_at P x y ys zs false false p all more = (all.0, more)

once_all : (P : CookieId → Type 0) (x : CookieId) (ys : List CookieId) → P x → AllByRecursion P ys → AllByRecursion P (placed_once id_cmp x ys)
once_all P x [] p all = (p, tt)
once_all P x (y ∷ ys) p all =
    once_all_at P x y ys (placed_once id_cmp x ys) (is_lt (id_cmp x y)) (is_eq (id_cmp x y)) p all (once_all P x ys p all.1)

-- one that comes before all comes first
pub once_first : (x : CookieId) (ys : List CookieId) → Above x ys → placed_once id_cmp x ys ≡ x ∷ ys
once_first x [] all = refl
once_first x (y ∷ ys) all = rw all.0 refl

-- one that comes after the first comes behind it
once_later : (x y : CookieId) (ys : List CookieId) → id_cmp x y ≡ Greater → placed_once id_cmp x (y ∷ ys) ≡ y ∷ placed_once id_cmp x ys
once_later x y ys e = rw e refl

-- one that is the first is there
pub once_same : (x y : CookieId) (ys : List CookieId) → id_cmp x y ≡ Equal → placed_once id_cmp x (y ∷ ys) ≡ y ∷ ys
once_same x y ys e = rw e refl

-- ---- all of them

pub ascending_all : (P : CookieId → Type 0) (xs : List CookieId) → AllByRecursion P xs → AllByRecursion P (ascending id_cmp xs)
ascending_all P [] all = tt
ascending_all P (x ∷ xs) all = once_all P x (ascending id_cmp xs) all.0 (ascending_all P xs all.1)

-- the least of them comes first, wherever it stood
pub least_first : (x : CookieId) (xs ys : List CookieId) → Above x xs → Above x ys
    → ascending id_cmp (xs ++ (x ∷ ys)) ≡ x ∷ ascending id_cmp (xs ++ ys)
least_first x [] ys all more = once_first x (ascending id_cmp ys) (ascending_all (λ y. id_cmp x y ≡ Less) ys more)
least_first x (y ∷ xs) ys all more =
    ap (placed_once id_cmp y) (least_first x xs ys all.1 more)
    ∙ once_later y x (ascending id_cmp (xs ++ ys)) (flipped x y Less all.0)

-- they rise
once_rises_at : (x y : CookieId) (ys : List CookieId) (w : Ordering) → id_cmp x y ≡ w → Above y ys → IsStrictlySortedBy id_cmp ys
    → IsStrictlySortedBy id_cmp (placed_once id_cmp x ys)
    → IsStrictlySortedBy id_cmp (cond (is_lt w) (x ∷ (y ∷ ys)) (cond (is_eq w) (y ∷ ys) (y ∷ placed_once id_cmp x ys)))
unfolding IsStrictlySortedBy
once_rises_at x y ys Less e first rises rest = ((e, above_next x y ys e first), (first, rises))
once_rises_at x y ys Equal e first rises rest = (first, rises)
once_rises_at x y ys Greater e first rises rest = (once_all (λ z. id_cmp y z ≡ Less) x ys (flipped x y Greater e) first, rest)

once_rises : (x : CookieId) (ys : List CookieId) → IsStrictlySortedBy id_cmp ys → IsStrictlySortedBy id_cmp (placed_once id_cmp x ys)
unfolding IsStrictlySortedBy
once_rises x [] rises = (tt, tt)
once_rises x (y ∷ ys) rises = once_rises_at x y ys (id_cmp x y) refl rises.0 rises.1 (once_rises x ys rises.1)

pub ascending_rises : (xs : List CookieId) → IsStrictlySortedBy id_cmp (ascending id_cmp xs)
unfolding IsStrictlySortedBy
ascending_rises [] = tt
ascending_rises (x ∷ xs) = once_rises x (ascending id_cmp xs) (ascending_rises xs)
