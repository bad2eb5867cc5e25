-- Elements of a list: what holds of them, lists of the same ones, and those that pass a test.
use Rattle.std.proofs.Common.{Bool, ◌≡◌, List, [], ◌∷◌, true, false, cond, ◌⊎◌, inl, inr, refl, sym, ap, ◌∙◌, subst}
use Rattle.std.specs.Prelude.{filter}
use Rattle.std.specs.List.{AllByRecursion}
use Rattle.std.specs.List.Sorted.{IsPermutation}
use Rattle.std.proofs.lemmas.List.Elements.{All-from_recursion, recursion_from_All}
use Rattle.std.proofs.lemmas.List.Sorted.{IsPermutation-sym, All-permutation}

-- z is one of the elements
abbrev pub Member : {X : Type 0} → List X → X → Type 0
Member [] z = ⊥
Member (y ∷ ys) z = (z ≡ y) ⊎ Member ys z

pub every_member : {X : Type 0} (P : X → Type 0) (xs : List X) (z : X) → AllByRecursion P xs → Member xs z → P z
every_member P [] z all i = absurd i
every_member P (x ∷ xs) z all (inl e) = subst P (sym e) all.0
every_member P (x ∷ xs) z all (inr i) = every_member P xs z all.1 i

pub weaker : {X : Type 0} (P Q : X → Type 0) → ((x : X) → P x → Q x) → (xs : List X) → AllByRecursion P xs → AllByRecursion Q xs
weaker P Q f [] all = tt
weaker P Q f (x ∷ xs) all = (f x all.0, weaker P Q f xs all.1)

pub own_members : {X : Type 0} (xs : List X) → AllByRecursion (Member xs) xs
own_members [] = tt
own_members (x ∷ xs) = (inl refl, weaker (Member xs) (Member (x ∷ xs)) (λ z i. inr i) xs (own_members xs))

pub moved_members : {X : Type 0} (xs ys : List X) → IsPermutation xs ys → AllByRecursion (Member xs) ys
moved_members xs ys moved =
    recursion_from_All (Member xs) ys (All-permutation (Member xs) xs ys moved (All-from_recursion (Member xs) xs (own_members xs)))

-- both lists have the same elements
abbrev pub Same : {X : Type 0} → List X → List X → Type 0
Same xs ys = AllByRecursion (Member ys) xs × AllByRecursion (Member xs) ys

pub moved_same : {X : Type 0} (xs ys : List X) → IsPermutation xs ys → Same xs ys
moved_same xs ys moved = (moved_members ys xs (IsPermutation-sym xs ys moved), moved_members xs ys moved)

pub same_sym : {X : Type 0} (xs ys : List X) → Same xs ys → Same ys xs
same_sym xs ys same = (same.1, same.0)

all_there : {X : Type 0} (xs ys zs : List X) → AllByRecursion (Member ys) xs → AllByRecursion (Member zs) ys → AllByRecursion (Member zs) xs
all_there xs ys zs all more = weaker (Member ys) (Member zs) (λ x i. every_member (Member zs) ys x more i) xs all

pub same_trans : {X : Type 0} (xs ys zs : List X) → Same xs ys → Same ys zs → Same xs zs
same_trans xs ys zs a b = (all_there xs ys zs a.0 b.0, all_there zs ys xs b.1 a.1)

-- the elements that pass
pub kept_all : {X : Type 0} (P : X → Type 0) (p : X → Bool) (xs : List X) → AllByRecursion P xs → AllByRecursion P (filter p xs)
kept_all P p [] all = tt
kept_all P p (x ∷ xs) all =
    elim (p x) as (λ b. AllByRecursion P (cond b (x ∷ filter p xs) (filter p xs)))
    [ true ↦ (all.0, kept_all P p xs all.1) | false ↦ kept_all P p xs all.1 ]

first_kept : {X : Type 0} (z x : X) (kept : List X) (b : Bool) → b ≡ true → z ≡ x → Member (cond b (x ∷ kept) kept) z
first_kept z x kept true t e = inl e
first_kept z x kept false t e = absurd cc

later_kept : {X : Type 0} (z x : X) (kept : List X) (b : Bool) → Member kept z → Member (cond b (x ∷ kept) kept) z
later_kept z x kept true i = inr i
later_kept z x kept false i = i

pub kept_member : {X : Type 0} (p : X → Bool) (xs : List X) (z : X) → Member xs z → p z ≡ true → Member (filter p xs) z
kept_member p [] z i t = absurd i
kept_member p (x ∷ xs) z (inl e) t = first_kept z x (filter p xs) (p x) (ap p (sym e) ∙ t) e
kept_member p (x ∷ xs) z (inr i) t = later_kept z x (filter p xs) (p x) (kept_member p xs z i t)

kept_at : {X : Type 0} (P : X → Type 0) (x : X) (kept : List X) (b : Bool) → (b ≡ true → P x) → AllByRecursion P kept → AllByRecursion P (cond b (x ∷ kept) kept)
kept_at P x kept true h all = (h refl, all)
kept_at P x kept false h all = all

kept_there : {X : Type 0} (p : X → Bool) (xs ys : List X) → AllByRecursion (Member ys) xs → AllByRecursion (Member (filter p ys)) (filter p xs)
kept_there p [] ys all = tt
kept_there p (x ∷ xs) ys all =
    kept_at (Member (filter p ys)) x (filter p xs) (p x) (λ t. kept_member p ys x all.0 t) (kept_there p xs ys all.1)

pub kept_same : {X : Type 0} (p : X → Bool) (xs ys : List X) → Same xs ys → Same (filter p xs) (filter p ys)
kept_same p xs ys same = (kept_there p xs ys same.0, kept_there p ys xs same.1)

-- all that pass do
pub all_pass : {X : Type 0} (p : X → Bool) (xs : List X) → AllByRecursion (λ x. p x ≡ true) (filter p xs)
all_pass p [] = tt
all_pass p (x ∷ xs) = kept_at (λ y. p y ≡ true) x (filter p xs) (p x) (λ t. t) (all_pass p xs)

-- each that passes is one of all
pub all_kept : {X : Type 0} (p : X → Bool) (xs : List X) → AllByRecursion (Member xs) (filter p xs)
all_kept p xs = kept_all (Member xs) p xs (own_members xs)
