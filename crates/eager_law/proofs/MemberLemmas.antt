-- Elements of a list: what holds of each, and whether some pass a test.
use Rattle.std.proofs.Common.{◌≡◌, List, [], ◌∷◌, ◌++◌, Bool, true, false, cond, ◌⊎◌, inl, inr, refl, sym, ap, ◌∙◌, subst}
use Rattle.std.specs.Prelude.{filter, map, ◌||◌}
use Rattle.std.specs.List.{AllByRecursion, list_any}

-- ---- what holds of each element

pub always : {X : Type 0} (P : X → Type 0) → ((x : X) → P x) → (xs : List X) → AllByRecursion P xs
always P holds [] = tt
always P holds (x ∷ xs) = (holds x, always P holds xs)

pub weaker : {X : Type 0} (P Q : X → Type 0) → ((x : X) → P x → Q x) → (xs : List X) → AllByRecursion P xs
    → AllByRecursion Q xs
weaker P Q f [] all = tt
weaker P Q f (x ∷ xs) all = (f x all.0, weaker P Q f xs all.1)

pub kept_all : {X : Type 0} (P : X → Type 0) (p : X → Bool) (xs : List X) → AllByRecursion P xs
    → AllByRecursion P (filter p xs)
kept_all P p [] all = tt
kept_all P p (x ∷ xs) all =
    elim (p x) as (λ b. AllByRecursion P (cond b (x ∷ filter p xs) (filter p xs)))
    [ true ↦ (all.0, kept_all P p xs all.1) | false ↦ kept_all P p xs all.1 ]

passing_at : {X : Type 0} (P : X → Type 0) (p : X → Bool) (x : X) (xs : List X) (b : Bool) → p x ≡ b → P x
    → AllByRecursion (λ x. P x × (p x ≡ true)) xs → AllByRecursion (λ x. P x × (p x ≡ true)) (cond b (x ∷ xs) xs)
passing_at P p x xs true e h all = ((h, e), all)
passing_at P p x xs false e h all = all

pub passing_all : {X : Type 0} (P : X → Type 0) (p : X → Bool) (xs : List X) → AllByRecursion P xs
    → AllByRecursion (λ x. P x × (p x ≡ true)) (filter p xs)
passing_all P p [] all = tt
passing_all P p (x ∷ xs) all = passing_at P p x (filter p xs) (p x) refl all.0 (passing_all P p xs all.1)

pub append_all : {X : Type 0} (P : X → Type 0) (xs ys : List X) → AllByRecursion P xs → AllByRecursion P ys
    → AllByRecursion P (xs ++ ys)
append_all P [] ys all more = more
append_all P (x ∷ xs) ys all more = (all.0, append_all P xs ys all.1 more)

pub mapped_all : {X Y : Type 0} (P : Y → Type 0) (f : X → Y) (xs : List X) → AllByRecursion (λ x. P (f x)) xs
    → AllByRecursion P (map f xs)
mapped_all P f [] all = tt
mapped_all P f (x ∷ xs) all = (all.0, mapped_all P f xs all.1)

-- ---- elements

-- z is one of the elements
abbrev pub Member : {X : Type 0} → List X → X → Type 0
Member [] z = ⊥
Member (y ∷ ys) z = (z ≡ y) ⊎ Member ys z

pub every_member : {X : Type 0} (P : X → Type 0) (xs : List X) (z : X) → AllByRecursion P xs → Member xs z → P z
every_member P [] z all i = absurd i
every_member P (x ∷ xs) z all (inl e) = subst P (sym e) all.0
every_member P (x ∷ xs) z all (inr i) = every_member P xs z all.1 i

pub own_members : {X : Type 0} (xs : List X) → AllByRecursion (Member xs) xs
own_members [] = tt
own_members (x ∷ xs) = (inl refl, weaker (Member xs) (Member (x ∷ xs)) (λ z i. inr i) xs (own_members xs))

first_kept : {X : Type 0} (z x : X) (kept : List X) (b : Bool) → b ≡ true → z ≡ x → Member (cond b (x ∷ kept) kept) z
first_kept z x kept true t e = inl e
first_kept z x kept false t e = absurd cc

later_kept : {X : Type 0} (z x : X) (kept : List X) (b : Bool) → Member kept z → Member (cond b (x ∷ kept) kept) z
later_kept z x kept true i = inr i
later_kept z x kept false i = i

pub kept_member : {X : Type 0} (p : X → Bool) (xs : List X) (z : X) → Member xs z → p z ≡ true
    → Member (filter p xs) z
kept_member p [] z i t = absurd i
kept_member p (x ∷ xs) z (inl e) t = first_kept z x (filter p xs) (p x) (ap p (sym e) ∙ t) e
kept_member p (x ∷ xs) z (inr i) t = later_kept z x (filter p xs) (p x) (kept_member p xs z i t)

pub kept_members : {X : Type 0} (p : X → Bool) (xs : List X) → AllByRecursion (Member xs) (filter p xs)
kept_members p xs = kept_all (Member xs) p xs (own_members xs)

-- ---- tests

pub or_false : (b : Bool) → b || false ≡ b
or_false true = refl
or_false false = refl

pub or_true : (b : Bool) → b || true ≡ true
or_true true = refl
or_true false = refl

pub any_member : {X : Type 0} (t : X → Bool) (xs : List X) (z : X) → Member xs z → t z ≡ true → list_any t xs ≡ true
any_member t [] z i e = absurd i
any_member t (x ∷ xs) z (inl same) e = ap (λ b. b || list_any t xs) (ap t (sym same) ∙ e)
any_member t (x ∷ xs) z (inr i) e = ap (λ b. t x || b) (any_member t xs z i e) ∙ or_true (t x)

pub none_any : {X : Type 0} (t : X → Bool) (xs : List X) → AllByRecursion (λ x. t x ≡ false) xs
    → list_any t xs ≡ false
none_any t [] all = refl
none_any t (x ∷ xs) all = ap (λ b. b || list_any t xs) all.0 ∙ none_any t xs all.1

pub any_mapped : {X Y : Type 0} (t : Y → Bool) (f : X → Y) (xs : List X)
    → list_any t (map f xs) ≡ list_any (λ x. t (f x)) xs
any_mapped t f [] = refl
any_mapped t f (x ∷ xs) = ap (λ b. t (f x) || b) (any_mapped t f xs)

pub any_agreeing : {X : Type 0} (t u : X → Bool) → ((x : X) → t x ≡ u x) → (xs : List X)
    → list_any t xs ≡ list_any u xs
any_agreeing t u same [] = refl
any_agreeing t u same (x ∷ xs) = ap (λ b. b || list_any t xs) (same x) ∙ ap (λ b. u x || b) (any_agreeing t u same xs)

some_at : {X : Type 0} (G : Type 0) (t : X → Bool) (x : X) (xs : List X) (b : Bool) → (b ≡ true → G)
    → (list_any t xs ≡ true → G)
    → b || list_any t xs ≡ true → G
some_at G t x xs true h k e = h refl
some_at G t x xs false h k e = k e

-- what follows of each that passes follows where some do
pub some_passes : {X : Type 0} (G : Type 0) (t : X → Bool) (xs : List X)
    → AllByRecursion (λ x. t x ≡ true → G) xs → list_any t xs ≡ true → G
some_passes G t [] all e = absurd cc
some_passes G t (x ∷ xs) all e = some_at G t x xs (t x) all.0 (some_passes G t xs all.1) e
