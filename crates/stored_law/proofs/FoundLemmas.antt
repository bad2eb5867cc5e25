-- What is found in a list that was made longer or filtered, and what all of its elements have.
use Rattle.std.proofs.Common.{◌≡◌, List, [], ◌∷◌, ◌++◌, Bool, true, false, cond, refl, ap, ◌∙◌}
use Rattle.std.specs.Prelude.{filter, find, Option, None, Some}
use Rattle.std.specs.List.{AllByRecursion}
use Rattle.std.specs.Option.{option_or}
use Rattle.std.specs.Ordering.{is_lt, is_gt}
use Rattle.std.specs.declared.cmp.Ordering.{Ordering}
use Rattle.std.specs.declared.cmp.Ordering.TheVariants.{Less, Equal, Greater}

pub find_append : {X : Type 0} → (p : X → Bool) (xs ys : List X) → find p (xs ++ ys) ≡ option_or (find p xs) (find p ys)
find_append p [] ys = refl
find_append p (x ∷ xs) ys =
    elim (p x) as (λ b. cond b (Some x) (find p (xs ++ ys)) ≡ option_or (cond b (Some x) (find p xs)) (find p ys))
    [ true ↦ refl | false ↦ find_append p xs ys ]

sieved_at : {X : Type 0} → (p : X → Bool) (b c : Bool) (x : X) (ys : List X) (found : Option X) → p x ≡ b → (b ≡ true → c ≡ true)
    → find p ys ≡ found → find p (cond c (x ∷ ys) ys) ≡ cond b (Some x) found
sieved_at p true true x ys found is passes e = ap (λ b. cond b (Some x) (find p ys)) is
sieved_at p true false x ys found is passes e = let no : false ≡ true = passes refl in absurd cc
sieved_at p false true x ys found is passes e = ap (λ b. cond b (Some x) (find p ys)) is ∙ e
sieved_at p false false x ys found is passes e = e

-- a filter that keeps all that the test passes
pub find_sieved : {X : Type 0} → (p q : X → Bool) → ((x : X) → p x ≡ true → q x ≡ true) → (xs : List X) → find p (filter q xs) ≡ find p xs
find_sieved p q passes [] = refl
find_sieved p q passes (x ∷ xs) = sieved_at p (p x) (q x) x (filter q xs) (find p xs) refl (passes x) (find_sieved p q passes xs)

gone_at : {X : Type 0} → (p : X → Bool) (b c : Bool) (x : X) (ys : List X) → p x ≡ b → (b ≡ true → c ≡ false)
    → find p ys ≡ None → find p (cond c (x ∷ ys) ys) ≡ None
gone_at p true true x ys is passes e = let no : true ≡ false = passes refl in absurd cc
gone_at p true false x ys is passes e = e
gone_at p false true x ys is passes e = ap (λ b. cond b (Some x) (find p ys)) is ∙ e
gone_at p false false x ys is passes e = e

-- a filter that drops all that the test passes
pub find_gone : {X : Type 0} → (p q : X → Bool) → ((x : X) → p x ≡ true → q x ≡ false) → (xs : List X) → find p (filter q xs) ≡ None
find_gone p q passes [] = refl
find_gone p q passes (x ∷ xs) = gone_at p (p x) (q x) x (filter q xs) refl (passes x) (find_gone p q passes xs)

-- where no element passes
pub find_none : {X : Type 0} → (p : X → Bool) (xs : List X) → AllByRecursion (λ x. p x ≡ false) xs → find p xs ≡ None
find_none p [] all = refl
find_none p (x ∷ xs) all = ap (λ b. cond b (Some x) (find p xs)) all.0 ∙ find_none p xs all.1

pub or_none : {X : Type 0} → (o : Option X) → option_or o None ≡ o
or_none None = refl
or_none (Some x) = refl

pub all_weaker : {X : Type 0} → (P Q : X → Type 0) → ((x : X) → P x → Q x) → (xs : List X) → AllByRecursion P xs → AllByRecursion Q xs
all_weaker P Q on [] all = tt
all_weaker P Q on (x ∷ xs) all = (on x all.0, all_weaker P Q on xs all.1)

pub all_append : {X : Type 0} → (P : X → Type 0) (xs ys : List X) → AllByRecursion P xs → AllByRecursion P ys → AllByRecursion P (xs ++ ys)
all_append P [] ys all more = more
all_append P (x ∷ xs) ys all more = (all.0, all_append P xs ys all.1 more)

all_filter_at : {X : Type 0} → (P : X → Type 0) (b : Bool) (x : X) (xs : List X) → (b ≡ true → P x) → AllByRecursion P xs → AllByRecursion P (cond b (x ∷ xs) xs)
all_filter_at P true x xs holds all = (holds refl, all)
all_filter_at P false x xs holds all = all

-- what all that pass a filter have
pub all_filter : {X : Type 0} → (P : X → Type 0) (p : X → Bool) → ((x : X) → p x ≡ true → P x) → (xs : List X) → AllByRecursion P (filter p xs)
all_filter P p holds [] = tt
all_filter P p holds (x ∷ xs) = all_filter_at P (p x) x (filter p xs) (holds x) (all_filter P p holds xs)

-- what all had, those have that a filter leaves
pub all_left : {X : Type 0} → (P : X → Type 0) (p : X → Bool) (xs : List X) → AllByRecursion P xs → AllByRecursion P (filter p xs)
all_left P p [] all = tt
all_left P p (x ∷ xs) all = all_filter_at P (p x) x (filter p xs) (λ e. all.0) (all_left P p xs all.1)

pub lt_from : (w : Ordering) → is_lt w ≡ true → w ≡ Less
lt_from Less e = refl
lt_from Equal e = absurd cc
lt_from Greater e = absurd cc

pub gt_from : (w : Ordering) → is_gt w ≡ true → w ≡ Greater
gt_from Less e = absurd cc
gt_from Equal e = absurd cc
gt_from Greater e = refl

-- what is kept of what was found
abbrev pub kept_where : {X : Type 0} → (X → Bool) → Option X → Option X
kept_where q None = None
kept_where q (Some x) = cond (q x) (Some x) None
