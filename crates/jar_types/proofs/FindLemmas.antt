-- What is found in a list that was mapped, filtered or made longer.
use Rattle.std.proofs.Common.{◌≡◌, List, [], ◌∷◌, ◌++◌, Bool, true, false, cond, refl, sym, ap, ◌∙◌}
use Rattle.std.specs.Prelude.{find, filter, map, Option, Some, option_map}

found_at : {X : Type 0} → (b : Bool) (f : X → X) (x : X) (found rest : Option X) → rest ≡ option_map f found
    → cond b (Some (f x)) rest ≡ option_map f (cond b (Some x) found)
found_at true f x found rest e = refl
found_at false f x found rest e = e

-- a map that no test can tell finds the image
pub find_mapped : {X : Type 0} → (p : X → Bool) (f : X → X) → ((x : X) → p (f x) ≡ p x) → (xs : List X)
    → find p (map f xs) ≡ option_map f (find p xs)
find_mapped p f same [] = refl
find_mapped p f same (x ∷ xs) =
    ap (λ b. cond b (Some (f x)) (find p (map f xs))) (same x)
    ∙ found_at (p x) f x (find p xs) (find p (map f xs)) (find_mapped p f same xs)

longer_at : {X : Type 0} → (b : Bool) (x : X) (found rest : Option X) (y : X) → (found ≡ Some y → rest ≡ Some y)
    → cond b (Some x) found ≡ Some y → cond b (Some x) rest ≡ Some y
longer_at true x found rest y on e = e
longer_at false x found rest y on e = on e

-- what was found is found in a longer list
pub find_longer : {X : Type 0} → (p : X → Bool) (xs ys : List X) (y : X) → find p xs ≡ Some y → find p (xs ++ ys) ≡ Some y
find_longer p [] ys y e = absurd cc
find_longer p (x ∷ xs) ys y e = longer_at (p x) x (find p xs) (find p (xs ++ ys)) y (find_longer p xs ys y) e

kept_at : {X : Type 0} → (p : X → Bool) (b keep : Bool) (x y : X) (found : Option X) (left : List X) → p x ≡ b → (b ≡ true → keep ≡ true)
    → (found ≡ Some y → find p left ≡ Some y) → cond b (Some x) found ≡ Some y → find p (cond keep (x ∷ left) left) ≡ Some y
kept_at p true true x y found left is holds on e = ap (λ b. cond b (Some x) (find p left)) is ∙ e
kept_at p true false x y found left is holds on e = let no : false ≡ true = holds refl in absurd cc
kept_at p false true x y found left is holds on e = ap (λ b. cond b (Some x) (find p left)) is ∙ on e
kept_at p false false x y found left is holds on e = on e

-- what was found is found in a list that keeps all that the test passes
pub find_kept : {X : Type 0} → (p q : X → Bool) → ((x : X) → p x ≡ true → q x ≡ true) → (xs : List X) (y : X)
    → find p xs ≡ Some y → find p (filter q xs) ≡ Some y
find_kept p q holds [] y e = absurd cc
find_kept p q holds (x ∷ xs) y e =
    kept_at p (p x) (q x) x y (find p xs) (filter q xs) refl (holds x) (find_kept p q holds xs y) e

passes_at : {X : Type 0} → (p : X → Bool) (b : Bool) (x y : X) (found : Option X) → p x ≡ b → (found ≡ Some y → p y ≡ true)
    → cond b (Some x) found ≡ Some y → p y ≡ true
passes_at p true x y found is on e = let same : x ≡ y = cc in rw (sym same) is
passes_at p false x y found is on e = on e

-- what was found passes the test
pub find_passes : {X : Type 0} → (p : X → Bool) (xs : List X) (y : X) → find p xs ≡ Some y → p y ≡ true
find_passes p [] y e = absurd cc
find_passes p (x ∷ xs) y e = passes_at p (p x) x y (find p xs) refl (find_passes p xs y) e
