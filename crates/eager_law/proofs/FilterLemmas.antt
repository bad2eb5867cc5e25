-- Filters of lists: one over another, over a map, and what is found, passes or is listed behind
-- one.
use Rattle.std.proofs.Common.{◌≡◌, List, [], ◌∷◌, Bool, true, false, cond, Option, None, Some, refl, sym, ap, ◌∙◌}
use Rattle.std.specs.Prelude.{filter, filter_map, find, map, ◌||◌, ◌&&◌}
use Rattle.std.specs.List.{AllByRecursion, cons_option, list_any}

-- ---- filters

passing : {X : Type 0} (x : X) (xs ys : List X) (b : Bool) → b ≡ true → ys ≡ xs → cond b (x ∷ ys) ys ≡ x ∷ xs
passing x xs ys b e rest = ap (λ b. cond b (x ∷ ys) ys) e ∙ ap (λ ys. x ∷ ys) rest

barred : {X : Type 0} (x : X) (xs ys : List X) (b : Bool) → b ≡ false → ys ≡ xs → cond b (x ∷ ys) ys ≡ xs
barred x xs ys b e rest = ap (λ b. cond b (x ∷ ys) ys) e ∙ rest

swapped_at : {X : Type 0} (p q : X → Bool) (x : X) (xs : List X) (b c : Bool) → p x ≡ b → q x ≡ c
    → filter p (filter q xs) ≡ filter q (filter p xs)
    → filter p (cond c (x ∷ filter q xs) (filter q xs)) ≡ filter q (cond b (x ∷ filter p xs) (filter p xs))
swapped_at p q x xs true true e f rest =
    passing x (filter q (filter p xs)) (filter p (filter q xs)) (p x) e rest
    ∙ sym (passing x (filter q (filter p xs)) (filter q (filter p xs)) (q x) f refl)
swapped_at p q x xs true false e f rest = rest ∙ sym (barred x (filter q (filter p xs)) (filter q (filter p xs)) (q x) f refl)
swapped_at p q x xs false true e f rest = barred x (filter q (filter p xs)) (filter p (filter q xs)) (p x) e rest
swapped_at p q x xs false false e f rest = rest

-- one over the other is the other over the one
pub swapped : {X : Type 0} (p q : X → Bool) (xs : List X) → filter p (filter q xs) ≡ filter q (filter p xs)
swapped p q [] = refl
swapped p q (x ∷ xs) = swapped_at p q x xs (p x) (q x) refl refl (swapped p q xs)

within_at : {X : Type 0} (p q : X → Bool) (x : X) (xs : List X) (b c : Bool) → p x ≡ b → (b ≡ true → c ≡ true)
    → filter p (filter q xs) ≡ filter p xs
    → filter p (cond c (x ∷ filter q xs) (filter q xs)) ≡ cond b (x ∷ filter p xs) (filter p xs)
within_at p q x xs true true e h rest = passing x (filter p xs) (filter p (filter q xs)) (p x) e rest
within_at p q x xs true false e h rest = let no : false ≡ true = h refl in absurd cc
within_at p q x xs false true e h rest = barred x (filter p xs) (filter p (filter q xs)) (p x) e rest
within_at p q x xs false false e h rest = rest

-- a filter over one that keeps all that it passes
pub within : {X : Type 0} (p q : X → Bool) (xs : List X) → AllByRecursion (λ x. p x ≡ true → q x ≡ true) xs
    → filter p (filter q xs) ≡ filter p xs
within p q [] h = refl
within p q (x ∷ xs) h = within_at p q x xs (p x) (q x) refl h.0 (within p q xs h.1)

-- two that agree
pub agreeing : {X : Type 0} (p q : X → Bool) (xs : List X) → AllByRecursion (λ x. p x ≡ q x) xs
    → filter p xs ≡ filter q xs
agreeing p q [] all = refl
agreeing p q (x ∷ xs) all =
    ap (λ b. cond b (x ∷ filter p xs) (filter p xs)) all.0 ∙ ap (λ ys. cond (q x) (x ∷ ys) ys) (agreeing p q xs all.1)

-- all pass, or none
pub every_kept : {X : Type 0} (p : X → Bool) (xs : List X) → AllByRecursion (λ x. p x ≡ true) xs → filter p xs ≡ xs
every_kept p [] all = refl
every_kept p (x ∷ xs) all = passing x xs (filter p xs) (p x) all.0 (every_kept p xs all.1)

pub none_kept : {X : Type 0} (p : X → Bool) (xs : List X) → AllByRecursion (λ x. p x ≡ false) xs → filter p xs ≡ []
none_kept p [] all = refl
none_kept p (x ∷ xs) all = barred x [] (filter p xs) (p x) all.0 (none_kept p xs all.1)

-- ---- over a map

mapped_at : {X Y : Type 0} (f : X → Y) (x : X) (xs : List X) (b : Bool)
    → cond b (f x ∷ map f xs) (map f xs) ≡ map f (cond b (x ∷ xs) xs)
mapped_at f x xs true = refl
mapped_at f x xs false = refl

-- a filter of images is the image of a filter
pub mapped : {X Y : Type 0} (p : Y → Bool) (q : X → Bool) (f : X → Y) (xs : List X)
    → AllByRecursion (λ x. p (f x) ≡ q x) xs
    → filter p (map f xs) ≡ map f (filter q xs)
mapped p q f [] all = refl
mapped p q f (x ∷ xs) all =
    ap (λ b. cond b (f x ∷ filter p (map f xs)) (filter p (map f xs))) all.0
    ∙ ap (λ ys. cond (q x) (f x ∷ ys) ys) (mapped p q f xs all.1)
    ∙ mapped_at f x (filter q xs) (q x)

still_at : {X : Type 0} (x y : X) (xs : List X) (b : Bool) → (b ≡ true → y ≡ x)
    → cond b (y ∷ xs) xs ≡ cond b (x ∷ xs) xs
still_at x y xs true same = ap (λ z. z ∷ xs) (same refl)
still_at x y xs false same = refl

-- a map that leaves all that a filter passes
pub mapped_still : {X : Type 0} (p : X → Bool) (f : X → X) → ((x : X) → p (f x) ≡ p x)
    → ((x : X) → p x ≡ true → f x ≡ x)
    → (xs : List X) → filter p (map f xs) ≡ filter p xs
mapped_still p f same still [] = refl
mapped_still p f same still (x ∷ xs) =
    ap (λ b. cond b (f x ∷ filter p (map f xs)) (filter p (map f xs))) (same x)
    ∙ ap (λ ys. cond (p x) (f x ∷ ys) ys) (mapped_still p f same still xs)
    ∙ still_at x (f x) (filter p xs) (p x) (still x)

-- ---- what is found

found_at : {X : Type 0} (p : X → Bool) (x : X) (left : List X) (found : Option X) (b c : Bool) → p x ≡ b
    → (b ≡ true → c ≡ true)
    → find p left ≡ found → find p (cond c (x ∷ left) left) ≡ cond b (Some x) found
found_at p x left found true true e h rest = ap (λ b. cond b (Some x) (find p left)) e
found_at p x left found true false e h rest = let no : false ≡ true = h refl in absurd cc
found_at p x left found false true e h rest = ap (λ b. cond b (Some x) (find p left)) e ∙ rest
found_at p x left found false false e h rest = rest

-- the same is found behind a filter that keeps all that the test passes
pub found : {X : Type 0} (p q : X → Bool) (xs : List X) → AllByRecursion (λ x. p x ≡ true → q x ≡ true) xs
    → find p (filter q xs) ≡ find p xs
found p q [] h = refl
found p q (x ∷ xs) h = found_at p x (filter q xs) (find p xs) (p x) (q x) refl h.0 (found p q xs h.1)

nothing : (any d : Bool) → false ≡ d → any && d ≡ d
nothing true d e = refl
nothing false d e = e

any_at : {X : Type 0} (p : X → Bool) (x : X) (left : List X) (any : Bool) (b c d : Bool) → p x ≡ b
    → (b ≡ true → c ≡ d)
    → list_any p left ≡ any && d → list_any p (cond c (x ∷ left) left) ≡ (b || any) && d
any_at p x left any true true d e h on = ap (λ b. b || list_any p left) e ∙ h refl
any_at p x left any true false d e h on = on ∙ nothing any d (h refl)
any_at p x left any false true d e h on = ap (λ b. b || list_any p left) e ∙ on
any_at p x left any false false d e h on = on

-- some pass behind a filter which says the same of all that pass
pub any_kept : {X : Type 0} (p q : X → Bool) (d : Bool) (xs : List X) → AllByRecursion (λ x. p x ≡ true → q x ≡ d) xs
    → list_any p (filter q xs) ≡ list_any p xs && d
any_kept p q d [] h = refl
any_kept p q d (x ∷ xs) h = any_at p x (filter q xs) (list_any p xs) (p x) (q x) d refl h.0 (any_kept p q d xs h.1)

pub and_true : (b : Bool) → b && true ≡ b
and_true true = refl
and_true false = refl

-- ---- what is left of a partial map

listed_at : {X Y : Type 0} (f g : X → Option Y) (x : X) (left : List X) (ys : List Y) (b : Bool)
    → (b ≡ true → g x ≡ f x) → (b ≡ false → f x ≡ None) → filter_map g left ≡ ys
    → filter_map g (cond b (x ∷ left) left) ≡ cons_option (f x) ys
listed_at f g x left ys true same none rest = ap (λ y. cons_option y (filter_map g left)) (same refl) ∙ ap (cons_option (f x)) rest
listed_at f g x left ys false same none rest = rest ∙ sym (ap (λ y. cons_option y ys) (none refl))

-- a partial map is another one behind a filter where both agree on what passes, and it gives
-- nothing of what doesn't
pub listed : {X Y : Type 0} (f g : X → Option Y) (p : X → Bool) → ((x : X) → p x ≡ true → g x ≡ f x)
    → ((x : X) → p x ≡ false → f x ≡ None) → (xs : List X) → filter_map g (filter p xs) ≡ filter_map f xs
listed f g p same none [] = refl
listed f g p same none (x ∷ xs) = listed_at f g x (filter p xs) (filter_map f xs) (p x) (same x) (none x) (listed f g p same none xs)
