-- Lists put in an order.
use Rattle.std.specs.Prelude.{List, [], ◌∷◌, ◌++◌, filter, if◌then◌else◌}
use Rattle.std.specs.Ordering.{is_lt, is_gt, is_eq}
use Rattle.std.specs.declared.cmp.Ordering.{Ordering}

-- the list with x before the first element that it comes before
abbrev pub placed : {X : Type 0} → (X → X → Ordering) → X → List X → List X
placed cmp x [] = x ∷ []
placed cmp x (y ∷ ys) = if is_lt (cmp x y) then x ∷ (y ∷ ys) else y ∷ placed cmp x ys

-- the list in the order of cmp
abbrev pub in_order : {X : Type 0} → (X → X → Ordering) → List X → List X
in_order cmp [] = []
in_order cmp (x ∷ xs) = placed cmp x (in_order cmp xs)

-- the list with x placed likewise, where its equal isn't there yet
abbrev pub placed_once : {X : Type 0} → (X → X → Ordering) → X → List X → List X
placed_once cmp x [] = x ∷ []
placed_once cmp x (y ∷ ys) =
    if is_lt (cmp x y) then x ∷ (y ∷ ys)
    else (if is_eq (cmp x y) then y ∷ ys else y ∷ placed_once cmp x ys)

-- the elements in the order of cmp, each once
abbrev pub ascending : {X : Type 0} → (X → X → Ordering) → List X → List X
ascending cmp [] = []
ascending cmp (x ∷ xs) = placed_once cmp x (ascending cmp xs)

-- the list with x in the place of its equals: after what is less, before what is greater
abbrev pub put_by : {X : Type 0} → (X → X → Ordering) → X → List X → List X
put_by cmp x xs = filter (λ y. is_lt (cmp y x)) xs ++ (x ∷ filter (λ y. is_gt (cmp y x)) xs)
