-- What rises over the last of a list. This jar's own rule: docs/DEFINITIONS.md.
use Rattle.std.specs.Prelude.{List, [], ◌∷◌, ◌++◌, Bool, true, if◌then◌else◌}
use Rattle.std.specs.Ordering.{is_lt}
use Rattle.std.specs.declared.cmp.Ordering.{Ordering}

-- it comes after the last of the list; behind none it may be any
abbrev pub comes_after : {X : Type 0} → (X → X → Ordering) → List X → X → Bool
comes_after cmp [] x = true
comes_after cmp (last ∷ []) x = is_lt (cmp last x)
comes_after cmp (y ∷ (next ∷ more)) x = comes_after cmp (next ∷ more) x

-- the list with it at the end, where it comes after the last
abbrev pub added : {X : Type 0} → (X → X → Ordering) → List X → X → List X
added cmp xs x = if comes_after cmp xs x then xs ++ x ∷ [] else xs
