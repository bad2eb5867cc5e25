-- The first of some moments.
use Rattle.std.proofs.Common.{◌≤◌, ◌+◌, ℕ, List, [], ◌∷◌, arith}
use Rattle.jar_values.specs.declared.moment.TheConstants.{MAX_MOMENT}
use Rattle.jar_types.specs.Gets.{first_of}

-- it isn't past the first moment past all
pub first_is_small : (moments : List ℕ) → first_of moments ≤ MAX_MOMENT + 1
first_is_small [] = omega arith
first_is_small (m ∷ ms) = let rest = first_is_small ms in omega (arith, rest)
