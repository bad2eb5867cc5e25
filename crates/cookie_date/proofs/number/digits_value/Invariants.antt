-- The number is that of the digits so far.
use Rattle.std.proofs.Common.{◌≡◌, take}
use Rattle.cookie_date.specs.Number as spec
use Rattle.cookie_date.proofs.number.digits_value.Given as goal

abbrev pub invariant-loop-digit : goal.invariant-loop-digit
invariant-loop-digit l = l.number ≡ spec.digits_value (take l.digit-index l.digits)
