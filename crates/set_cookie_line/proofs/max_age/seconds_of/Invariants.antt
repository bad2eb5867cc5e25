-- The seconds are those of the digits so far.
use Rattle.std.proofs.Common.{◌≡◌, take}
use Rattle.set_cookie_line.specs.MaxAge as spec
use Rattle.set_cookie_line.proofs.max_age.seconds_of.Given as goal

abbrev pub invariant-loop-digit : goal.invariant-loop-digit
invariant-loop-digit l = l.seconds ≡ spec.seconds_of (take l.digit-index l.digits)
