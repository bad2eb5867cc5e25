-- The cap after each digit is the cap of the digits so far.
use Rattle.std.proofs.Common.{arith}
use Rattle.set_cookie_line.proofs.MaxAgeLemmas.{next_digit}
use Rattle.set_cookie_line.proofs.max_age.seconds_of.Goals as goal

pub loop-digit-preserved : goal.loop-digit-preserved
loop-digit-preserved c =
    let next = next_digit c.args.digits.now c.loop-digit.digit-index c.requires c.loop-digit-test.true in
    omega (arith, next.value, c.loop-digit.invariant, c.from.ensures, c.min-seconds.ensures)
