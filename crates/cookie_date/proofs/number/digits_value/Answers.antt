-- Each digit adds its worth to ten times the number so far.
use Rattle.std.proofs.Common.{arith}
use Rattle.std.proofs.lemmas.Grind.{common_steps}
use Rattle.cookie_date.proofs.NumberLemmas.{next_digit, four_digits}
use Rattle.cookie_date.proofs.number.digits_value.Goals as goal

pub overflow_mul-number : goal.overflow_mul-number
overflow_mul-number c =
    let next = next_digit c.args.digits.now c.loop-digit.digit-index c.requires.all c.requires.few c.loop-digit-test.true in
    omega (arith, next.value, next.bound, c.loop-digit.invariant)

pub overflow_sub-digit : goal.overflow_sub-digit
overflow_sub-digit c =
    let next = next_digit c.args.digits.now c.loop-digit.digit-index c.requires.all c.requires.few c.loop-digit-test.true in
    omega (arith, next.within)

pub overflow_add-number : goal.overflow_add-number
overflow_add-number c =
    let next = next_digit c.args.digits.now c.loop-digit.digit-index c.requires.all c.requires.few c.loop-digit-test.true in
    omega (arith, next.value, next.bound, c.loop-digit.invariant, c.from.ensures)

pub loop-digit-preserved : goal.loop-digit-preserved
loop-digit-preserved c =
    let next = next_digit c.args.digits.now c.loop-digit.digit-index c.requires.all c.requires.few c.loop-digit-test.true in
    omega (arith, next.value, c.loop-digit.invariant, c.from.ensures)

pub returns-clause-bound : goal.returns-clause-bound
returns-clause-bound c =
    let whole = four_digits c.args.digits.now c.requires.all c.requires.few in
    grind (arith, common_steps, whole)
