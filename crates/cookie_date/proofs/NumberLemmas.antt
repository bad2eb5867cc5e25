-- The value of a few digits, one digit after another.
use Rattle.std.proofs.Common.{◌≡◌, ℕ, ◌+◌, ◌-◌, ◌*◌, ◌<◌, ◌≤◌, List, length, take, get_or, arith, length-take, get_or-take}
use Rattle.std.specs.Char.{digit_value, is_ascii_digit}
use Rattle.std.specs.Int.{IsInRange}
use Rattle.std.specs.Str.Parse.{AllDigits, digits_value}
use Rattle.std.proofs.lemmas.Int.Digits.{digits_value_more}
use Rattle.std.specs.List.{prefix_len}
use Rattle.std.proofs.lemmas.List.Sums.{prefix_len_passes}
use Rattle.std.proofs.lemmas.Str.Parse.{tells_by_index, digit_at, digits_value_short, numerals_by_value, tells_digits, digits_value-take-le}
use Rattle.std.proofs.lemmas.Bool.Decides.{nat_tests}

-- a digit is worth what it stands above `0`
pub digit_value_is : (c : ℕ) → IsInRange 48 57 c → digit_value c ≡ c - 48
digit_value_is c within = grind (arith, nat_tests)

-- four digits are worth less than 10,000
pub four_digits : (ds : List ℕ) → AllDigits 10 ds → length ds ≤ 4 → digits_value 10 ds < 10_000
four_digits ds all few = digits_value_short (numerals_by_value (AllDigits 10) tells_digits) ds 4 all few

-- the value of the digits up to one more
pub record IsNextDigit (ds : List ℕ) (i : ℕ) : Type 0 where
  pub within : IsInRange 48 57 (get_or ds i 0)
  pub value : digits_value 10 (take (i + 1) ds) ≡ digits_value 10 (take i ds) * 10 + (get_or ds i 0 - 48)
  pub bound : digits_value 10 (take (i + 1) ds) < 10_000

pub next_digit : (ds : List ℕ) (i : ℕ) → AllDigits 10 ds → length ds ≤ 4 → i < length ds → IsNextDigit ds i
next_digit ds i all few here =
    let within = digit_at ds i all here in
    let more = digits_value_more 10 ds i here in
    let is = digit_value_is (get_or ds i 0) within in
    let least = digits_value-take-le 10 ds (i + 1) (omega arith) in
    let whole = four_digits ds all few in
    record { within = within; value = omega (arith, more, is); bound = omega (arith, least, whole) }

-- the digits at the front are digits
pub front_digits : (bytes : List ℕ) → AllDigits 10 (take (prefix_len is_ascii_digit bytes) bytes)
front_digits bytes =
    let front = prefix_len is_ascii_digit bytes in
    (numerals_by_value (λ ds. (i : ℕ) → i < length ds → IsInRange 48 57 (get_or ds i 0)) tells_by_index).to (take front bytes)
    (λ i here.
    let short : i < front = omega (arith, length-take front bytes) in
    let passes = prefix_len_passes is_ascii_digit bytes i 0 short in
    rw get_or-take (grind (arith, nat_tests)))
