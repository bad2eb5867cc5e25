-- The capped value of digits, one digit after another.
use Rattle.std.proofs.Common.{◌≡◌, ℕ, ◌+◌, ◌-◌, ◌*◌, ◌<◌, ◌≤◌, Bool, true, false, List, length, take, get_or, arith, refl, min}
use Rattle.std.specs.Char.{digit_value, is_ascii_digit}
use Rattle.std.specs.Int.{IsInRange}
use Rattle.std.specs.List.{list_all}
use Rattle.std.specs.Str.Parse.{digits_value}
use Rattle.std.proofs.lemmas.Int.Digits.{digits_value_more}
use Rattle.std.proofs.lemmas.List.Folds.{list_all_at}
use Rattle.std.proofs.lemmas.Bool.Decides.{nat_tests}
use Rattle.set_cookie_line.specs.MaxAge.{seconds_of}

digit_within : (byte : ℕ) → is_ascii_digit byte ≡ true → IsInRange 48 57 byte
digit_within byte is = grind (arith, nat_tests)

digit_worth : (byte : ℕ) → IsInRange 48 57 byte → digit_value byte ≡ byte - 48
digit_worth byte within = grind (arith, nat_tests)

each_digit : (ds : List ℕ) (i : ℕ) → list_all is_ascii_digit ds ≡ true → i < length ds → (b : Bool) → is_ascii_digit (get_or ds i 0) ≡ b → b ≡ true
each_digit ds i all here true e = refl
each_digit ds i all here false e = let no = list_all_at is_ascii_digit ds i 0 here e in cc

-- the cap after each digit is the cap of all
capped : (value digit : ℕ) → min (min value 34_560_000 * 10 + digit) 34_560_000 ≡ min (value * 10 + digit) 34_560_000
capped value digit = omega arith

pub record IsNextDigit (ds : List ℕ) (i : ℕ) : Type 0 where
  pub within : IsInRange 48 57 (get_or ds i 0)
  pub value : min (seconds_of (take i ds) * 10 + (get_or ds i 0 - 48)) 34_560_000 ≡ seconds_of (take (i + 1) ds)
  pub bound : seconds_of (take i ds) ≤ 34_560_000

pub next_digit : (ds : List ℕ) (i : ℕ) → list_all is_ascii_digit ds ≡ true → i < length ds → IsNextDigit ds i
next_digit ds i all here =
    let byte = get_or ds i 0 in
    let is = each_digit ds i all here (is_ascii_digit byte) refl in
    let within = digit_within byte is in
    let worth = digit_worth byte within in
    let more = digits_value_more 10 ds i here in
    let cap = capped (digits_value 10 (take i ds)) (byte - 48) in
    record { within = within; value = omega (arith, worth, more, cap); bound = omega arith }
