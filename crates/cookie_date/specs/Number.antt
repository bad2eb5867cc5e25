-- Numbers at the front of a token, after RFC 6265, section 5.1.1: day-of-month, year and
-- time-field.
use Rattle.std.specs.Prelude.{ℕ, ◌≤◌, ◌&&◌, List, length, take, drop, nat_le, Option, Some, None, option_map, if◌then◌else◌}
use Rattle.std.specs.List.{prefix_len}
use Rattle.std.specs.Char.{is_ascii_digit}
use Rattle.std.specs.Str.Parse as parse
use Rattle.std.specs.Borrow.{Bor}

-- a value and the bytes after it
abbrev pub Read : Type 0 → Type 0
Read A = Option (A × List ℕ)

-- how many digits the bytes begin with
abbrev pub leading_digits : List ℕ → ℕ
leading_digits bytes = prefix_len is_ascii_digit bytes

-- the number that the digits write
abbrev pub digits_value : List ℕ → ℕ
digits_value digits = parse.digits_value 10 digits

-- the number at the front, where it has at least `least` and at most `most` digits
unfoldable pub read_number : ℕ → ℕ → List ℕ → Read ℕ
read_number least most bytes =
    let count = leading_digits bytes in
    if nat_le least count && nat_le count most
    then Some (digits_value (take count bytes), drop count bytes)
    else None

-- ---- that no public clause cites

-- what a function read, with the bytes behind the reference
abbrev pub read_view : {A : Type 0} → Option (A × Bor (List ℕ)) → Read A
read_view read = option_map (λ p. (p.0, p.1.now)) read

-- each byte is a digit
abbrev pub AreDigits : List ℕ → Type 0
AreDigits bytes = parse.AllDigits 10 bytes

-- no more than four bytes
abbrev pub IsShort : List ℕ → Type 0
IsShort bytes = length bytes ≤ 4
