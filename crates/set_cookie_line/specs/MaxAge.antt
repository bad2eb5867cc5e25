-- The value of a Max-Age attribute, after the 6265bis draft, sections 5.5 and 5.6.2. This jar's
-- own: `-` alone is no Max-Age.
use Rattle.std.specs.Prelude.{ℕ, ◌&&◌, nat_lt, List, length, take, drop, min, codes, bytes_eq, Bool, Option, Some, None, if◌then◌else◌}
use Rattle.std.specs.List.{list_all}
use Rattle.std.specs.Char.{is_ascii_digit}
use Rattle.std.specs.Str.Parse.{digits_value}
use Rattle.set_cookie_line.specs.declared.max_age.TheConstants.{MAX_AGE_SECONDS}

-- the text has a digit, and nothing but digits
abbrev pub is_numeral : List ℕ → Bool
is_numeral text = nat_lt 0 (length text) && list_all is_ascii_digit text

-- the seconds that the digits write, or the most that is kept
abbrev pub seconds_of : List ℕ → ℕ
seconds_of digits = min (digits_value 10 digits) MAX_AGE_SECONDS

-- the text begins with `-`
abbrev pub is_negative : List ℕ → Bool
is_negative value = bytes_eq (take 1 value) (codes "-")

-- the seconds of a value: digits, or `-` and digits, which are 0; none for any other text
abbrev pub read_max_age : List ℕ → Option ℕ
read_max_age value =
    if is_negative value then (if is_numeral (drop 1 value) then Some 0 else None)
    else (if is_numeral value then Some (seconds_of value) else None)
