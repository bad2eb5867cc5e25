-- The tokens of a date, and the part that a token may be, after RFC 6265, section 5.1.1. That
-- nothing need follow a number is the 6265bis draft's, in the same section.
use Rattle.std.specs.Prelude.{ℕ, ◌+◌, Bool, ◌||◌, ◌==◌, List, [], ◌∷◌, map, take, drop, codes, bytes_eq, position, Option, Some, None, option_map, option_and_then, if◌then◌else◌}
use Rattle.std.specs.Int.{is_in_range}
use Rattle.std.specs.Char.{to_ascii_lowercase}
use Rattle.std.specs.List.{slice_split}
use Rattle.cookie_date.specs.declared.token.Time.{Time}
use Rattle.cookie_date.specs.Number.{read_number}

-- delimiter = %x09 / %x20-2F / %x3B-40 / %x5B-60 / %x7B-7E
abbrev pub is_delimiter : ℕ → Bool
is_delimiter byte =
    byte == 0x09 || is_in_range 0x20 0x2F byte || is_in_range 0x3B 0x40 byte
    || is_in_range 0x5B 0x60 byte || is_in_range 0x7B 0x7E byte

-- the tokens of a text: what stands between delimiters, where an empty token is no part of a date
abbrev pub date_tokens : List ℕ → List (List ℕ)
date_tokens text = slice_split is_delimiter text

infixl 10 ◌>>=◌
abbrev ◌>>=◌ : {A B : Type 0} → Option A → (A → Option B) → Option B
o >>= f = option_and_then f o

-- what follows a colon
unfoldable pub after_colon : List ℕ → Option (List ℕ)
after_colon bytes = if bytes_eq (take 1 bytes) (codes ":") then Some (drop 1 bytes) else None

-- time = hms-time [ non-digit *OCTET ], hms-time = time-field ":" time-field ":" time-field,
-- time-field = 1*2DIGIT
unfoldable pub read_time : List ℕ → Option Time
read_time token = do
  hour ← read_number 1 2 token
  minute ← after_colon hour.1 >>= read_number 1 2
  second ← after_colon minute.1 >>= read_number 1 2
  Some (record { hour = hour.0; minute = minute.0; second = second.0 })

-- day-of-month = 1*2DIGIT [ non-digit *OCTET ]
unfoldable pub read_day : List ℕ → Option ℕ
read_day token = option_map (λ read. read.0) (read_number 1 2 token)

-- the months in their order
abbrev pub month_names : List (List ℕ)
month_names =
    codes "jan" ∷ codes "feb" ∷ codes "mar" ∷ codes "apr" ∷ codes "may" ∷ codes "jun"
    ∷ codes "jul" ∷ codes "aug" ∷ codes "sep" ∷ codes "oct" ∷ codes "nov" ∷ codes "dec" ∷ []

-- the token begins with this name, without ASCII case
abbrev pub begins_with_name : List ℕ → List ℕ → Bool
begins_with_name token name = bytes_eq (map to_ascii_lowercase (take 3 token)) name

-- the place of the month that the token begins with, from 0
abbrev pub month_place : List ℕ → Option ℕ
month_place token = position (begins_with_name token) month_names

-- month = ( "jan" / "feb" / .. / "dec" ) *OCTET
unfoldable pub read_month : List ℕ → Option ℕ
read_month token = option_map (λ place. place + 1) (month_place token)

-- year = 2*4DIGIT [ non-digit *OCTET ]
unfoldable pub read_year : List ℕ → Option ℕ
read_year token = option_map (λ read. read.0) (read_number 2 4 token)
