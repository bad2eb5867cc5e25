-- The moment of a cookie date, after RFC 6265, section 5.1.1; before 1970 it is 0, this jar's own
-- rule.
use Rattle.std.specs.Prelude.{ℕ, ◌+◌, ◌*◌, ◌&&◌, nat_le, List, Option, Some, None, option_and_then, if◌then◌else◌, ℤ, pos, negsuc}
use Rattle.jiff_core.specs.Calendar.{days_in_month, days_from_civil}
use Rattle.cookie_date.specs.declared.token.Time.{Time}
use Rattle.cookie_date.specs.declared.parts.Parts.{Parts}
use Rattle.cookie_date.specs.declared.calendar.TheConstants.{MIN_YEAR}
use Rattle.cookie_date.specs.Token.{date_tokens}
use Rattle.cookie_date.specs.Parts.{parts_of}

infixl 10 ◌>>=◌
abbrev ◌>>=◌ : {A B : Type 0} → Option A → (A → Option B) → Option B
o >>= f = option_and_then f o

-- the year that a year as it was written means: 70 to 99 are 1970 to 1999, 0 to 69 are 2000 to 2069
abbrev pub full_year : ℕ → ℕ
full_year year =
    if nat_le 70 year && nat_le year 99 then 1900 + year
    else (if nat_le year 69 then 2000 + year else year)

-- the days since 1970, where the year is not too early and the calendar has the day
unfoldable pub day_number : ℕ → ℕ → ℕ → Option ℤ
day_number year month day =
    if nat_le MIN_YEAR year && nat_le 1 month && nat_le month 12
    && nat_le 1 day && nat_le day (days_in_month (pos year) month)
    then Some (days_from_civil (pos year) month day) else None

-- the seconds since midnight, where the clock has the time
unfoldable pub second_of_day : Time → Option ℕ
second_of_day time =
    if nat_le time.hour 23 && nat_le time.minute 59 && nat_le time.second 59
    then Some (time.hour * 3600 + time.minute * 60 + time.second) else None

-- the milliseconds since 1970 at a second of a day, or 0 before 1970
abbrev pub moment_of : ℤ → ℕ → ℕ
moment_of (pos day) second = (day * 86_400 + second) * 1000
moment_of (negsuc before) second = 0

-- the moment of the parts, none where one is missing, or the clock or the calendar has no such time
unfoldable pub moment_of_parts : Parts → Option ℕ
moment_of_parts parts = do
  time ← parts.time
  day ← parts.day
  month ← parts.month
  year ← parts.year
  second ← second_of_day time
  number ← day_number (full_year year) month day
  Some (moment_of number second)

-- the moment that the text names, none where it names none
abbrev pub date : List ℕ → Option ℕ
date text = moment_of_parts (parts_of (date_tokens text))
