-- Values that RFC 9110, section 5.6.7, RFC 6265, sections 3.1 and 5.1.1, the 6265bis draft, section
-- 5.1.1, and the calendar give, so that a wrong rule in the specs does not check.
use Rattle.std.proofs.Common.{◌≡◌, true, false, [], ◌∷◌, map, codes, Some, None, refl}
use Rattle.jiff_core.specs.Calendar.{days_of_years, days_of_months, day_count, days_from_civil}
use Rattle.cookie_date.specs.declared.calendar.TheConstants.{MIN_YEAR}
use Rattle.cookie_date.specs.Number.{read_number}
use Rattle.cookie_date.specs.Token.{is_delimiter, date_tokens, after_colon, read_time, read_day, read_month, read_year}
use Rattle.cookie_date.specs.Date.{date, full_year, day_number, second_of_day, moment_of_parts}

-- RFC 6265, section 5.1.1: the limits
pub limits : MIN_YEAR ≡ 1601
limits = refl

-- RFC 9110, section 5.6.7: one moment as IMF-fixdate, as an RFC 850 date and as an asctime date
pub three_formats : (date (codes "Sun, 06 Nov 1994 08:49:37 GMT") ≡ Some 784_111_777_000)
    × (date (codes "Sunday, 06-Nov-94 08:49:37 GMT") ≡ Some 784_111_777_000)
    × (date (codes "Sun Nov  6 08:49:37 1994") ≡ Some 784_111_777_000)
unfolding read_number after_colon read_time read_day read_month read_year day_number second_of_day moment_of_parts days_of_years days_of_months day_count days_from_civil
three_formats = (refl, refl, refl)

-- RFC 6265, section 3.1: the date that an example sets, and the past date that removes a cookie
pub examples : (date (codes "Wed, 09 Jun 2021 10:18:14 GMT") ≡ Some 1_623_233_894_000)
    × (date (codes "Sun, 06 Nov 1994 08:49:37 GMT") ≡ Some 784_111_777_000)
unfolding read_number after_colon read_time read_day read_month read_year day_number second_of_day moment_of_parts days_of_years days_of_months day_count days_from_civil
examples = (refl, refl)

-- RFC 6265, section 5.1.1: the delimiters end and begin at these bytes, and part a text into tokens
pub delimiters : (map is_delimiter (0x08 ∷ 0x09 ∷ 0x0A ∷ 0x1F ∷ 0x20 ∷ 0x2F ∷ 0x30 ∷ 0x3A ∷ 0x3B ∷ 0x40 ∷ 0x41 ∷ [])
    ≡ false ∷ true ∷ false ∷ false ∷ true ∷ true ∷ false ∷ false ∷ true ∷ true ∷ false ∷ [])
    × (map is_delimiter (0x5A ∷ 0x5B ∷ 0x60 ∷ 0x61 ∷ 0x7A ∷ 0x7B ∷ 0x7E ∷ 0x7F ∷ 0x80 ∷ [])
    ≡ false ∷ true ∷ true ∷ false ∷ false ∷ true ∷ true ∷ false ∷ false ∷ [])
    × (date_tokens (codes "6-Nov 8:4") ≡ codes "6" ∷ codes "Nov" ∷ codes "8:4" ∷ [])
delimiters = (refl, refl, refl)

-- the 6265bis draft, section 5.1.1: digits that are too few or too many are no number, and after
-- the digits there may be nothing, or any bytes from the first that is no digit on
pub rest_after_digits : (map read_day (codes "6" ∷ codes "06th" ∷ codes "006" ∷ codes "th" ∷ []) ≡ Some 6 ∷ Some 6 ∷ None ∷ None ∷ [])
    × (map read_year (codes "94" ∷ codes "1994AD" ∷ codes "9" ∷ codes "19940" ∷ []) ≡ Some 94 ∷ Some 1994 ∷ None ∷ None ∷ [])
    × (read_time (codes "8:49:37") ≡ Some (record { hour = 8; minute = 49; second = 37 }))
    × (read_time (codes "08:49:37pm") ≡ Some (record { hour = 8; minute = 49; second = 37 }))
    × (map read_time (codes "08:49" ∷ codes "8:49:370" ∷ codes "008:49:37" ∷ codes "8.49.37" ∷ []) ≡ None ∷ None ∷ None ∷ None ∷ [])
unfolding read_number after_colon read_time read_day read_year
rest_after_digits = (refl, refl, refl, refl, refl)

-- RFC 6265, section 5.1.1: a month is its first three letters, in any case
pub months : (map read_month (codes "jan" ∷ codes "FEB" ∷ codes "March" ∷ codes "apr" ∷ codes "May" ∷ codes "jun" ∷ [])
    ≡ Some 1 ∷ Some 2 ∷ Some 3 ∷ Some 4 ∷ Some 5 ∷ Some 6 ∷ [])
    × (map read_month (codes "jul" ∷ codes "aug" ∷ codes "Sept" ∷ codes "oct" ∷ codes "nov" ∷ codes "DECEMBER" ∷ [])
    ≡ Some 7 ∷ Some 8 ∷ Some 9 ∷ Some 10 ∷ Some 11 ∷ Some 12 ∷ [])
    × (map read_month (codes "ja" ∷ codes "1jan" ∷ codes "foo" ∷ []) ≡ None ∷ None ∷ None ∷ [])
unfolding read_month
months = (refl, refl, refl)

-- RFC 6265, section 5.1.1: each part is the first token that can be it and is taken once, so that a
-- second time is a day where no day comes before it, and a second day a year
pub first_of_several : (date (codes "06 Nov 1994 08:49:37 07 Dec") ≡ Some 784_111_777_000)
    × (date (codes "06 Nov 1994 08:49:37 10:00:00 1995") ≡ Some 784_111_777_000)
    × (date (codes "08:49:37 07:00:00 Nov 1994") ≡ Some 784_198_177_000)
    × (date (codes "06 Nov 94 08:49:37 1995") ≡ Some 784_111_777_000)
    × (date (codes "06 94 Nov 08:49:37") ≡ Some 784_111_777_000)
unfolding read_number after_colon read_time read_day read_month read_year day_number second_of_day moment_of_parts days_of_years days_of_months day_count days_from_civil
first_of_several = (refl, refl, refl, refl, refl)

-- RFC 6265, section 5.1.1: a date without a time, a day, a month or a year is none
pub missing_parts : (date (codes "06 Nov 1994") ≡ None) × (date (codes "Nov 1994 08:49:37") ≡ None)
    × (date (codes "06 1994 08:49:37") ≡ None) × (date (codes "06 Nov 08:49:37") ≡ None)
unfolding read_number after_colon read_time read_day read_month read_year day_number second_of_day moment_of_parts days_of_years days_of_months day_count days_from_civil
missing_parts = (refl, refl, refl, refl)

-- RFC 6265, section 5.1.1: the last second of a day, and times that no clock has
pub clock : (date (codes "06 Nov 1994 23:59:59") ≡ Some 784_166_399_000) × (date (codes "06 Nov 1994 24:00:00") ≡ None)
    × (date (codes "06 Nov 1994 23:60:00") ≡ None) × (date (codes "06 Nov 1994 23:00:60") ≡ None)
unfolding read_number after_colon read_time read_day read_month read_year day_number second_of_day moment_of_parts days_of_years days_of_months day_count days_from_civil
clock = (refl, refl, refl, refl)

-- the calendar: the last days of months and leap years, and days that there are not
pub calendar : (date (codes "30 Nov 1994 0:0:0") ≡ Some 786_153_600_000) × (date (codes "31 Nov 1994 0:0:0") ≡ None)
    × (date (codes "0 Nov 1994 0:0:0") ≡ None) × (date (codes "29 Feb 2000 0:0:0") ≡ Some 951_782_400_000)
    × (date (codes "29 Feb 1900 0:0:0") ≡ None) × (date (codes "Sun, 31 Feb 1994 08:49:37 GMT") ≡ None)
unfolding read_number after_colon read_time read_day read_month read_year day_number second_of_day moment_of_parts days_of_years days_of_months day_count days_from_civil
calendar = (refl, refl, refl, refl, refl, refl)

-- RFC 6265, section 5.1.1: years below 100 mean 1970 to 2069, by their value, and 1601 is the first
-- year; this jar's own: a date before 1970 is 0
pub years : (map full_year (0 ∷ 69 ∷ 70 ∷ 99 ∷ 100 ∷ 1994 ∷ []) ≡ 2000 ∷ 2069 ∷ 1970 ∷ 1999 ∷ 100 ∷ 1994 ∷ [])
    × (date (codes "1 Jan 69 0:0:0") ≡ Some 3_124_224_000_000) × (date (codes "1 Jan 70 0:0:0") ≡ Some 0)
    × (date (codes "1 Jan 099 0:0:0") ≡ Some 915_148_800_000) × (date (codes "1 Jan 1969 00:00:01") ≡ Some 0)
    × (date (codes "1 Jan 1601 0:0:0") ≡ Some 0) × (date (codes "31 Dec 1600 23:59:59") ≡ None)
    × (date (codes "Fri, 31 Dec 9999 23:59:59 GMT") ≡ Some 253_402_300_799_000)
unfolding read_number after_colon read_time read_day read_month read_year day_number second_of_day moment_of_parts days_of_years days_of_months day_count days_from_civil
years = (refl, refl, refl, refl, refl, refl, refl, refl)
