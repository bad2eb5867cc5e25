-- Laws of made cookies and of stored rows. This jar's own rule: docs/DEFINITIONS.md.
use Rattle.std.specs.Prelude.{◌≡◌, ◌≤◌, ℕ, List, Bool, true, Some, Ok}
use Rattle.jar_values.specs.declared.moment.TheConstants.{MAX_MOMENT}
use Rattle.jar_values.specs.Hosts.{undotted}
use Rattle.jar_types.specs.declared.cookie.Cookie.{Cookie}
use Rattle.jar_types.specs.declared.request.Context.{Context}
use Rattle.jar_types.specs.declared.row.Row.{Row}
use Rattle.jar_types.specs.Rows.{is_sound_row, cookie_of_row, row_of}
use Rattle.set_cookie_line.specs.declared.line.Line.{Line}
use Rattle.set_cookie_line.specs.Line.{read_line}
use Rattle.public_suffix.specs.Rule.{SuffixRule}
use Rattle.public_suffix.specs.Suffix.{key_of}
use Rattle.site_match.specs.declared.place.Place.{Place}
use Rattle.site_match.specs.Places.{ReadsPlace}
use Rattle.canonical_cookie.specs.Making.{made}

-- the cookie is made by a line that a text reads as, at the place of a URL, at a moment
pub record IsMade (rules : List SuffixRule) (cookie : Cookie) : Type 0 where
  pub url : List ℕ
  pub text : List ℕ
  pub place : Place
  pub line : Line
  pub context : Context
  pub script : Bool
  pub now : ℕ
  pub at : ReadsPlace rules url (Ok place)
  pub read : read_line text ≡ Ok line
  pub moment : now ≤ MAX_MOMENT
  pub makes : made rules line place context script now ≡ Ok cookie

-- a made cookie has the key of its host
abbrev pub MadeCookiesHaveTheirKey : Type 0
MadeCookiesHaveTheirKey =
    (rules : List SuffixRule) (cookie : Cookie) → IsMade rules cookie → cookie.key ≡ key_of rules (undotted cookie.host)

-- the row of a made cookie is sound
abbrev pub MadeRowsAreSound : Type 0
MadeRowsAreSound =
    (rules : List SuffixRule) (cookie : Cookie) (row : Row) → IsMade rules cookie → row_of cookie ≡ Some row
    → is_sound_row row ≡ true

-- the sound row of a cookie that has the key of its host is read back as that cookie
abbrev pub RowsAreReadBack : Type 0
RowsAreReadBack =
    (rules : List SuffixRule) (cookie : Cookie) (row : Row) → row_of cookie ≡ Some row → is_sound_row row ≡ true
    → cookie.key ≡ key_of rules (undotted cookie.host) → cookie_of_row (key_of rules) row ≡ Some cookie

-- a row that stands for a cookie is written back as that row
abbrev pub RowsAreWrittenBack : Type 0
RowsAreWrittenBack =
    (rules : List SuffixRule) (row : Row) (cookie : Cookie) → cookie_of_row (key_of rules) row ≡ Some cookie
    → row_of cookie ≡ Some row
