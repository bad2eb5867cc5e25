-- The names by which a step is refused: those of its line, those of the cookie that it makes, that of
-- another origin than the document's, and that of a jar that takes no more entries. This jar's own
-- rule: docs/DEFINITIONS.md.
use Rattle.std.specs.Prelude.{ℕ, List, codes}
use Rattle.set_cookie_line.specs.declared.line.LineRefusal.{LineRefusal}
use Rattle.set_cookie_line.specs.declared.line.LineRefusal.TheVariants as line
use Rattle.canonical_cookie.specs.declared.refusal.CookieRefusal.{CookieRefusal}
use Rattle.canonical_cookie.specs.declared.refusal.CookieRefusal.TheVariants as cookie
use Rattle.run_report.specs.declared.refusal_name.RefusalName.{RefusalName}
use Rattle.run_report.specs.declared.refusal_name.RefusalName.TheVariants as name

-- the name of a line's refusal; want of memory is none that a text reads as, and has the last name
abbrev pub of_line : LineRefusal → RefusalName
of_line line.Control = name.Control
of_line line.Empty = name.Empty
of_line line.TooLong = name.TooLong
of_line line.NoMemory = name.TooLong

-- the name of a cookie's refusal; want of memory is none that a line comes to, and has the last name
abbrev pub of_cookie : CookieRefusal → RefusalName
of_cookie cookie.DomainNotAscii = name.DomainNotAscii
of_cookie cookie.DomainSuffix = name.DomainSuffix
of_cookie cookie.DomainMismatch = name.DomainMismatch
of_cookie cookie.KeyMismatch = name.KeyMismatch
of_cookie cookie.SecureFromInsecure = name.SecureFromInsecure
of_cookie cookie.HttpOnlyFromScript = name.HttpOnlyFromScript
of_cookie cookie.NoneInsecure = name.NoneInsecure
of_cookie cookie.CrossSite = name.CrossSite
of_cookie cookie.PrefixSecure = name.PrefixSecure
of_cookie cookie.PrefixHost = name.PrefixHost
of_cookie cookie.PrefixNameless = name.PrefixNameless
of_cookie cookie.NoMemory = name.PrefixNameless

-- the word of a name
abbrev pub refusal_word : RefusalName → List ℕ
refusal_word name.Control = codes "Control"
refusal_word name.Empty = codes "Empty"
refusal_word name.TooLong = codes "TooLong"
refusal_word name.DomainNotAscii = codes "DomainNotAscii"
refusal_word name.DomainSuffix = codes "DomainSuffix"
refusal_word name.DomainMismatch = codes "DomainMismatch"
refusal_word name.KeyMismatch = codes "KeyMismatch"
refusal_word name.SecureFromInsecure = codes "SecureFromInsecure"
refusal_word name.HttpOnlyFromScript = codes "HttpOnlyFromScript"
refusal_word name.NoneInsecure = codes "NoneInsecure"
refusal_word name.CrossSite = codes "CrossSite"
refusal_word name.PrefixSecure = codes "PrefixSecure"
refusal_word name.PrefixHost = codes "PrefixHost"
refusal_word name.PrefixNameless = codes "PrefixNameless"
refusal_word name.OriginMismatch = codes "OriginMismatch"
refusal_word name.Spent = codes "Spent"
