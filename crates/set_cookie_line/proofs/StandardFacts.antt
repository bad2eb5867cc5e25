-- The lines that RFC 6265, section 3.1, shows and values of the rules of the 6265bis draft, so that
-- a wrong rule in the specs does not check.
use Rattle.std.proofs.Common.{◌≡◌, ℕ, ◌+◌, List, [], ◌∷◌, ◌++◌, length, map, true, false, codes, Some, None, Ok, Err, refl, arith}
use Rattle.std.specs.List.{list_any}
use Rattle.std.proofs.lemmas.Bool.Decides.{nat_tests}
use Rattle.jar_values.specs.declared.attributes.SameSite.TheVariants.{Unspecified, NoLimit, Lax, Strict}
use Rattle.jar_values.specs.declared.attributes.Priority.TheVariants.{Low, Medium, High}
use Rattle.jar_values.specs.Bytes.{is_control}
use Rattle.cookie_date.specs.Calendar.{days_of_years, days_of_months, day_count, days_from_civil}
use Rattle.cookie_date.specs.Number.{read_number}
use Rattle.cookie_date.specs.Token.{after_colon, read_time, read_day, read_month, read_year}
use Rattle.cookie_date.specs.Date.{day_number, second_of_day, moment_of_parts}
use Rattle.set_cookie_line.specs.declared.attribute.TheConstants.{MAX_ATTRIBUTE_BYTES}
use Rattle.set_cookie_line.specs.declared.max_age.TheConstants.{MAX_AGE_SECONDS}
use Rattle.set_cookie_line.specs.declared.attribute.Kind.TheVariants as kind
use Rattle.set_cookie_line.specs.declared.line.Line.{Line}
use Rattle.set_cookie_line.specs.declared.line.LineRefusal.TheVariants.{Control, Empty, TooLong}
use Rattle.set_cookie_line.specs.Blanks.{trimmed}
use Rattle.set_cookie_line.specs.Attribute as attribute
use Rattle.set_cookie_line.specs.Attribute.{kind_of, read_domain, read_path, read_same_site, read_priority, attribute_of, attribute_name, attribute_value, read_attribute}
use Rattle.set_cookie_line.specs.MaxAge.{read_max_age}
use Rattle.set_cookie_line.specs.Line.{line_name, line_value, first_refusal, read_line}

-- the 6265bis draft, sections 5.5 and 5.6: the limits
pub limits : (MAX_ATTRIBUTE_BYTES ≡ 1024) × (MAX_AGE_SECONDS ≡ 34_560_000)
limits = (refl, refl)

-- a line of a name and a value alone
abbrev plain : List ℕ → List ℕ → Line
plain name value = record {
  name = name;
  value = value;
  domain = None;
  path = None;
  expires = None;
  max_age = None;
  secure = false;
  http_only = false;
  same_site = Unspecified;
  priority = Medium;
}

-- RFC 6265, section 3.1: the session identifier, for all paths of a host, then for a domain, and
-- over secure channels alone
pub sessions : (read_line (codes "SID=31d4d96e407aad42") ≡ Ok (plain (codes "SID") (codes "31d4d96e407aad42")))
    × (read_line (codes "SID=31d4d96e407aad42; Path=/; Domain=example.com")
    ≡ Ok (record (plain (codes "SID") (codes "31d4d96e407aad42")) { path = Some (codes "/"); domain = Some (codes "example.com") }))
    × (read_line (codes "SID=31d4d96e407aad42; Path=/; Secure; HttpOnly")
    ≡ Ok (record (plain (codes "SID") (codes "31d4d96e407aad42")) { path = Some (codes "/"); secure = true; http_only = true }))
unfolding read_line read_attribute
sessions = (refl, refl, refl)

-- RFC 6265, section 3.1: a persistent cookie, and the line that removes it
pub languages : (read_line (codes "lang=en-US; Expires=Wed, 09 Jun 2021 10:18:14 GMT")
    ≡ Ok (record (plain (codes "lang") (codes "en-US")) { expires = Some 1_623_233_894_000 }))
    × (read_line (codes "lang=; Expires=Sun, 06 Nov 1994 08:49:37 GMT")
    ≡ Ok (record (plain (codes "lang") (codes "")) { expires = Some 784_111_777_000 }))
unfolding read_line read_attribute read_number after_colon read_time read_day read_month read_year day_number second_of_day moment_of_parts days_of_years days_of_months day_count days_from_civil
languages = (refl, refl)

-- the 6265bis draft, section 5.6: the pair ends before the first `;` and is divided at its first
-- `=`; without one it is the value
pub names_and_values : (map line_name (codes "a=b=c" ∷ codes "a==" ∷ codes "=v" ∷ codes "v" ∷ codes "a=" ∷ codes "a;b=c" ∷ [])
    ≡ codes "a" ∷ codes "a" ∷ [] ∷ [] ∷ codes "a" ∷ [] ∷ [])
    × (map line_value (codes "a=b=c" ∷ codes "a==" ∷ codes "=v" ∷ codes "v" ∷ codes "a=" ∷ codes "a;b=c" ∷ [])
    ≡ codes "b=c" ∷ codes "=" ∷ codes "v" ∷ codes "v" ∷ [] ∷ codes "a" ∷ [])
names_and_values = (refl, refl)

-- the 6265bis draft, section 5.6: spaces and tabs are removed at both ends, and nothing else
pub trimming : (trimmed (0x09 ∷ 0x20 ∷ codes "a b" ++ 0x20 ∷ 0x09 ∷ []) ≡ codes "a b") × (trimmed (0x20 ∷ 0x09 ∷ []) ≡ [])
    × (trimmed (0x0D ∷ 0x61 ∷ 0x0A ∷ []) ≡ 0x0D ∷ 0x61 ∷ 0x0A ∷ [])
    × (line_name (codes " a = b ") ≡ codes "a") × (line_value (codes " a = b ") ≡ codes "b")
    × (attribute_name (codes " Path = / ") ≡ codes "Path") × (attribute_value (codes " Path = /=a ") ≡ codes "/=a")
trimming = (refl, refl, refl, refl, refl, refl, refl)

-- the 6265bis draft, section 5.6: the names of attributes, in any case
pub names_of_attributes : (map kind_of (codes "EXPIRES" ∷ codes "max-AGE" ∷ codes "Domain" ∷ codes "pAtH" ∷ [])
    ≡ kind.Expires ∷ kind.MaxAge ∷ kind.Domain ∷ kind.Path ∷ [])
    × (map kind_of (codes "SECURE" ∷ codes "HttpOnly" ∷ codes "SameSite" ∷ codes "Priority" ∷ [])
    ≡ kind.Secure ∷ kind.HttpOnly ∷ kind.SameSite ∷ kind.Priority ∷ [])
    × (map kind_of (codes "Secured" ∷ codes "maxage" ∷ codes "" ∷ []) ≡ kind.Unknown ∷ kind.Unknown ∷ kind.Unknown ∷ [])
names_of_attributes = (refl, refl, refl)

-- the 6265bis draft, sections 5.6.3 and 5.6.4; this jar's own: an empty domain is none
pub domains_and_paths : (read_domain (codes ".Example.COM") ≡ Some (codes "example.com")) × (read_domain (codes "..h") ≡ Some (codes ".h"))
    × (read_domain (codes ".") ≡ None) × (read_domain (codes "") ≡ None)
    × (read_path (codes "/A") ≡ Some (codes "/A")) × (read_path (codes "a/") ≡ None) × (read_path (codes "") ≡ None)
domains_and_paths = (refl, refl, refl, refl, refl, refl, refl)

-- the 6265bis draft, section 5.6.7, and this jar's own: Priority
pub words : (map read_same_site (codes "None" ∷ codes "LAX" ∷ codes "strict" ∷ codes "" ∷ []) ≡ NoLimit ∷ Lax ∷ Strict ∷ Unspecified ∷ [])
    × (map read_priority (codes "Low" ∷ codes "HIGH" ∷ codes "medium" ∷ codes "" ∷ []) ≡ Low ∷ High ∷ Medium ∷ Medium ∷ [])
words = (refl, refl)

-- the 6265bis draft, sections 5.5 and 5.6.2: a Max-Age of digits, negative, too long, and of no
-- number
pub ages : (read_max_age (codes "60") ≡ Some 60) × (read_max_age (codes "-60") ≡ Some 0)
    × (read_max_age (codes "99999999999999999999") ≡ Some 34_560_000) × (read_max_age (codes "34560000") ≡ Some 34_560_000)
    × (read_max_age (codes "6a") ≡ None) × (read_max_age (codes "-") ≡ None) × (read_max_age (codes "") ≡ None)
ages = (refl, refl, refl, refl, refl, refl, refl)

-- the 6265bis draft, section 5.7: of several attributes of one kind the last counts, also one that
-- says that there is none; what can't be read plays no part
pub last_of_several : (read_line (codes " a = 1 ;PATH=/a; path = /b ; path=c; Path=/d;samesite=STRICT; Priority=High;x=y")
    ≡ Ok (record (plain (codes "a") (codes "1")) { path = Some (codes "/d"); same_site = Strict; priority = High }))
    × (read_line (codes "a=1; Path=/a; Path=b") ≡ Ok (plain (codes "a") (codes "1")))
    × (read_line (codes "a=1; Domain=.Example.COM; Domain=.") ≡ Ok (plain (codes "a") (codes "1")))
    × (read_line (codes "a=1; Max-Age=5; max-age=60; Max-Age=x") ≡ Ok (record (plain (codes "a") (codes "1")) { max_age = Some 60 }))
    × (read_line (codes "a=1; SameSite=Lax; SameSite=x") ≡ Ok (plain (codes "a") (codes "1")))
unfolding read_line read_attribute
last_of_several = (refl, refl, refl, refl, refl)

-- the 6265bis draft, section 5.6: a line without a name and a value; a control byte anywhere
-- refuses it first
pub refusals : (read_line (codes " ;Path=/") ≡ Err Empty) × (read_line (codes "=") ≡ Err Empty)
    × (read_line (codes "=;" ++ 0x7F ∷ []) ≡ Err Control) × (read_line (codes "a=1; Path=/" ++ 0x0A ∷ []) ≡ Err Control)
    × (read_line (codes "a=" ++ 0x09 ∷ []) ≡ Ok (plain (codes "a") []))
unfolding read_line
refusals = (refl, refl, refl, refl, refl)

-- the 6265bis draft, section 5.6: a control byte refuses a line before its name and value are
-- measured
pub control_first : (text name value : List ℕ) → list_any is_control text ≡ true → first_refusal text name value ≡ Some Control
control_first text name value here = rw here

-- the 6265bis draft, section 5.6: of 4,096 bytes a name and a value are none too long, of 4,097
-- they are
pub sizes : (text name value : List ℕ) → list_any is_control text ≡ false
    → (length name + length value ≡ 4096 → first_refusal text name value ≡ None)
    × (length name + length value ≡ 4097 → first_refusal text name value ≡ Some TooLong)
sizes text name value clean = (λ few. rw clean (grind (arith, nat_tests)), λ many. rw clean (grind (arith, nat_tests)))

-- the 6265bis draft, section 5.6: an attribute whose value has 1,024 bytes counts, and one of 1,025
-- is dropped
pub long_values : (text : List ℕ)
    → (length (attribute_value text) ≡ 1024 → read_attribute text ≡ attribute_of (kind_of (attribute_name text)) (attribute_value text))
    × (length (attribute_value text) ≡ 1025 → read_attribute text ≡ attribute.dropped)
unfolding read_attribute
long_values text = (λ few. rw few, λ many. rw many)
