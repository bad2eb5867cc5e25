-- One attribute of a line, after the 6265bis draft, section 5.6. This jar's own: Priority, and that
-- an empty Domain is none.
use Rattle.std.specs.Prelude.{ℕ, ◌==◌, nat_lt, nat_eq, List, [], length, codes, Option, Some, None, unwrap_or, if◌then◌else◌}
use Rattle.std.specs.List.{starts_with}
use Rattle.std.specs.Str.{str_eq_ignore_ascii_case, str_to_ascii_lowercase}
use Rattle.jar_values.specs.declared.attributes.SameSite.{SameSite}
use Rattle.jar_values.specs.declared.attributes.SameSite.TheVariants.{Unspecified, NoLimit, Lax, Strict}
use Rattle.jar_values.specs.declared.attributes.Priority.{Priority}
use Rattle.jar_values.specs.declared.attributes.Priority.TheVariants.{Low, Medium, High}
use Rattle.jar_values.specs.Hosts.{undotted}
use Rattle.cookie_date.specs.Date.{date}
use Rattle.set_cookie_line.specs.declared.attribute.Kind.{Kind}
use Rattle.set_cookie_line.specs.declared.attribute.Kind.TheVariants as kind
use Rattle.set_cookie_line.specs.declared.attribute.TheConstants.{MAX_ATTRIBUTE_BYTES}
use Rattle.set_cookie_line.specs.Blanks.{trimmed}
use Rattle.set_cookie_line.specs.Cut.{cut}
use Rattle.set_cookie_line.specs.MaxAge.{read_max_age}

-- an attribute with what its value reads as, or one that is dropped
pub data Attribute : Type 0 where
  expires : ℕ → Attribute
  max_age : ℕ → Attribute
  domain : Option (List ℕ) → Attribute
  path : Option (List ℕ) → Attribute
  secure : Attribute
  http_only : Attribute
  same_site : SameSite → Attribute
  priority : Priority → Attribute
  dropped : Attribute

-- the kind of attribute that has this name, without ASCII case
abbrev pub kind_of : List ℕ → Kind
kind_of name =
    if str_eq_ignore_ascii_case name (codes "expires") then kind.Expires
    else (if str_eq_ignore_ascii_case name (codes "max-age") then kind.MaxAge
    else (if str_eq_ignore_ascii_case name (codes "domain") then kind.Domain
    else (if str_eq_ignore_ascii_case name (codes "path") then kind.Path
    else (if str_eq_ignore_ascii_case name (codes "secure") then kind.Secure
    else (if str_eq_ignore_ascii_case name (codes "httponly") then kind.HttpOnly
    else (if str_eq_ignore_ascii_case name (codes "samesite") then kind.SameSite
    else (if str_eq_ignore_ascii_case name (codes "priority") then kind.Priority
    else kind.Unknown)))))))

-- the domain of a Domain value: without one dot in front, in small letters; none where nothing is
-- left
abbrev pub read_domain : List ℕ → Option (List ℕ)
read_domain value =
    if length (undotted value) == 0 then None else Some (str_to_ascii_lowercase (undotted value))

-- the path of a Path value, none where it does not begin with `/`
abbrev pub read_path : List ℕ → Option (List ℕ)
read_path value = if starts_with nat_eq value (codes "/") then Some value else None

-- what a SameSite value names, without ASCII case
abbrev pub read_same_site : List ℕ → SameSite
read_same_site value =
    if str_eq_ignore_ascii_case value (codes "none") then NoLimit
    else (if str_eq_ignore_ascii_case value (codes "lax") then Lax
    else (if str_eq_ignore_ascii_case value (codes "strict") then Strict else Unspecified))

-- what a Priority value names, without ASCII case
abbrev pub read_priority : List ℕ → Priority
read_priority value =
    if str_eq_ignore_ascii_case value (codes "low") then Low
    else (if str_eq_ignore_ascii_case value (codes "high") then High else Medium)

-- an attribute whose value can be read, or one that is dropped
abbrev pub where_read : (ℕ → Attribute) → Option ℕ → Attribute
where_read attribute (Some number) = attribute number
where_read attribute None = dropped

-- the attribute of a kind with this value
abbrev pub attribute_of : Kind → List ℕ → Attribute
attribute_of kind.Expires value = where_read expires (date value)
attribute_of kind.MaxAge value = where_read max_age (read_max_age value)
attribute_of kind.Domain value = domain (read_domain value)
attribute_of kind.Path value = path (read_path value)
attribute_of kind.Secure value = secure
attribute_of kind.HttpOnly value = http_only
attribute_of kind.SameSite value = same_site (read_same_site value)
attribute_of kind.Priority value = priority (read_priority value)
attribute_of kind.Unknown value = dropped

-- the name of an attribute, before the first `=`
abbrev pub attribute_name : List ℕ → List ℕ
attribute_name text = trimmed (cut 0x3D text).0

-- the value of an attribute, after the first `=`
abbrev pub attribute_value : List ℕ → List ℕ
attribute_value text = trimmed (unwrap_or (cut 0x3D text).1 [])

-- the attribute that a text between semicolons is, dropped where its value is too long
unfoldable pub read_attribute : List ℕ → Attribute
read_attribute text =
    if nat_lt MAX_ATTRIBUTE_BYTES (length (attribute_value text)) then dropped
    else attribute_of (kind_of (attribute_name text)) (attribute_value text)
