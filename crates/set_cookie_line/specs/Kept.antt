-- The attributes that a line keeps: of several of one kind the last, after the 6265bis draft,
-- section 5.7.
use Rattle.std.specs.Prelude.{ℕ, Bool, true, false, ◌==◌, List, [], ◌∷◌, map, Option, Some, None, unwrap_or, option_map}
use Rattle.std.specs.Option.{option_or, option_copied}
use Rattle.std.specs.List.{list_any, slice_split}
use Rattle.std.specs.Str.{str_to_ascii_lowercase}
use Rattle.jar_values.specs.declared.attributes.SameSite.{SameSite}
use Rattle.jar_values.specs.declared.attributes.SameSite.TheVariants.{Unspecified}
use Rattle.jar_values.specs.declared.attributes.Priority.{Priority}
use Rattle.jar_values.specs.declared.attributes.Priority.TheVariants.{Medium}
use Rattle.set_cookie_line.specs.declared.kept.Kept.{Kept}
use Rattle.set_cookie_line.specs.Attribute as attribute
use Rattle.set_cookie_line.specs.Attribute.{Attribute}

-- what the attributes of a line come to
pub record Attributes : Type 0 where
  pub expires : Option ℕ
  pub max_age : Option ℕ
  pub domain : Option (List ℕ)
  pub path : Option (List ℕ)
  pub secure : Bool
  pub http_only : Bool
  pub same_site : SameSite
  pub priority : Priority

-- what the last attribute that has it has
abbrev pub last_of : {A : Type 0} → (Attribute → Option A) → List Attribute → Option A
last_of part [] = None
last_of part (first ∷ later) = option_or (last_of part later) (part first)

-- the moment of an Expires attribute
abbrev pub expires_of : Attribute → Option ℕ
expires_of (attribute.expires moment) = Some moment
expires_of _ = None

-- the seconds of a Max-Age attribute
abbrev pub max_age_of : Attribute → Option ℕ
max_age_of (attribute.max_age seconds) = Some seconds
max_age_of _ = None

-- the domain of a Domain attribute, which may be none
abbrev pub domain_of : Attribute → Option (Option (List ℕ))
domain_of (attribute.domain domain) = Some domain
domain_of _ = None

-- the path of a Path attribute, which may be none
abbrev pub path_of : Attribute → Option (Option (List ℕ))
path_of (attribute.path path) = Some path
path_of _ = None

-- the value of a SameSite attribute
abbrev pub same_site_of : Attribute → Option SameSite
same_site_of (attribute.same_site same_site) = Some same_site
same_site_of _ = None

-- the value of a Priority attribute
abbrev pub priority_of : Attribute → Option Priority
priority_of (attribute.priority priority) = Some priority
priority_of _ = None

-- whether it is a Secure attribute
abbrev pub is_secure : Attribute → Bool
is_secure attribute.secure = true
is_secure _ = false

-- whether it is an HttpOnly attribute
abbrev pub is_http_only : Attribute → Bool
is_http_only attribute.http_only = true
is_http_only _ = false

-- what these attributes come to
abbrev pub attributes_of : List Attribute → Attributes
attributes_of attributes = record {
  expires = last_of expires_of attributes;
  max_age = last_of max_age_of attributes;
  domain = unwrap_or (last_of domain_of attributes) None;
  path = unwrap_or (last_of path_of attributes) None;
  secure = list_any is_secure attributes;
  http_only = list_any is_http_only attributes;
  same_site = unwrap_or (last_of same_site_of attributes) Unspecified;
  priority = unwrap_or (last_of priority_of attributes) Medium;
}

-- what the attributes between the semicolons of a text come to
abbrev pub attributes_between : List ℕ → Attributes
attributes_between text =
    attributes_of (map attribute.read_attribute (slice_split (λ byte. byte == 0x3B) text))

-- ---- that no public clause cites

-- the attributes that were kept so far, where a domain is kept in the letters that it is written in
abbrev pub kept_view : Kept → Attributes
kept_view kept = record {
  expires = kept.expires;
  max_age = kept.max_age;
  domain = option_map str_to_ascii_lowercase (option_copied kept.domain);
  path = option_copied kept.path;
  secure = kept.secure;
  http_only = kept.http_only;
  same_site = kept.same_site;
  priority = kept.priority;
}

-- the attributes with one more at the end
abbrev pub with_attribute : Attributes → Attribute → Attributes
with_attribute kept (attribute.expires moment) = record kept { expires = Some moment }
with_attribute kept (attribute.max_age seconds) = record kept { max_age = Some seconds }
with_attribute kept (attribute.domain domain) = record kept { domain = domain }
with_attribute kept (attribute.path path) = record kept { path = path }
with_attribute kept attribute.secure = record kept { secure = true }
with_attribute kept attribute.http_only = record kept { http_only = true }
with_attribute kept (attribute.same_site same_site) = record kept { same_site = same_site }
with_attribute kept (attribute.priority priority) = record kept { priority = priority }
with_attribute kept attribute.dropped = kept
