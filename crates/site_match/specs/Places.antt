-- Places: what cookies need of a URL. The URL Standard, section 4; that a host may not begin with a
-- dot is this jar's own rule.
use Rattle.std.specs.Prelude.{ℕ, ◌<◌, ◌≡◌, All, length, Bool, true, false, List, [], codes, nat_eq, None, Some, Result, Ok, Err, IsSome, IsErr, unwrap_or, option_map}
use Rattle.std.specs.List.{starts_with}
use Rattle.std.specs.Int.{IsInRange}
use Rattle.url.specs.Input.{lowercase}
use Rattle.url.specs.Parser.{parse_url}
use Rattle.url.specs.Parts.{Parts, IsValid, nonempty_host}
use Rattle.url.specs.Host.{host_text}
use Rattle.public_suffix.specs.Rule.{SuffixRule}
use Rattle.public_suffix.specs.Suffix.{key_of}
use Rattle.site_match.specs.declared.place.Place.{Place}
use Rattle.site_match.specs.declared.place.PlaceRefusal.{PlaceRefusal}
use Rattle.site_match.specs.declared.place.PlaceRefusal.TheVariants as refusal
use Rattle.site_match.specs.Schemes.{scheme_of, default_port}

-- the host of a URL as a text; empty where it has none
abbrev pub host_of : Parts → List ℕ
host_of url = unwrap_or (option_map host_text (nonempty_host url)) []

-- whether a host begins with a dot
abbrev pub begins_with_dot : List ℕ → Bool
begins_with_dot host = starts_with nat_eq host (codes ".")

-- what a place keeps of a URL: its path is without query and fragment
pub record IsPlaceOf (rules : List SuffixRule) (url : Parts) (place : Place) : Type 0 where
  pub valid : IsValid url
  pub scheme : scheme_of url.scheme ≡ Some place.scheme
  pub host : place.host ≡ host_of url
  pub no_dot : begins_with_dot (host_of url) ≡ false
  pub port : place.port ≡ unwrap_or url.port (default_port place.scheme)
  pub path : place.path ≡ url.path
  pub key : place.key ≡ key_of rules (host_of url)

-- what a URL gives: its place, or the first refusal
abbrev pub PlacesUrl : List SuffixRule → Parts → Result Place PlaceRefusal → Type 0
PlacesUrl rules url (Ok place) = IsPlaceOf rules url place
PlacesUrl rules url (Err refusal.BadUrl) = ⊥
PlacesUrl rules url (Err refusal.Scheme) = scheme_of url.scheme ≡ None
PlacesUrl rules url (Err refusal.DotHost) =
    IsSome (scheme_of url.scheme) × (begins_with_dot (host_of url) ≡ true)
PlacesUrl rules url (Err refusal.NoMemory) = Unit {0}

-- what a text gives: `BadUrl` where the URL Standard's parser fails, else what its URL gives
abbrev pub ReadsPlace : List SuffixRule → List ℕ → Result Place PlaceRefusal → Type 0
ReadsPlace rules text (Ok place) =
    (url : Parts) × (parse_url None text ≡ Ok url) × IsPlaceOf rules url place
ReadsPlace rules text (Err refusal.BadUrl) = IsErr (parse_url None text)
ReadsPlace rules text (Err refusal.Scheme) =
    (url : Parts) × (parse_url None text ≡ Ok url) × (scheme_of url.scheme ≡ None)
ReadsPlace rules text (Err refusal.DotHost) =
    (url : Parts) × (parse_url None text ≡ Ok url) × IsSome (scheme_of url.scheme)
    × (begins_with_dot (host_of url) ≡ true)
ReadsPlace rules text (Err refusal.NoMemory) = Unit {0}

-- a byte of visible ASCII: no control, no space
abbrev pub IsVisible : ℕ → Type 0
IsVisible = IsInRange 0x21 0x7E

-- what every place holds to: a host in lower case, without a dot in front, and a path that begins
-- with `/`, both of visible ASCII
pub record IsSoundPlace (place : Place) : Type 0 where
  pub named : 0 < length place.host
  pub no_dot : begins_with_dot place.host ≡ false
  pub lower : lowercase place.host ≡ place.host
  pub host : All IsVisible place.host
  pub rooted : starts_with nat_eq place.path (codes "/") ≡ true
  pub path : All IsVisible place.path
