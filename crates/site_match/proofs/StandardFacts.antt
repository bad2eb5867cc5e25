-- The definitions at values from outside: RFC 6265, the URL Standard and the 6265bis draft, so that
-- a wrong rule in the specs does not check.
use Rattle.std.proofs.Common.{◌≡◌, ℕ, Bool, true, false, List, codes, Option, Some, None, Ok, Err, refl, get_or, ap, sym, subst, ◌∙◌, arith, ◌<◌, ◌≤◌, [], ◌∷◌, lit<}
use Rattle.std.specs.Prelude.{is_some, is_err}
use Rattle.url.specs.declared.host.Host.TheVariants.{Domain}
use Rattle.url.specs.declared.error.ParseError.{ParseError}
use Rattle.url.specs.Parser.{Parsed, parse_url}
use Rattle.url.specs.Parts.{Parts}
use Rattle.public_suffix.specs.Rule.{SuffixRule}
use Rattle.jar_types.specs.declared.request.Context.TheVariants.{Strict, Lax, LaxUnsafe, Cross}
use Rattle.site_match.specs.declared.fetch.FetchAsk.{FetchAsk}
use Rattle.site_match.specs.declared.place.Place.{Place}
use Rattle.site_match.specs.declared.scheme.Scheme.{Scheme}
use Rattle.site_match.specs.declared.scheme.Scheme.TheVariants.{Http, Https, Ws, Wss}
use Rattle.site_match.specs.Contexts.{is_same_site, context_of}
use Rattle.site_match.specs.DefaultPaths.{default_path}
use Rattle.site_match.specs.Places.{IsSoundPlace, IsPlaceOf, ReadsPlace, begins_with_dot, host_of}
use Rattle.site_match.specs.declared.place.PlaceRefusal.TheVariants as refusal
use Rattle.site_match.specs.Schemes.{scheme_of, default_port, is_secure}

-- RFC 6265, section 5.1.4, step by step: an empty path, no slash in front, one slash alone, and
-- else up to the last
pub default_paths : (default_path (codes "") ≡ codes "/") × (default_path (codes "tec/waldo") ≡ codes "/")
    × (default_path (codes "/tec") ≡ codes "/") × (default_path (codes "/tec/waldo") ≡ codes "/tec")
    × (default_path (codes "/tec/waldo/") ≡ codes "/tec/waldo")
default_paths = (refl, refl, refl, refl, refl)

-- the URL Standard, section 4.2: the special schemes of cookies and their ports; ftp has none
schemes : (scheme_of (codes "http") ≡ Some Http) × (scheme_of (codes "https") ≡ Some Https) × (scheme_of (codes "ws") ≡ Some Ws)
    × (scheme_of (codes "wss") ≡ Some Wss) × (scheme_of (codes "ftp") ≡ None)
schemes = (refl, refl, refl, refl, refl)

ports : (default_port Http ≡ 80) × (default_port Https ≡ 443) × (default_port Ws ≡ 80) × (default_port Wss ≡ 443)
ports = (refl, refl, refl, refl)

-- connections of https and wss are secure
secure : (is_secure Http ≡ false) × (is_secure Https ≡ true) × (is_secure Ws ≡ false) × (is_secure Wss ≡ true)
secure = (refl, refl, refl, refl)

-- ---- sites and contexts

abbrev at : Scheme → List ℕ → List ℕ → List ℕ → Place
at scheme host path key = record { scheme = scheme; host = host; port = 443; path = path; key = key }

abbrev home : Place
home = at Https (codes "www.site.example") (codes "/") (codes "site.example")

abbrev other : Place
other = at Https (codes "other.example") (codes "/") (codes "other.example")

-- the draft, section 5.2: hosts of one registrable domain are of one site where their schemes are
-- too
sites : (is_same_site home (at Https (codes "site.example") (codes "/a") (codes "site.example")) ≡ true)
    × (is_same_site home (at Wss (codes "a.site.example") (codes "/") (codes "site.example")) ≡ true)
    × (is_same_site home (at Http (codes "www.site.example") (codes "/") (codes "site.example")) ≡ false)
    × (is_same_site home other ≡ false)
sites = (refl, refl, refl, refl)

abbrev asks : Option Place → Option Place → Bool → Bool → FetchAsk
asks site initiator navigation safe =
    record { place = home; site = site; initiator = initiator; safe_method = safe; navigation = navigation }

-- the draft, section 5.2.1: a fetch that is no navigation goes by the site for cookies
fetches : (context_of (asks (Some home) (Some other) false false) ≡ Strict)
    × (context_of (asks (Some other) (Some home) false true) ≡ Cross)
    × (context_of (asks None (Some home) false true) ≡ Cross)
fetches = (refl, refl, refl)

-- the draft, sections 5.2 and 5.6.7: a navigation by the user and one from its own site are of the
-- site, and one from another site goes by its method
navigations : (context_of (asks (Some other) None true false) ≡ Strict)
    × (context_of (asks (Some other) (Some home) true false) ≡ Strict)
    × (context_of (asks (Some home) (Some other) true true) ≡ Lax)
    × (context_of (asks (Some home) (Some other) true false) ≡ LaxUnsafe)
navigations = (refl, refl, refl, refl)

-- ---- what no place is

abbrev named : List ℕ → List ℕ → Place
named host path = at Https host path (codes "h.test")

no_host : IsSoundPlace (named (codes "") (codes "/")) → ⊥
no_host sound = let some : 0 < 0 = sound.named in absurd (omega arith)

dot_in_front : IsSoundPlace (named (codes ".h.test") (codes "/")) → ⊥
dot_in_front sound = let never : true ≡ false = sound.no_dot in absurd (cc)

upper_case : IsSoundPlace (named (codes "H.test") (codes "/")) → ⊥
upper_case sound = let first : ◌≡◌ {A = ℕ} 104 72 = ap (λ (host : List ℕ). get_or host 0 0) sound.lower in absurd (omega arith)

space_in_a_host : IsSoundPlace (named (codes "h test") (codes "/")) → ⊥
space_in_a_host sound = let visible : 33 ≤ 32 = (sound.host 1 0 (lit< tt)).0 in absurd (omega arith)

no_slash : IsSoundPlace (named (codes "h.test") (codes "a")) → ⊥
no_slash sound = let never : false ≡ true = sound.rooted in absurd (cc)

control_in_a_path : IsSoundPlace (named (codes "h.test") (47 ∷ 127 ∷ [])) → ⊥
control_in_a_path sound = let visible : 127 ≤ 126 = (sound.path 1 0 (lit< tt)).1 in absurd (omega arith)

-- ---- what a place tells of its URL, and each refusal of its text

-- `http://u:p@www.site.example:81/a?q#f`
abbrev whole : Parts
whole = record {
  scheme = codes "http";
  username = codes "u";
  password = codes "p";
  host = Some (Domain (codes "www.site.example"));
  port = Some 81;
  path = codes "/a";
  query = Some (codes "q");
  fragment = Some (codes "f");
}

-- each field is that of the URL, whose query, fragment and user no place has; the key is by the rules
told : (place : Place) → IsPlaceOf [] whole place
    → (Some Http ≡ Some place.scheme) × (place.host ≡ codes "www.site.example") × (place.port ≡ 81) × (place.path ≡ codes "/a")
    × (place.key ≡ codes "site.example")
told place is = (is.scheme, is.host, is.port, is.path, is.key)

-- where the URL names no port, the place has that of the scheme
told_port : (place : Place) → IsPlaceOf [] (record whole { port = None }) place → place.scheme ≡ Http → place.port ≡ 80
told_port place is http = is.port ∙ ap default_port http

-- a host with a dot in front has no place
told_dot : (place : Place) → IsPlaceOf [] (record whole { host = Some (Domain (codes ".h.test")) }) place → ⊥
told_dot place is = let never : true ≡ false = is.no_dot in absurd (cc)

-- a text that parses is no bad URL
parses : (rules : List SuffixRule) (text : List ℕ) (url : Parts) → parse_url None text ≡ Ok url → ReadsPlace rules text (Err refusal.BadUrl) → ⊥
parses rules text url parsed refused = let never : false ≡ true = sym (ap is_err parsed) ∙ refused in absurd (cc)

-- a text that doesn't parse has no other refusal than that, and no place
fails : (rules : List SuffixRule) (text : List ℕ) (error : ParseError) → parse_url None text ≡ Err error
    → (ReadsPlace rules text (Err refusal.Scheme) → ⊥) × (ReadsPlace rules text (Err refusal.DotHost) → ⊥) × ((place : Place) → ReadsPlace rules text (Ok place) → ⊥)
fails rules text error failed = (
  λ refused. let never : true ≡ false = sym (ap is_err failed) ∙ ap is_err refused.1 in absurd (cc),
  λ refused. let never : true ≡ false = sym (ap is_err failed) ∙ ap is_err refused.1 in absurd (cc),
  λ place is. let never : true ≡ false = sym (ap is_err failed) ∙ ap is_err is.1 in absurd (cc),
)

-- the URL of a parse
url_or : Parts → Parsed Parts → Parts
url_or other (Ok url) = url
url_or other (Err error) = other

-- one of the four schemes is no other scheme, and a host without a dot in front no host with one
has_place : (rules : List SuffixRule) (text : List ℕ) → parse_url None text ≡ Ok whole
    → (ReadsPlace rules text (Err refusal.Scheme) → ⊥) × (ReadsPlace rules text (Err refusal.DotHost) → ⊥)
unfolding url_or
has_place rules text parsed =
    let same : (url : Parts) → parse_url None text ≡ Ok url → whole ≡ url = λ url other. ap (url_or whole) (sym parsed ∙ other) in (
      λ refused. let never : Some Http ≡ None = ap (λ (url : Parts). scheme_of url.scheme) (same refused.0 refused.1) ∙ refused.2 in absurd (cc),
      λ refused. let never : false ≡ true = ap (λ (url : Parts). begins_with_dot (host_of url)) (same refused.0 refused.1) ∙ refused.3 in absurd (cc),
    )
