-- The definitions at values from outside: the 6265bis draft, sections 5.4, 5.5 and 5.7, and the rules of
-- docs/DEFINITIONS.md, so that a wrong rule in the specs does not check.
use Rattle.std.proofs.Common.{◌≡◌, ℕ, Bool, true, false, List, [], ◌∷◌, codes, Option, None, Some, refl, sym, ◌∙◌, ap, ⊎_elim}
use Rattle.std.specs.Prelude.{Result, Ok, Err, is_ok}
use Rattle.jar_values.specs.declared.attributes.SameSite.TheVariants as site
use Rattle.jar_values.specs.declared.attributes.Priority.TheVariants.{Medium}
use Rattle.jar_types.specs.declared.cookie.Cookie.{Cookie}
use Rattle.jar_types.specs.declared.request.Context.{Context}
use Rattle.jar_types.specs.declared.request.Context.TheVariants.{Strict, Lax, LaxUnsafe, Cross}
use Rattle.set_cookie_line.specs.declared.line.Line.{Line}
use Rattle.public_suffix.specs.declared.rule.Mark.TheVariants.{Plain}
use Rattle.public_suffix.specs.Labels.{labels_of}
use Rattle.public_suffix.specs.Rule.{SuffixRule}
use Rattle.site_match.specs.declared.place.Place.{Place}
use Rattle.site_match.specs.declared.scheme.Scheme.{Scheme}
use Rattle.site_match.specs.declared.scheme.Scheme.TheVariants.{Http, Https}
use Rattle.canonical_cookie.specs.declared.expiry.TheConstants.{LONGEST_LIFE}
use Rattle.canonical_cookie.specs.declared.refusal.CookieRefusal.{CookieRefusal}
use Rattle.canonical_cookie.specs.declared.refusal.CookieRefusal.TheVariants.{DomainNotAscii, DomainSuffix, DomainMismatch, KeyMismatch, SecureFromInsecure, HttpOnlyFromScript, NoneInsecure, CrossSite, PrefixSecure, PrefixHost, PrefixNameless, NoMemory}
use Rattle.canonical_cookie.specs.Refusals.{first_refusal}
use Rattle.canonical_cookie.specs.Expiry.{capped, expiry_of}
use Rattle.canonical_cookie.specs.Making.{host_by, made, Makes}

-- ---- values

abbrev rule : List ℕ → SuffixRule
rule text = record { mark = Plain; labels = labels_of text }

abbrev rules : List SuffixRule
rules = rule (codes "com") ∷ rule (codes "s3.amazonaws.com") ∷ []

-- `x=1`
abbrev bare : Line
bare = record {
  name = codes "x";
  value = codes "1";
  domain = None;
  path = None;
  expires = None;
  max_age = None;
  secure = false;
  http_only = false;
  same_site = site.Unspecified;
  priority = Medium;
}

abbrev of_domain : List ℕ → Line
of_domain domain = record bare { domain = Some domain }

abbrev named : List ℕ → Line
named name = record bare { name = name }

-- `Secure; Path=/`
abbrev rooted : List ℕ → Line
rooted name = record bare { name = name; path = Some (codes "/"); secure = true }

abbrev at : Scheme → List ℕ → List ℕ → Place
at scheme host key = record { scheme = scheme; host = host; port = 443; path = codes "/a;b/c"; key = key }

abbrev home : Place
home = at Https (codes "www.site.com") (codes "site.com")

abbrev bucket : Place
bucket = at Https (codes "b.s3.amazonaws.com") (codes "b.s3.amazonaws.com")

-- the refusal of a line from the place's own site, by HTTP
abbrev refused : Line → Place → Option CookieRefusal
refused line place = first_refusal rules line place Strict false

-- ---- each cause refuses

domains : (refused (of_domain (195 ∷ 169 ∷ [])) home ≡ Some DomainNotAscii)
    × (refused (of_domain (codes "com")) home ≡ Some DomainSuffix)
    × (refused (of_domain (codes "localhost")) home ≡ Some DomainSuffix)
    × (refused (of_domain (codes "s3.amazonaws.com")) bucket ≡ Some DomainSuffix)
    × (refused (of_domain (codes "w.site.com")) home ≡ Some DomainMismatch)
    × (refused (of_domain (codes "other.com")) home ≡ Some DomainMismatch)
    × (refused (of_domain (codes "amazonaws.com")) bucket ≡ Some KeyMismatch)
domains = (refl, refl, refl, refl, refl, refl, refl)

good_domains : (refused bare home ≡ None) × (refused (of_domain (codes "site.com")) home ≡ None)
    × (refused (of_domain (codes "www.site.com")) home ≡ None)
    × (refused (of_domain (codes "com")) (at Https (codes "com") (codes "com")) ≡ None)
good_domains = (refl, refl, refl, refl)

sources : (refused (record bare { secure = true }) (at Http (codes "site.com") (codes "site.com")) ≡ Some SecureFromInsecure)
    × (first_refusal rules (record bare { http_only = true }) home Strict true ≡ Some HttpOnlyFromScript)
    × (refused (record bare { same_site = site.NoLimit }) home ≡ Some NoneInsecure)
    × (first_refusal rules bare home Cross false ≡ Some CrossSite)
sources = (refl, refl, refl, refl)

-- SameSite None is for other sites; Lax and LaxUnsafe come from navigations
good_sources : (first_refusal rules (record bare { same_site = site.NoLimit; secure = true }) home Cross false ≡ None)
    × (first_refusal rules bare home Lax false ≡ None) × (first_refusal rules bare home LaxUnsafe false ≡ None)
    × (first_refusal rules bare home Strict true ≡ None)
good_sources = (refl, refl, refl, refl)

-- the draft, section 5.4: names are compared without case
prefixes : (refused (named (codes "__Secure-x")) home ≡ Some PrefixSecure)
    × (refused (named (codes "__secure-x")) home ≡ Some PrefixSecure)
    × (refused (named (codes "__Host-x")) home ≡ Some PrefixHost)
    × (refused (record (rooted (codes "__HOST-x")) { path = None }) home ≡ Some PrefixHost)
    × (refused (record (rooted (codes "__Host-x")) { path = Some (codes "/a") }) home ≡ Some PrefixHost)
    × (refused (record (rooted (codes "__Host-x")) { domain = Some (codes "site.com") }) home ≡ Some PrefixHost)
    × (refused (record (named (codes "")) { value = codes "__Host-x" }) home ≡ Some PrefixNameless)
    × (refused (record (named (codes "")) { value = codes "__secure-" }) home ≡ Some PrefixNameless)
prefixes = (refl, refl, refl, refl, refl, refl, refl, refl)

good_prefixes : (refused (rooted (codes "__Secure-x")) home ≡ None) × (refused (rooted (codes "__Host-x")) home ≡ None)
    × (refused (named (codes "__Hostx")) home ≡ None) × (refused (record bare { value = codes "__Host-x" }) home ≡ None)
good_prefixes = (refl, refl, refl, refl)

-- ---- of two causes the first refuses

-- those of the Domain are above: each of its causes there has the ones behind it too
domain_before_source : first_refusal rules (record (of_domain (codes "amazonaws.com")) { secure = true }) (at Http (codes "b.s3.amazonaws.com") (codes "b.s3.amazonaws.com")) Strict false ≡ Some KeyMismatch
domain_before_source = refl

sources_in_order : (first_refusal rules (record bare { secure = true; http_only = true }) (at Http (codes "site.com") (codes "site.com")) Strict true ≡ Some SecureFromInsecure)
    × (first_refusal rules (record bare { http_only = true; same_site = site.NoLimit }) home Strict true ≡ Some HttpOnlyFromScript)
    × (first_refusal rules (record bare { http_only = true }) home Cross true ≡ Some HttpOnlyFromScript)
sources_in_order = (refl, refl, refl)

-- what comes from another site is told before what a name or a value asks for
source_before_prefix : (first_refusal rules (record (named (codes "__Secure-x")) { same_site = site.NoLimit }) home Cross false ≡ Some NoneInsecure)
    × (first_refusal rules (named (codes "__Secure-x")) home Cross false ≡ Some CrossSite)
    × (first_refusal rules (named (codes "__Host-x")) home Cross false ≡ Some CrossSite)
    × (first_refusal rules (record (named (codes "")) { value = codes "__Host-x" }) home Cross false ≡ Some CrossSite)
source_before_prefix = (refl, refl, refl, refl)

-- ---- expiries

-- the draft, section 5.5: 400 days in milliseconds
limit : LONGEST_LIFE ≡ 34_560_000_000
limit = refl

expiries : (expiry_of bare 5 ≡ None)
    × (expiry_of (record bare { max_age = Some 0; expires = Some 9 }) 5 ≡ Some 0)
    × (expiry_of (record bare { max_age = Some 9; expires = Some 9 }) 5 ≡ Some 9005)
    × (expiry_of (record bare { max_age = Some 34_560_000 }) 5 ≡ Some 34_560_000_005)
    × (expiry_of (record bare { expires = Some 9 }) 5 ≡ Some 9)
    × (expiry_of (record bare { expires = Some 34_560_000_006 }) 5 ≡ Some 34_560_000_005)
    × (capped 253_402_300_799_000 253_402_300_800_000 ≡ 253_402_300_799_999)
expiries = (refl, refl, refl, refl, refl, refl, refl)

-- ---- cookies

-- a host-only cookie has the place's host, another a dot and its Domain
hosts : (host_by false (codes "www.site.com") None ≡ codes "www.site.com")
    × (host_by true (codes "com") (Some (codes "com")) ≡ codes "com")
    × (host_by false (codes "1.2.3.4") (Some (codes "1.2.3.4")) ≡ codes "1.2.3.4")
    × (host_by false (codes "site.com") (Some (codes "site.com")) ≡ codes ".site.com")
hosts = (refl, refl, refl, refl)

-- `x=1; Domain=site.com; Max-Age=9` at the moment 5
domain_cookie : made rules (record (of_domain (codes "site.com")) { max_age = Some 9 }) home Lax true 5 ≡ Ok (record {
  key = codes "site.com";
  host = codes ".site.com";
  name = codes "x";
  path = codes "/a;b";
  value = codes "1";
  creation = 5;
  access = 5;
  expiry = Some 9005;
  secure = false;
  http_only = false;
  same_site = site.Unspecified;
  priority = Medium;
})
unfolding made
domain_cookie = refl

-- `__Host-x=1; Secure; Path=/` from its own site
host_cookie : made rules (rooted (codes "__Host-x")) home Strict false 5 ≡ Ok (record {
  key = codes "site.com";
  host = codes "www.site.com";
  name = codes "__Host-x";
  path = codes "/";
  value = codes "1";
  creation = 5;
  access = 5;
  expiry = None;
  secure = true;
  http_only = false;
  same_site = site.Unspecified;
  priority = Medium;
})
unfolding made
host_cookie = refl

refusal : made rules bare home Cross false 5 ≡ Err CrossSite
unfolding made
refusal = refl

-- where a line makes a cookie, no refusal is an answer but want of memory
no_refusal : (line : Line) (place : Place) (context : Context) (script : Bool) (now : ℕ) (cookie : Cookie)
    → made rules line place context script now ≡ Ok cookie → Makes rules line place context script now (Err CrossSite) → ⊥
no_refusal line place context script now cookie makes =
    ⊎_elim (λ refused. let never : true ≡ false = ap is_ok (sym makes ∙ refused) in absurd (cc)) (λ memory. let never : CrossSite ≡ NoMemory = memory.0 in absurd (cc))

-- where it is refused, neither a cookie nor want of memory is an answer
no_cookie : (line : Line) (place : Place) (context : Context) (script : Bool) (now : ℕ) (cookie : Cookie)
    → made rules line place context script now ≡ Err CrossSite
    → (Makes rules line place context script now (Ok cookie) → ⊥) × (Makes rules line place context script now (Err NoMemory) → ⊥)
no_cookie line place context script now cookie refused = (
  λ makes. let never : false ≡ true = ap is_ok (sym refused ∙ makes) in absurd (cc),
  ⊎_elim (λ other. let never : ◌≡◌ {A = Result Cookie CookieRefusal} (Err CrossSite) (Err NoMemory) = sym refused ∙ other in absurd (cc))
      (λ memory. let never : false ≡ true = ap is_ok (sym refused) ∙ memory.1 in absurd (cc)),
)
