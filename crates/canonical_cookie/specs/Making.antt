-- The cookie that a read Set-Cookie line makes at a place. The 6265bis draft, section 5.7; the key is this jar's own
-- rule: docs/DEFINITIONS.md.
use Rattle.std.specs.Prelude.{◌≡◌, ℕ, List, ◌++◌, codes, Bool, ◌||◌, ◌⊎◌, Option, None, Some, unwrap_or, if◌then◌else◌}
use Rattle.std.specs.Prelude.{Result, Ok, Err, IsOk, MatchResult}
use Rattle.jar_values.specs.Hosts.{is_ip_host}
use Rattle.jar_types.specs.declared.cookie.Cookie.{Cookie}
use Rattle.jar_types.specs.declared.request.Context.{Context}
use Rattle.set_cookie_line.specs.declared.line.Line.{Line}
use Rattle.public_suffix.specs.Rule.{SuffixRule}
use Rattle.site_match.specs.declared.place.Place.{Place}
use Rattle.site_match.specs.DefaultPaths.{default_path}
use Rattle.canonical_cookie.specs.declared.refusal.CookieRefusal.{CookieRefusal}
use Rattle.canonical_cookie.specs.declared.refusal.CookieRefusal.TheVariants.{NoMemory}
use Rattle.canonical_cookie.specs.Expiry.{expiry_of}
use Rattle.canonical_cookie.specs.Refusals.{has_suffix_domain, first_refusal}

-- the host of a cookie, by whether the Domain of its line is a public suffix: the place's own for a host-only cookie,
-- which has no Domain, or one that is a public suffix, or comes from an IP host; else a dot and the Domain
abbrev pub host_by : Bool → List ℕ → Option (List ℕ) → List ℕ
host_by suffix host None = host
host_by suffix host (Some domain) = if suffix || is_ip_host host then host else codes "." ++ domain

-- the cookie of a line that nothing refuses, by whether its Domain is a public suffix
abbrev pub cookie_of : Bool → Line → Place → ℕ → Cookie
cookie_of suffix line place now = record {
  key = place.key;
  host = host_by suffix place.host line.domain;
  name = line.name;
  path = unwrap_or line.path (default_path place.path);
  value = line.value;
  creation = now;
  access = now;
  expiry = expiry_of line now;
  secure = line.secure;
  http_only = line.http_only;
  same_site = line.same_site;
  priority = line.priority;
}

-- the refusal, or else the cookie
abbrev pub unless_refused : Option CookieRefusal → Cookie → Result Cookie CookieRefusal
unless_refused (Some refusal) cookie = Err refusal
unless_refused None cookie = Ok cookie

-- the cookie of a line at a place, or its first refusal
unfoldable pub made : List SuffixRule → Line → Place → Context → Bool → ℕ → Result Cookie CookieRefusal
made rules line place context script now =
    unless_refused (first_refusal rules line place context script) (cookie_of (has_suffix_domain rules line) line place now)

-- the result is what the line makes, or want of memory where it makes a cookie
abbrev pub Makes : List SuffixRule → Line → Place → Context → Bool → ℕ → Result Cookie CookieRefusal → Type 0
Makes rules line place context script now result =
    MatchResult result (λ cookie. made rules line place context script now ≡ Ok cookie)
    (λ refusal. (made rules line place context script now ≡ Err refusal)
    ⊎ ((refusal ≡ NoMemory) × IsOk (made rules line place context script now)))
