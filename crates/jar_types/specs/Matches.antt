-- Which cookies a request gets. RFC 6265, section 5.4, step 1, and the 6265bis draft, section 5.8.3; that keys must be
-- equal and the two minutes of an unspecified SameSite are this jar's own rules.
use Rattle.std.specs.Prelude.{ℕ, ◌+◌, List, drop, Bool, true, false, not, ◌&&◌, ◌||◌, nat_eq, nat_le, bytes_eq, codes}
use Rattle.std.specs.List.{starts_with}
use Rattle.jar_types.specs.declared.cookie.Cookie.{Cookie}
use Rattle.jar_values.specs.declared.attributes.SameSite.{SameSite}
use Rattle.jar_values.specs.declared.attributes.SameSite.TheVariants.{Unspecified, NoLimit, Lax as LaxSite, Strict as StrictSite}
use Rattle.jar_types.specs.declared.request.TheConstants.{UNSAFE_GRACE}
use Rattle.jar_types.specs.declared.request.Request.{Request}
use Rattle.jar_types.specs.declared.request.Context.{Context}
use Rattle.jar_types.specs.declared.request.Context.TheVariants.{Strict, Lax, LaxUnsafe, Cross}
use Rattle.jar_values.specs.Hosts.{domain_matches}
use Rattle.jar_values.specs.Paths.{path_matches}

-- the host is the cookie's, or the cookie's is a dot and a domain that the host matches
abbrev pub host_matches : List ℕ → List ℕ → Bool
host_matches host cookie =
    bytes_eq host cookie || (starts_with nat_eq cookie (codes ".") && domain_matches host (drop 1 cookie))

-- SameSite lets a cookie of this creation go along in this context
abbrev pub site_allows : SameSite → Context → ℕ → ℕ → Bool
site_allows NoLimit context creation now = true
site_allows StrictSite Strict creation now = true
site_allows StrictSite Lax creation now = false
site_allows StrictSite LaxUnsafe creation now = false
site_allows StrictSite Cross creation now = false
site_allows LaxSite Strict creation now = true
site_allows LaxSite Lax creation now = true
site_allows LaxSite LaxUnsafe creation now = false
site_allows LaxSite Cross creation now = false
site_allows Unspecified Strict creation now = true
site_allows Unspecified Lax creation now = true
site_allows Unspecified LaxUnsafe creation now = nat_le now (creation + UNSAFE_GRACE)
site_allows Unspecified Cross creation now = false

-- the request gets the cookie: keys, hosts, paths, Secure, HttpOnly and SameSite
abbrev pub matches : Request → Cookie → ℕ → Bool
matches q c now =
    bytes_eq q.key c.key
    && (host_matches q.host c.host
    && (path_matches q.path c.path
    && ((not c.secure || q.secure)
    && ((not c.http_only || not q.script)
    && site_allows c.same_site q.context c.creation now))))
