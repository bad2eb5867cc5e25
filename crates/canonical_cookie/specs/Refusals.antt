-- Why a read Set-Cookie line makes no cookie at a place: a fact for each refusal, and the table of them in their order.
-- Each fact names its section of the 6265bis draft, or is this jar's own rule: docs/DEFINITIONS.md.
use Rattle.std.specs.Prelude.{ℕ, List, [], ◌∷◌, length, codes, Bool, true, false, not, ◌&&◌, ◌==◌, bytes_eq}
use Rattle.std.specs.Prelude.{Option, None, Some, is_some, if◌then◌else◌}
use Rattle.std.specs.List.{list_all}
use Rattle.std.specs.Char.{is_ascii}
use Rattle.jar_values.specs.declared.attributes.SameSite.{SameSite}
use Rattle.jar_values.specs.declared.attributes.SameSite.TheVariants.{NoLimit}
use Rattle.jar_values.specs.Hosts.{domain_matches}
use Rattle.jar_values.specs.Names.{has_secure_prefix, has_host_prefix, is_reserved}
use Rattle.jar_types.specs.declared.request.Context.{Context}
use Rattle.jar_types.specs.declared.request.Context.TheVariants.{Cross}
use Rattle.set_cookie_line.specs.declared.line.Line.{Line}
use Rattle.public_suffix.specs.Rule.{SuffixRule}
use Rattle.public_suffix.specs.Suffix.{key_of, is_suffix}
use Rattle.site_match.specs.declared.place.Place.{Place}
use Rattle.site_match.specs.Schemes.{is_secure}
use Rattle.canonical_cookie.specs.declared.refusal.CookieRefusal.{CookieRefusal}
use Rattle.canonical_cookie.specs.declared.refusal.CookieRefusal.TheVariants as refusal

-- ---- the Domain

-- there is a text, and it passes a test
abbrev pub is_there_and : (List ℕ → Bool) → Option (List ℕ) → Bool
is_there_and test None = false
is_there_and test (Some text) = test text

-- the Domain is a public suffix
abbrev pub has_suffix_domain : List SuffixRule → Line → Bool
has_suffix_domain rules line = is_there_and (is_suffix rules) line.domain

-- the Domain isn't the host
abbrev pub has_other_domain : Line → Place → Bool
has_other_domain line place = is_there_and (λ domain. not (bytes_eq domain place.host)) line.domain

-- the Domain has a byte above 7F: section 5.7
abbrev pub is_domain_not_ascii : Line → Bool
is_domain_not_ascii line = is_there_and (λ domain. not (list_all is_ascii domain)) line.domain

-- the Domain is a public suffix other than the host: section 5.7
abbrev pub is_domain_suffix : List SuffixRule → Line → Place → Bool
is_domain_suffix rules line place = has_suffix_domain rules line && has_other_domain line place

-- the host doesn't domain-match the Domain: section 5.7
abbrev pub is_domain_mismatch : Line → Place → Bool
is_domain_mismatch line place = is_there_and (λ domain. not (domain_matches place.host domain)) line.domain

-- the Domain has another key than the host: this jar's own rule
abbrev pub is_key_mismatch : List SuffixRule → Line → Place → Bool
is_key_mismatch rules line place = is_there_and (λ domain. not (bytes_eq (key_of rules domain) place.key)) line.domain

-- ---- where the line comes from

-- SameSite is None
abbrev pub is_no_limit : SameSite → Bool
is_no_limit NoLimit = true
is_no_limit _ = false

-- the context is Cross
abbrev pub is_cross : Context → Bool
is_cross Cross = true
is_cross _ = false

-- Secure from a place that isn't: section 5.7
abbrev pub is_secure_from_insecure : Line → Place → Bool
is_secure_from_insecure line place = line.secure && not (is_secure place.scheme)

-- HttpOnly from a script: section 5.7
abbrev pub is_http_only_from_script : Line → Bool → Bool
is_http_only_from_script line script = line.http_only && script

-- SameSite None without Secure: section 5.7
abbrev pub is_none_insecure : Line → Bool
is_none_insecure line = is_no_limit line.same_site && not line.secure

-- from another site without SameSite None: section 5.7; what is another site is this jar's own rule
abbrev pub is_cross_site : Line → Context → Bool
is_cross_site line context = is_cross context && not (is_no_limit line.same_site)

-- ---- names of a reserved form

-- the name begins with `__Secure-`, and Secure isn't given: sections 5.4 and 5.7
abbrev pub is_prefix_secure : Line → Bool
is_prefix_secure line = has_secure_prefix line.name && not line.secure

-- the Path is `/`
abbrev pub has_root_path : Line → Bool
has_root_path line = is_there_and (λ path. bytes_eq path (codes "/")) line.path

-- the line asks for the root of one secure host: it gives Secure, no Domain, and the Path `/`
abbrev pub is_of_one_root : Line → Bool
is_of_one_root line = line.secure && not (is_some line.domain) && has_root_path line

-- the name begins with `__Host-`, and the line doesn't ask for the root of one secure host: sections 5.4 and 5.7
abbrev pub is_prefix_host : Line → Bool
is_prefix_host line = has_host_prefix line.name && not (is_of_one_root line)

-- there is no name, and the value begins with either prefix: section 5.7
abbrev pub is_prefix_nameless : Line → Bool
is_prefix_nameless line = length line.name == 0 && is_reserved line.value

-- ---- the table

-- each refusal with whether it applies, in their order
abbrev pub refusals : List SuffixRule → Line → Place → Context → Bool → List (Bool × CookieRefusal)
refusals rules line place context script =
    (is_domain_not_ascii line, refusal.DomainNotAscii)
    ∷ (is_domain_suffix rules line place, refusal.DomainSuffix)
    ∷ (is_domain_mismatch line place, refusal.DomainMismatch)
    ∷ (is_key_mismatch rules line place, refusal.KeyMismatch)
    ∷ (is_secure_from_insecure line place, refusal.SecureFromInsecure)
    ∷ (is_http_only_from_script line script, refusal.HttpOnlyFromScript)
    ∷ (is_none_insecure line, refusal.NoneInsecure)
    ∷ (is_cross_site line context, refusal.CrossSite)
    ∷ (is_prefix_secure line, refusal.PrefixSecure)
    ∷ (is_prefix_host line, refusal.PrefixHost)
    ∷ (is_prefix_nameless line, refusal.PrefixNameless)
    ∷ []

-- the first of these refusals that applies
abbrev pub first_of : List (Bool × CookieRefusal) → Option CookieRefusal
first_of [] = None
first_of ((applies, refusal) ∷ later) = if applies then Some refusal else first_of later

-- the first refusal of a line at a place
abbrev pub first_refusal : List SuffixRule → Line → Place → Context → Bool → Option CookieRefusal
first_refusal rules line place context script = first_of (refusals rules line place context script)
