-- What a made cookie holds to: no refusal applies, and it has the key of its host.
use Rattle.std.proofs.Common.{◌≡◌, ℕ, zero, suc, ◌⊎◌, inl, inr, ⊎_elim, Bool, true, false, ◌||◌, not, cond, List, [], ◌∷◌, ◌++◌, drop, codes, Option, Some, None, refl, sym, ap, ◌∙◌, subst}
use Rattle.std.specs.Prelude.{bytes_eq, Ok}
use Rattle.std.proofs.lemmas.Slice.Eq.{bytes_eq-Decides}
use Rattle.jar_values.specs.Hosts.{undotted, is_ip_host}
use Rattle.jar_types.specs.declared.cookie.Cookie.{Cookie}
use Rattle.jar_types.specs.declared.request.Context.{Context}
use Rattle.set_cookie_line.specs.declared.line.Line.{Line}
use Rattle.public_suffix.specs.Rule.{SuffixRule}
use Rattle.public_suffix.specs.Suffix.{key_of}
use Rattle.site_match.specs.declared.place.Place.{Place}
use Rattle.site_match.specs.Places.{IsPlaceOf, begins_with_dot}
use Rattle.canonical_cookie.specs.declared.refusal.CookieRefusal.{CookieRefusal}
use Rattle.canonical_cookie.specs.declared.refusal.CookieRefusal.TheVariants as refusal
use Rattle.canonical_cookie.specs.Refusals.{is_there_and, has_suffix_domain, is_domain_mismatch, is_key_mismatch, is_none_insecure, is_prefix_secure, is_prefix_host, is_prefix_nameless, refusals, first_of, first_refusal}
use Rattle.canonical_cookie.specs.Making.{host_by, cookie_of, unless_refused, made}
use Rattle.canonical_cookie.specs.Laws.{IsMade}

-- ---- no refusal applies

-- what a line that nothing refuses holds to
pub record IsUnrefused (rules : List SuffixRule) (line : Line) (place : Place) : Type 0 where
  pub mismatch : is_domain_mismatch line place ≡ false
  pub key : is_key_mismatch rules line place ≡ false
  pub none : is_none_insecure line ≡ false
  pub secure : is_prefix_secure line ≡ false
  pub host : is_prefix_host line ≡ false
  pub nameless : is_prefix_nameless line ≡ false

of_ok : (refusal : Option CookieRefusal) (made cookie : Cookie) → unless_refused refusal made ≡ Ok cookie → (refusal ≡ None) × (made ≡ cookie)
of_ok None made cookie is = (refl, cc is)
of_ok (Some refusal) made cookie is = absurd (cc)

-- none of a table applies: not the first, and none of the others
none_of : (applies : Bool) (refusal : CookieRefusal) (later : List (Bool × CookieRefusal)) → first_of ((applies, refusal) ∷ later) ≡ None
    → (applies ≡ false) × (first_of later ≡ None)
none_of true refusal later none = absurd (cc)
none_of false refusal later none = (refl, none)

none_behind : (n : ℕ) (table : List (Bool × CookieRefusal)) → first_of table ≡ None → first_of (drop n table) ≡ None
none_behind zero [] none = refl
none_behind zero (row ∷ later) none = none
none_behind (suc n) [] none = refl
none_behind (suc n) (row ∷ later) none = none_behind n later (none_of row.0 row.1 later none).1

unrefused : (rules : List SuffixRule) (line : Line) (place : Place) (context : Context) (script : Bool)
    → first_refusal rules line place context script ≡ None → IsUnrefused rules line place
unrefused rules line place context script none =
    let table = refusals rules line place context script in
    record {
      mismatch = (none_of (is_domain_mismatch line place) refusal.DomainMismatch (drop 3 table) (none_behind 2 table none)).0;
      key = (none_of (is_key_mismatch rules line place) refusal.KeyMismatch (drop 4 table) (none_behind 3 table none)).0;
      none = (none_of (is_none_insecure line) refusal.NoneInsecure (drop 7 table) (none_behind 6 table none)).0;
      secure = (none_of (is_prefix_secure line) refusal.PrefixSecure (drop 9 table) (none_behind 8 table none)).0;
      host = (none_of (is_prefix_host line) refusal.PrefixHost (drop 10 table) (none_behind 9 table none)).0;
      nameless = (none_of (is_prefix_nameless line) refusal.PrefixNameless (drop 11 table) (none_behind 10 table none)).0;
    }

-- a made cookie is that of its line, and nothing refuses that
pub made_parts : (rules : List SuffixRule) (line : Line) (place : Place) (context : Context) (script : Bool) (now : ℕ) (cookie : Cookie)
    → made rules line place context script now ≡ Ok cookie
    → IsUnrefused rules line place × (cookie_of (has_suffix_domain rules line) line place now ≡ cookie)
unfolding made
made_parts rules line place context script now cookie is =
    let ok = of_ok (first_refusal rules line place context script) (cookie_of (has_suffix_domain rules line) line place now) cookie is in
    (unrefused rules line place context script ok.0, ok.1)

-- ---- hosts

-- a host without a dot in front stays
pub undotted_host : (host : List ℕ) → begins_with_dot host ≡ false → undotted host ≡ host
undotted_host host no_dot = rw no_dot refl

-- a dot and a domain is that domain
pub undotted_domain : (domain : List ℕ) → undotted (codes "." ++ domain) ≡ domain
undotted_domain domain = refl

by_choice : (own : Bool) (host domain : List ℕ) → (cond own host domain ≡ host) ⊎ (cond own host domain ≡ domain)
by_choice true host domain = inl refl
by_choice false host domain = inr refl

-- the host of a cookie is the place's, or a dot and the Domain
pub host_cases : (suffix : Bool) (host : List ℕ) (domain : Option (List ℕ)) (P : Type 0)
    → (host_by suffix host domain ≡ host → P) → ((text : List ℕ) → domain ≡ Some text → host_by suffix host domain ≡ codes "." ++ text → P) → P
host_cases suffix host None P own other = own refl
host_cases suffix host (Some text) P own other =
    ⊎_elim own (other text refl) (by_choice (suffix || is_ip_host host) host (codes "." ++ text))

-- what no Domain fails, this one passes
pub passed : (test : List ℕ → Bool) (domain : Option (List ℕ)) (text : List ℕ) → domain ≡ Some text → is_there_and (λ one. not (test one)) domain ≡ false
    → test text ≡ true
passed test None text is none = absurd (cc)
passed test (Some one) text is none =
    let same : one ≡ text = cc is in subst (λ (x : List ℕ). test x ≡ true) same (not_false (test one) none)
  where
    not_false : (b : Bool) → not b ≡ false → b ≡ true
    not_false true e = refl
    not_false false e = absurd (cc)

-- ---- keys

key_at : (rules : List SuffixRule) (url : _) (line : Line) (place : Place) (suffix : Bool) → IsPlaceOf rules url place → is_key_mismatch rules line place ≡ false
    → place.key ≡ key_of rules (undotted (host_by suffix place.host line.domain))
key_at rules url line place suffix at same =
    host_cases suffix place.host line.domain (place.key ≡ key_of rules (undotted (host_by suffix place.host line.domain)))
    (λ own.
    let no_dot : begins_with_dot place.host ≡ false = rw at.host at.no_dot in
    let host : undotted (host_by suffix place.host line.domain) ≡ place.host = ap undotted own ∙ undotted_host place.host no_dot in
    at.key ∙ ap (key_of rules) (sym at.host) ∙ sym (ap (key_of rules) host))
    (λ text is dotted.
    let host : undotted (host_by suffix place.host line.domain) ≡ text = ap undotted dotted ∙ undotted_domain text in
    let equal = passed (λ domain. bytes_eq (key_of rules domain) place.key) line.domain text is same in
    sym ((bytes_eq-Decides (key_of rules text) place.key).0 equal) ∙ sym (ap (key_of rules) host))

-- a made cookie has the key of its host
pub key_of_made : (rules : List SuffixRule) (cookie : Cookie) → IsMade rules cookie → cookie.key ≡ key_of rules (undotted cookie.host)
key_of_made rules cookie is =
    let (url, parsed, at) = is.at in
    let parts = made_parts rules is.line is.place is.context is.script is.now cookie is.makes in
    subst (λ (c : Cookie). c.key ≡ key_of rules (undotted c.host)) parts.1 (key_at rules url is.line is.place (has_suffix_domain rules is.line) at parts.0.key)
