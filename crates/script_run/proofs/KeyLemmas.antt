-- Why a cookie that a line makes at a read place has the key of its host or domain.
use Rattle.std.proofs.Common.{◌≡◌, ℕ, List, ◌∷◌, ◌++◌, map, Bool, true, false, cond, Option, None, Some, refl, sym, ap, ◌∙◌, subst}
use Rattle.std.specs.Prelude.{bytes_eq, codes, not, drop, ◌||◌, if◌then◌else◌, Ok}
use Rattle.std.proofs.lemmas.Slice.Eq.{bytes_eq-Decides}
use Rattle.jar_values.specs.Hosts.{undotted, is_ip_host}
use Rattle.jar_types.specs.declared.cookie.Cookie.{Cookie}
use Rattle.jar_types.specs.declared.request.Context.{Context}
use Rattle.public_suffix.specs.Rule.{SuffixRule}
use Rattle.public_suffix.specs.Suffix.{key_of}
use Rattle.set_cookie_line.specs.declared.line.Line.{Line}
use Rattle.site_match.specs.declared.place.Place.{Place}
use Rattle.site_match.specs.Places.{host_of, begins_with_dot}
use Rattle.canonical_cookie.specs.declared.refusal.CookieRefusal.{CookieRefusal}
use Rattle.canonical_cookie.specs.declared.refusal.CookieRefusal.TheVariants as refusal
use Rattle.canonical_cookie.specs.Making.{host_by, cookie_of, unless_refused, made}
use Rattle.canonical_cookie.specs.Refusals.{is_there_and, has_suffix_domain, is_domain_not_ascii, is_domain_suffix, is_domain_mismatch, is_key_mismatch, refusals, first_of, first_refusal}
use Rattle.std.specs.List.Sorted.{IsStrictlySortedBy}
use Rattle.jar_types.specs.Ids.{text_cmp}
use Rattle.jar_types.specs.Journals.{key_at, stored_keys}
use Rattle.stored_law.proofs.IdLemmas.{text_total}
use Rattle.stored_law.proofs.OrderLemmas.{ascending_rises}
use Rattle.script_text.specs.declared.script.Script.{Script}
use Rattle.script_text.specs.Walk.{IsPlace}
use Rattle.script_run.specs.Rounds.{rules_of}

-- a cookie has the key of its host or domain
abbrev pub IsKeyed : List SuffixRule → Cookie → Type 0
IsKeyed rules c = c.key ≡ key_of rules (undotted c.host)

undotted_host : (host : List ℕ) → begins_with_dot host ≡ false → undotted host ≡ host
undotted_host host h = ap (λ b. if b then drop 1 host else host) h

place_keyed : (rules : List SuffixRule) (url : List ℕ) (place : Place) → IsPlace rules url place → place.key ≡ key_of rules (undotted place.host)
place_keyed rules url place (parts, parsed, is) = rw (is.key, is.host, undotted_host (host_of parts) is.no_dot) refl

-- what a table of refusals that none applies of says of its first one
past : (applies : Bool) (e : CookieRefusal) (later : List (Bool × CookieRefusal)) → first_of ((applies, e) ∷ later) ≡ None
    → (applies ≡ false) × (first_of later ≡ None)
past true e later h = absurd (cc)
past false e later h = (refl, h)

-- and of its fourth one
fourth : (a b c d : Bool) (e f g h : CookieRefusal) (later : List (Bool × CookieRefusal))
    → first_of ((a, e) ∷ (b, f) ∷ (c, g) ∷ (d, h) ∷ later) ≡ None → d ≡ false
fourth a b c d e f g h later none =
    let second = past a e ((b, f) ∷ (c, g) ∷ (d, h) ∷ later) none in
    let third = past b f ((c, g) ∷ (d, h) ∷ later) second.1 in
    let last = past c g ((d, h) ∷ later) third.1 in
    (past d h later last.1).0

same_when : (b : Bool) → not b ≡ false → b ≡ true
same_when true h = refl
same_when false h = absurd (cc)

dotted_domain : (domain : List ℕ) → undotted (codes "." ++ domain) ≡ domain
dotted_domain domain = refl

by_domain : (b : Bool) (rules : List SuffixRule) (key host domain : List ℕ) → key ≡ key_of rules (undotted host) → key_of rules domain ≡ key
    → key ≡ key_of rules (undotted (cond b host (codes "." ++ domain)))
by_domain true rules key host domain own other = own
by_domain false rules key host domain own other = sym other ∙ ap (key_of rules) (sym (dotted_domain domain))

host_keyed : (suffix : Bool) (rules : List SuffixRule) (key host : List ℕ) (domain : Option (List ℕ)) → key ≡ key_of rules (undotted host)
    → is_there_and (λ d. not (bytes_eq (key_of rules d) key)) domain ≡ false → key ≡ key_of rules (undotted (host_by suffix host domain))
host_keyed suffix rules key host None own h = own
host_keyed suffix rules key host (Some domain) own h =
    let same : key_of rules domain ≡ key = (bytes_eq-Decides (key_of rules domain) key).0 (same_when (bytes_eq (key_of rules domain) key) h) in
    by_domain (suffix || is_ip_host host) rules key host domain own same

-- a cookie that is made, and what refuses it
is_made : (o : Option CookieRefusal) (c d : Cookie) → unless_refused o c ≡ Ok d → (o ≡ None) × (c ≡ d)
is_made (Some e) c d h = absurd (cc)
is_made None c d h = (refl, cc)

pub made_keyed : (rules : List SuffixRule) (line : Line) (place : Place) (context : Context) (script : Bool) (now : ℕ) (url : List ℕ) (c : Cookie)
    → IsPlace rules url place → made rules line place context script now ≡ Ok c → IsKeyed rules c
unfolding made
made_keyed rules line place context script now url c read is =
    let suffix = has_suffix_domain rules line in
    let h = is_made (first_refusal rules line place context script) (cookie_of suffix line place now) c is in
    let table = refusals rules line place context script in
    let matches = fourth (is_domain_not_ascii line) (is_domain_suffix rules line place) (is_domain_mismatch line place) (is_key_mismatch rules line place)
    refusal.DomainNotAscii refusal.DomainSuffix refusal.DomainMismatch refusal.KeyMismatch (drop 4 table) h.0 in
    subst (IsKeyed rules) h.1 (host_keyed suffix rules place.key place.host line.domain (place_keyed rules url place read) matches)

-- ---- the keys of stored hosts

-- they ascend, and no two are the same
pub keys_rise : (script : Script) (hosts : List (List ℕ)) → IsStrictlySortedBy text_cmp (stored_keys (rules_of script hosts))
keys_rise script hosts = ascending_rises text_total (map (key_at (rules_of script hosts)) hosts)
