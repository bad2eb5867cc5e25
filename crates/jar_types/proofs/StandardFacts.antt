-- The definitions at values from outside: RFC 6265, the 6265bis draft, and the numbers of the
-- limits.
use Rattle.std.proofs.Common.{◌≡◌, ℕ, List, [], ◌∷◌, Bool, true, false, Option, None, Some, refl}
use Rattle.std.specs.Prelude.{codes, ℤ, pos, negsuc}
use Rattle.jar_values.specs.declared.attributes.SameSite.{SameSite}
use Rattle.jar_values.specs.declared.attributes.SameSite.TheVariants.{Unspecified, NoLimit, Lax as LaxSite, Strict as StrictSite}
use Rattle.jar_values.specs.declared.attributes.Priority.TheVariants.{Low, Medium, High}
use Rattle.jar_types.specs.declared.bound_key.TheConstants.{MOST_CELLS}
use Rattle.jar_types.specs.declared.cookie.Cookie.{Cookie}
use Rattle.jar_types.specs.declared.limits.TheConstants.{MOST_OF_KEY, LEFT_OF_KEY, LOW_QUOTA, MEDIUM_QUOTA, HIGH_QUOTA}
use Rattle.jar_types.specs.declared.limits.TheConstants.{MOST_OF_JAR, LEFT_OF_JAR, STALE_AFTER}
use Rattle.jar_types.specs.declared.request.TheConstants.{UNSAFE_GRACE}
use Rattle.jar_types.specs.declared.request.Context.TheVariants.{Strict, Lax, LaxUnsafe, Cross}
use Rattle.jar_types.specs.declared.op.TheConstants.{REFRESH_AFTER}
use Rattle.jar_types.specs.declared.op.Reply.{Reply}
use Rattle.jar_types.specs.declared.op.Reply.TheVariants.{Stored, Replaced, Removed, NothingThere, OverwriteSecure, OverwriteHttpOnly, Cookies}
use Rattle.jar_types.specs.declared.row.Row.{Row}
use Rattle.jar_types.proofs.FactValues.{a, named, q, b, b', old}
use Rattle.jar_types.specs.Answers.{answer, answer_text}
use Rattle.jar_types.specs.Changes.{inserted, overwritten, overwritten_by_expired, expired, evicted}
use Rattle.jar_types.specs.Evictions.{cookie_looks, evict, swept_where, swept}
use Rattle.jar_types.specs.Gets.{refreshed}
use Rattle.jar_types.specs.Matches.{site_allows, matches}
use Rattle.jar_types.specs.Plans.{quota, next_of_key, next_of_jar}
use Rattle.jar_types.specs.Purges.{is_expired}
use Rattle.jar_types.specs.Rows.{is_sound_row, cookie_of_row, row_of}
use Rattle.jar_types.specs.States.{opening}
use Rattle.jar_types.specs.Sets.{barred, set_step}
use Rattle.jar_types.specs.Gets.{get_step}

-- a minute, and two minutes, in milliseconds
minute : REFRESH_AFTER ≡ 60000
minute = refl

two_minutes : UNSAFE_GRACE ≡ 120000
two_minutes = refl

-- how many keys have cells
cells : MOST_CELLS ≡ 4096
cells = refl

-- how many cookies are kept, spared and left, and 30 days in milliseconds
limits : (MOST_OF_KEY ≡ 180) × (LEFT_OF_KEY ≡ 150) × (LOW_QUOTA ≡ 30) × (MEDIUM_QUOTA ≡ 50) × (HIGH_QUOTA ≡ 70)
    × (MOST_OF_JAR ≡ 3300) × (LEFT_OF_JAR ≡ 3000) × (STALE_AFTER ≡ 2592000000)
limits = (refl, refl, refl, refl, refl, refl, refl, refl)

abbrev at_path : List ℕ → ℕ → Cookie → Cookie
at_path path creation c = record c { path = path; creation = creation }

-- RFC 6265, section 3.1: two cookies as one text
sent : answer_text (named (codes "SID") (codes "31d4d96e407aad42") ∷ named (codes "lang") (codes "en-US") ∷ []) ≡ codes "SID=31d4d96e407aad42; lang=en-US"
sent = refl

-- no cookie has no text, and a cookie without a name is its value
sent_alone : (answer_text [] ≡ []) × (answer_text (named [] (codes "v") ∷ []) ≡ codes "v")
sent_alone = (refl, refl)

-- RFC 6265, section 5.4, step 2: longer paths come first, then earlier creations; then lesser ids
abbrev early : Cookie
early = at_path (codes "/docs") 1 (named (codes "z") [])

abbrev late : Cookie
late = at_path (codes "/docs") 2 (named (codes "b") [])

abbrev later : Cookie
later = at_path (codes "/docs") 2 (named (codes "c") [])

ordered : answer (a ∷ later ∷ late ∷ early ∷ []) q 9 ≡ early ∷ late ∷ later ∷ a ∷ []
ordered = refl

-- the draft, section 5.8.3: a Secure cookie wants a secure request, an HttpOnly one no script
guarded : (matches q (record a { secure = true }) 9 ≡ false) × (matches (record q { secure = true }) (record a { secure = true }) 9 ≡ true)
    × (matches q (record a { http_only = true }) 9 ≡ true) × (matches (record q { script = true }) (record a { http_only = true }) 9 ≡ false)
    × (matches q (record a { key = codes "test" }) 9 ≡ false)
guarded = (refl, refl, refl, refl, refl)

-- whether SameSite lets a cookie go along in the contexts Strict, Lax, LaxUnsafe and Cross
record Allowed (same_site : SameSite) (now : ℕ) (strict lax unsafe cross : Bool) : Type 0 where
  strict_is : site_allows same_site Strict 5 now ≡ strict
  lax_is : site_allows same_site Lax 5 now ≡ lax
  unsafe_is : site_allows same_site LaxUnsafe 5 now ≡ unsafe
  cross_is : site_allows same_site Cross 5 now ≡ cross

-- the draft, section 5.6.7: Strict in same-site requests alone, Lax in safe navigations too, None
-- always
strict_cookies : Allowed StrictSite 5 true false false false
strict_cookies = record { strict_is = refl; lax_is = refl; unsafe_is = refl; cross_is = refl }

lax_cookies : Allowed LaxSite 5 true true false false
lax_cookies = record { strict_is = refl; lax_is = refl; unsafe_is = refl; cross_is = refl }

free_cookies : Allowed NoLimit 5 true true true true
free_cookies = record { strict_is = refl; lax_is = refl; unsafe_is = refl; cross_is = refl }

-- the draft, section 5.6.7.2: a new cookie without SameSite goes along with an unsafe navigation
-- too
new_cookies : Allowed Unspecified 120005 true true true false
new_cookies = record { strict_is = refl; lax_is = refl; unsafe_is = refl; cross_is = refl }

older_cookies : Allowed Unspecified 120006 true true false false
older_cookies = record { strict_is = refl; lax_is = refl; unsafe_is = refl; cross_is = refl }

-- RFC 6265, section 5.3: a cookie has expired from its expiry on; one without lasts
expiries : (is_expired 9 (record a { expiry = Some 9 }) ≡ true) × (is_expired 9 (record a { expiry = Some 10 }) ≡ false)
    × (is_expired 9 a ≡ false)
expiries = (refl, refl, refl)

-- an access is written anew when it is a minute old, and not before
accesses : (refreshed 60005 a ≡ record a { access = 60005 }) × (refreshed 60004 a ≡ a)
accesses = (refl, refl)

-- RFC 6265, section 5.3, step 11.3: a cookie in the place of an old one keeps its creation; the old
-- one leaves, it comes
replaced : set_step (record (opening []) { cookies = a ∷ [] }) 7 b false false
    ≡ record { state = record (opening []) { cookies = b' ∷ [] }; reply = Replaced; changes = overwritten a ∷ inserted b' ∷ [] }
replaced = refl

-- an old cookie that has expired is purged before it is sought: the new one is stored
stored_over_expired : set_step (record (opening []) { cookies = old ∷ [] }) 7 b false false
    ≡ record { state = record (opening []) { cookies = b ∷ [] }; reply = Stored; changes = expired old ∷ inserted b ∷ [] }
stored_over_expired = refl

-- the draft, section 5.7: a new cookie that has expired takes the old one of its id away, and
-- without one does nothing
abbrev gone : Cookie
gone = record b { expiry = Some 7 }

removed : set_step (record (opening []) { cookies = a ∷ [] }) 7 gone false false
    ≡ record { state = opening []; reply = Removed; changes = overwritten_by_expired a ∷ [] }
removed = refl

nothing_there : set_step (record (opening []) { cookies = named (codes "c") [] ∷ [] }) 7 gone false false
    ≡ record { state = record (opening []) { cookies = named (codes "c") [] ∷ [] }; reply = NothingThere; changes = [] }
nothing_there = refl

-- the draft, section 5.7: an insecure source is barred by a Secure cookie of the same name whose
-- domain is above or below its own, on whose path its own lies; by no other
abbrev of_host : List ℕ → List ℕ → Cookie
of_host host path = record a { host = host; path = path }

abbrev shield : Cookie
shield = record (of_host (codes "www.h.test") (codes "/login")) { secure = true }

abbrev bars : Bool → Cookie → Option Reply
bars secure c = barred false secure c (shield ∷ [])

shielded : (bars false (of_host (codes "www.h.test") (codes "/login/x")) ≡ Some OverwriteSecure)
    × (bars false (of_host (codes ".h.test") (codes "/login")) ≡ Some OverwriteSecure)
    × (bars false (of_host (codes "a.www.h.test") (codes "/login")) ≡ Some OverwriteSecure)
    × (bars true (of_host (codes "www.h.test") (codes "/login")) ≡ None)
    × (bars false (of_host (codes "www.h.test") (codes "/")) ≡ None)
    × (bars false (of_host (codes "w.h.test") (codes "/login")) ≡ None)
    × (bars false (record (of_host (codes "www.h.test") (codes "/login")) { name = codes "b" }) ≡ None)
    × (bars false (record (of_host (codes "www.h.test") (codes "/login")) { key = codes "test" }) ≡ None)
shielded = (refl, refl, refl, refl, refl, refl, refl, refl)

-- the draft, section 5.7: a script is barred by an HttpOnly cookie of its id; an insecure source
-- comes first
abbrev hidden : Cookie
hidden = record a { http_only = true }

hidden_from_scripts : (barred true true b (hidden ∷ []) ≡ Some OverwriteHttpOnly) × (barred false true b (hidden ∷ []) ≡ None)
    × (barred true true b (a ∷ []) ≡ None) × (barred true true (record b { path = codes "/a" }) (hidden ∷ []) ≡ None)
    × (barred true false b (record hidden { secure = true } ∷ []) ≡ Some OverwriteSecure)
hidden_from_scripts = (refl, refl, refl, refl, refl)

-- what bars a Set ends it, after the purge
barred_set : set_step (record (opening []) { cookies = hidden ∷ record old { name = codes "o" } ∷ [] }) 7 b true true
    ≡ record {
      state = record (opening []) { cookies = hidden ∷ [] };
      reply = OverwriteHttpOnly;
      changes = expired (record old { name = codes "o" }) ∷ [];
    }
barred_set = refl

-- ---- evictions

-- of each priority the quota
quotas : (quota Low ≡ 30) × (quota Medium ≡ 50) × (quota High ≡ 70)
quotas = (refl, refl, refl)

-- cookies leave in the order of the plan, and the others stay as they stood
left : evict (named (codes "c") [] ∷ a ∷ []) (a ∷ named (codes "b") [] ∷ named (codes "c") [] ∷ [])
    ≡ record { cookies = named (codes "b") [] ∷ []; changes = evicted (named (codes "c") []) ∷ evicted a ∷ [] }
left = refl

-- a few of a key are all spared, and fresh ones stay
spared : (next_of_key cookie_looks (a ∷ named (codes "b") [] ∷ []) ≡ None) × (next_of_jar cookie_looks 2592000005 (a ∷ []) ≡ None)
    × (next_of_jar cookie_looks 2592000006 (record a { secure = true } ∷ named (codes "b") [] ∷ []) ≡ Some (named (codes "b") []))
spared = (refl, refl, refl)

-- a sweep that is due takes expired cookies of every key away; one that isn't leaves all
purged_by_a_sweep : (swept_where true 7 (a ∷ record old { name = codes "o"; key = codes "test" } ∷ [])
    ≡ record { cookies = a ∷ []; changes = expired (record old { name = codes "o"; key = codes "test" }) ∷ [] })
    × (swept 7 (old ∷ []) ≡ record { cookies = old ∷ []; changes = [] })
purged_by_a_sweep = (refl, refl)

-- ---- rows

-- a sound row, and what differs from it
abbrev row : Row
row = record {
  host = codes ".h.test";
  name = codes "a";
  path = codes "/b;c";
  value = codes "1=2";
  creation = pos 5;
  expiry = pos 9;
  access = pos 6;
  secure = pos 1;
  http_only = pos 0;
  same_site = pos 1;
  priority = pos 2;
}

sound : is_sound_row row ≡ true
sound = refl

-- the cookie that it stands for, and the row of that
abbrev stored : Cookie
stored = record {
  key = codes "h.test";
  host = codes ".h.test";
  name = codes "a";
  path = codes "/b;c";
  value = codes "1=2";
  creation = 5;
  access = 6;
  expiry = Some 9;
  secure = true;
  http_only = false;
  same_site = NoLimit;
  priority = High;
}

there_and_back : (cookie_of_row (λ host. host) row ≡ Some stored) × (row_of stored ≡ Some row) × (row_of a ≡ None)
there_and_back = (refl, refl, refl)

-- 1: hosts that no cookie has
hosts_unsound : (is_sound_row (record row { host = [] }) ≡ false) × (is_sound_row (record row { host = codes "." }) ≡ false)
    × (is_sound_row (record row { host = codes "H.test" }) ≡ false) × (is_sound_row (record row { host = codes "h test" }) ≡ false)
    × (is_sound_row (record row { host = 127 ∷ [] }) ≡ false) × (is_sound_row (record row { host = 195 ∷ 169 ∷ [] }) ≡ false)
hosts_unsound = (refl, refl, refl, refl, refl, refl)

-- 2: a path that isn't rooted, control bytes, semicolons
texts_unsound : (is_sound_row (record row { path = codes "b" }) ≡ false) × (is_sound_row (record row { path = 47 ∷ 10 ∷ [] }) ≡ false)
    × (is_sound_row (record row { name = codes "a;" }) ≡ false) × (is_sound_row (record row { value = codes ";" }) ≡ false)
    × (is_sound_row (record row { value = 97 ∷ 0 ∷ 97 ∷ [] }) ≡ false) × (is_sound_row (record row { value = 97 ∷ 9 ∷ 97 ∷ [] }) ≡ true)
texts_unsound = (refl, refl, refl, refl, refl, refl)

-- 3: an equals sign in a name, blanks round a text, neither name nor value
pairs_unsound : (is_sound_row (record row { name = codes "a=" }) ≡ false) × (is_sound_row (record row { name = codes " a" }) ≡ false)
    × (is_sound_row (record row { value = codes "1 " }) ≡ false) × (is_sound_row (record row { value = 9 ∷ 49 ∷ [] }) ≡ false)
    × (is_sound_row (record row { name = []; value = [] }) ≡ false) × (is_sound_row (record row { value = [] }) ≡ true)
    × (is_sound_row (record row { name = [] }) ≡ true)
pairs_unsound = (refl, refl, refl, refl, refl, refl, refl)

-- 4: numbers out of range
abbrev past : ℤ
past = pos 253402300800000

moments_unsound : (is_sound_row (record row { creation = negsuc 0 }) ≡ false) × (is_sound_row (record row { expiry = past }) ≡ false)
    × (is_sound_row (record row { access = past }) ≡ false) × (is_sound_row (record row { creation = past }) ≡ false)
    × (is_sound_row (record row { expiry = pos 253402300799999 }) ≡ true)
moments_unsound = (refl, refl, refl, refl, refl)

kinds_unsound : (is_sound_row (record row { secure = pos 2 }) ≡ false) × (is_sound_row (record row { http_only = negsuc 0 }) ≡ false)
    × (is_sound_row (record row { http_only = pos 2 }) ≡ false) × (is_sound_row (record row { same_site = pos 4 }) ≡ false)
    × (is_sound_row (record row { priority = pos 3 }) ≡ false) × (is_sound_row (record row { same_site = pos 3; http_only = pos 1 }) ≡ true)
kinds_unsound = (refl, refl, refl, refl, refl, refl)

-- 5: SameSite None without Secure
site_unsound : (is_sound_row (record row { secure = pos 0 }) ≡ false) × (is_sound_row (record row { secure = pos 0; same_site = pos 2 }) ≡ true)
site_unsound = (refl, refl)

-- 6: names of a reserved form
abbrev of_root : Row
of_root = record row { host = codes "h.test"; name = codes "__hOST-a"; path = codes "/" }

prefixes_unsound : (is_sound_row of_root ≡ true) × (is_sound_row (record of_root { host = codes ".h.test" }) ≡ false)
    × (is_sound_row (record of_root { path = codes "/a" }) ≡ false)
    × (is_sound_row (record of_root { secure = pos 0; same_site = pos 0 }) ≡ false)
    × (is_sound_row (record row { name = codes "__secure-a"; secure = pos 0; same_site = pos 0 }) ≡ false)
    × (is_sound_row (record row { name = codes "__secure-a" }) ≡ true)
    × (is_sound_row (record row { name = []; value = codes "__Host-a" }) ≡ false)
    × (is_sound_row (record row { value = codes "__Host-a" }) ≡ true)
prefixes_unsound = (refl, refl, refl, refl, refl, refl, refl, refl)

-- a Get purges its key, and the reply shows the new access
got : get_step (record (opening []) { cookies = a ∷ record old { name = codes "o" } ∷ [] }) 60005 q
    ≡ record {
      state = record (opening []) { cookies = record a { access = 60005 } ∷ [] };
      reply = Cookies (record a { access = 60005 } ∷ []);
      changes = expired (record old { name = codes "o" }) ∷ [];
    }
got = refl
