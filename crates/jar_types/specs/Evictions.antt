-- Evictions: the cookies that leave where a key or the jar has too many. This jar's own rule:
-- docs/DEFINITIONS.md.
use Rattle.std.specs.Prelude.{ℕ, List, length, filter, map, Bool, true, false, not, nat_le}
use Rattle.std.specs.List.{list_any}
use Rattle.jar_types.specs.declared.cookie.Cookie.{Cookie}
use Rattle.jar_types.specs.declared.limits.TheConstants.{MOST_OF_JAR}
use Rattle.jar_types.specs.Changes.{Changed, unchanged, followed, expired, evicted}
use Rattle.jar_types.specs.Ids.{cookie_cmp, same_id}
use Rattle.jar_types.specs.Plans.{Looks, key_plan, jar_plan}
use Rattle.jar_types.specs.Purges.{is_expired, has_key}

-- what a plan sees of a cookie, whose id is the tie
abbrev pub cookie_looks : Looks Cookie
cookie_looks = record {
  access = λ c. c.access;
  creation = λ c. c.creation;
  tie = cookie_cmp;
  priority = λ c. c.priority;
  secure = λ c. c.secure;
}

-- these cookies leave, in this order
abbrev pub evict : List Cookie → List Cookie → Changed
evict gone cookies = record {
  cookies = filter (λ c. not (list_any (same_id c) gone)) cookies;
  changes = map evicted gone;
}

-- the plan of a key is carried out
abbrev pub thinned : List ℕ → List Cookie → Changed
thinned key cookies = evict (key_plan cookie_looks (filter (has_key key) cookies)) cookies

-- all cookies that have expired leave, in the order of their ids
abbrev pub all_purged : ℕ → List Cookie → Changed
all_purged now cookies = record {
  cookies = filter (λ c. not (is_expired now c)) cookies;
  changes = map expired (filter (is_expired now) cookies);
}

-- the plan of the jar is carried out
abbrev pub all_thinned : ℕ → List Cookie → Changed
all_thinned now cookies = evict (jar_plan cookie_looks now cookies) cookies

-- the sweep of a jar, which is due or isn't
abbrev pub swept_where : Bool → ℕ → List Cookie → Changed
swept_where true now cookies = followed (all_purged now cookies) (all_thinned now (all_purged now cookies).cookies)
swept_where false now cookies = unchanged cookies

-- a jar of up to 3,300 cookies is left as it is; in a larger one the expired cookies leave, and where
-- more than 3,300 are still there, its plan is carried out
abbrev pub swept : ℕ → List Cookie → Changed
swept now cookies = swept_where (not (nat_le (length cookies) MOST_OF_JAR)) now cookies
