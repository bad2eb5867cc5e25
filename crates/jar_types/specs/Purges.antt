-- Which cookies have expired, and a key without them. RFC 6265, section 5.3 (expiry); that a key is
-- purged before each use is this jar's own rule.
use Rattle.std.specs.Prelude.{ℕ, List, Bool, false, not, ◌&&◌, nat_le, bytes_eq, filter, map}
use Rattle.std.specs.Prelude.{Option, None, Some}
use Rattle.jar_types.specs.declared.cookie.Cookie.{Cookie}
use Rattle.jar_types.specs.Changes.{Changed, expired}

-- an expiry has come
abbrev pub has_come : Option ℕ → ℕ → Bool
has_come None now = false
has_come (Some expiry) now = nat_le expiry now

-- the cookie has expired
abbrev pub is_expired : ℕ → Cookie → Bool
is_expired now c = has_come c.expiry now

-- the cookie is kept under this key
abbrev pub has_key : List ℕ → Cookie → Bool
has_key key c = bytes_eq c.key key

-- the cookie is the key's, and has expired
abbrev pub is_spent : List ℕ → ℕ → Cookie → Bool
is_spent key now c = has_key key c && is_expired now c

-- the cookies without those of the key that have expired
abbrev pub purged : List ℕ → ℕ → List Cookie → List Cookie
purged key now cookies = filter (λ c. not (is_spent key now c)) cookies

-- the expired cookies of the key leave, in the order of their ids
abbrev pub purge : List ℕ → ℕ → List Cookie → Changed
purge key now cookies = record {
  cookies = purged key now cookies;
  changes = map expired (filter (is_spent key now) cookies);
}
