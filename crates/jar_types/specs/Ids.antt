-- The id of a cookie and the order of ids. The 6265bis draft, section 5.7 (storage model), whose
-- name, domain, host-only flag and path make up the identity of a cookie.
use Rattle.std.specs.Prelude.{ℕ, List, Bool}
use Rattle.std.specs.Ordering.{nat_cmp, ordering_then, is_eq}
use Rattle.std.specs.Cmp.Lexicographic.{slice_cmp}
use Rattle.std.specs.List.Sorted.{IsStrictlySortedBy}
use Rattle.std.specs.declared.cmp.Ordering.{Ordering}
use Rattle.jar_types.specs.declared.cookie.Cookie.{Cookie}
use Rattle.jar_types.specs.declared.cookie.CookieId.{CookieId}

-- texts are ordered by their bytes
abbrev pub text_cmp : List ℕ → List ℕ → Ordering
text_cmp = slice_cmp nat_cmp

-- ids are ordered by host, then name, then path
abbrev pub id_cmp : CookieId → CookieId → Ordering
id_cmp i j =
    ordering_then (text_cmp i.host j.host)
    (ordering_then (text_cmp i.name j.name) (text_cmp i.path j.path))

-- the id of a cookie
abbrev pub id_of : Cookie → CookieId
id_of c = record { host = c.host; name = c.name; path = c.path }

-- cookies are ordered by their ids
abbrev pub cookie_cmp : Cookie → Cookie → Ordering
cookie_cmp c d = id_cmp (id_of c) (id_of d)

-- both cookies have one id
abbrev pub same_id : Cookie → Cookie → Bool
same_id c d = is_eq (cookie_cmp c d)

-- the ids rise strictly, so no two are the same
abbrev pub RisesById : List Cookie → Type 0
RisesById cookies = IsStrictlySortedBy cookie_cmp cookies
