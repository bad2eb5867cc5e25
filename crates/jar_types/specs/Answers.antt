-- What a request is answered, and as which text. RFC 6265, section 5.4, steps 2 and 4; that the id decides last is this
-- jar's own rule.
use Rattle.std.specs.Prelude.{ℕ, List, [], ◌∷◌, ◌++◌, Bool, not, ◌&&◌, length, filter, map, codes}
use Rattle.std.specs.Ordering.{nat_cmp, ordering_then}
use Rattle.std.specs.declared.cmp.Ordering.{Ordering}
use Rattle.jar_types.specs.declared.cookie.Cookie.{Cookie}
use Rattle.jar_types.specs.declared.request.Request.{Request}
use Rattle.jar_types.specs.Ids.{cookie_cmp}
use Rattle.jar_types.specs.Matches.{matches}
use Rattle.jar_types.specs.Orders.{in_order}
use Rattle.jar_types.specs.Purges.{is_expired}

-- longer paths come first, then earlier creations, then lesser ids
abbrev pub answer_cmp : Cookie → Cookie → Ordering
answer_cmp c d =
    ordering_then (nat_cmp (length d.path) (length c.path)) (ordering_then (nat_cmp c.creation d.creation) (cookie_cmp c d))

-- the cookie is in the answer
abbrev pub is_answered : Request → ℕ → Cookie → Bool
is_answered q now c = matches q c now && not (is_expired now c)

-- the cookies that the request gets, in their order
abbrev pub answer : List Cookie → Request → ℕ → List Cookie
answer cookies q now = in_order answer_cmp (filter (is_answered q now) cookies)

-- that no public clause cites

-- a cookie's part of the text: its value alone where it has no name
abbrev pub named_value : List ℕ → List ℕ → List ℕ
named_value [] value = value
named_value (b ∷ bs) value = (b ∷ bs) ++ codes "=" ++ value

-- the part of a cookie
abbrev pub pair_text : Cookie → List ℕ
pair_text c = named_value c.name c.value

-- the parts, with a semicolon and a space between two
abbrev pub joined : List (List ℕ) → List ℕ
joined [] = []
joined (x ∷ []) = x
joined (x ∷ y ∷ xs) = x ++ codes "; " ++ joined (y ∷ xs)

-- the text of an answer
abbrev pub answer_text : List Cookie → List ℕ
answer_text cookies = joined (map pair_text cookies)
