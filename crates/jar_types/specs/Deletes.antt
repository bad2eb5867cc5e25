-- Delete: a caller takes a cookie away. This jar's own rule: docs/DEFINITIONS.md.
use Rattle.std.specs.Prelude.{ℕ, List, [], ◌∷◌, filter, find, Bool, true, false, not, Option, None, Some}
use Rattle.jar_types.specs.declared.cookie.Cookie.{Cookie}
use Rattle.jar_types.specs.declared.cookie.CookieId.{CookieId}
use Rattle.jar_types.specs.declared.op.Reply.TheVariants.{Flag}
use Rattle.jar_types.specs.Changes.{Changed, unchanged, followed, taken_away}
use Rattle.jar_types.specs.Purges.{purge}
use Rattle.jar_types.specs.RowChanges.{has_id}
use Rattle.jar_types.specs.States.{JarState, Stepped}

-- the cookies without the one of an id
abbrev pub without_id : CookieId → List Cookie → List Cookie
without_id id cookies = filter (λ c. not (has_id id c)) cookies

-- what is left where this one has the id
abbrev pub deleted_where : Option Cookie → CookieId → List Cookie → Changed
deleted_where None id cookies = unchanged cookies
deleted_where (Some c) id cookies = record { cookies = without_id id cookies; changes = taken_away c ∷ [] }

-- whether a cookie had the id
abbrev pub deleted_reply : Option Cookie → Bool
deleted_reply None = false
deleted_reply (Some c) = true

-- the key is purged, and the cookie of the id leaves
abbrev pub delete_step : JarState → ℕ → List ℕ → CookieId → Stepped
delete_step s now key id =
    let left = purge key now s.cookies in
    let old = find (has_id id) left.cookies in
    let all = followed left (deleted_where old id left.cookies) in
    record {
      state = record s { cookies = all.cookies };
      reply = Flag (deleted_reply old);
      changes = all.changes;
    }
