-- Set: a cookie is stored, unless one that it may not touch bars it. RFC 6265, section 5.3, steps 11 and 12, and the
-- 6265bis draft, section 5.7, steps 12 and 23 to 25; that the key is purged first is this jar's own rule.
use Rattle.std.specs.Prelude.{ℕ, List, [], ◌∷◌, ◌++◌, Option, None, Some, filter, find, Bool, true, false, not, ◌&&◌, ◌||◌, bytes_eq, if◌then◌else◌}
use Rattle.std.specs.List.{list_any}
use Rattle.jar_values.specs.Hosts.{undotted, domain_matches}
use Rattle.jar_values.specs.Paths.{path_matches}
use Rattle.jar_types.specs.declared.cookie.Cookie.{Cookie}
use Rattle.jar_types.specs.declared.change.Change.{Change}
use Rattle.jar_types.specs.declared.op.Reply.{Reply}
use Rattle.jar_types.specs.declared.op.Reply.TheVariants.{Stored, Replaced, Removed, NothingThere, OverwriteSecure, OverwriteHttpOnly}
use Rattle.jar_types.specs.Ids.{cookie_cmp, same_id}
use Rattle.jar_types.specs.Changes.{Changed, unchanged, followed, inserted, overwritten, overwritten_by_expired}
use Rattle.jar_types.specs.Evictions.{thinned, swept}
use Rattle.jar_types.specs.Orders.{put_by}
use Rattle.jar_types.specs.Purges.{purge, is_expired, has_key}
use Rattle.jar_types.specs.States.{JarState, Stepped}

-- the cookie of the same id
abbrev pub old_of : Cookie → List Cookie → Option Cookie
old_of c cookies = find (same_id c) cookies

-- ---- what bars a Set

-- of two hosts of cookies one is in the domain of the other
abbrev pub domains_meet : List ℕ → List ℕ → Bool
domains_meet host other =
    domain_matches (undotted host) (undotted other) || domain_matches (undotted other) (undotted host)

-- d is a Secure cookie of c's key and name, one's domain is in the other's, and c's path lies on d's
abbrev pub shields : Cookie → Cookie → Bool
shields c d =
    d.secure
    && (has_key c.key d
    && (bytes_eq d.name c.name
    && (domains_meet c.host d.host
    && path_matches c.path d.path)))

-- an HttpOnly cookie is there
abbrev pub is_http_only : Option Cookie → Bool
is_http_only None = false
is_http_only (Some c) = c.http_only

-- the reply where a Set is barred: by a Secure cookie for a source that isn't secure, or by an HttpOnly cookie of the
-- same id for a script
abbrev pub barred : Bool → Bool → Cookie → List Cookie → Option Reply
barred script secure c cookies =
    if not secure && list_any (shields c) cookies then Some OverwriteSecure
    else (if script && is_http_only (old_of c cookies) then Some OverwriteHttpOnly
    else None)

-- ---- a cookie that lives

-- the cookies with this one in the place of its id: after those of lesser ids, before those of
-- greater ones
abbrev pub with_cookie : Cookie → List Cookie → List Cookie
with_cookie c cookies = put_by cookie_cmp c cookies

-- the cookie as it is stored: in the place of an old one it keeps that one's creation
abbrev pub kept_over : Option Cookie → Cookie → Cookie
kept_over None c = c
kept_over (Some old) c = record c { creation = old.creation }

-- the old cookie leaves, and the new one comes
abbrev pub changes_over : Option Cookie → Cookie → List Change
changes_over None c = inserted c ∷ []
changes_over (Some old) c = overwritten old ∷ inserted c ∷ []

-- the new cookie is stored over an old one, or where there was none
abbrev pub set_over : Option Cookie → Cookie → List Cookie → Changed
set_over old c cookies =
    let new = kept_over old c in
    record { cookies = with_cookie new cookies; changes = changes_over old new }

-- whether a new id was stored
abbrev pub set_reply : Option Cookie → Reply
set_reply None = Stored
set_reply (Some old) = Replaced

-- ---- a cookie that has expired

-- the cookies without the one of this id
abbrev pub without_cookie : Cookie → List Cookie → List Cookie
without_cookie c cookies = filter (λ d. not (same_id c d)) cookies

-- the old cookie leaves for a new one of its id that has expired
abbrev pub removed_over : Option Cookie → Cookie → List Cookie → Changed
removed_over None c cookies = unchanged cookies
removed_over (Some old) c cookies =
    record { cookies = without_cookie c cookies; changes = overwritten_by_expired old ∷ [] }

-- whether an id was taken away
abbrev pub removed_reply : Option Cookie → Reply
removed_reply None = NothingThere
removed_reply (Some old) = Removed

-- ---- the step

-- what a new cookie comes to among others: what it makes of them, and the reply
pub record Put : Type 0 where
  pub all : Changed
  pub reply : Reply

-- the new cookie has expired, or lives
abbrev pub put_where : Bool → Option Cookie → Cookie → List Cookie → Put
put_where true old c cookies = record { all = removed_over old c cookies; reply = removed_reply old }
put_where false old c cookies = record { all = set_over old c cookies; reply = set_reply old }

abbrev pub put : ℕ → Cookie → List Cookie → Put
put now c cookies = put_where (is_expired now c) (old_of c cookies) c cookies

-- the plan of the key is carried out, and where the jar is whole it is swept
abbrev pub tidied : Bool → ℕ → List ℕ → List Cookie → Changed
tidied true now key cookies = followed (thinned key cookies) (swept now (thinned key cookies).cookies)
tidied false now key cookies = thinned key cookies

-- a Set is barred, which ends it, or not
abbrev pub set_where : Option Reply → JarState → ℕ → Cookie → Changed → Stepped
set_where (Some reply) s now c left =
    record { state = record s { cookies = left.cookies }; reply = reply; changes = left.changes }
set_where None s now c left =
    let new = put now c left.cookies in
    let all = followed (followed left new.all) (tidied s.loads.whole now c.key new.all.cookies) in
    record { state = record s { cookies = all.cookies }; reply = new.reply; changes = all.changes }

-- the key is purged; unless something bars it the cookie is put among the others, and what is too much leaves
abbrev pub set_step : JarState → ℕ → Cookie → Bool → Bool → Stepped
set_step s now c script secure =
    let left = purge c.key now s.cookies in
    set_where (barred script secure c left.cookies) s now c left
