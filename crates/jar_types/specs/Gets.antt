-- Get: the cookies of a request. RFC 6265, section 5.4, step 3; that an access is written anew after
-- a minute alone, and until when a script may keep an answer, are this jar's own rules.
use Rattle.std.specs.Prelude.{ℕ, ◌+◌, min, List, [], ◌∷◌, filter, filter_map, map, Bool, true, false, nat_le, if◌then◌else◌}
use Rattle.std.specs.Prelude.{Option}
use Rattle.jar_values.specs.declared.moment.TheConstants.{MAX_MOMENT}
use Rattle.jar_types.specs.declared.cookie.Cookie.{Cookie}
use Rattle.jar_types.specs.declared.op.TheConstants.{REFRESH_AFTER}
use Rattle.jar_types.specs.declared.op.Reply.{Reply}
use Rattle.jar_types.specs.declared.op.Reply.TheVariants.{Cookies, Script}
use Rattle.jar_types.specs.declared.request.Request.{Request}
use Rattle.jar_types.specs.Answers.{answer, answer_text, is_answered}
use Rattle.jar_types.specs.Bound.{turned, version_of}
use Rattle.jar_types.specs.Purges.{purge, has_key}
use Rattle.jar_types.specs.States.{JarState, Stepped}

-- the cookie with its access refreshed, where that is a minute old
abbrev pub refreshed : ℕ → Cookie → Cookie
refreshed now c = if nat_le (c.access + REFRESH_AFTER) now then record c { access = now } else c

-- the cookie, refreshed where it is in the answer
abbrev pub served : Request → ℕ → Cookie → Cookie
served q now c = if is_answered q now c then refreshed now c else c

-- the first of these moments, and the first moment past all where there is none
abbrev pub first_of : List ℕ → ℕ
first_of [] = MAX_MOMENT + 1
first_of (moment ∷ moments) = min moment (first_of moments)

-- until when an answer may be kept: the first of each expiry of the key's cookies, and of a minute past
-- each access in the answer
abbrev pub until : List Cookie → List Cookie → ℕ
until own answered =
    min (first_of (filter_map (λ c. c.expiry) own)) (first_of (map (λ c. c.access + REFRESH_AFTER) answered))

-- the reply to a script, or to HTTP: what the answer is after the Get, the version of the key's cell
-- then, and until when the answer may be kept
abbrev pub get_reply : Bool → List Cookie → List Cookie → Option ℕ → Reply
get_reply true own answered version = Script (answer_text answered) version (until own answered)
get_reply false own answered version = Cookies answered

-- the key is purged, the answer is taken, and the cookies in it are refreshed, in the reply too; a
-- refreshed access is no change
abbrev pub get_step : JarState → ℕ → Request → Stepped
get_step s now q =
    let left = purge q.key now s.cookies in
    let answered = map (refreshed now) (answer left.cookies q now) in
    record {
      state = record s { cookies = map (served q now) left.cookies };
      reply =
          get_reply q.script (filter (has_key q.key) left.cookies) answered
          (version_of q.key (map (turned left.changes) s.bound));
      changes = left.changes;
    }
