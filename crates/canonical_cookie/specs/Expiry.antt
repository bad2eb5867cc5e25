-- When a new cookie expires. The 6265bis draft, sections 5.5 and 5.7; that Max-Age 0 is the moment 0 is this jar's own
-- rule: docs/DEFINITIONS.md.
use Rattle.std.specs.Prelude.{ℕ, ◌+◌, ◌*◌, ◌==◌, min, Option, None, Some, option_map, if◌then◌else◌}
use Rattle.jar_values.specs.declared.moment.TheConstants.{MAX_MOMENT}
use Rattle.set_cookie_line.specs.declared.line.Line.{Line}
use Rattle.canonical_cookie.specs.declared.expiry.TheConstants.{LONGEST_LIFE}

-- the moment so many seconds after another, and 0 for none
abbrev pub after_seconds : ℕ → ℕ → ℕ
after_seconds now seconds = if seconds == 0 then 0 else now + seconds * 1000

-- the moment that Max-Age asks for, or else Expires
abbrev pub asked_expiry : ℕ → Option ℕ → Option ℕ → Option ℕ
asked_expiry now (Some seconds) expires = Some (after_seconds now seconds)
asked_expiry now None expires = expires

-- the moment, or the last that a cookie of now lives to
abbrev pub capped : ℕ → ℕ → ℕ
capped now moment = min moment (min (now + LONGEST_LIFE) MAX_MOMENT)

-- the expiry of a line's cookie; none for a session cookie
abbrev pub expiry_of : Line → ℕ → Option ℕ
expiry_of line now = option_map (capped now) (asked_expiry now line.max_age line.expires)
