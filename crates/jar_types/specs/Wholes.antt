-- All and Clear: ops on all cookies of a jar that is whole. This jar's own rule: docs/DEFINITIONS.md.
use Rattle.std.specs.Prelude.{ℕ, List, [], ◌++◌, map, length}
use Rattle.jar_types.specs.declared.cookie.Cookie.{Cookie}
use Rattle.jar_types.specs.declared.op.Reply.TheVariants.{Cookies, Count}
use Rattle.jar_types.specs.Changes.{Changed, followed, taken_away}
use Rattle.jar_types.specs.Evictions.{all_purged}
use Rattle.jar_types.specs.States.{JarState, Stepped}

-- All: the expired cookies leave, and the others are listed in the order of their ids
abbrev pub all_step : JarState → ℕ → Stepped
all_step s now =
    let left = all_purged now s.cookies in
    record { state = record s { cookies = left.cookies }; reply = Cookies left.cookies; changes = left.changes }

-- a caller takes all of these away, in the order of their ids
abbrev pub cleared : List Cookie → Changed
cleared cookies = record { cookies = []; changes = map taken_away cookies }

-- Clear: the expired cookies leave, and then all others; the reply counts these
abbrev pub clear_step : JarState → ℕ → Stepped
clear_step s now =
    let left = all_purged now s.cookies in
    let all = followed left (cleared left.cookies) in
    record { state = record s { cookies = all.cookies }; reply = Count (length left.cookies); changes = all.changes }
