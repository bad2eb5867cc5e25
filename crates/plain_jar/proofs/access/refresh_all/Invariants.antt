use Rattle.std.proofs.Common.{◌≡◌, ◌++◌, take, drop}
use Rattle.std.specs.Prelude.{map}
use Rattle.jar_types.specs.Gets.{refreshed}
use Rattle.plain_jar.proofs.access.refresh_all.Given as goal

abbrev pub invariant-loop-cookie : goal.invariant-loop-cookie
invariant-loop-cookie l =
    l.cookies ≡ map (refreshed l.now) (take l.cookie-index l.initial.cookies) ++ drop l.cookie-index l.initial.cookies
