use Rattle.std.proofs.Common.{◌≡◌, take}
use Rattle.std.specs.Prelude.{map, filter}
use Rattle.jar_types.specs.Changes.{expired}
use Rattle.jar_types.specs.Purges.{is_spent}
use Rattle.plain_jar.proofs.purge.expiries.Given as goal

abbrev pub invariant-loop-cookie : goal.invariant-loop-cookie
invariant-loop-cookie l =
    l.gone.items ≡ map expired (filter (is_spent l.key l.now) (take l.cookie-index l.cookies))
