use Rattle.std.proofs.Common.{◌≡◌, take}
use Rattle.std.specs.Prelude.{map, filter}
use Rattle.jar_types.specs.Changes.{expired}
use Rattle.jar_types.specs.Purges.{is_expired}
use Rattle.plain_jar.proofs.evict.all_expiries.Given as goal

abbrev pub invariant-loop-cookie : goal.invariant-loop-cookie
invariant-loop-cookie l =
    l.gone.items ≡ map expired (filter (is_expired l.now) (take l.cookie-index l.cookies))
