use Rattle.std.proofs.Common.{◌≡◌, take}
use Rattle.std.specs.Prelude.{filter}
use Rattle.jar_types.specs.Purges.{has_key}
use Rattle.plain_jar.proofs.plan.of_key.Given as goal

abbrev pub invariant-loop-cookie : goal.invariant-loop-cookie
invariant-loop-cookie l = l.own.items ≡ filter (has_key l.key) (take l.cookie-index l.cookies)
