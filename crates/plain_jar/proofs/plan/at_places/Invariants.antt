use Rattle.std.proofs.Common.{◌≡◌, Some, take}
use Rattle.std.specs.Prelude.{map, slice_get}
use Rattle.plain_jar.proofs.plan.at_places.Given as goal

abbrev pub invariant-loop-place : goal.invariant-loop-place
invariant-loop-place l = map Some l.found.items ≡ map (slice_get l.cookies) (take l.place-index l.places)
