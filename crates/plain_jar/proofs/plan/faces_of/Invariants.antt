use Rattle.std.proofs.Common.{◌≡◌, take}
use Rattle.eviction.specs.Faces.{faces_of}
use Rattle.plain_jar.proofs.plan.faces_of.Given as goal

abbrev pub invariant-loop-place : goal.invariant-loop-place
invariant-loop-place l = l.seen.items ≡ faces_of 0 (take l.place l.cookies)
