use Rattle.std.proofs.Common.{◌≡◌}
use Rattle.key_loader.specs.Places.{first_places}
use Rattle.key_loader.proofs.places.first_places.Given as goal

abbrev pub invariant-loop-place : goal.invariant-loop-place
invariant-loop-place l = l.places.items ≡ first_places l.place
