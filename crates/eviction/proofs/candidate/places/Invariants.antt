use Rattle.std.proofs.Common.{◌≡◌, map, take}
use Rattle.eviction.specs.Candidates.{place_of}
use Rattle.eviction.proofs.candidate.places.Given as goal

abbrev pub invariant-loop-candidate : goal.invariant-loop-candidate
invariant-loop-candidate l = l.places.items ≡ map place_of (take l.candidate-index l.candidates)
