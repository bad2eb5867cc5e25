use Rattle.std.proofs.Common.{◌≡◌, map, take}
use Rattle.eviction.specs.Candidates.{AllStand, face_of}
use Rattle.eviction.proofs.candidate.candidates.Given as goal

abbrev pub invariant-loop-place : goal.invariant-loop-place
invariant-loop-place l = record {
  faces : map face_of l.all.items ≡ take l.place l.faces;
  stand : AllStand l.faces l.all.items;
}
