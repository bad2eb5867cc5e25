-- Candidates: faces with their places, and the orders in which they go. This jar's own rule:
-- docs/DEFINITIONS.md.
use Rattle.std.specs.Prelude.{◌≡◌, ℕ, List, Some, slice_get}
use Rattle.std.specs.List.{AllByRecursion}
use Rattle.jar_types.specs.Plans.{Looks}
use Rattle.eviction.specs.declared.face.Face.{Face}
use Rattle.eviction.specs.declared.candidate.Candidate.{Candidate}
use Rattle.eviction.specs.Faces.{face_looks}
use Rattle.eviction.specs.Orders.{seen_by}

-- the face of a candidate
abbrev pub face_of : Candidate → Face
face_of c = c.face

-- the place of a candidate
abbrev pub place_of : Candidate → ℕ
place_of c = c.place

-- each candidate stands at its place among the faces
abbrev pub AllStand : List Face → List Candidate → Type 0
AllStand faces cs = AllByRecursion (λ c. slice_get faces c.place ≡ Some c.face) cs

-- what a plan sees of a candidate: its face
abbrev pub candidate_looks : Looks Candidate
candidate_looks = seen_by face_of face_looks
