-- Faces: what a plan sees of a cookie, and which faces stand at some places. This jar's own rule:
-- docs/DEFINITIONS.md.
use Rattle.std.specs.Prelude.{◌≡◌, ℕ, ◌+◌, List, [], ◌∷◌, map, nat_eq, slice_get, Some}
use Rattle.std.specs.List.{IsDistinct}
use Rattle.std.specs.Ordering.{nat_cmp}
use Rattle.jar_types.specs.declared.cookie.Cookie.{Cookie}
use Rattle.jar_types.specs.Plans.{Looks}
use Rattle.eviction.specs.declared.face.Face.{Face}

-- what a plan sees of a face, whose number is the tie
abbrev pub face_looks : Looks Face
face_looks = record {
  access = λ f. f.access;
  creation = λ f. f.creation;
  tie = λ f g. nat_cmp f.tie g.tie;
  priority = λ f. f.priority;
  secure = λ f. f.secure;
}

-- no two faces have one tie
abbrev pub TiesDiffer : List Face → Type 0
TiesDiffer faces = IsDistinct nat_eq (map (λ f. f.tie) faces)

-- at these places of the list stand these, one by one
abbrev pub ArePlaces : {X : Type 0} → List X → List ℕ → List X → Type 0
ArePlaces xs places these = map (slice_get xs) places ≡ map Some these

-- the face of a cookie with a tie
abbrev pub face_of_cookie : Cookie → ℕ → Face
face_of_cookie c n = record {
  access = c.access;
  creation = c.creation;
  tie = n;
  priority = c.priority;
  secure = c.secure;
}

-- the faces of cookies whose ties count from n on
abbrev pub faces_of : ℕ → List Cookie → List Face
faces_of n [] = []
faces_of n (c ∷ cs) = face_of_cookie c n ∷ faces_of (n + 1) cs
