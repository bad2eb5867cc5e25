-- What holds of every plan whose order of accesses is total and tells the things apart, and of the cookies
-- that plans leave. This jar's own rule: docs/DEFINITIONS.md.
use Rattle.std.specs.Prelude.{◌≡◌, ℕ, ◌-◌, ◌<◌, ◌≤◌, List, [], length, filter, false, not, ◌⊎◌}
use Rattle.std.specs.List.{AllByRecursion, IsDistinct, list_any}
use Rattle.std.specs.List.Sorted.{IsPermutation, IsStrictlySortedBy}
use Rattle.std.specs.Cmp.{IsTotalOrder}
use Rattle.std.specs.Ordering.{is_eq}
use Rattle.jar_types.specs.declared.cookie.Cookie.{Cookie}
use Rattle.jar_types.specs.declared.limits.TheConstants.{MOST_OF_KEY, LEFT_OF_KEY, MOST_OF_JAR}
use Rattle.jar_types.specs.Evictions.{cookie_looks, thinned, swept}
use Rattle.jar_types.specs.Ids.{RisesById}
use Rattle.jar_types.specs.Plans.{Looks, access_cmp, is_spared, is_stale, key_rounds, key_plan, jar_plan}
use Rattle.jar_types.specs.Purges.{has_key, is_expired}
use Rattle.eviction.specs.declared.face.Face.{Face}
use Rattle.eviction.specs.Faces.{face_looks, faces_of, TiesDiffer, ArePlaces}
use Rattle.eviction.specs.Orders.{plan_cmp}

-- the order of accesses is total, and no two of the list are alike in it
pub record AreTold {X : Type 0} (l : Looks X) (xs : List X) : Type 0 where
  pub total : IsTotalOrder (access_cmp l)
  pub differ : IsDistinct (λ x y. is_eq (access_cmp l x y)) xs

-- those of the list who aren't among these
abbrev pub without : {X : Type 0} → Looks X → List X → List X → List X
without l gone xs = filter (λ x. not (list_any (λ y. is_eq (access_cmp l x y)) gone)) xs

-- of up to 180 none go, of more just so many that 150 are left
pub record KeepsEnough {X : Type 0} (l : Looks X) (xs : List X) : Type 0 where
  pub none : length xs ≤ MOST_OF_KEY → key_plan l xs ≡ []
  pub many : MOST_OF_KEY < length xs → length (key_plan l xs) ≡ length xs - LEFT_OF_KEY
  pub left : MOST_OF_KEY < length xs → length (without l (key_plan l xs) xs) ≡ LEFT_OF_KEY

-- a key's plan leaves enough
abbrev pub KeysKeepEnough : Type 0 → Type 0
KeysKeepEnough X = (l : Looks X) (xs : List X) → AreTold l xs → KeepsEnough l xs

-- those of earlier rounds go first, and in a round the less accessed ones
abbrev pub KeysGoInRounds : Type 0 → Type 0
KeysGoInRounds X =
    (l : Looks X) (xs : List X) → AreTold l xs → IsStrictlySortedBy (plan_cmp l (key_rounds l)) (key_plan l xs)

-- no one goes who is spared among all
abbrev pub NoSparedGoes : Type 0 → Type 0
NoSparedGoes X =
    (l : Looks X) (xs : List X) → AreTold l xs → AllByRecursion (λ x. is_spared l xs x ≡ false) (key_plan l xs)

-- a jar's plan leaves at most 3,300, or none that is stale
abbrev pub JarsAreSwept : Type 0 → Type 0
JarsAreSwept X =
    (l : Looks X) (now : ℕ) (xs : List X) → AreTold l xs
    → (length (without l (jar_plan l now xs) xs) ≤ MOST_OF_JAR)
    ⊎ AllByRecursion (λ x. is_stale l now x ≡ false) (without l (jar_plan l now xs) xs)

-- the plans of two lists are one
pub record PlansAgree {X : Type 0} (l : Looks X) (xs ys : List X) : Type 0 where
  pub key : key_plan l ys ≡ key_plan l xs
  pub jar : (now : ℕ) → jar_plan l now ys ≡ jar_plan l now xs

-- the plans of one list in any order are one
abbrev pub PlansForgetOrder : Type 0 → Type 0
PlansForgetOrder X = (l : Looks X) (xs ys : List X) → AreTold l xs → IsPermutation xs ys → PlansAgree l xs ys

-- where the ids of the cookies rise, a thinned key has at most 180
abbrev pub ThinnedKeysAreSmall : Type 0
ThinnedKeysAreSmall =
    (key : List ℕ) (cookies : List Cookie) → RisesById cookies
    → length (filter (has_key key) (thinned key cookies).cookies) ≤ MOST_OF_KEY

-- the cookie has neither expired nor is it stale
pub record IsFresh (now : ℕ) (c : Cookie) : Type 0 where
  pub lives : is_expired now c ≡ false
  pub used : is_stale cookie_looks now c ≡ false

-- where the ids of the cookies rise, a swept jar has at most 3,300, or only fresh ones
abbrev pub SweptJarsAreSmall : Type 0
SweptJarsAreSmall =
    (now : ℕ) (cookies : List Cookie) → RisesById cookies
    → (length (swept now cookies).cookies ≤ MOST_OF_JAR) ⊎ AllByRecursion (IsFresh now) (swept now cookies).cookies

-- the faces of cookies, whose ties are their places, tell which cookies go
pub record FacesTell (cookies : List Cookie) (faces : List Face) : Type 0 where
  pub differ : TiesDiffer faces
  pub key : (places : List ℕ) → ArePlaces faces places (key_plan face_looks faces)
      → ArePlaces cookies places (key_plan cookie_looks cookies)
  pub jar : (now : ℕ) (places : List ℕ) → ArePlaces faces places (jar_plan face_looks now faces)
      → ArePlaces cookies places (jar_plan cookie_looks now cookies)

-- where the ids of the cookies rise, their faces tell which of them go
abbrev pub CookiesGoByFaces : Type 0
CookiesGoByFaces = (cookies : List Cookie) → RisesById cookies → FacesTell cookies (faces_of 0 cookies)
