-- The definitions at values from outside: this jar's own rule of eviction, docs/DEFINITIONS.md.
use Rattle.std.proofs.Common.{◌≡◌, ℕ, List, [], ◌∷◌, Bool, true, false, Option, None, Some, refl, ap, arith, map}
use Rattle.std.specs.List.{IsDistinct, range_with_len}
use Rattle.std.specs.declared.cmp.Ordering.TheVariants.{Less, Equal, Greater}
use Rattle.jar_values.specs.declared.attributes.Priority.{Priority}
use Rattle.jar_values.specs.declared.attributes.Priority.TheVariants.{Low, Medium, High}
use Rattle.jar_types.specs.declared.limits.TheConstants.{MOST_OF_KEY, LEFT_OF_KEY, LOW_QUOTA, MEDIUM_QUOTA, HIGH_QUOTA}
use Rattle.jar_types.specs.declared.limits.TheConstants.{MOST_OF_JAR, LEFT_OF_JAR, STALE_AFTER}
use Rattle.jar_types.specs.Plans.{access_cmp, first_of, key_rounds, jar_rounds, is_spared, is_stale, going, key_plan, jar_plan, quota}
use Rattle.eviction.specs.declared.face.Face.{Face}
use Rattle.eviction.specs.Faces.{face_looks, TiesDiffer, ArePlaces}
use Rattle.eviction.specs.Orders.{round_of, key_order, jar_order}

-- ---- numbers

bounds : (MOST_OF_KEY ≡ 180) × (LEFT_OF_KEY ≡ 150) × (MOST_OF_JAR ≡ 3300) × (LEFT_OF_JAR ≡ 3000)
bounds = (refl, refl, refl, refl)

quotas : (LOW_QUOTA ≡ 30) × (MEDIUM_QUOTA ≡ 50) × (HIGH_QUOTA ≡ 70)
quotas = (refl, refl, refl)

quotas_of : (quota Low ≡ 30) × (quota Medium ≡ 50) × (quota High ≡ 70)
quotas_of = (refl, refl, refl)

-- 30 days in milliseconds
month : STALE_AFTER ≡ 2592000000
month = refl

-- ---- faces

abbrev face : ℕ → Priority → Bool → Face
face n priority secure = record { access = n; creation = 0; tie = n; priority = priority; secure = secure }

abbrev low : ℕ → Face
low n = face n Low false

-- the least accessed is the first, then the earlier created, then the lesser tie
by_access : (access_cmp face_looks (record (low 1) { creation = 9; tie = 9 }) (low 2) ≡ Less) × (access_cmp face_looks (low 2) (low 1) ≡ Greater)
by_access = (refl, refl)

by_creation : access_cmp face_looks (record (low 1) { creation = 1; tie = 9 }) (record (low 1) { creation = 2; tie = 0 }) ≡ Less
by_creation = refl

by_tie : (access_cmp face_looks (record (low 1) { tie = 1 }) (record (low 1) { tie = 2 }) ≡ Less) × (access_cmp face_looks (low 1) (face 1 High true) ≡ Equal)
by_tie = (refl, refl)

-- ties differ, or don't
differing : TiesDiffer (low 1 ∷ low 2 ∷ [])
unfolding IsDistinct
differing = ((refl, tt), (tt, tt))

alike : TiesDiffer (low 1 ∷ low 1 ∷ []) → ⊥
unfolding IsDistinct
alike h = let e : true ≡ false = h.0.0 in absurd cc

-- the places of faces, in their order; a place past the end is none, and so is another order
placed : ArePlaces (low 5 ∷ low 6 ∷ low 7 ∷ []) (2 ∷ 0 ∷ []) (low 7 ∷ low 5 ∷ [])
placed = refl

abbrev first_access : List (Option Face) → ℕ
first_access [] = 0
first_access (None ∷ ms) = 0
first_access (Some f ∷ ms) = f.access

misplaced : ArePlaces (low 5 ∷ low 6 ∷ []) (1 ∷ 0 ∷ []) (low 5 ∷ low 6 ∷ []) → ⊥
misplaced h = let e : ◌≡◌ {A = ℕ} 6 5 = ap first_access h in absurd (omega arith)

past_the_end : ArePlaces (low 5 ∷ []) (1 ∷ []) (low 5 ∷ []) → ⊥
past_the_end h = absurd cc

-- ---- rounds

-- the rounds of a key
rounds_of_key : (round_of (key_rounds face_looks) (face 0 Low false) ≡ 0) × (round_of (key_rounds face_looks) (face 0 Low true) ≡ 1)
    × (round_of (key_rounds face_looks) (face 0 Medium false) ≡ 2) × (round_of (key_rounds face_looks) (face 0 High false) ≡ 3)
    × (round_of (key_rounds face_looks) (face 0 Medium true) ≡ 4) × (round_of (key_rounds face_looks) (face 0 High true) ≡ 5)
rounds_of_key = (refl, refl, refl, refl, refl, refl)

-- the rounds of a jar
rounds_of_jar : (round_of (jar_rounds face_looks) (face 0 High false) ≡ 0) × (round_of (jar_rounds face_looks) (face 0 Low true) ≡ 1)
rounds_of_jar = (refl, refl)

-- the least accessed of the first round that has one
first_low : first_of face_looks (key_rounds face_looks) (face 1 High false ∷ face 9 Low true ∷ face 8 Low true ∷ []) ≡ Some (face 8 Low true)
first_low = refl

first_insecure : first_of face_looks (key_rounds face_looks) (face 1 Medium true ∷ face 3 High false ∷ face 2 High true ∷ []) ≡ Some (face 3 High false)
first_insecure = refl

first_of_jar : first_of face_looks (jar_rounds face_looks) (face 1 Low true ∷ face 3 High false ∷ []) ≡ Some (face 3 High false)
first_of_jar = refl

first_of_none : first_of face_looks (key_rounds face_looks) [] ≡ None
first_of_none = refl

-- ---- who is spared, and who is stale

-- so many of Low from a number on
abbrev lows : ℕ → ℕ → List Face
lows from n = map low (range_with_len from n)

-- of 30 of Low the least accessed is spared, of 31 it isn't; others of Medium don't count
spared : is_spared face_looks (lows 0 30) (low 0) ≡ true
spared = refl

unspared : (is_spared face_looks (lows 0 31) (low 0) ≡ false) × (is_spared face_looks (lows 0 31) (low 1) ≡ true)
unspared = (refl, refl)

other_priority : is_spared face_looks (face 99 Medium false ∷ lows 0 30) (low 0) ≡ true
other_priority = refl

-- the most accessed are spared up to 50 of Medium and 70 of High
mediums : (is_spared face_looks (map (λ n. face n Medium false) (range_with_len 0 51)) (face 0 Medium false) ≡ false)
    × (is_spared face_looks (map (λ n. face n Medium false) (range_with_len 0 51)) (face 1 Medium false) ≡ true)
mediums = (refl, refl)

highs : (is_spared face_looks (map (λ n. face n High true) (range_with_len 0 71)) (face 0 High true) ≡ false)
    × (is_spared face_looks (map (λ n. face n High true) (range_with_len 0 71)) (face 1 High true) ≡ true)
highs = (refl, refl)

-- an access of just 30 days ago is fresh, an earlier one isn't
fresh : is_stale face_looks 2592000007 (low 7) ≡ false
fresh = refl

stale : is_stale face_looks 2592000008 (low 7) ≡ true
stale = refl

-- ---- one at a time

-- two of three go, and each is the next of those that are left then
two_go : going face_looks (first_of face_looks (key_rounds face_looks)) 2 (face 1 High false ∷ face 3 Medium false ∷ face 2 Low true ∷ [])
    ≡ face 2 Low true ∷ face 3 Medium false ∷ []
two_go = refl

-- no more go than there are
all_go : going face_looks (first_of face_looks (key_rounds face_looks)) 9 (low 1 ∷ low 0 ∷ []) ≡ low 0 ∷ low 1 ∷ []
all_go = refl

-- small lists lose none
small : (key_plan face_looks (lows 0 9) ≡ []) × (jar_plan face_looks 9999999999 (lows 0 9) ≡ [])
small = (refl, refl)

-- the order in which they go: who is spared doesn't, nor who is fresh
key_order_of : key_order face_looks (face 50 Low true ∷ lows 0 31) ≡ low 0 ∷ low 1 ∷ []
key_order_of = refl

jar_order_of : jar_order face_looks 2592000003 (low 3 ∷ face 0 Low true ∷ low 2 ∷ low 1 ∷ []) ≡ low 1 ∷ low 2 ∷ face 0 Low true ∷ []
jar_order_of = refl
