-- What the steps of a plan come to: sorted candidates are the plan's order, and a front of them the plan.
use Rattle.std.proofs.Common.{◌≡◌, ℕ, ◌-◌, ◌<◌, List, [], false, cond, length, take, map, sym, ap, ◌∙◌, subst, arith}
use Rattle.std.specs.Prelude.{filter, not, nat_le, slice_get, Some}
use Rattle.std.specs.List.Sorted.{IsPermutation, IsSorted}
use Rattle.std.proofs.lemmas.Bool.Decides.{nat_tests}
use Rattle.jar_types.specs.declared.limits.TheConstants.{MOST_OF_KEY, LEFT_OF_KEY, MOST_OF_JAR, LEFT_OF_JAR}
use Rattle.jar_types.specs.Plans.{access_cmp, is_spared, is_stale, key_rounds, jar_rounds, key_plan, jar_plan}
use Rattle.eviction.specs.declared.face.Face.{Face}
use Rattle.eviction.specs.declared.candidate.Candidate.{Candidate}
use Rattle.eviction.specs.Orders.{plan_cmp, key_order, jar_order}
use Rattle.eviction.specs.Faces.{face_looks, TiesDiffer, ArePlaces}
use Rattle.eviction.specs.Candidates.{face_of, place_of, AllStand, candidate_looks}
use Rattle.eviction.specs.Spared.{Descends}
use Rattle.eviction.proofs.MemberLemmas.{kept_all}
use Rattle.eviction.proofs.SortLemmas.{sorted_rises, one_order, moved_apart, kept_apart}
use Rattle.eviction.proofs.GoingLemmas.{plan_total, plan_apart}
use Rattle.eviction.proofs.KeyLemmas.{key_plan_is, key_order_moved}
use Rattle.eviction.proofs.JarLemmas.{jar_plan_is}
use Rattle.eviction.proofs.SeenLemmas.{key_order_seen, jar_order_seen}
use Rattle.eviction.proofs.FaceLemmas.{face_total, candidate_total, descending_total, ties_apart, candidates_apart, back_apart, descends, stand_moved, are_places}

-- candidates sorted by access stand the most accessed first
pub sorted_descends : (faces : List Face) (cs all : List Candidate) → TiesDiffer faces → map face_of cs ≡ faces → IsPermutation cs all
    → IsSorted (λ c d. access_cmp candidate_looks d c) all → Descends all
sorted_descends faces cs all differ e moved sorted =
    descends all (sorted_rises descending_total cs all (back_apart cs (candidates_apart faces cs e differ)) moved sorted)

-- the unspared ones, sorted, are in a key's order
pub sorted_key : (faces : List Face) (cs all left going : List Candidate) → TiesDiffer faces → map face_of cs ≡ faces → IsPermutation cs all
    → left ≡ filter (λ c. not (is_spared candidate_looks all c)) all → IsPermutation left going
    → IsSorted (plan_cmp candidate_looks (key_rounds candidate_looks)) going → map face_of going ≡ key_order face_looks faces
sorted_key faces cs all left going differ e moved f moved' sorted =
    let unspared = λ (c : Candidate). not (is_spared candidate_looks all c) in
    let apart = candidates_apart faces cs e differ in
    let kept = kept_apart candidate_total unspared all (moved_apart candidate_total cs all apart moved) in
    let t = plan_total candidate_looks (key_rounds candidate_looks) candidate_total in
    let here : IsPermutation (filter unspared all) going = subst (λ xs. IsPermutation xs going) f moved' in
    ap (map face_of) (one_order t (filter unspared all) going (plan_apart candidate_looks (key_rounds candidate_looks) candidate_total (filter unspared all) kept) here sorted)
    ∙ ap (map face_of) (key_order_moved candidate_looks candidate_total cs all apart moved)
    ∙ key_order_seen face_of face_looks cs ∙ ap (key_order face_looks) e

-- and stand at their places
pub stand_key : (faces : List Face) (cs all left going : List Candidate) → AllStand faces cs → IsPermutation cs all
    → left ≡ filter (λ c. not (is_spared candidate_looks all c)) all → IsPermutation left going → AllStand faces going
stand_key faces cs all left going stand moved f moved' =
    let kept = kept_all (λ c. slice_get faces c.place ≡ Some c.face) (λ c. not (is_spared candidate_looks all c)) all (stand_moved faces cs all moved stand) in
    stand_moved faces left going moved' (subst (AllStand faces) (sym f) kept)

-- the stale ones, sorted, are in a jar's order
pub sorted_jar : (faces : List Face) (now : ℕ) (cs left going : List Candidate) → TiesDiffer faces → map face_of cs ≡ faces
    → left ≡ filter (is_stale candidate_looks now) cs → IsPermutation left going
    → IsSorted (plan_cmp candidate_looks (jar_rounds candidate_looks)) going → map face_of going ≡ jar_order face_looks now faces
sorted_jar faces now cs left going differ e f moved sorted =
    let stale = is_stale candidate_looks now in
    let kept = kept_apart candidate_total stale cs (candidates_apart faces cs e differ) in
    let t = plan_total candidate_looks (jar_rounds candidate_looks) candidate_total in
    let here : IsPermutation (filter stale cs) going = subst (λ xs. IsPermutation xs going) f moved in
    ap (map face_of) (one_order t (filter stale cs) going (plan_apart candidate_looks (jar_rounds candidate_looks) candidate_total (filter stale cs) kept) here sorted)
    ∙ jar_order_seen face_of face_looks now cs ∙ ap (jar_order face_looks now) e

pub stand_jar : (faces : List Face) (now : ℕ) (cs left going : List Candidate) → AllStand faces cs
    → left ≡ filter (is_stale candidate_looks now) cs → IsPermutation left going → AllStand faces going
stand_jar faces now cs left going stand f moved =
    let kept = kept_all (λ c. slice_get faces c.place ≡ Some c.face) (is_stale candidate_looks now) cs stand in
    stand_moved faces left going moved (subst (AllStand faces) (sym f) kept)

above : (m n : ℕ) → m < n → nat_le n m ≡ false
above m n h = grind (arith, nat_tests)

-- a front of a key's order is its plan
pub front_of_key : (faces : List Face) (going : List Candidate) → TiesDiffer faces → AllStand faces going → map face_of going ≡ key_order face_looks faces
    → MOST_OF_KEY < length faces → ArePlaces faces (map place_of (take (length faces - LEFT_OF_KEY) going)) (key_plan face_looks faces)
front_of_key faces going differ stand e more =
    let n = length faces - LEFT_OF_KEY in
    are_places faces (key_plan face_looks faces) n going stand
    (ap (take n) e ∙ sym (key_plan_is face_looks face_total faces (ties_apart faces differ) ∙ ap (λ b. cond b [] (take n (key_order face_looks faces))) (above MOST_OF_KEY (length faces) more)))

-- and a front of a jar's order is its plan
pub front_of_jar : (faces : List Face) (now : ℕ) (going : List Candidate) → TiesDiffer faces → AllStand faces going → map face_of going ≡ jar_order face_looks now faces
    → MOST_OF_JAR < length faces → ArePlaces faces (map place_of (take (length faces - LEFT_OF_JAR) going)) (jar_plan face_looks now faces)
front_of_jar faces now going differ stand e more =
    let n = length faces - LEFT_OF_JAR in
    are_places faces (jar_plan face_looks now faces) n going stand
    (ap (take n) e ∙ sym (jar_plan_is face_looks face_total now faces (ties_apart faces differ) ∙ ap (λ b. cond b [] (take n (jar_order face_looks now faces))) (above MOST_OF_JAR (length faces) more)))
