-- Faces and candidates: their order is total, and ties that differ tell them apart.
use Rattle.std.proofs.Common.{◌≡◌, ◌≢◌, ℕ, zero, suc, ◌<◌, List, [], ◌∷◌, Bool, true, false, cond, length, take, map, get_or, ◌++◌, Some, refl, sym, ap, ◌∙◌, subst, arith}
use Rattle.std.specs.Prelude.{slice_get, nat_lt, nat_eq}
use Rattle.std.specs.List.{AllByRecursion, IsDistinct}
use Rattle.std.specs.List.Sorted.{IsPermutation, IsStrictlySortedBy}
use Rattle.std.specs.Cmp.{IsTotalOrder}
use Rattle.std.specs.Ordering.{nat_cmp, ordering_then}
use Rattle.std.specs.declared.cmp.Ordering.{Ordering}
use Rattle.std.specs.declared.cmp.Ordering.TheVariants.{Less, Equal, Greater}
use Rattle.std.proofs.lemmas.Cmp.{then_total, on_total, back_total, nat_cmp_total}
use Rattle.std.proofs.lemmas.List.Elements.{All-from_recursion, recursion_from_All}
use Rattle.std.proofs.lemmas.List.Sorted.{All-permutation}
use Rattle.jar_types.specs.Plans.{access_cmp}
use Rattle.eviction.specs.declared.face.Face.{Face}
use Rattle.eviction.specs.declared.candidate.Candidate.{Candidate}
use Rattle.eviction.specs.Faces.{face_looks, TiesDiffer, ArePlaces}
use Rattle.eviction.specs.Candidates.{face_of, place_of, AllStand, candidate_looks}
use Rattle.eviction.specs.Spared.{Descends}
use Rattle.eviction.proofs.SortLemmas.{Apart, Rises, flipped}

pub face_total : IsTotalOrder (access_cmp face_looks)
face_total =
    then_total (on_total (λ f. f.access) nat_cmp_total) (then_total (on_total (λ f. f.creation) nat_cmp_total) (on_total (λ f. f.tie) nat_cmp_total))

pub candidate_total : IsTotalOrder (access_cmp candidate_looks)
candidate_total = on_total face_of face_total

last_decides : (v w u : Ordering) → u ≢ Equal → ordering_then v (ordering_then w u) ≢ Equal
last_decides Less w u ne e = absurd cc
last_decides Greater w u ne e = absurd cc
last_decides Equal Less u ne e = absurd cc
last_decides Equal Equal u ne e = ne e
last_decides Equal Greater u ne e = absurd cc

unequal_at : (b c : Bool) → c ≡ false → cond b Less (cond c Equal Greater) ≢ Equal
unequal_at true c f e = absurd cc
unequal_at false true f e = absurd cc
unequal_at false false f e = absurd cc

other_tie : (m n : ℕ) → nat_eq m n ≡ false → nat_cmp m n ≢ Equal
other_tie m n f e = unequal_at (nat_lt m n) (nat_eq m n) f e

all_other : (f : Face) (fs : List Face) → AllByRecursion (λ n. nat_eq f.tie n ≡ false) (map (λ g. g.tie) fs) → AllByRecursion (λ g. access_cmp face_looks f g ≢ Equal) fs
all_other f [] all = tt
all_other f (g ∷ gs) all =
    (last_decides (nat_cmp f.access g.access) (nat_cmp f.creation g.creation) (nat_cmp f.tie g.tie) (other_tie f.tie g.tie all.0), all_other f gs all.1)

pub ties_apart : (faces : List Face) → TiesDiffer faces → Apart face_total faces
unfolding IsDistinct
ties_apart [] differ = tt
ties_apart (f ∷ fs) differ = (all_other f fs differ.0, ties_apart fs differ.1)

all_seen : (c : Candidate) (cs : List Candidate) → AllByRecursion (λ g. access_cmp face_looks c.face g ≢ Equal) (map face_of cs) → AllByRecursion (λ d. access_cmp candidate_looks c d ≢ Equal) cs
all_seen c [] all = tt
all_seen c (d ∷ ds) all = (all.0, all_seen c ds all.1)

seen_apart : (cs : List Candidate) → Apart face_total (map face_of cs) → Apart candidate_total cs
seen_apart [] apart = tt
seen_apart (c ∷ cs) apart = (all_seen c cs apart.0, seen_apart cs apart.1)

-- candidates of faces whose ties differ are apart
pub candidates_apart : (faces : List Face) (cs : List Candidate) → map face_of cs ≡ faces → TiesDiffer faces → Apart candidate_total cs
candidates_apart faces cs e differ = seen_apart cs (subst (Apart face_total) (sym e) (ties_apart faces differ))

-- ---- the most accessed first

pub descending_total : IsTotalOrder (λ c d. access_cmp candidate_looks d c)
descending_total = back_total candidate_total

all_back : (c : Candidate) (cs : List Candidate) → AllByRecursion (λ d. access_cmp candidate_looks c d ≢ Equal) cs → AllByRecursion (λ d. access_cmp candidate_looks d c ≢ Equal) cs
all_back c [] all = tt
all_back c (d ∷ ds) all = ((λ e. all.0 (flipped candidate_total d c Equal e)), all_back c ds all.1)

pub back_apart : (cs : List Candidate) → Apart candidate_total cs → Apart descending_total cs
back_apart [] apart = tt
back_apart (c ∷ cs) apart = (all_back c cs apart.0, back_apart cs apart.1)

pub descends : (cs : List Candidate) → Rises descending_total cs → Descends cs
unfolding IsStrictlySortedBy
descends [] rises = tt
descends (c ∷ cs) rises = (rises.0, descends cs rises.1)

-- ---- places

pub stand_moved : (faces : List Face) (xs ys : List Candidate) → IsPermutation xs ys → AllStand faces xs → AllStand faces ys
stand_moved faces xs ys moved all =
    let P = λ (c : Candidate). slice_get faces c.place ≡ Some c.face in
    recursion_from_All P ys (All-permutation P xs ys moved (All-from_recursion P xs all))

places_at : (faces : List Face) (n : ℕ) (cs : List Candidate) → AllStand faces cs → map (slice_get faces) (map place_of (take n cs)) ≡ map Some (take n (map face_of cs))
places_at faces zero cs all = refl
places_at faces (suc n) [] all = refl
places_at faces (suc n) (c ∷ cs) all =
    ap (λ m. m ∷ map (slice_get faces) (map place_of (take n cs))) all.0 ∙ ap (λ ms. Some c.face ∷ ms) (places_at faces n cs all.1)

-- the places of a front of candidates are those of their faces
pub are_places : (faces these : List Face) (n : ℕ) (cs : List Candidate) → AllStand faces cs → take n (map face_of cs) ≡ these → ArePlaces faces (map place_of (take n cs)) these
are_places faces these n cs all e = places_at faces n cs all ∙ ap (map Some) e

more_at : (faces : List Face) (n : ℕ) (f : Face) → n < length faces → f ≡ get_or faces n f → slice_get faces n ≡ Some f
more_at [] n f lt e = absurd (omega arith)
more_at (g ∷ gs) zero f lt e = ap Some (sym e)
more_at (g ∷ gs) (suc n) f lt e = more_at gs n f (omega arith) e

all_more : {X : Type 0} (P : X → Type 0) (xs : List X) (x : X) → AllByRecursion P xs → P x → AllByRecursion P (xs ++ x ∷ [])
all_more P [] x all p = (p, tt)
all_more P (y ∷ ys) x all p = (all.0, all_more P ys x all.1 p)

-- one more candidate stands at its place
pub stand_more : (faces : List Face) (cs : List Candidate) (n : ℕ) (f : Face) → AllStand faces cs → n < length faces → f ≡ get_or faces n f → AllStand faces (cs ++ record { place = n; face = f } ∷ [])
stand_more faces cs n f all lt e =
    all_more (λ c. slice_get faces c.place ≡ Some c.face) cs (record { place = n; face = f }) all (more_at faces n f lt e)
