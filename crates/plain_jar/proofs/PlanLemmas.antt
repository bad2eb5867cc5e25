-- The cookies that plans take away: by the law of `eviction` on the faces of cookies.
use Rattle.std.proofs.Common.{◌≡◌, ℕ, zero, suc, ◌+◌, ◌<◌, ◌≤◌, List, [], ◌∷◌, ◌++◌, Option, None, Some, true, take, length, get_or, refl, sym, ap, ◌∙◌, arith}
use Rattle.std.specs.Prelude.{All, cond, filter, map, count_by, nat_le, slice_get, ◌-◌}
use Rattle.std.specs.List.{AllByRecursion}
use Rattle.std.proofs.lemmas.Bool.{le-leb}
use Rattle.std.proofs.lemmas.List.{take_more}
use Rattle.std.proofs.lemmas.List.Elements.{All-from_recursion}
use Rattle.std.proofs.lemmas.List.Sums.{length-filter}
use Rattle.std.proofs.lemmas.Option.{slice_get_within, slice_get_read}
use Rattle.eviction.specs.Faces.{face_looks, face_of_cookie, faces_of, TiesDiffer, ArePlaces}
use Rattle.eviction.proofs.NumberedLemmas.{cookies_go_by_faces}
use Rattle.jar_types.specs.declared.cookie.Cookie.{Cookie}
use Rattle.jar_types.specs.declared.limits.TheConstants.{MOST_OF_KEY, LEFT_OF_KEY, MOST_OF_JAR, LEFT_OF_JAR}
use Rattle.jar_types.specs.Evictions.{cookie_looks}
use Rattle.jar_types.specs.Ids.{RisesById}
use Rattle.jar_types.specs.Plans.{next_of_key, next_of_jar, going, key_plan, jar_plan}
use Rattle.jar_types.specs.Purges.{has_key}

-- ---- faces one by one

faces_more : (n : ℕ) (cs : List Cookie) (i : ℕ) (d : Cookie) → i < length cs
    → faces_of n (take (i + 1) cs) ≡ faces_of n (take i cs) ++ face_of_cookie (get_or cs i d) (n + i) ∷ []
faces_more n [] i d low = absurd (omega arith)
faces_more n (c ∷ cs) zero d low = let e : n + 0 ≡ n = omega arith in rw e refl
faces_more n (c ∷ cs) (suc i) d low =
    let e : suc i + 1 ≡ suc (i + 1) = omega arith in
    let at : (n + 1) + i ≡ n + suc i = omega arith in
    rw e (ap (λ t. face_of_cookie c n ∷ t) (faces_more (n + 1) cs i d (omega arith) ∙ ap (λ k. faces_of (n + 1) (take i cs) ++ face_of_cookie (get_or cs i d) k ∷ []) at))

-- one face more
pub faces_step : (cs : List Cookie) (i : ℕ) (x : Cookie) → i < length cs → x ≡ get_or cs i x
    → faces_of 0 (take i cs) ++ face_of_cookie x i ∷ [] ≡ faces_of 0 (take (i + 1) cs)
faces_step cs i x low is =
    let at : 0 + i ≡ i = omega arith in
    ap (λ y. faces_of 0 (take i cs) ++ face_of_cookie y i ∷ []) is
    ∙ ap (λ k. faces_of 0 (take i cs) ++ face_of_cookie (get_or cs i x) k ∷ []) (sym at) ∙ sym (faces_more 0 cs i x low)

-- ---- things at places

abbrev head_or : {A : Type 0} → A → List A → A
head_or d [] = d
head_or d (x ∷ xs) = x

abbrev first_there : {A : Type 0} → A → List (Option A) → A
first_there d [] = d
first_there d (None ∷ os) = d
first_there d (Some x ∷ os) = x

abbrev rest_of : {A : Type 0} → List A → List A
rest_of [] = []
rest_of (x ∷ xs) = xs

some_back : {A : Type 0} (xs ys : List A) → map Some xs ≡ map Some ys → xs ≡ ys
some_back [] [] e = refl
some_back [] (y ∷ ys) e = absurd cc
some_back (x ∷ xs) [] e = absurd cc
some_back {A} (x ∷ xs) (y ∷ ys) e =
    let head : x ≡ y = ap (first_there x) e in
    let tail : map Some xs ≡ map Some ys = ap rest_of e in
    ap (λ z. z ∷ xs) head ∙ ap (λ zs. y ∷ zs) (some_back xs ys tail)

-- places at which something stands are within the list
pub places_within : {A : Type 0} (xs : List A) (places : List ℕ) (ys : List A) → map (slice_get xs) places ≡ map Some ys
    → AllByRecursion (λ place. place < length xs) places
places_within xs [] ys e = tt
places_within xs (k ∷ ks) [] e = absurd cc
places_within {A} xs (k ∷ ks) (y ∷ ys) e =
    let head : slice_get xs k ≡ Some y = ap (λ os. head_or (slice_get xs k) os) e in
    (slice_get_within xs k y head, places_within xs ks ys (ap rest_of e))

some_push : {A : Type 0} (xs : List A) (x : A) → map Some (xs ++ x ∷ []) ≡ map Some xs ++ Some x ∷ []
some_push [] x = refl
some_push (y ∷ ys) x = ap (λ t. Some y ∷ t) (some_push ys x)

places_push : {A : Type 0} (xs : List A) (ks : List ℕ) (k : ℕ)
    → map (slice_get xs) (ks ++ k ∷ []) ≡ map (slice_get xs) ks ++ slice_get xs k ∷ []
places_push xs [] k = refl
places_push xs (l ∷ ls) k = ap (λ t. slice_get xs l ∷ t) (places_push xs ls k)

-- one more thing was taken from its place
pub taken_step : {A : Type 0} (xs found : List A) (places : List ℕ) (i : ℕ) (x : A) → i < length places → get_or places i 0 < length xs
    → map Some found ≡ map (slice_get xs) (take i places) → x ≡ get_or xs (get_or places i 0) x
    → map Some (found ++ x ∷ []) ≡ map (slice_get xs) (take (i + 1) places)
taken_step xs found places i x low within so_far is =
    let k = get_or places i 0 in
    let here : slice_get xs k ≡ Some x = slice_get_read xs (length xs) k x refl within is in
    some_push found x ∙ ap (λ t. t ++ Some x ∷ []) so_far ∙ ap (λ o. map (slice_get xs) (take i places) ++ o ∷ []) (sym here)
    ∙ sym (places_push xs (take i places) k) ∙ ap (map (slice_get xs)) (sym (take_more places i 0 low))

-- ---- plans of cookies whose ids rise

pub ties_differ : (own : List Cookie) → RisesById own → TiesDiffer (faces_of 0 own)
ties_differ own rises = (cookies_go_by_faces own rises).differ

places_of : (own : List Cookie) (places : List ℕ) (plan : List Cookie) → ArePlaces own places plan → All (λ place. place < length own) places
places_of own places plan are = All-from_recursion (λ place. place < length own) places (places_within own places plan are)

pub key_places_within : (own : List Cookie) (places : List ℕ) → RisesById own
    → ArePlaces (faces_of 0 own) places (key_plan face_looks (faces_of 0 own)) → All (λ place. place < length own) places
key_places_within own places rises are =
    places_of own places (key_plan cookie_looks own) ((cookies_go_by_faces own rises).key places are)

pub jar_places_within : (now : ℕ) (own : List Cookie) (places : List ℕ) → RisesById own
    → ArePlaces (faces_of 0 own) places (jar_plan face_looks now (faces_of 0 own)) → All (λ place. place < length own) places
jar_places_within now own places rises are =
    places_of own places (jar_plan cookie_looks now own) ((cookies_go_by_faces own rises).jar now places are)

-- what stands at the places of a plan is what the plan takes away
pub key_plan_taken : (own gone : List Cookie) (places : List ℕ) → RisesById own
    → ArePlaces (faces_of 0 own) places (key_plan face_looks (faces_of 0 own))
    → map Some gone ≡ map (slice_get own) places → gone ≡ key_plan cookie_looks own
key_plan_taken own gone places rises are found =
    some_back gone (key_plan cookie_looks own) (found ∙ (cookies_go_by_faces own rises).key places are)

pub jar_plan_taken : (now : ℕ) (own gone : List Cookie) (places : List ℕ) → RisesById own
    → ArePlaces (faces_of 0 own) places (jar_plan face_looks now (faces_of 0 own))
    → map Some gone ≡ map (slice_get own) places → gone ≡ jar_plan cookie_looks now own
jar_plan_taken now own gone places rises are found =
    some_back gone (jar_plan cookie_looks now own) (found ∙ (cookies_go_by_faces own rises).jar now places are)

-- ---- plans of few

pub few_of_key : (key : List ℕ) (cookies : List Cookie) → count_by (has_key key) cookies ≤ MOST_OF_KEY
    → [] ≡ key_plan cookie_looks (filter (has_key key) cookies)
few_of_key key cookies few =
    let own = filter (has_key key) cookies in
    let size = length-filter (has_key key) cookies in
    let yes : nat_le (length own) MOST_OF_KEY ≡ true = le-leb (length own) MOST_OF_KEY (omega (arith, size)) in
    ap (λ b. cond b [] (going cookie_looks (next_of_key cookie_looks) (length own - LEFT_OF_KEY) own)) (sym yes)

pub few_of_jar : (now : ℕ) (cookies : List Cookie) → length cookies ≤ MOST_OF_JAR → [] ≡ jar_plan cookie_looks now cookies
few_of_jar now cookies few =
    let yes : nat_le (length cookies) MOST_OF_JAR ≡ true = le-leb (length cookies) MOST_OF_JAR few in
    ap (λ b. cond b [] (going cookie_looks (next_of_jar cookie_looks now) (length cookies - LEFT_OF_JAR) cookies)) (sym yes)
