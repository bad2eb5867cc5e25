-- Cookies with numbers: where ids and numbers rise alike, the plans of the cookies and of their faces are one.
use Rattle.std.proofs.Common.{◌≡◌, ℕ, zero, suc, ◌+◌, ◌-◌, ◌<◌, ◌≤◌, List, [], ◌∷◌, Bool, inl, inr, Option, None, Some, length, map, refl, sym, ap, ◌∙◌, subst, arith}
use Rattle.std.specs.Prelude.{filter, not, nat_le, nat_lt, slice_get, ◌&&◌}
use Rattle.std.specs.List.{AllByRecursion, range_with_len}
use Rattle.std.specs.List.Sorted.{IsStrictlySortedBy}
use Rattle.std.specs.Ordering.{nat_cmp, ordering_then, ordering_reverse, is_lt}
use Rattle.std.specs.declared.cmp.Ordering.TheVariants.{Less}
use Rattle.std.proofs.lemmas.Bool.Decides.{nat_tests}
use Rattle.std.proofs.lemmas.Cmp.{tied_itself, nat_cmp_total}
use Rattle.jar_types.specs.declared.cookie.Cookie.{Cookie}
use Rattle.jar_types.specs.declared.limits.TheConstants.{MOST_OF_KEY, LEFT_OF_KEY, MOST_OF_JAR, LEFT_OF_JAR}
use Rattle.jar_types.specs.Evictions.{cookie_looks}
use Rattle.jar_types.specs.Ids.{cookie_cmp, RisesById}
use Rattle.jar_types.specs.Orders.{in_order}
use Rattle.jar_types.specs.Plans.{Looks, access_cmp, same_priority, quota, is_ahead, is_spared, is_stale, key_rounds, jar_rounds, key_plan, jar_plan}
use Rattle.jar_types.proofs.RisingLemmas.{cookie_total}
use Rattle.eviction.specs.declared.face.Face.{Face}
use Rattle.eviction.specs.Faces.{face_looks, face_of_cookie, faces_of, TiesDiffer, ArePlaces}
use Rattle.eviction.specs.Laws.{CookiesGoByFaces}
use Rattle.eviction.specs.Orders.{round_of, plan_cmp, seen_by, key_order, jar_order}
use Rattle.eviction.proofs.MemberLemmas.{Member, every_member, weaker, own_members, all_kept}
use Rattle.eviction.proofs.GoingLemmas.{agreeing}
use Rattle.eviction.proofs.KeyLemmas.{key_plan_is}
use Rattle.eviction.proofs.JarLemmas.{jar_plan_is}
use Rattle.eviction.proofs.SeenLemmas.{key_order_seen, jar_order_seen}
use Rattle.eviction.proofs.FaceLemmas.{face_total, ties_apart}
use Rattle.eviction.proofs.TieLemmas.{counted_differ}
use Rattle.eviction.proofs.CookieLemmas.{looks_total, looks_apart}
use Rattle.eviction.proofs.AgreeLemmas.{order_all, order_agree, count_agree, front, map_front, front_all}

-- a cookie with a number
record Numbered : Type 0 where
  cookie : Cookie
  number : ℕ

abbrev cookie_of : Numbered → Cookie
cookie_of p = p.cookie

abbrev face_at : Numbered → Face
face_at p = face_of_cookie p.cookie p.number

-- the cookies, numbered from n on
abbrev numbered : ℕ → List Cookie → List Numbered
numbered n [] = []
numbered n (c ∷ cs) = record { cookie = c; number = n } ∷ numbered (n + 1) cs

cookies_numbered : (n : ℕ) (cs : List Cookie) → map cookie_of (numbered n cs) ≡ cs
cookies_numbered n [] = refl
cookies_numbered n (c ∷ cs) = ap (λ ds. c ∷ ds) (cookies_numbered (n + 1) cs)

faces_numbered : (n : ℕ) (cs : List Cookie) → map face_at (numbered n cs) ≡ faces_of n cs
faces_numbered n [] = refl
faces_numbered n (c ∷ cs) = ap (λ fs. face_of_cookie c n ∷ fs) (faces_numbered (n + 1) cs)

-- ---- ids and numbers rise alike

-- p comes after a cookie and a number
record IsLater (c : Cookie) (n : ℕ) (p : Numbered) : Type 0 where
  id : cookie_cmp c p.cookie ≡ Less
  number : n < p.number

all_later : (c : Cookie) (n m : ℕ) (cs : List Cookie) → n < m → AllByRecursion (λ d. cookie_cmp c d ≡ Less) cs → AllByRecursion (IsLater c n) (numbered m cs)
all_later c n m [] lt all = tt
all_later c n m (d ∷ ds) lt all =
    (record { id = all.0; number = lt }, all_later c n (m + 1) ds (omega arith) all.1)

abbrev Alike : Numbered → Numbered → Type 0
Alike p q = cookie_cmp p.cookie q.cookie ≡ nat_cmp p.number q.number

less_number : (m n : ℕ) → m < n → nat_cmp m n ≡ Less
less_number m n h = grind (arith, nat_tests)

alike_later : (c : Cookie) (n : ℕ) (q : Numbered) → IsLater c n q → cookie_cmp c q.cookie ≡ nat_cmp n q.number
alike_later c n q h = h.id ∙ sym (less_number n q.number h.number)

alike_sym : (p q : Numbered) → Alike p q → Alike q p
alike_sym p q e =
    cookie_total.antisymm q.cookie p.cookie ∙ ap ordering_reverse e ∙ sym (nat_cmp_total.antisymm q.number p.number)

alike : (n : ℕ) (cs : List Cookie) → RisesById cs → (p q : Numbered) → Member (numbered n cs) p → Member (numbered n cs) q → Alike p q
unfolding IsStrictlySortedBy
alike n [] rises p q i j = absurd i
alike n (c ∷ cs) rises p q (inl e) (inl f) =
    subst (λ r. Alike p r) (e ∙ sym f) (tied_itself cookie_total p.cookie ∙ sym (tied_itself nat_cmp_total p.number))
alike n (c ∷ cs) rises p q (inl e) (inr j) =
    subst (λ r. Alike r q) (sym e) (alike_later c n q (every_member (IsLater c n) (numbered (n + 1) cs) q (all_later c n (n + 1) cs (omega arith) rises.0) j))
alike n (c ∷ cs) rises p q (inr i) (inl f) =
    alike_sym q p (subst (λ r. Alike r p) (sym f) (alike_later c n p (every_member (IsLater c n) (numbered (n + 1) cs) p (all_later c n (n + 1) cs (omega arith) rises.0) i)))
alike n (c ∷ cs) rises p q (inr i) (inr j) = alike (n + 1) cs rises.1 p q i j

-- ---- the plans agree

abbrev by_cookie : Looks Numbered
by_cookie = seen_by cookie_of cookie_looks

abbrev by_face : Looks Numbered
by_face = seen_by face_at face_looks

abbrev AllAlike : List Numbered → Type 0
AllAlike ps = (p q : Numbered) → Member ps p → Member ps q → Alike p q

access_agree : (p q : Numbered) → Alike p q → access_cmp by_cookie p q ≡ access_cmp by_face p q
access_agree p q e =
    ap (λ w. ordering_then (nat_cmp p.cookie.access q.cookie.access) (ordering_then (nat_cmp p.cookie.creation q.cookie.creation) w)) e

ahead_agree : (p q : Numbered) → Alike p q → is_ahead by_cookie p q ≡ is_ahead by_face p q
ahead_agree p q e = ap (λ w. same_priority p.cookie.priority q.cookie.priority && is_lt w) (access_agree p q e)

plan_agree : (rounds : List (Numbered → Bool)) (p q : Numbered) → Alike p q → plan_cmp by_cookie rounds p q ≡ plan_cmp by_face rounds p q
plan_agree rounds p q e =
    ap (ordering_then (nat_cmp (round_of rounds p) (round_of rounds q))) (access_agree p q e)

parts_alike : (t : Numbered → Bool) (ps : List Numbered) → AllAlike ps → AllAlike (filter t ps)
parts_alike t ps same p q i j =
    same p q (every_member (Member ps) (filter t ps) p (all_kept t ps) i) (every_member (Member ps) (filter t ps) q (all_kept t ps) j)

spared_agree : (ps : List Numbered) → AllAlike ps → AllByRecursion (λ p. not (is_spared by_cookie ps p) ≡ not (is_spared by_face ps p)) ps
spared_agree ps same =
    weaker (Member ps) (λ p. not (is_spared by_cookie ps p) ≡ not (is_spared by_face ps p))
    (λ p i. ap (λ n. not (nat_lt n (quota p.cookie.priority))) (count_agree (is_ahead by_cookie p) (is_ahead by_face p) ps (weaker (Member ps) (λ q. is_ahead by_cookie p q ≡ is_ahead by_face p q) (λ q j. ahead_agree p q (same p q i j)) ps (own_members ps)))) ps (own_members ps)

key_agree : (ps : List Numbered) → AllAlike ps → key_order by_cookie ps ≡ key_order by_face ps
key_agree ps same =
    let by_ids = λ (p : Numbered). not (is_spared by_cookie ps p) in
    let by_ties = λ (p : Numbered). not (is_spared by_face ps p) in
    let kept = filter by_ids ps in
    order_agree (plan_cmp by_cookie (key_rounds by_cookie)) (plan_cmp by_face (key_rounds by_face)) kept (λ p q i j. plan_agree (key_rounds by_cookie) p q (parts_alike by_ids ps same p q i j))
    ∙ ap (in_order (plan_cmp by_face (key_rounds by_face))) (agreeing by_ids by_ties ps (spared_agree ps same))

jar_agree : (now : ℕ) (ps : List Numbered) → AllAlike ps → jar_order by_cookie now ps ≡ jar_order by_face now ps
jar_agree now ps same =
    let kept = filter (is_stale by_cookie now) ps in
    order_agree (plan_cmp by_cookie (jar_rounds by_cookie)) (plan_cmp by_face (jar_rounds by_face)) kept (λ p q i j. plan_agree (jar_rounds by_cookie) p q (parts_alike (is_stale by_cookie now) ps same p q i j))

-- ---- places

abbrev tie_or : ℕ → Option Face → ℕ
tie_or n None = n
tie_or n (Some f) = f.tie

face_past : (n : ℕ) (cs : List Cookie) (i : ℕ) (f : Face) → slice_get (faces_of n cs) i ≡ Some f → n ≤ f.tie
face_past n [] i f e = absurd cc
face_past n (c ∷ cs) zero f e = let same : n ≡ f.tie = ap (tie_or n) e in omega arith
face_past n (c ∷ cs) (suc i) f e = let h = face_past (n + 1) cs i f e in omega arith

number_past : (n : ℕ) (cs : List Cookie) (p : Numbered) → Member (numbered n cs) p → n ≤ p.number
number_past n [] p i = absurd i
number_past n (c ∷ cs) p (inl e) = let same : p.number ≡ n = ap (λ q. q.number) e in omega arith
number_past n (c ∷ cs) p (inr i) = let h = number_past (n + 1) cs p i in omega arith

place_of_cookie : (n : ℕ) (cs : List Cookie) (p : Numbered) (i : ℕ) → Member (numbered n cs) p → slice_get (faces_of n cs) i ≡ Some (face_at p) → slice_get cs i ≡ Some p.cookie
place_of_cookie n [] p i j e = absurd j
place_of_cookie n (c ∷ cs) p zero (inl f) e = ap (λ q. Some q.cookie) (sym f)
place_of_cookie n (c ∷ cs) p zero (inr j) e =
    let same : n ≡ p.number = ap (tie_or n) e in
    let h = number_past (n + 1) cs p j in absurd (omega arith)
place_of_cookie n (c ∷ cs) p (suc i) (inl f) e =
    let same : p.number ≡ n = ap (λ q. q.number) f in
    let h = face_past (n + 1) cs i (face_at p) e in absurd (omega arith)
place_of_cookie n (c ∷ cs) p (suc i) (inr j) e = place_of_cookie (n + 1) cs p i j e

-- places of faces are those of their cookies
places_of_cookies : (cs : List Cookie) (ps : List Numbered) (places : List ℕ) → AllByRecursion (Member (numbered 0 cs)) ps
    → ArePlaces (faces_of 0 cs) places (map face_at ps) → ArePlaces cs places (map cookie_of ps)
places_of_cookies cs [] [] all e = refl
places_of_cookies cs [] (i ∷ is) all e = absurd cc
places_of_cookies cs (p ∷ ps) [] all e = absurd cc
places_of_cookies cs (p ∷ ps) (i ∷ is) all e =
    let first : slice_get (faces_of 0 cs) i ≡ Some (face_at p) = cc in
    let rest : ArePlaces (faces_of 0 cs) is (map face_at ps) = cc in
    ap (λ m. m ∷ map (slice_get cs) is) (place_of_cookie 0 cs p i all.0 first) ∙ ap (λ ms. Some p.cookie ∷ ms) (places_of_cookies cs ps is all.1 rest)

-- ---- both plans

ties_numbered : (n : ℕ) (cs : List Cookie) → map (λ f. f.tie) (faces_of n cs) ≡ range_with_len n (length cs)
ties_numbered n [] = refl
ties_numbered n (c ∷ cs) = ap (λ ts. n ∷ ts) (ties_numbered (n + 1) cs)

length_numbered : (n : ℕ) (cs : List Cookie) → length (faces_of n cs) ≡ length cs
length_numbered n [] = refl
length_numbered n (c ∷ cs) = ap suc (length_numbered (n + 1) cs)

pub faces_differ : (cs : List Cookie) → TiesDiffer (faces_of 0 cs)
faces_differ cs = counted_differ (faces_of 0 cs) (length cs) (ties_numbered 0 cs)

key_members : (ps : List Numbered) → AllByRecursion (Member ps) (key_order by_cookie ps)
key_members ps =
    let t = λ (p : Numbered). not (is_spared by_cookie ps p) in
    order_all (plan_cmp by_cookie (key_rounds by_cookie)) (plan_cmp by_cookie (key_rounds by_cookie)) (Member ps) (filter t ps) (all_kept t ps)

jar_members : (now : ℕ) (ps : List Numbered) → AllByRecursion (Member ps) (jar_order by_cookie now ps)
jar_members now ps =
    order_all (plan_cmp by_cookie (jar_rounds by_cookie)) (plan_cmp by_cookie (jar_rounds by_cookie)) (Member ps) (filter (is_stale by_cookie now) ps) (all_kept (is_stale by_cookie now) ps)

-- what the cookies' row and the faces' row have in common, for a front of any length
rows_tell : (cs : List Cookie) (row : List Numbered) (cookies : List Cookie) (faces : List Face) (b : Bool) (n : ℕ) (places : List ℕ)
    → AllByRecursion (Member (numbered 0 cs)) row → map cookie_of row ≡ cookies → map face_at row ≡ faces
    → ArePlaces (faces_of 0 cs) places (front b n faces) → ArePlaces cs places (front b n cookies)
rows_tell cs row cookies faces b n places all e f are =
    let here = subst (λ these. ArePlaces (faces_of 0 cs) places these) (ap (front b n) (sym f) ∙ sym (map_front face_at b n row)) are in
    subst (λ these. ArePlaces cs places these) (map_front cookie_of b n row ∙ ap (front b n) e)
    (places_of_cookies cs (front b n row) places (front_all (Member (numbered 0 cs)) b n row all) here)

key_tells : (cs : List Cookie) → RisesById cs → (places : List ℕ) → ArePlaces (faces_of 0 cs) places (key_plan face_looks (faces_of 0 cs)) → ArePlaces cs places (key_plan cookie_looks cs)
key_tells cs rises places are =
    let ps = numbered 0 cs in
    let faces = faces_of 0 cs in
    let row = key_order by_cookie ps in
    let same = alike 0 cs rises in
    let n = length cs in
    let by_cs : map cookie_of row ≡ key_order cookie_looks cs = key_order_seen cookie_of cookie_looks ps ∙ ap (key_order cookie_looks) (cookies_numbered 0 cs) in
    let by_fs : map face_at row ≡ key_order face_looks faces = ap (map face_at) (key_agree ps same) ∙ key_order_seen face_at face_looks ps ∙ ap (key_order face_looks) (faces_numbered 0 cs) in
    let plan = key_plan_is face_looks face_total faces (ties_apart faces (faces_differ cs)) ∙ ap (λ m. front (nat_le m MOST_OF_KEY) (m - LEFT_OF_KEY) (key_order face_looks faces)) (length_numbered 0 cs) in
    subst (λ these. ArePlaces cs places these) (sym (key_plan_is cookie_looks looks_total cs (looks_apart cs rises)))
    (rows_tell cs row (key_order cookie_looks cs) (key_order face_looks faces) (nat_le n MOST_OF_KEY) (n - LEFT_OF_KEY) places (key_members ps) by_cs by_fs (subst (λ these. ArePlaces faces places these) plan are))

jar_tells : (cs : List Cookie) → RisesById cs → (now : ℕ) (places : List ℕ) → ArePlaces (faces_of 0 cs) places (jar_plan face_looks now (faces_of 0 cs)) → ArePlaces cs places (jar_plan cookie_looks now cs)
jar_tells cs rises now places are =
    let ps = numbered 0 cs in
    let faces = faces_of 0 cs in
    let row = jar_order by_cookie now ps in
    let same = alike 0 cs rises in
    let n = length cs in
    let by_cs : map cookie_of row ≡ jar_order cookie_looks now cs = jar_order_seen cookie_of cookie_looks now ps ∙ ap (jar_order cookie_looks now) (cookies_numbered 0 cs) in
    let by_fs : map face_at row ≡ jar_order face_looks now faces = ap (map face_at) (jar_agree now ps same) ∙ jar_order_seen face_at face_looks now ps ∙ ap (jar_order face_looks now) (faces_numbered 0 cs) in
    let plan = jar_plan_is face_looks face_total now faces (ties_apart faces (faces_differ cs)) ∙ ap (λ m. front (nat_le m MOST_OF_JAR) (m - LEFT_OF_JAR) (jar_order face_looks now faces)) (length_numbered 0 cs) in
    subst (λ these. ArePlaces cs places these) (sym (jar_plan_is cookie_looks looks_total now cs (looks_apart cs rises)))
    (rows_tell cs row (jar_order cookie_looks now cs) (jar_order face_looks now faces) (nat_le n MOST_OF_JAR) (n - LEFT_OF_JAR) places (jar_members now ps) by_cs by_fs (subst (λ these. ArePlaces faces places these) plan are))

pub cookies_go_by_faces : CookiesGoByFaces
cookies_go_by_faces cookies rises = record {
  differ = faces_differ cookies;
  key = key_tells cookies rises;
  jar = jar_tells cookies rises;
}
