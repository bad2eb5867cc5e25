-- Ids that changes touch, one by one, where both rise.
use Rattle.std.proofs.Common.{◌≡◌, ℕ, ◌+◌, ◌-◌, ◌<◌, ◌≤◌, ◌⊎◌, inl, inr, List, [], ◌∷◌, ◌++◌, Bool, true, false, cond, length, get_or, take, drop, refl, sym, ap, ◌∙◌, subst, append_assoc}
use Rattle.std.specs.Prelude.{map, filter, fold}
use Rattle.std.specs.List.{AllByRecursion}
use Rattle.std.specs.List.Sorted.{IsStrictlySortedBy}
use Rattle.std.specs.Ordering.{is_lt, is_gt}
use Rattle.std.specs.declared.cmp.Ordering.{Ordering}
use Rattle.std.specs.declared.cmp.Ordering.TheVariants.{Less, Equal, Greater}
use Rattle.std.proofs.Math.ListN.{drop_of_length-le}
use Rattle.std.proofs.lemmas.List.Kept.{IsStrictlySortedBy-filter}
use Rattle.jar_types.specs.declared.cookie.CookieId.{CookieId}
use Rattle.jar_types.specs.declared.row.RowChange.{RowChange}
use Rattle.jar_types.specs.Ids.{id_cmp}
use Rattle.jar_types.specs.Orders.{put_by}
use Rattle.jar_types.specs.RowChanges.{change_id, change_cmp}
use Rattle.plain_jar.proofs.PlaceLemmas.{from_place, drop_rises, rises_from, rest_whole}
use Rattle.plain_jar.proofs.IdLemmas.{id_total, id_exact}
use Rattle.plain_jar.proofs.AscendLemmas.{Above, flipped, weaker, above_next, joined_all}

-- the ids with those of changes
abbrev pub touch : List CookieId → List RowChange → List CookieId
touch ids changes = fold (λ ids change. put_by id_cmp (change_id change) ids) ids changes

-- all of these changes come after an id
abbrev After : CookieId → List RowChange → Type 0
After i changes = AllByRecursion (λ c. id_cmp i (change_id c) ≡ Less) changes

-- ---- one id

none_less : (i : CookieId) (js : List CookieId) → Above i js → filter (λ j. is_lt (id_cmp j i)) js ≡ []
none_less i [] all = refl
none_less i (j ∷ js) all = rw (flipped i j Less all.0) (none_less i js all.1)

all_greater : (i : CookieId) (js : List CookieId) → Above i js → filter (λ j. is_gt (id_cmp j i)) js ≡ js
all_greater i [] all = refl
all_greater i (j ∷ js) all = rw (flipped i j Less all.0) (ap (λ ks. j ∷ ks) (all_greater i js all.1))

-- one that comes before all comes first
put_first : (i : CookieId) (js : List CookieId) → Above i js → put_by id_cmp i js ≡ i ∷ js
put_first i js all =
    ap (λ lesser. lesser ++ (i ∷ filter (λ j. is_gt (id_cmp j i)) js)) (none_less i js all)
    ∙ ap (λ greater. i ∷ greater) (all_greater i js all)

-- one that is the first is there
put_same : (i j : CookieId) (js : List CookieId) → id_cmp i j ≡ Equal → Above i js → put_by id_cmp j (i ∷ js) ≡ i ∷ js
put_same i j js e all =
    let same : i ≡ j = id_exact i j e in
    rw e (put_first j js (subst (λ k. Above k js) same all) ∙ ap (λ k. k ∷ js) (sym same))

-- one that comes after the first leaves it
put_later : (i j : CookieId) (js : List CookieId) → id_cmp i j ≡ Less → put_by id_cmp j (i ∷ js) ≡ i ∷ put_by id_cmp j js
put_later i j js e = rw e refl

-- ---- all of them

-- changes that come after the first leave it
touch_later : (i : CookieId) (js : List CookieId) (changes : List RowChange) → After i changes → touch (i ∷ js) changes ≡ i ∷ touch js changes
touch_later i js [] all = refl
touch_later i js (c ∷ cs) all =
    ap (λ ids. touch ids cs) (put_later i (change_id c) js all.0) ∙ touch_later i (put_by id_cmp (change_id c) js) cs all.1

after_next : (i : CookieId) (c : RowChange) (cs : List RowChange) → id_cmp i (change_id c) ≡ Less → After (change_id c) cs → After i cs
after_next i c cs e all =
    weaker (λ d. id_cmp (change_id c) (change_id d) ≡ Less) (λ d. id_cmp i (change_id d) ≡ Less)
    (λ d h. id_total.trans i (change_id c) (change_id d) e h) cs all

-- the first id comes before the first change
pub first_stays : (i : CookieId) (js : List CookieId) (c : RowChange) (cs : List RowChange) → IsStrictlySortedBy change_cmp (c ∷ cs)
    → id_cmp i (change_id c) ≡ Less → touch (i ∷ js) (c ∷ cs) ≡ i ∷ touch js (c ∷ cs)
unfolding IsStrictlySortedBy
first_stays i js c cs rises e = touch_later i js (c ∷ cs) (e, after_next i c cs e rises.0)

-- the first change is of the first id
pub first_there : (i : CookieId) (js : List CookieId) (c : RowChange) (cs : List RowChange) → IsStrictlySortedBy id_cmp (i ∷ js)
    → id_cmp i (change_id c) ≡ Equal → touch (i ∷ js) (c ∷ cs) ≡ touch (i ∷ js) cs
unfolding IsStrictlySortedBy
first_there i js c cs rises e = ap (λ ids. touch ids cs) (put_same i (change_id c) js e rises.0)

-- the first change comes before all ids
first_new : (ids : List CookieId) (c : RowChange) (cs : List RowChange) → Above (change_id c) ids → IsStrictlySortedBy change_cmp (c ∷ cs)
    → touch ids (c ∷ cs) ≡ change_id c ∷ touch ids cs
unfolding IsStrictlySortedBy
first_new ids c cs all rises = ap (λ js. touch js cs) (put_first (change_id c) ids all) ∙ touch_later (change_id c) ids cs rises.0

pub first_comes : (i : CookieId) (js : List CookieId) (c : RowChange) (cs : List RowChange) → IsStrictlySortedBy id_cmp (i ∷ js)
    → IsStrictlySortedBy change_cmp (c ∷ cs) → id_cmp i (change_id c) ≡ Greater → touch (i ∷ js) (c ∷ cs) ≡ change_id c ∷ touch (i ∷ js) cs
unfolding IsStrictlySortedBy
first_comes i js c cs ids changes e =
    let less = flipped i (change_id c) Greater e in
    first_new (i ∷ js) c cs (less, above_next (change_id c) i js less ids.0) changes

-- no ids are there
pub all_new : (changes : List RowChange) → IsStrictlySortedBy change_cmp changes → touch [] changes ≡ map change_id changes
unfolding IsStrictlySortedBy
all_new [] rises = refl
all_new (c ∷ cs) rises = first_new [] c cs tt rises ∙ ap (λ ids. change_id c ∷ ids) (all_new cs rises.1)

-- ---- they rise

less_from : (w : Ordering) → is_lt w ≡ true → w ≡ Less
less_from Less e = refl
less_from Equal e = absurd cc
less_from Greater e = absurd cc

greater_from : (w : Ordering) → is_gt w ≡ true → w ≡ Greater
greater_from Less e = absurd cc
greater_from Equal e = absurd cc
greater_from Greater e = refl

passing_at : (P : CookieId → Type 0) (i : CookieId) (is : List CookieId) (b : Bool) → (b ≡ true → P i) → AllByRecursion P is → AllByRecursion P (cond b (i ∷ is) is)
passing_at P i is true holds all = (holds refl, all)
passing_at P i is false holds all = all

passing : (P : CookieId → Type 0) (p : CookieId → Bool) → ((i : CookieId) → p i ≡ true → P i) → (ids : List CookieId) → AllByRecursion P (filter p ids)
passing P p holds [] = tt
passing P p holds (i ∷ is) = passing_at P i (filter p is) (p i) (holds i) (passing P p holds is)

joined_rise : (i : CookieId) (is js : List CookieId) → IsStrictlySortedBy id_cmp is → IsStrictlySortedBy id_cmp (i ∷ js)
    → AllByRecursion (λ j. id_cmp j i ≡ Less) is → IsStrictlySortedBy id_cmp (is ++ (i ∷ js))
unfolding IsStrictlySortedBy
joined_rise i [] js rises more all = more
joined_rise i (j ∷ is) js rises more all = (
  joined_all (λ k. id_cmp j k ≡ Less) is (i ∷ js) rises.0 (all.0, above_next j i js all.0 more.0),
  joined_rise i is js rises.1 more all.1,
)

put_rises : (i : CookieId) (ids : List CookieId) → IsStrictlySortedBy id_cmp ids → IsStrictlySortedBy id_cmp (put_by id_cmp i ids)
unfolding IsStrictlySortedBy
put_rises i ids rises =
    let lesser = filter (λ j. is_lt (id_cmp j i)) ids in
    let greater = filter (λ j. is_gt (id_cmp j i)) ids in
    joined_rise i lesser greater (IsStrictlySortedBy-filter id_cmp (λ j. is_lt (id_cmp j i)) ids rises) (
      passing (λ j. id_cmp i j ≡ Less) (λ j. is_gt (id_cmp j i)) (λ j e. flipped j i Greater (greater_from (id_cmp j i) e)) ids,
      IsStrictlySortedBy-filter id_cmp (λ j. is_gt (id_cmp j i)) ids rises,
    )
    (passing (λ j. id_cmp j i ≡ Less) (λ j. is_lt (id_cmp j i)) (λ j e. less_from (id_cmp j i) e) ids)

pub touch_rises : (ids : List CookieId) (changes : List RowChange) → IsStrictlySortedBy id_cmp ids → IsStrictlySortedBy id_cmp (touch ids changes)
touch_rises ids [] rises = rises
touch_rises ids (c ∷ cs) rises = touch_rises (put_by id_cmp (change_id c) ids) cs (put_rises (change_id c) ids rises)

-- ---- at two places

-- the ids so far, and what is left to touch
abbrev pub Merged : List CookieId → List RowChange → List CookieId → ℕ → ℕ → Type 0
Merged ids changes all i j = all ++ touch (drop i ids) (drop j changes) ≡ touch ids changes

module _ (ids : List CookieId) (changes : List RowChange) (all : List CookieId) (i j : ℕ) (id : CookieId) (c : RowChange)
    (low : i < length ids) (few : j < length changes) (at : id ≡ get_or ids i id) (there : c ≡ get_or changes j c)
    (old : IsStrictlySortedBy id_cmp ids) (new : IsStrictlySortedBy change_cmp changes) (so : Merged ids changes all i j) where
  here : touch (drop i ids) (drop j changes) ≡ touch (id ∷ drop (i + 1) ids) (c ∷ drop (j + 1) changes)
  here = ap (λ is. touch is (drop j changes)) (from_place ids i id low at) ∙ ap (touch (id ∷ drop (i + 1) ids)) (from_place changes j c few there)

  olds : IsStrictlySortedBy id_cmp (id ∷ drop (i + 1) ids)
  olds = rises_from id_cmp ids i id low at old

  news : IsStrictlySortedBy change_cmp (c ∷ drop (j + 1) changes)
  news = rises_from change_cmp changes j c few there new

  one_more : (k : CookieId) (rest : List CookieId) → touch (id ∷ drop (i + 1) ids) (c ∷ drop (j + 1) changes) ≡ k ∷ rest
      → (all ++ k ∷ []) ++ rest ≡ touch ids changes
  one_more k rest e = append_assoc all (k ∷ []) rest ∙ ap (λ r. all ++ r) (sym e ∙ sym here) ∙ so

  pub merge_stays : id_cmp id (change_id c) ≡ Less → Merged ids changes (all ++ id ∷ []) (i + 1) j
  merge_stays e =
      let is = drop (i + 1) ids in
      one_more id (touch is (drop j changes)) (
      first_stays id is c (drop (j + 1) changes) news e
      ∙ ap (λ more. id ∷ touch is more) (sym (from_place changes j c few there))
      )

  pub merge_comes : id_cmp id (change_id c) ≡ Greater → Merged ids changes (all ++ change_id c ∷ []) i (j + 1)
  merge_comes e =
      let cs = drop (j + 1) changes in
      one_more (change_id c) (touch (drop i ids) cs) (
      first_comes id (drop (i + 1) ids) c cs olds news e
      ∙ ap (λ is. change_id c ∷ touch is cs) (sym (from_place ids i id low at))
      )

  pub merge_there : id_cmp id (change_id c) ≡ Equal → Merged ids changes all i (j + 1)
  merge_there e =
      let cs = drop (j + 1) changes in
      ap (λ r. all ++ r) (
      ap (λ is. touch is cs) (from_place ids i id low at)
      ∙ sym (first_there id (drop (i + 1) ids) c cs olds e) ∙ sym here
      )
      ∙ so

nil_end : (xs : List CookieId) → xs ++ [] ≡ xs
nil_end [] = refl
nil_end (x ∷ xs) = ap (λ ys. x ∷ ys) (nil_end xs)

-- at the end of one list the others follow
merge_end : (ids : List CookieId) (changes : List RowChange) (all : List CookieId) (i j : ℕ) → IsStrictlySortedBy change_cmp changes
    → (length ids ≤ i) ⊎ (length changes ≤ j) → Merged ids changes all i j
    → (all ++ drop i ids) ++ map change_id (drop j changes) ≡ touch ids changes
merge_end ids changes all i j new (inl past) so =
    let none = drop_of_length-le ids past in
    ap (λ is. (all ++ is) ++ map change_id (drop j changes)) none
    ∙ ap (λ a. a ++ map change_id (drop j changes)) (nil_end all)
    ∙ ap (λ r. all ++ r) (sym (all_new (drop j changes) (drop_rises change_cmp changes j new)))
    ∙ ap (λ is. all ++ touch is (drop j changes)) (sym none) ∙ so
merge_end ids changes all i j new (inr past) so =
    let none = drop_of_length-le changes past in
    ap (λ cs. (all ++ drop i ids) ++ map change_id cs) none
    ∙ nil_end (all ++ drop i ids)
    ∙ ap (λ cs. all ++ touch (drop i ids) cs) (sym none) ∙ so

pub merge_done : (ids : List CookieId) (changes : List RowChange) (all : List CookieId) (i j : ℕ) → IsStrictlySortedBy change_cmp changes
    → (length ids ≤ i) ⊎ (length changes ≤ j) → Merged ids changes all i j
    → (all ++ take (length ids - i) (drop i ids)) ++ map change_id (take (length changes - j) (drop j changes)) ≡ touch ids changes
merge_done ids changes all i j new past so =
    rw (rest_whole ids i, rest_whole changes j) (merge_end ids changes all i j new past so)
