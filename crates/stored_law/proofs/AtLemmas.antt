-- What is found by its id in a list of things that have ids: what a put and a drop leave of it; and that lists that rise
-- are the same where the same is found in both.
use Rattle.std.proofs.Common.{◌≡◌, List, [], ◌∷◌, ◌++◌, Bool, true, false, cond, refl, sym, ap, ◌∙◌}
use Rattle.std.specs.Prelude.{filter, find, not, Option, None, Some}
use Rattle.std.specs.List.{AllByRecursion}
use Rattle.std.specs.List.Sorted.{IsStrictlySortedBy}
use Rattle.std.specs.Option.{option_or}
use Rattle.std.specs.Ordering.{is_lt, is_gt, is_eq, ordering_reverse}
use Rattle.std.specs.declared.cmp.Ordering.{Ordering}
use Rattle.std.specs.declared.cmp.Ordering.TheVariants.{Less, Equal, Greater}
use Rattle.std.proofs.lemmas.List.Kept.{IsStrictlySortedBy-filter}
use Rattle.jar_types.specs.declared.cookie.CookieId.{CookieId}
use Rattle.jar_types.specs.Ids.{id_cmp}
use Rattle.jar_types.specs.Orders.{put_by}
use Rattle.stored_law.proofs.IdLemmas.{id_total, id_same, id_itself}
use Rattle.stored_law.proofs.FoundLemmas.{find_append, find_sieved, find_gone, find_none, or_none, all_weaker, all_append, all_filter, lt_from, gt_from}

pub flipped : (i j : CookieId) (w : Ordering) → id_cmp i j ≡ w → id_cmp j i ≡ ordering_reverse w
flipped i j w e = id_total.antisymm j i ∙ ap ordering_reverse e

module _ {X : Type 0} (k : X → CookieId) where
  -- the thing has the id
  abbrev pub at : CookieId → X → Bool
  at i x = is_eq (id_cmp i (k x))

  -- things are ordered by their ids
  abbrev pub by : X → X → Ordering
  by x y = id_cmp (k x) (k y)

  -- the first thing that has the id
  abbrev pub found : CookieId → List X → Option X
  found i xs = find (at i) xs

  abbrev pub Rises : List X → Type 0
  Rises xs = IsStrictlySortedBy by xs

  -- all of these have greater ids
  abbrev pub Below : X → List X → Type 0
  Below x xs = AllByRecursion (λ y. by x y ≡ Less) xs

  -- ---- one thing

  pub at_itself : (x : X) → at (k x) x ≡ true
  at_itself x = id_itself (k x)

  pub at_same : (i : CookieId) (x : X) → at i x ≡ true → i ≡ k x
  at_same i x e = id_same i (k x) e

  -- a thing that comes after one that has the id doesn't have it
  past : (i : CookieId) (x y : X) → at i x ≡ true → by x y ≡ Less → at i y ≡ false
  past i x y e less = ap (λ j. is_eq (id_cmp j (k y))) (at_same i x e) ∙ ap is_eq less

  -- nor does one that comes before it
  before : (i : CookieId) (x y : X) → at i x ≡ true → by y x ≡ Less → at i y ≡ false
  before i x y e less = ap (λ j. is_eq (id_cmp j (k y))) (at_same i x e) ∙ ap is_eq (flipped (k y) (k x) Less less)

  -- ---- the head of a list that rises

  pub none_below : (i : CookieId) (x : X) (xs : List X) → at i x ≡ true → Below x xs → found i xs ≡ None
  none_below i x xs e below = find_none (at i) xs (all_weaker (λ y. by x y ≡ Less) (λ y. at i y ≡ false) (λ y less. past i x y e less) xs below)

  pub after_all : (x y : X) (ys : List X) → by x y ≡ Less → Below y ys → Below x ys
  after_all x y ys less below = all_weaker (λ z. by y z ≡ Less) (λ z. by x z ≡ Less) (λ z e. id_total.trans (k x) (k y) (k z) less e) ys below

  -- ---- a put

  greater_gone : (i : CookieId) (x y : X) → at i x ≡ true → is_lt (by y x) ≡ true → at i y ≡ false
  greater_gone i x y e lt = before i x y e (lt_from (by y x) lt)

  -- behind things that don't have the id
  found_behind : (i : CookieId) (xs ys : List X) → AllByRecursion (λ x. at i x ≡ false) xs → found i (xs ++ ys) ≡ found i ys
  found_behind i [] ys all = refl
  found_behind i (x ∷ xs) ys all = ap (λ b. cond b (Some x) (found i (xs ++ ys))) all.0 ∙ found_behind i xs ys all.1

  put_here : (i : CookieId) (x : X) (xs : List X) → at i x ≡ true → found i (put_by by x xs) ≡ Some x
  put_here i x xs e =
      found_behind i (filter (λ y. is_lt (by y x)) xs) (x ∷ filter (λ y. is_gt (by y x)) xs)
      (all_filter (λ y. at i y ≡ false) (λ y. is_lt (by y x)) (λ y lt. greater_gone i x y e lt) xs)
      ∙ ap (λ b. cond b (Some x) (found i (filter (λ y. is_gt (by y x)) xs))) e

  -- where the id comes before x, and where it comes after x
  at_by : (i : CookieId) (x y : X) (w : Ordering) → id_cmp i (k x) ≡ w → at i y ≡ true → by y x ≡ w
  at_by i x y w is e = ap (λ j. id_cmp j (k x)) (sym (at_same i y e)) ∙ is

  put_there : (i : CookieId) (x : X) (xs : List X) (w : Ordering) → id_cmp i (k x) ≡ w → is_eq w ≡ false
      → found i (put_by by x xs) ≡ found i xs
  put_there i x xs Equal is e = absurd cc
  put_there i x xs Less is e =
      let lesser = filter (λ y. is_lt (by y x)) xs in
      let greater = filter (λ y. is_gt (by y x)) xs in
      find_append (at i) lesser (x ∷ greater)
      ∙ ap (option_or (found i lesser)) (
      ap (λ w. cond (is_eq w) (Some x) (found i greater)) is
      ∙ find_gone (at i) (λ y. is_gt (by y x)) (λ y has. ap is_gt (at_by i x y Less is has)) xs
      )
      ∙ or_none (found i lesser)
      ∙ find_sieved (at i) (λ y. is_lt (by y x)) (λ y has. ap is_lt (at_by i x y Less is has)) xs
  put_there i x xs Greater is e =
      let lesser = filter (λ y. is_lt (by y x)) xs in
      let greater = filter (λ y. is_gt (by y x)) xs in
      find_append (at i) lesser (x ∷ greater)
      ∙ ap (λ o. option_or o (found i (x ∷ greater))) (find_gone (at i) (λ y. is_lt (by y x)) (λ y has. ap is_lt (at_by i x y Greater is has)) xs)
      ∙ ap (λ w. cond (is_eq w) (Some x) (found i greater)) is
      ∙ find_sieved (at i) (λ y. is_gt (by y x)) (λ y has. ap is_gt (at_by i x y Greater is has)) xs

  found_put_at : (i : CookieId) (x : X) (xs : List X) (b : Bool) → at i x ≡ b → found i (put_by by x xs) ≡ cond b (Some x) (found i xs)
  found_put_at i x xs true e = put_here i x xs e
  found_put_at i x xs false e = put_there i x xs (id_cmp i (k x)) refl e

  pub found_put : (i : CookieId) (x : X) (xs : List X) → found i (put_by by x xs) ≡ cond (at i x) (Some x) (found i xs)
  found_put i x xs = found_put_at i x xs (at i x) refl

  joined_rise : (x : X) (xs ys : List X) → Rises xs → Rises (x ∷ ys) → AllByRecursion (λ y. by y x ≡ Less) xs → Rises (xs ++ (x ∷ ys))
  unfolding IsStrictlySortedBy
  joined_rise x [] ys rises more all = more
  joined_rise x (y ∷ xs) ys rises more all = (
    all_append (λ z. by y z ≡ Less) xs (x ∷ ys) rises.0 (all.0, after_all y x ys all.0 more.0),
    joined_rise x xs ys rises.1 more all.1,
  )

  pub put_rises : (x : X) (xs : List X) → Rises xs → Rises (put_by by x xs)
  unfolding IsStrictlySortedBy
  put_rises x xs rises =
      let lesser = filter (λ y. is_lt (by y x)) xs in
      let greater = filter (λ y. is_gt (by y x)) xs in
      joined_rise x lesser greater (IsStrictlySortedBy-filter by (λ y. is_lt (by y x)) xs rises) (
        all_filter (λ y. by x y ≡ Less) (λ y. is_gt (by y x)) (λ y e. flipped (k y) (k x) Greater (gt_from (by y x) e)) xs,
        IsStrictlySortedBy-filter by (λ y. is_gt (by y x)) xs rises,
      )
      (all_filter (λ y. by y x ≡ Less) (λ y. is_lt (by y x)) (λ y e. lt_from (by y x) e) xs)

  -- ---- a drop

  drop_here : (i j : CookieId) (x : X) → is_eq (id_cmp i j) ≡ true → at i x ≡ true → not (is_eq (id_cmp j (k x))) ≡ false
  drop_here i j x same e = ap (λ l. not (is_eq (id_cmp l (k x)))) (sym (id_same i j same)) ∙ ap not e

  drop_there_at : (i j : CookieId) (x : X) (b : Bool) → is_eq (id_cmp j (k x)) ≡ b → is_eq (id_cmp i j) ≡ false → at i x ≡ true → not b ≡ true
  drop_there_at i j x true e other has =
      let same : is_eq (id_cmp i j) ≡ true = ap (λ l. is_eq (id_cmp i l)) (id_same j (k x) e) ∙ has in
      absurd cc
  drop_there_at i j x false e other has = refl

  found_dropped_at : (i j : CookieId) (xs : List X) (b : Bool) → is_eq (id_cmp i j) ≡ b
      → found i (filter (λ x. not (is_eq (id_cmp j (k x)))) xs) ≡ cond b None (found i xs)
  found_dropped_at i j xs true e = find_gone (at i) (λ x. not (is_eq (id_cmp j (k x)))) (λ x has. drop_here i j x e has) xs
  found_dropped_at i j xs false e =
      find_sieved (at i) (λ x. not (is_eq (id_cmp j (k x)))) (λ x has. drop_there_at i j x (is_eq (id_cmp j (k x))) refl e has ∙ refl) xs

  pub found_dropped : (i j : CookieId) (xs : List X)
      → found i (filter (λ x. not (is_eq (id_cmp j (k x)))) xs) ≡ cond (is_eq (id_cmp i j)) None (found i xs)
  found_dropped i j xs = found_dropped_at i j xs (is_eq (id_cmp i j)) refl

  -- ---- lists in which the same is found

  some_here : (x : X) (xs : List X) → found (k x) (x ∷ xs) ≡ Some x
  some_here x xs = ap (λ b. cond b (Some x) (found (k x) xs)) (at_itself x)

  rest_at : (i : CookieId) (x : X) (xs ys : List X) (b : Bool) → at i x ≡ b → Below x xs → Below x ys
      → cond b (Some x) (found i xs) ≡ cond b (Some x) (found i ys) → found i xs ≡ found i ys
  rest_at i x xs ys true is below below' e = none_below i x xs is below ∙ sym (none_below i x ys is below')
  rest_at i x xs ys false is below below' e = e

  -- the lesser of two heads isn't found in the other list
  lost_head : (x y : X) (xs ys : List X) → by x y ≡ Less → Below y ys → found (k x) (x ∷ xs) ≡ found (k x) (y ∷ ys) → ⊥
  lost_head x y xs ys less below e =
      let gone : found (k x) (y ∷ ys) ≡ None =
      find_none (at (k x)) (y ∷ ys) (past (k x) x y (at_itself x) less, all_weaker (λ z. by x z ≡ Less) (λ z. at (k x) z ≡ false) (λ z e. past (k x) x z (at_itself x) e) ys (after_all x y ys less below)) in
      let no : Some x ≡ None = sym (some_here x xs) ∙ e ∙ gone in
      absurd cc

  same_head : (x y : X) (xs ys : List X) (w : Ordering) → by x y ≡ w → Below x xs → Below y ys
      → found (k x) (x ∷ xs) ≡ found (k x) (y ∷ ys) → found (k y) (x ∷ xs) ≡ found (k y) (y ∷ ys) → x ≡ y
  same_head x y xs ys Less is below below' e e' = absurd (lost_head x y xs ys is below' e)
  same_head x y xs ys Greater is below below' e e' = absurd (lost_head y x ys xs (flipped (k x) (k y) Greater is) below (sym e'))
  same_head x y xs ys Equal is below below' e e' =
      let is_y : found (k x) (y ∷ ys) ≡ Some y = ap (λ b. cond b (Some y) (found (k x) ys)) (ap is_eq is) in
      let same : Some x ≡ Some y = sym (some_here x xs) ∙ e ∙ is_y in
      cc

  pub same_lists : (xs ys : List X) → Rises xs → Rises ys → ((i : CookieId) → found i xs ≡ found i ys) → xs ≡ ys
  unfolding IsStrictlySortedBy
  same_lists [] [] rises rises' e = refl
  same_lists [] (y ∷ ys) rises rises' e =
      let no : None ≡ Some y = e (k y) ∙ some_here y ys in absurd cc
  same_lists (x ∷ xs) [] rises rises' e =
      let no : Some x ≡ None = sym (some_here x xs) ∙ e (k x) in absurd cc
  same_lists (x ∷ xs) (y ∷ ys) rises rises' e =
      let is = same_head x y xs ys (by x y) refl rises.0 rises'.0 (e (k x)) (e (k y)) in
      let below = ap (λ z. Below z ys) is in
      let tails : (i : CookieId) → found i xs ≡ found i ys =
      λ i. rest_at i x xs ys (at i x) refl rises.0 (rw is rises'.0) (e i ∙ ap (λ z. cond (at i z) (Some z) (found i ys)) (sym is)) in
      ap (λ z. z ∷ xs) is ∙ ap (λ zs. y ∷ zs) (same_lists xs ys rises.1 rises'.1 tails)

  -- ---- a list behind another

  pub append_rises : (xs ys : List X) → Rises xs → Rises ys → AllByRecursion (λ x. Below x ys) xs → Rises (xs ++ ys)
  unfolding IsStrictlySortedBy
  append_rises [] ys rises rises' all = rises'
  append_rises (x ∷ xs) ys rises rises' all =
      (all_append (λ y. by x y ≡ Less) xs ys rises.0 all.0, append_rises xs ys rises.1 rises' all.1)
