-- The changes of rows between two lists of cookies whose ids rise, cookie by cookie.
use Rattle.std.proofs.Common.{◌≡◌, ℕ, ◌+◌, ◌<◌, ◌≤◌, ◌⊎◌, inl, inr, List, [], ◌∷◌, ◌++◌, Bool, true, false, cond, length, get_or, drop, refl, sym, ap, ◌∙◌, subst, append_assoc}
use Rattle.std.specs.Prelude.{map, find, filter_map, Option, None, Some, option_and_then}
use Rattle.std.specs.List.{AllByRecursion, cons_option}
use Rattle.std.specs.List.Sorted.{IsStrictlySortedBy}
use Rattle.std.specs.Ordering.{is_eq}
use Rattle.std.specs.declared.cmp.Ordering.{Ordering}
use Rattle.std.specs.declared.cmp.Ordering.TheVariants.{Less, Equal, Greater}
use Rattle.std.proofs.lemmas.Cmp.{tied_itself}
use Rattle.std.proofs.Math.ListN.{drop_of_length-le}
use Rattle.std.proofs.lemmas.List.{map-append}
use Rattle.jar_types.specs.declared.cookie.Cookie.{Cookie}
use Rattle.jar_types.specs.declared.cookie.CookieId.{CookieId}
use Rattle.jar_types.specs.declared.row.Row.{Row}
use Rattle.jar_types.specs.declared.row.RowChange.{RowChange}
use Rattle.jar_types.specs.Ids.{id_cmp, id_of, cookie_cmp, RisesById}
use Rattle.jar_types.specs.Orders.{ascending, placed_once}
use Rattle.jar_types.specs.RowChanges.{has_id, row_at, same_rows, became, row_change, ids_of_both, row_changes, change_id, change_cmp}
use Rattle.jar_types.specs.Rows.{row_of, row_where}
use Rattle.plain_jar.specs.RowWalks.{drop_where, drop_of, put_where, put_of, change_where, change_of}
use Rattle.plain_jar.proofs.PlaceLemmas.{from_place, rises_from}
use Rattle.plain_jar.proofs.IdLemmas.{id_total, id_exact}
use Rattle.plain_jar.proofs.AscendLemmas.{Above, flipped, weaker, joined_all, once_first, once_same, ascending_all, least_first, ascending_rises}

-- all of these cookies come after an id
abbrev Behind : CookieId → List Cookie → Type 0
Behind i cs = AllByRecursion (λ c. id_cmp i (id_of c) ≡ Less) cs

above_ids : (i : CookieId) (cs : List Cookie) → Behind i cs → Above i (map id_of cs)
above_ids i [] all = tt
above_ids i (c ∷ cs) all = (all.0, above_ids i cs all.1)

-- what comes after a cookie that comes after i
pub behind_next : (i : CookieId) (c : Cookie) (cs : List Cookie) → id_cmp i (id_of c) ≡ Less → Behind (id_of c) cs → Behind i cs
behind_next i c cs e all =
    weaker (λ d. id_cmp (id_of c) (id_of d) ≡ Less) (λ d. id_cmp i (id_of d) ≡ Less) (λ d h. id_total.trans i (id_of c) (id_of d) e h) cs all

same_cmp : (i : CookieId) → id_cmp i i ≡ Equal
same_cmp i = tied_itself id_total i

-- ---- the row of an id

-- an id that comes before all of these has none
row_before : (i : CookieId) (cs : List Cookie) → Behind i cs → row_at i cs ≡ None
row_before i [] all = refl
row_before i (c ∷ cs) all = rw all.0 (row_before i cs all.1)

-- the id of the first has its row
row_first : (i : CookieId) (c : Cookie) (cs : List Cookie) → id_cmp i (id_of c) ≡ Equal → row_at i (c ∷ cs) ≡ row_of c
row_first i c cs e = rw e refl

-- a later id has the row that it has among the others
row_later : (i : CookieId) (c : Cookie) (cs : List Cookie) → id_cmp (id_of c) i ≡ Less → row_at i (c ∷ cs) ≡ row_at i cs
row_later i c cs e = rw (flipped (id_of c) i Less e) refl

-- ---- changes of later ids

filter_map_same : {X Y : Type 0} (f g : X → Option Y) (xs : List X) → AllByRecursion (λ x. f x ≡ g x) xs → filter_map f xs ≡ filter_map g xs
filter_map_same f g [] all = refl
filter_map_same f g (x ∷ xs) all =
    ap (λ o. cons_option o (filter_map f xs)) all.0 ∙ ap (cons_option (g x)) (filter_map_same f g xs all.1)

abbrev change_where_rows : Option Row → Option Row → CookieId → Option RowChange
change_where_rows old new i = cond (same_rows old new) None (Some (became i new))

skip_before : (c : Cookie) (cs later : List Cookie) (js : List CookieId) → Above (id_of c) js
    → filter_map (row_change (c ∷ cs) later) js ≡ filter_map (row_change cs later) js
skip_before c cs later js all =
    filter_map_same (row_change (c ∷ cs) later) (row_change cs later) js
    (weaker (λ j. id_cmp (id_of c) j ≡ Less) (λ j. row_change (c ∷ cs) later j ≡ row_change cs later j)
    (λ j e. ap (λ r. change_where_rows r (row_at j later) j) (row_later j c cs e)) js all)

skip_later : (before : List Cookie) (c : Cookie) (cs : List Cookie) (js : List CookieId) → Above (id_of c) js
    → filter_map (row_change before (c ∷ cs)) js ≡ filter_map (row_change before cs) js
skip_later before c cs js all =
    filter_map_same (row_change before (c ∷ cs)) (row_change before cs) js
    (weaker (λ j. id_cmp (id_of c) j ≡ Less) (λ j. row_change before (c ∷ cs) j ≡ row_change before cs j)
    (λ j e. ap (λ r. change_where_rows (row_at j before) r j) (row_later j c cs e)) js all)

-- ---- the change of the first id

went : (r : Option Row) (i : CookieId) (rest : List RowChange) → cons_option (change_where_rows r None i) rest ≡ drop_where r i ++ rest
went None i rest = refl
went (Some row) i rest = refl

came : (r : Option Row) (i : CookieId) (rest : List RowChange) → cons_option (change_where_rows None r i) rest ≡ put_where r ++ rest
came None i rest = refl
came (Some row) i rest = refl

turned : (same : Bool) (r : Option Row) (i : CookieId) (rest : List RowChange)
    → cons_option (cond same None (Some (became i r))) rest ≡ change_where same i r ++ rest
turned true r i rest = refl
turned false r i rest = refl

-- ---- ids of both

ids_joined : (before later : List Cookie) → ids_of_both before later ≡ ascending id_cmp (map id_of before ++ map id_of later)
ids_joined before later = ap (ascending id_cmp) (map-append id_of before later)

both_above : (i : CookieId) (before later : List Cookie) → Behind i before → Behind i later → Above i (ids_of_both before later)
both_above i before later old new =
    rw (ids_joined before later) (
    ascending_all (λ j. id_cmp i j ≡ Less) (map id_of before ++ map id_of later)
    (joined_all (λ j. id_cmp i j ≡ Less) (map id_of before) (map id_of later) (above_ids i before old) (above_ids i later new))
    )

old_first : (c : Cookie) (cs later : List Cookie) → Behind (id_of c) cs → Behind (id_of c) later
    → ids_of_both (c ∷ cs) later ≡ id_of c ∷ ids_of_both cs later
old_first c cs later old new = once_first (id_of c) (ids_of_both cs later) (both_above (id_of c) cs later old new)

new_first : (before : List Cookie) (c : Cookie) (cs : List Cookie) → Behind (id_of c) before → Behind (id_of c) cs
    → ids_of_both before (c ∷ cs) ≡ id_of c ∷ ids_of_both before cs
new_first before c cs old new =
    ids_joined before (c ∷ cs)
    ∙ least_first (id_of c) (map id_of before) (map id_of cs) (above_ids (id_of c) before old) (above_ids (id_of c) cs new)
    ∙ ap (λ js. id_of c ∷ js) (sym (ids_joined before cs))

-- ---- the first cookie

-- the first of those before comes before all later ones: it left
pub first_left : (b : Cookie) (bs later : List Cookie) → RisesById (b ∷ bs) → Behind (id_of b) later
    → row_changes (b ∷ bs) later ≡ drop_of b ++ row_changes bs later
unfolding IsStrictlySortedBy
first_left b bs later rises new =
    let i = id_of b in
    let ids = ids_of_both bs later in
    ap (filter_map (row_change (b ∷ bs) later)) (old_first b bs later rises.0 new)
    ∙ ap (λ r. cons_option (change_where_rows r (row_at i later) i) (filter_map (row_change (b ∷ bs) later) ids)) (row_first i b bs (same_cmp i))
    ∙ ap (λ r. cons_option (change_where_rows (row_of b) r i) (filter_map (row_change (b ∷ bs) later) ids)) (row_before i later new)
    ∙ went (row_of b) i (filter_map (row_change (b ∷ bs) later) ids)
    ∙ ap (λ rest. drop_of b ++ rest) (skip_before b bs later ids (both_above i bs later rises.0 new))

-- the first of the later ones comes before all of those before: it came
pub first_came : (before : List Cookie) (l : Cookie) (ls : List Cookie) → RisesById (l ∷ ls) → Behind (id_of l) before
    → row_changes before (l ∷ ls) ≡ put_of l ++ row_changes before ls
unfolding IsStrictlySortedBy
first_came before l ls rises old =
    let i = id_of l in
    let ids = ids_of_both before ls in
    ap (filter_map (row_change before (l ∷ ls))) (new_first before l ls old rises.0)
    ∙ ap (λ r. cons_option (change_where_rows r (row_at i (l ∷ ls)) i) (filter_map (row_change before (l ∷ ls)) ids)) (row_before i before old)
    ∙ ap (λ r. cons_option (change_where_rows None r i) (filter_map (row_change before (l ∷ ls)) ids)) (row_first i l ls (same_cmp i))
    ∙ came (row_of l) i (filter_map (row_change before (l ∷ ls)) ids)
    ∙ ap (λ rest. put_of l ++ rest) (skip_later before l ls ids (both_above i before ls old rises.0))

-- both firsts have one id: the one became the other
pub first_became : (b l : Cookie) (bs ls : List Cookie) → RisesById (b ∷ bs) → RisesById (l ∷ ls) → cookie_cmp b l ≡ Equal
    → row_changes (b ∷ bs) (l ∷ ls) ≡ change_of b l ++ row_changes bs ls
unfolding IsStrictlySortedBy
first_became b l bs ls old new e =
    let i = id_of l in
    let same : id_of b ≡ i = id_exact (id_of b) i e in
    let behind : Behind i bs = subst (λ j. Behind j bs) same old.0 in
    let ids = ids_of_both bs ls in
    let f = row_change (b ∷ bs) (l ∷ ls) in
    ap (filter_map f) (ap (placed_once id_cmp (id_of b)) (new_first bs l ls behind new.0) ∙ once_same (id_of b) i ids e)
    ∙ ap (λ r. cons_option (change_where_rows r (row_at i (l ∷ ls)) i) (filter_map f ids)) (row_first i b bs (flipped (id_of b) i Equal e))
    ∙ ap (λ r. cons_option (change_where_rows (row_of b) r i) (filter_map f ids)) (row_first i l ls (same_cmp i))
    ∙ turned (same_rows (row_of b) (row_of l)) (row_of l) i (filter_map f ids)
    ∙ ap (λ rest. change_of b l ++ rest) (
    skip_before b bs (l ∷ ls) ids (subst (λ j. Above j ids) (sym same) (both_above i bs ls behind new.0))
    ∙ skip_later bs l ls ids (both_above i bs ls behind new.0)
    )

-- ---- the cookies at two places

-- a cookie before the first of some comes before all of them
before_rest : (c d : Cookie) (ds : List Cookie) → cookie_cmp c d ≡ Less → RisesById (d ∷ ds) → Behind (id_of c) (d ∷ ds)
unfolding IsStrictlySortedBy
before_rest c d ds e rises = (e, behind_next (id_of c) d ds e rises.0)

-- the walk so far, and what is left to walk
abbrev pub Walked : List Cookie → List Cookie → List RowChange → ℕ → ℕ → Type 0
Walked before later changes i j = changes ++ row_changes (drop i before) (drop j later) ≡ row_changes before later

module _ (before later : List Cookie) (changes : List RowChange) (i j : ℕ) (b l : Cookie)
    (low : i < length before) (few : j < length later) (at : b ≡ get_or before i b) (there : l ≡ get_or later j l)
    (old : RisesById before) (new : RisesById later) (so : Walked before later changes i j) where
  here : row_changes (drop i before) (drop j later) ≡ row_changes (b ∷ drop (i + 1) before) (l ∷ drop (j + 1) later)
  here = ap (λ bs. row_changes bs (drop j later)) (from_place before i b low at) ∙ ap (row_changes (b ∷ drop (i + 1) before)) (from_place later j l few there)

  olds : RisesById (b ∷ drop (i + 1) before)
  olds = rises_from cookie_cmp before i b low at old

  news : RisesById (l ∷ drop (j + 1) later)
  news = rises_from cookie_cmp later j l few there new

  one_more : (added rest : List RowChange) → row_changes (b ∷ drop (i + 1) before) (l ∷ drop (j + 1) later) ≡ added ++ rest → (changes ++ added) ++ rest ≡ row_changes before later
  one_more added rest e = append_assoc changes added rest ∙ ap (λ r. changes ++ r) (sym e ∙ sym here) ∙ so

  pub walk_left : cookie_cmp b l ≡ Less → Walked before later (changes ++ drop_of b) (i + 1) j
  walk_left e =
      let rest = drop (i + 1) before in
      one_more (drop_of b) (row_changes rest (drop j later)) (
      first_left b rest (l ∷ drop (j + 1) later) olds (before_rest b l (drop (j + 1) later) e news)
      ∙ ap (λ ls. drop_of b ++ row_changes rest ls) (sym (from_place later j l few there))
      )

  pub walk_came : cookie_cmp b l ≡ Greater → Walked before later (changes ++ put_of l) i (j + 1)
  walk_came e =
      let rest = drop (j + 1) later in
      one_more (put_of l) (row_changes (drop i before) rest) (
      first_came (b ∷ drop (i + 1) before) l rest news (before_rest l b (drop (i + 1) before) (flipped (id_of b) (id_of l) Greater e) olds)
      ∙ ap (λ bs. put_of l ++ row_changes bs rest) (sym (from_place before i b low at))
      )

  pub walk_became : cookie_cmp b l ≡ Equal → Walked before later (changes ++ change_of b l) (i + 1) (j + 1)
  walk_became e =
      one_more (change_of b l) (row_changes (drop (i + 1) before) (drop (j + 1) later))
      (first_became b l (drop (i + 1) before) (drop (j + 1) later) olds news e)

-- at the end of one list the others left or came
nil_end : (xs : List RowChange) → xs ++ [] ≡ xs
nil_end [] = refl
nil_end (x ∷ xs) = ap (λ ys. x ∷ ys) (nil_end xs)

pub walk_end : (before later : List Cookie) (changes : List RowChange) (i j : ℕ)
    → (length before ≤ i) ⊎ (length later ≤ j) → Walked before later changes i j
    → (changes ++ row_changes (drop i before) []) ++ row_changes [] (drop j later) ≡ row_changes before later
walk_end before later changes i j (inl past) so =
    let none = drop_of_length-le before past in
    ap (λ bs. (changes ++ row_changes bs []) ++ row_changes [] (drop j later)) none
    ∙ ap (λ cs. cs ++ row_changes [] (drop j later)) (nil_end changes)
    ∙ ap (λ bs. changes ++ row_changes bs (drop j later)) (sym none) ∙ so
walk_end before later changes i j (inr past) so =
    let none = drop_of_length-le later past in
    ap (λ ls. (changes ++ row_changes (drop i before) []) ++ row_changes [] ls) none
    ∙ nil_end (changes ++ row_changes (drop i before) [])
    ∙ ap (λ ls. changes ++ row_changes (drop i before) ls) (sym none) ∙ so

-- one more that left, where none came
pub left_more : (before : List Cookie) (i : ℕ) (b : Cookie) → RisesById before → i < length before → b ≡ get_or before i b
    → row_changes (drop i before) [] ≡ drop_of b ++ row_changes (drop (i + 1) before) []
left_more before i b rises low at =
    ap (λ bs. row_changes bs []) (from_place before i b low at)
    ∙ first_left b (drop (i + 1) before) [] (rises_from cookie_cmp before i b low at rises) tt

-- one more that came, where none left
pub came_more : (later : List Cookie) (j : ℕ) (l : Cookie) → RisesById later → j < length later → l ≡ get_or later j l
    → row_changes [] (drop j later) ≡ put_of l ++ row_changes [] (drop (j + 1) later)
came_more later j l rises low at =
    ap (row_changes []) (from_place later j l low at)
    ∙ first_came [] l (drop (j + 1) later) (rises_from cookie_cmp later j l low at rises) tt

-- ---- the changes rise

row_of_id : (expiry : Option ℕ) (c : Cookie) → change_id (became (id_of c) (row_where c expiry)) ≡ id_of c
row_of_id None c = refl
row_of_id (Some expiry) c = refl

became_at : (i : CookieId) (c : Cookie) (cs : List Cookie) (w : Ordering) → id_cmp i (id_of c) ≡ w
    → change_id (became i (row_at i cs)) ≡ i
    → change_id (became i (option_and_then row_of (cond (is_eq w) (Some c) (find (has_id i) cs)))) ≡ i
became_at i c cs Less e rest = rest
became_at i c cs Equal e rest =
    subst (λ k. change_id (became k (row_of c)) ≡ k) (sym (id_exact i (id_of c) e)) (row_of_id c.expiry c)
became_at i c cs Greater e rest = rest

became_id : (i : CookieId) (cs : List Cookie) → change_id (became i (row_at i cs)) ≡ i
became_id i [] = refl
became_id i (c ∷ cs) = became_at i c cs (id_cmp i (id_of c)) refl (became_id i cs)

-- the change of an id, where there is one, has that id
abbrev Kept : CookieId → Option RowChange → Type 0
Kept i None = Unit {0}
Kept i (Some change) = change_id change ≡ i

kept_where : (same : Bool) (i : CookieId) (r : Option Row) → change_id (became i r) ≡ i → Kept i (cond same None (Some (became i r)))
kept_where true i r e = tt
kept_where false i r e = e

kept_one : (o : Option RowChange) (i j : CookieId) (rest : List RowChange) → Kept j o → id_cmp i j ≡ Less
    → AllByRecursion (λ c. id_cmp i (change_id c) ≡ Less) rest → AllByRecursion (λ c. id_cmp i (change_id c) ≡ Less) (cons_option o rest)
kept_one None i j rest kept e all = all
kept_one (Some c) i j rest kept e all = (ap (id_cmp i) kept ∙ e, all)

kept_all : (f : CookieId → Option RowChange) → ((j : CookieId) → Kept j (f j)) → (i : CookieId) (js : List CookieId) → Above i js
    → AllByRecursion (λ c. id_cmp i (change_id c) ≡ Less) (filter_map f js)
kept_all f kept i [] all = tt
kept_all f kept i (j ∷ js) all = kept_one (f j) i j (filter_map f js) (kept j) all.0 (kept_all f kept i js all.1)

next_rises : (o : Option RowChange) (j : CookieId) (rest : List RowChange) → Kept j o
    → AllByRecursion (λ c. id_cmp j (change_id c) ≡ Less) rest → IsStrictlySortedBy change_cmp rest
    → IsStrictlySortedBy change_cmp (cons_option o rest)
unfolding IsStrictlySortedBy
next_rises None j rest kept all rises = rises
next_rises (Some c) j rest kept all rises =
    (subst (λ k. AllByRecursion (λ d. id_cmp k (change_id d) ≡ Less) rest) (sym kept) all, rises)

kept_rises : (f : CookieId → Option RowChange) → ((j : CookieId) → Kept j (f j)) → (js : List CookieId) → IsStrictlySortedBy id_cmp js
    → IsStrictlySortedBy change_cmp (filter_map f js)
unfolding IsStrictlySortedBy
kept_rises f kept [] rises = tt
kept_rises f kept (j ∷ js) rises =
    next_rises (f j) j (filter_map f js) (kept j) (kept_all f kept j js rises.0) (kept_rises f kept js rises.1)

pub changes_rise : (before later : List Cookie) → IsStrictlySortedBy change_cmp (row_changes before later)
changes_rise before later =
    kept_rises (row_change before later)
    (λ j. kept_where (same_rows (row_at j before) (row_at j later)) j (row_at j later) (became_id j later))
    (ids_of_both before later) (ascending_rises (map id_of (before ++ later)))
