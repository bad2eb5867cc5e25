-- The changes of rows between two lists of cookies: one for each id whose row differs, and what they make of the rows.
use Rattle.std.proofs.Common.{◌≡◌, ℕ, List, [], ◌∷◌, ◌++◌, Bool, true, false, cond, refl, sym, ap, ◌∙◌}
use Rattle.std.specs.Prelude.{map, bytes_eq, ◌||◌, Option, None, Some, option_and_then}
use Rattle.std.specs.Cmp.{alike_right}
use Rattle.std.specs.List.{list_any}
use Rattle.std.specs.Option.{option_or}
use Rattle.std.specs.Ordering.{int_eq, is_eq}
use Rattle.std.specs.declared.cmp.Ordering.TheVariants.{Equal}
use Rattle.std.proofs.lemmas.Bool.{and_parts, or_parts}
use Rattle.std.proofs.lemmas.Bool.Decides.{Decides-int_eq}
use Rattle.jar_types.specs.declared.cookie.Cookie.{Cookie}
use Rattle.jar_types.specs.declared.cookie.CookieId.{CookieId}
use Rattle.jar_types.specs.declared.row.Row.{Row}
use Rattle.jar_types.specs.declared.row.RowChange.{RowChange}
use Rattle.jar_types.specs.Ids.{id_cmp, id_of}
use Rattle.jar_types.specs.RowChanges.{row_id, same_row, row_at, same_rows, became, row_change, ids_of_both, row_changes, change_id, changed_rows}
use Rattle.jar_types.specs.Rows.{row_of, row_where, row_until}
use Rattle.jar_types.proofs.FindLemmas.{find_passes}
use Rattle.stored_law.specs.Coalescing.{ChangesRise}
use Rattle.stored_law.proofs.IdLemmas.{id_total, id_same}
use Rattle.stored_law.proofs.OrderLemmas.{ascending_rises, ascending_any}
use Rattle.stored_law.proofs.FoundLemmas.{find_append}
use Rattle.stored_law.proofs.AtLemmas.{at, found, at_same}
use Rattle.stored_law.proofs.MadeLemmas.{found_made, made_rises}
use Rattle.stored_law.proofs.ChangeLemmas.{row_in, told, found_changed}
use Rattle.stored_law.proofs.TextLemmas.{text_is}

-- ---- the row of a cookie has its id

row_where_id : (c : Cookie) (expiry : Option ℕ) (row : Row) → row_where c expiry ≡ Some row → row_id row ≡ id_of c
row_where_id c None row e = absurd cc
row_where_id c (Some expiry) row e =
    let is : row_until c expiry ≡ row = cc in ap row_id (sym is)

pub row_of_id : (c : Cookie) (row : Row) → row_of c ≡ Some row → row_id row ≡ id_of c
row_of_id c row e = row_where_id c c.expiry row e

row_at_found : (i : CookieId) (cookies : List Cookie) (o : Option Cookie) (row : Row) → found id_of i cookies ≡ o → option_and_then row_of o ≡ Some row → row_id row ≡ i
row_at_found i cookies None row is e = absurd cc
row_at_found i cookies (Some c) row is e =
    row_of_id c row e ∙ sym (at_same id_of i c (find_passes (at id_of i) cookies c is))

-- the row at an id has the id
pub row_at_id : (i : CookieId) (cookies : List Cookie) (row : Row) → row_at i cookies ≡ Some row → row_id row ≡ i
row_at_id i cookies row e = row_at_found i cookies (found id_of i cookies) row refl e

-- ---- rows that are the same

same_row_is : (r r' : Row) → same_row r r' ≡ true → r ≡ r'
same_row_is r r' e =
    let p0 = and_parts (bytes_eq r.host r'.host) _ e in
    let p1 = and_parts (bytes_eq r.name r'.name) _ p0.1 in
    let p2 = and_parts (bytes_eq r.path r'.path) _ p1.1 in
    let p3 = and_parts (bytes_eq r.value r'.value) _ p2.1 in
    let p4 = and_parts (int_eq r.creation r'.creation) _ p3.1 in
    let p5 = and_parts (int_eq r.expiry r'.expiry) _ p4.1 in
    let p6 = and_parts (int_eq r.access r'.access) _ p5.1 in
    let p7 = and_parts (int_eq r.secure r'.secure) _ p6.1 in
    let p8 = and_parts (int_eq r.http_only r'.http_only) _ p7.1 in
    let p9 = and_parts (int_eq r.same_site r'.same_site) _ p8.1 in
    ap (λ x. record r { host = x }) (text_is r.host r'.host p0.0)
    ∙ ap (λ x. record r { host = r'.host; name = x }) (text_is r.name r'.name p1.0)
    ∙ ap (λ x. record r { host = r'.host; name = r'.name; path = x }) (text_is r.path r'.path p2.0)
    ∙ ap (λ x. record r { host = r'.host; name = r'.name; path = r'.path; value = x }) (text_is r.value r'.value p3.0)
    ∙ ap (λ x. record r' { creation = x; expiry = r.expiry; access = r.access; secure = r.secure; http_only = r.http_only; same_site = r.same_site; priority = r.priority }) ((Decides-int_eq r.creation r'.creation).0 p4.0)
    ∙ ap (λ x. record r' { expiry = x; access = r.access; secure = r.secure; http_only = r.http_only; same_site = r.same_site; priority = r.priority }) ((Decides-int_eq r.expiry r'.expiry).0 p5.0)
    ∙ ap (λ x. record r' { access = x; secure = r.secure; http_only = r.http_only; same_site = r.same_site; priority = r.priority }) ((Decides-int_eq r.access r'.access).0 p6.0)
    ∙ ap (λ x. record r' { secure = x; http_only = r.http_only; same_site = r.same_site; priority = r.priority }) ((Decides-int_eq r.secure r'.secure).0 p7.0)
    ∙ ap (λ x. record r' { http_only = x; same_site = r.same_site; priority = r.priority }) ((Decides-int_eq r.http_only r'.http_only).0 p8.0)
    ∙ ap (λ x. record r' { same_site = x; priority = r.priority }) ((Decides-int_eq r.same_site r'.same_site).0 p9.0)
    ∙ ap (λ x. record r' { priority = x }) ((Decides-int_eq r.priority r'.priority).0 p9.1)

pub same_rows_is : (o o' : Option Row) → same_rows o o' ≡ true → o ≡ o'
same_rows_is None None e = refl
same_rows_is None (Some row) e = absurd cc
same_rows_is (Some row) None e = absurd cc
same_rows_is (Some row) (Some other) e = ap Some (same_row_is row other e)

-- ---- the change of an id

became_id : (i : CookieId) (later : List Cookie) (o : Option Row) → row_at i later ≡ o → change_id (became i o) ≡ i
became_id i later None is = refl
became_id i later (Some row) is = row_at_id i later row is

change_at : (i : CookieId) (later : List Cookie) (b : Bool) (c : RowChange) → cond b None (Some (became i (row_at i later))) ≡ Some c → change_id c ≡ i
change_at i later true c e = absurd cc
change_at i later false c e =
    let is : became i (row_at i later) ≡ c = cc in ap change_id (sym is) ∙ became_id i later (row_at i later) refl

row_change_id : (before later : List Cookie) (i : CookieId) (c : RowChange) → row_change before later i ≡ Some c → change_id c ≡ i
row_change_id before later i c e = change_at i later (same_rows (row_at i before) (row_at i later)) c e

-- the ids as they are
abbrev own_id : CookieId → CookieId
own_id i = i

pub row_changes_rise : (before later : List Cookie) → ChangesRise (row_changes before later)
row_changes_rise before later =
    made_rises own_id change_id (row_change before later) (λ i c e. row_change_id before later i c e) (ids_of_both before later) (ascending_rises id_total (map id_of (before ++ later)))

found_id_at : (i j : CookieId) (js : List CookieId) (has : Bool) → at own_id i j ≡ has → found own_id i js ≡ cond (list_any (at own_id i) js) (Some i) None
    → cond has (Some j) (found own_id i js) ≡ cond (has || list_any (at own_id i) js) (Some i) None
found_id_at i j js true is e = ap Some (sym (id_same i j is))
found_id_at i j js false is e = e

found_id : (i : CookieId) (ids : List CookieId) → found own_id i ids ≡ cond (list_any (at own_id i) ids) (Some i) None
found_id i [] = refl
found_id i (j ∷ js) = found_id_at i j js (at own_id i j) refl (found_id i js)

id_total_right : (i x y : CookieId) → id_cmp x y ≡ Equal → at own_id i x ≡ at own_id i y
id_total_right i x y e = ap is_eq (alike_right id_total x y i e)

none_in : (i : CookieId) (cookies : List Cookie) → list_any (at own_id i) (map id_of cookies) ≡ false → found id_of i cookies ≡ None
none_in i [] e = refl
none_in i (c ∷ cs) e =
    let parts = or_parts (at id_of i c) (list_any (at own_id i) (map id_of cs)) e in
    ap (λ b. cond b (Some c) (found id_of i cs)) parts.0 ∙ none_in i cs parts.1

either_none : (o o' : Option Cookie) → option_or o o' ≡ None → (o ≡ None) × (o' ≡ None)
either_none None o' e = (refl, e)
either_none (Some c) o' e = absurd cc

no_change : (i : CookieId) (before later : List Cookie) → found id_of i before ≡ None → found id_of i later ≡ None → row_change before later i ≡ None
no_change i before later e e' =
    ap (λ o. cond (same_rows (option_and_then row_of o) (row_at i later)) None (Some (became i (row_at i later)))) e
    ∙ ap (λ o. cond (same_rows None (option_and_then row_of o)) None (Some (became i (option_and_then row_of o)))) e'

found_change_at : (i : CookieId) (before later : List Cookie) (b : Bool) → list_any (at own_id i) (map id_of (before ++ later)) ≡ b
    → option_and_then (row_change before later) (cond b (Some i) None) ≡ row_change before later i
found_change_at i before later true is = refl
found_change_at i before later false is =
    let none = either_none (found id_of i before) (found id_of i later) (sym (find_append (at id_of i) before later) ∙ none_in i (before ++ later) is) in
    sym (no_change i before later none.0 none.1)

-- the change of an id is that of its row
pub found_change : (i : CookieId) (before later : List Cookie) → found change_id i (row_changes before later) ≡ row_change before later i
found_change i before later =
    let ids = map id_of (before ++ later) in
    found_made own_id change_id (row_change before later) (λ j c e. row_change_id before later j c e) i (ids_of_both before later) (ascending_rises id_total ids)
    ∙ ap (option_and_then (row_change before later)) (
    found_id i (ids_of_both before later)
    ∙ ap (λ b. cond b (Some i) None) (ascending_any id_total (at own_id i) (λ x y e. id_total_right i x y e) ids)
    )
    ∙ found_change_at i before later (list_any (at own_id i) ids) refl

-- ---- what the changes make of rows

became_row : (i : CookieId) (o : Option Row) → row_in (became i o) ≡ o
became_row i None = refl
became_row i (Some row) = refl

told_change : (b : Bool) (c : RowChange) (row : Option Row) → told (cond b None (Some c)) row ≡ cond b row (row_in c)
told_change true c row = refl
told_change false c row = refl

-- the row of an id after the changes between two lists of cookies: as it was where its row is the same in both, else that
-- of the later one
pub found_row : (i : CookieId) (held : List Row) (before later : List Cookie)
    → found row_id i (changed_rows held (row_changes before later))
    ≡ cond (same_rows (row_at i before) (row_at i later)) (found row_id i held) (row_at i later)
found_row i held before later =
    let same = same_rows (row_at i before) (row_at i later) in
    found_changed i held (row_changes before later) (row_changes_rise before later)
    ∙ ap (λ o. told o (found row_id i held)) (found_change i before later)
    ∙ told_change same (became i (row_at i later)) (found row_id i held)
    ∙ ap (cond same (found row_id i held)) (became_row i (row_at i later))
