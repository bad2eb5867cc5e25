-- Changes of rows: the row that is found by an id after them, and the newest of each id.
use Rattle.std.proofs.Common.{◌≡◌, List, [], ◌∷◌, ◌++◌, Bool, true, false, cond, refl, sym, ap, ◌∙◌}
use Rattle.std.specs.Prelude.{filter, fold, map, not, Option, None, Some}
use Rattle.std.specs.List.{list_any}
use Rattle.std.specs.List.Sorted.{IsStrictlySortedBy}
use Rattle.std.specs.Ordering.{is_lt, is_gt, is_eq}
use Rattle.std.proofs.lemmas.Bool.{or_parts}
use Rattle.std.proofs.lemmas.List.Kept.{IsStrictlySortedBy-filter}
use Rattle.jar_types.specs.declared.cookie.CookieId.{CookieId}
use Rattle.jar_types.specs.declared.row.Row.{Row}
use Rattle.jar_types.specs.declared.row.RowChange.{RowChange}
use Rattle.jar_types.specs.declared.row.RowChange.TheVariants.{Put, Drop}
use Rattle.jar_types.specs.Ids.{id_cmp}
use Rattle.jar_types.specs.Orders.{put_by}
use Rattle.jar_types.specs.RowChanges.{row_id, row_cmp, RowsRise, change_id, change_cmp, rows_after, changed_rows, newest_over}
use Rattle.stored_law.specs.Coalescing.{ChangesRise, ChangedRowsRise, OtherRowsStay, NewestRise, NewestAreTouched, NewestTellAll, is_change_of}
use Rattle.stored_law.proofs.AtLemmas.{at, found, found_put, found_dropped, none_below, put_rises, same_lists}

-- ---- the row of an id after changes

-- the row that a change leaves in the place of its id
abbrev pub row_in : RowChange → Option Row
row_in (Put row) = Some row
row_in (Drop id) = None

-- the row after the change of its id that was found
abbrev pub told : Option RowChange → Option Row → Option Row
told None row = row
told (Some change) row = row_in change

pub found_after : (i : CookieId) (rows : List Row) (change : RowChange)
    → found row_id i (rows_after rows change) ≡ cond (at change_id i change) (row_in change) (found row_id i rows)
found_after i rows (Put row) = found_put row_id i row rows
found_after i rows (Drop id) = found_dropped row_id i id rows

after_rises : (rows : List Row) (change : RowChange) → RowsRise rows → RowsRise (rows_after rows change)
after_rises rows (Put row) rises = put_rises row_id row rows rises
after_rises rows (Drop id) rises = IsStrictlySortedBy-filter row_cmp (λ row. not (is_eq (id_cmp id (row_id row)))) rows rises

pub changed_rows_rise : ChangedRowsRise
changed_rows_rise rows [] rises = rises
changed_rows_rise rows (c ∷ cs) rises = changed_rows_rise (rows_after rows c) cs (after_rises rows c rises)

pub other_rows_stay : OtherRowsStay
other_rows_stay rows [] id none = refl
other_rows_stay rows (c ∷ cs) id none =
    let parts = or_parts (is_change_of id c) (list_any (is_change_of id) cs) none in
    other_rows_stay (rows_after rows c) cs id parts.1
    ∙ found_after id rows c
    ∙ ap (λ b. cond b (row_in c) (found row_id id rows)) parts.0

told_at : (b : Bool) (c : RowChange) (newer : Option RowChange) (row : Option Row) → (b ≡ true → newer ≡ None)
    → told newer (cond b (row_in c) row) ≡ told (cond b (Some c) newer) row
told_at true c newer row alone = ap (λ o. told o (row_in c)) (alone refl)
told_at false c newer row alone = refl

pub found_changed : (i : CookieId) (rows : List Row) (changes : List RowChange) → ChangesRise changes
    → found row_id i (changed_rows rows changes) ≡ told (found change_id i changes) (found row_id i rows)
unfolding IsStrictlySortedBy
found_changed i rows [] rises = refl
found_changed i rows (c ∷ cs) rises =
    found_changed i (rows_after rows c) cs rises.1
    ∙ ap (told (found change_id i cs)) (found_after i rows c)
    ∙ told_at (at change_id i c) c (found change_id i cs) (found row_id i rows) (λ has. none_below change_id i c cs has rises.0)

-- ---- the newest changes

pub newest_rise : NewestRise
newest_rise older [] rises = rises
newest_rise older (c ∷ cs) rises = newest_rise (put_by change_cmp c older) cs (put_rises change_id c older rises)

filtered_at : (b : Bool) (i : CookieId) (c : RowChange) (cs : List RowChange) (ids : List CookieId) → change_id c ≡ i → map change_id cs ≡ ids
    → map change_id (cond b (c ∷ cs) cs) ≡ cond b (i ∷ ids) ids
filtered_at true i c cs ids is e = ap (λ j. j ∷ map change_id cs) is ∙ ap (λ js. i ∷ js) e
filtered_at false i c cs ids is e = e

map_filtered : (p : CookieId → Bool) (changes : List RowChange)
    → map change_id (filter (λ c. p (change_id c)) changes) ≡ filter p (map change_id changes)
map_filtered p [] = refl
map_filtered p (c ∷ cs) =
    filtered_at (p (change_id c)) (change_id c) c (filter (λ c. p (change_id c)) cs) (filter p (map change_id cs)) refl (map_filtered p cs)

map_joined : (cs ds : List RowChange) → map change_id (cs ++ ds) ≡ map change_id cs ++ map change_id ds
map_joined [] ds = refl
map_joined (c ∷ cs) ds = ap (λ ids. change_id c ∷ ids) (map_joined cs ds)

map_put : (c : RowChange) (older : List RowChange) → map change_id (put_by change_cmp c older) ≡ put_by id_cmp (change_id c) (map change_id older)
map_put c older =
    let less = λ (i : CookieId). is_lt (id_cmp i (change_id c)) in
    let greater = λ (i : CookieId). is_gt (id_cmp i (change_id c)) in
    map_joined (filter (λ d. less (change_id d)) older) (c ∷ filter (λ d. greater (change_id d)) older)
    ∙ ap (λ ids. ids ++ (change_id c ∷ map change_id (filter (λ d. greater (change_id d)) older))) (map_filtered less older)
    ∙ ap (λ ids. filter less (map change_id older) ++ (change_id c ∷ ids)) (map_filtered greater older)

touched_by : (older newer : List RowChange) (ids : List CookieId) → map change_id older ≡ ids
    → map change_id (newest_over older newer) ≡ fold (λ ids change. put_by id_cmp (change_id change) ids) ids newer
touched_by older [] ids e = e
touched_by older (c ∷ cs) ids e =
    touched_by (put_by change_cmp c older) cs (put_by id_cmp (change_id c) ids) (map_put c older ∙ ap (put_by id_cmp (change_id c)) e)

pub newest_are_touched : NewestAreTouched
newest_are_touched older newer b e = touched_by older newer b.touched e

both_at : (b : Bool) (c : RowChange) (older : Option RowChange) (row : Option Row)
    → told (cond b (Some c) older) row ≡ cond b (row_in c) (told older row)
both_at true c older row = refl
both_at false c older row = refl

-- one newer change
one_newer : (rows : List Row) (older : List RowChange) (c : RowChange) → RowsRise rows → ChangesRise older
    → changed_rows rows (put_by change_cmp c older) ≡ rows_after (changed_rows rows older) c
one_newer rows older c rises rises' =
    let newest = put_by change_cmp c older in
    let then = changed_rows rows older in
    same_lists row_id (changed_rows rows newest) (rows_after then c) (changed_rows_rise rows newest rises) (after_rises then c (changed_rows_rise rows older rises)) λ i.
    found_changed i rows newest (put_rises change_id c older rises')
    ∙ ap (λ o. told o (found row_id i rows)) (found_put change_id i c older)
    ∙ both_at (at change_id i c) c (found change_id i older) (found row_id i rows)
    ∙ sym (found_after i then c ∙ ap (cond (at change_id i c) (row_in c)) (found_changed i rows older rises'))

pub newest_tell_all : NewestTellAll
newest_tell_all rows older [] rises rises' = refl
newest_tell_all rows older (c ∷ cs) rises rises' =
    newest_tell_all rows (put_by change_cmp c older) cs rises (put_rises change_id c older rises')
    ∙ ap (λ rows'. changed_rows rows' cs) (one_newer rows older c rises rises')
