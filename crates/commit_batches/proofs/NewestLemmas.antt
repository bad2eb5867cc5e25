-- Newer changes over older ones: the ids rise, and are those that the newer ones touch.
use Rattle.std.proofs.Common.{◌≡◌, ℕ, List, [], ◌∷◌, ◌++◌, Bool, true, false, cond, refl, ap, ◌∙◌, length}
use Rattle.std.specs.Prelude.{filter, fold, map, Ok, Err}
use Rattle.std.specs.declared.result.Result.{Result}
use Rattle.std.specs.Cmp.{IsTotalOrder}
use Rattle.std.specs.Cmp.Lexicographic.{on_texts}
use Rattle.std.specs.List.Sorted.{IsStrictlySortedBy, IsSearchInRange, IsBinarySearchResult}
use Rattle.std.specs.Ordering.{is_lt, is_gt}
use Rattle.std.proofs.lemmas.Cmp.{then_total}
use Rattle.jar_types.specs.declared.cookie.CookieId.{CookieId}
use Rattle.jar_types.specs.declared.row.RowChange.{RowChange}
use Rattle.jar_types.specs.Ids.{id_cmp}
use Rattle.jar_types.specs.Orders.{put_by}
use Rattle.jar_types.specs.RowChanges.{change_id, change_cmp, newest_over}
use Rattle.commit_batches.specs.Waiting.{ChangesRise, IsPlaceOf}
use Rattle.commit_batches.specs.Laws.{NewestRise, NewestAreTouched}
use Rattle.commit_batches.proofs.PutLemmas.{put_rises, put_found, put_missed}

-- the order of the ids of changes is total
pub changes_total : IsTotalOrder change_cmp
changes_total =
    then_total (on_texts (λ (c : RowChange). (change_id c).host))
    (then_total (on_texts (λ (c : RowChange). (change_id c).name)) (on_texts (λ (c : RowChange). (change_id c).path)))

pub none_rise : ChangesRise []
unfolding IsStrictlySortedBy
none_rise = tt

pub newest_rise : NewestRise
newest_rise older [] rises = rises
newest_rise older (c ∷ cs) rises = newest_rise (put_by change_cmp c older) cs (put_rises changes_total c older rises)

-- ---- the place of a change

-- what a search finds is the place of a change
pub is_place : (change : RowChange) (changes : List RowChange) (r : Result ℕ ℕ) → ChangesRise changes → IsSearchInRange r (length changes)
    → IsBinarySearchResult (λ c. change_cmp c change) changes r → IsPlaceOf change changes r
is_place change changes (Ok i) rises within found = put_found changes_total change changes i rises within found
is_place change changes (Err i) rises within missed = put_missed changes_total change changes i rises within missed

-- ---- ids

filtered_at : (b : Bool) (c : RowChange) (cs : List RowChange) (ids : List CookieId) → map change_id cs ≡ ids
    → map change_id (cond b (c ∷ cs) cs) ≡ cond b (change_id c ∷ ids) ids
filtered_at true c cs ids e = ap (λ js. change_id c ∷ js) e
filtered_at false c cs ids e = e

ids_filtered : (p : CookieId → Bool) (cs : List RowChange) → map change_id (filter (λ c. p (change_id c)) cs) ≡ filter p (map change_id cs)
ids_filtered p [] = refl
ids_filtered p (c ∷ cs) = filtered_at (p (change_id c)) c (filter (λ c. p (change_id c)) cs) (filter p (map change_id cs)) (ids_filtered p cs)

ids_joined : (cs ds : List RowChange) → map change_id (cs ++ ds) ≡ map change_id cs ++ map change_id ds
ids_joined [] ds = refl
ids_joined (c ∷ cs) ds = ap (λ js. change_id c ∷ js) (ids_joined cs ds)

ids_put : (c : RowChange) (cs : List RowChange) → map change_id (put_by change_cmp c cs) ≡ put_by id_cmp (change_id c) (map change_id cs)
ids_put c cs =
    let less = λ (i : CookieId). is_lt (id_cmp i (change_id c)) in
    let greater = λ (i : CookieId). is_gt (id_cmp i (change_id c)) in
    ids_joined (filter (λ d. less (change_id d)) cs) (c ∷ filter (λ d. greater (change_id d)) cs)
    ∙ ap (λ js. js ++ (change_id c ∷ map change_id (filter (λ d. greater (change_id d)) cs))) (ids_filtered less cs)
    ∙ ap (λ js. filter less (map change_id cs) ++ (change_id c ∷ js)) (ids_filtered greater cs)

ids_newest : (older newer : List RowChange) (ids : List CookieId) → ids ≡ map change_id older
    → fold (λ ids change. put_by id_cmp (change_id change) ids) ids newer ≡ map change_id (newest_over older newer)
ids_newest older [] ids e = e
ids_newest older (c ∷ cs) ids e =
    ids_newest (put_by change_cmp c older) cs (put_by id_cmp (change_id c) ids) (rw (e, ids_put c older) refl)

pub newest_are_touched : NewestAreTouched
newest_are_touched b older newer e = ids_newest older newer b.touched e
