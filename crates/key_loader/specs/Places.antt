-- Keys by their places among those of a plan: that no public clause cites, but under the view of a
-- plan.
use Rattle.std.specs.Prelude.{◌≡◌, ℕ, ◌<◌, ◌≤◌, ◌+◌, zero, suc, List, [], ◌∷◌, ◌++◌, filter, length, map, not, slice_index_or, Bool, false, nat_eq}
use Rattle.std.specs.Prelude.{Option, Some, None, option_map, option_to_list}
use Rattle.std.specs.List.{list_any}
use Rattle.std.specs.List.Sorted.{IsStrictlySortedBy}
use Rattle.std.specs.Ordering.{nat_cmp}
use Rattle.jar_types.specs.Ids.{text_cmp}
use Rattle.jar_types.specs.Loads.{KeyLoads, has_text}

-- the key at a place
abbrev pub key_at : List (List ℕ) → ℕ → List ℕ
key_at keys place = slice_index_or keys place []

-- the keys at places
abbrev pub keys_at : List (List ℕ) → List ℕ → List (List ℕ)
keys_at keys places = map (key_at keys) places

-- the loading of the keys at places: those that aren't loaded, those that are wanted, the one whose
-- load has begun, and those that are marked
abbrev pub loads_at : List (List ℕ) → List ℕ → List ℕ → Option ℕ → List ℕ → KeyLoads
loads_at keys unloaded wanted begun lost = record {
  unloaded = keys_at keys unloaded;
  wanted = keys_at keys wanted;
  begun = option_map (key_at keys) begun;
  lost = keys_at keys lost;
}

-- where a key stands among others: nowhere where it isn't one of them
abbrev pub IsPlaceOf : List ℕ → List (List ℕ) → Option ℕ → Type 0
IsPlaceOf key keys (Some place) = (place < length keys) × (key_at keys place ≡ key)
IsPlaceOf key keys None = has_text key keys ≡ false

-- the place is among these
abbrev pub has_place : ℕ → List ℕ → Bool
has_place place places = list_any (nat_eq place) places

-- the places without this one
abbrev pub without_place : ℕ → List ℕ → List ℕ
without_place place places = filter (λ other. not (nat_eq place other)) places

-- the first places, as many as these
abbrev pub first_places : ℕ → List ℕ
first_places zero = []
first_places (suc n) = first_places n ++ n ∷ []

-- how often a place is among these
abbrev pub times : ℕ → List ℕ → ℕ
times place places = length (filter (nat_eq place) places)

-- the keys rise, and so do the places of those that aren't loaded; each of these is wanted once or
-- marked once or neither, and the load of one of them may have begun
pub record IsPlanned (keys : List (List ℕ)) (unloaded wanted : List ℕ) (begun : Option ℕ) (lost : List ℕ) : Type 0 where
  pub keys_rise : IsStrictlySortedBy text_cmp keys
  pub places_rise : IsStrictlySortedBy nat_cmp unloaded
  pub below : (place : ℕ) → 0 < times place unloaded → place < length keys
  pub waiting : (place : ℕ) → times place wanted + times place lost ≤ times place unloaded
  pub loading : (place : ℕ) → times place (option_to_list begun) ≤ times place unloaded
