-- Laws of journals. This jar's own rule: docs/DEFINITIONS.md.
use Rattle.std.specs.Prelude.{ℕ, ◌≡◌, List, [], ◌∷◌, ◌++◌, true}
use Rattle.jar_types.specs.declared.entry.Event.{Event}
use Rattle.jar_types.specs.declared.entry.Entry.{Entry}
use Rattle.jar_types.specs.Ids.{RisesById}
use Rattle.jar_types.specs.Steps.{after, entry_of}
use Rattle.jar_types.specs.Journals.{Rules, stored_keys, stands, state_of, IsLegal}

-- a legal journal stays legal with the entry of an event that may come next
abbrev pub JournalsGoOn : Type 0
JournalsGoOn =
    (r : Rules) (journal : List Entry) (v : Event) → IsLegal r journal
    → stands r (state_of (stored_keys r) journal) v ≡ true
    → IsLegal r (journal ++ entry_of (state_of (stored_keys r) journal) v ∷ [])

-- that entry takes the state one step on
abbrev pub StatesGoOn : Type 0
StatesGoOn =
    (keys : List (List ℕ)) (journal : List Entry) (v : Event)
    → state_of keys (journal ++ entry_of (state_of keys journal) v ∷ [])
    ≡ after (state_of keys journal) v

-- after a legal journal the cookies are in the order of their ids, no two of which are the same
abbrev pub CookiesRise : Type 0
CookiesRise =
    (r : Rules) (journal : List Entry) → IsLegal r journal
    → RisesById (state_of (stored_keys r) journal).cookies
