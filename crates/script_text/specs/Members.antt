-- Members of the JSON objects of a script, each read as some value: a text that is absent, too
-- long or none reads as empty, a number as 0, and a list as no items. A value of the form of a script
-- has what is read. This jar's own rule: docs/DEFINITIONS.md.
use Rattle.std.specs.Prelude.{ℕ, List, [], ◌∷◌, length, min, Bool, false, nat_lt, Option, option_and_then, option_map, unwrap_or, if◌then◌else◌}
use Rattle.serde_json.specs.Data.{Data, Items, no_items, item}
use Rattle.serde_json.specs.Find.{get, as_str, as_bool, as_number, as_u64, as_array}
use Rattle.jar_values.specs.declared.moment.TheConstants.{MAX_MOMENT}
use Rattle.jar_values.specs.declared.text.TheConstants.{TEXT_END}

-- a text, or the empty one where it is too long
abbrev pub short_text : List ℕ → List ℕ
short_text text = if nat_lt (length text) TEXT_END then text else []

-- the text that a value is
abbrev pub text_of : Data → List ℕ
text_of d = short_text (unwrap_or (as_str d) [])

-- the text of a member that may be absent
abbrev pub text_if : List ℕ → Data → Option (List ℕ)
text_if key d = option_map text_of (get key d)

-- the text of a member
abbrev pub text_at : List ℕ → Data → List ℕ
text_at key d = unwrap_or (text_if key d) []

-- the whole number that a value is
abbrev pub number_of : Data → ℕ
number_of d = unwrap_or (option_and_then as_u64 (as_number d)) 0

-- the whole number of a member that may be absent
abbrev pub number_if : List ℕ → Data → Option ℕ
number_if key d = option_map number_of (get key d)

-- the whole number of a member
abbrev pub number_at : List ℕ → Data → ℕ
number_at key d = unwrap_or (number_if key d) 0

-- the moment of a member: the last one where the number lies past it
abbrev pub moment_at : List ℕ → Data → ℕ
moment_at key d = min (number_at key d) MAX_MOMENT

-- whether a member is true
abbrev pub flag_at : List ℕ → Data → Bool
flag_at key d = unwrap_or (option_and_then as_bool (get key d)) false

-- the items of a list
abbrev pub list_of : Items → List Data
list_of no_items = []
list_of (item d ds) = d ∷ list_of ds

-- the items of the list that a value is
abbrev pub items_of : Data → List Data
items_of d = list_of (unwrap_or (as_array d) no_items)

-- the items of the list that a member is
abbrev pub list_at : List ℕ → Data → List Data
list_at key d = unwrap_or (option_map items_of (get key d)) []
