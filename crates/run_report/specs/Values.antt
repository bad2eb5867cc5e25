-- Values of a report: whole numbers, what may be null, and lists. This jar's own rule: docs/DEFINITIONS.md.
use Rattle.std.specs.Prelude.{ℕ, List, map, Option, None, Some}
use Rattle.serde_json.specs.Data.{Data, null, number, unsigned, string, array, object, no_members, member}
use Rattle.serde_json.specs.View.{items_of}

-- a whole number
abbrev pub count_data : ℕ → Data
count_data n = number (unsigned n)

-- a whole number, or null for none
abbrev pub count_or_null : Option ℕ → Data
count_or_null None = null
count_or_null (Some n) = count_data n

-- a text, or null for none
abbrev pub text_or_null : Option (List ℕ) → Data
text_or_null None = null
text_or_null (Some text) = string text

-- a list
abbrev pub list_data : {T : Type 0} → (T → Data) → List T → Data
list_data data_of list = array (items_of (map data_of list))

-- an object of one member
abbrev pub sole : List ℕ → Data → Data
sole name d = object (member name d no_members)
