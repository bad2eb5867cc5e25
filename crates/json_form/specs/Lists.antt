-- Forms of lists.
use Rattle.std.specs.Prelude.{ℕ, zero, suc, List, [], Bool, false, bytes_eq, Option, None, Some, option_map, option_and_then, if◌then◌else◌}
use Rattle.std.specs.Option.{option_or}
use Rattle.serde_json.specs.Data.{Data, Items, no_items, item}
use Rattle.serde_json.specs.Events.{items_len}
use Rattle.serde_json.specs.Find.{get, as_str, as_array}
use Rattle.json_form.specs.Paths.{in_item}
use Rattle.json_form.specs.Forms.{Form}
use Rattle.json_form.specs.declared.setting.Setting.{Setting}

-- the first misfit among items, from an index on, where each is judged by its index
abbrev pub items_misfit : (ℕ → Data → Option (List ℕ)) → ℕ → Items → Option (List ℕ)
items_misfit judged i no_items = None
items_misfit judged i (item d ds) =
    option_or (option_map (in_item i) (judged i d)) (items_misfit judged (suc i) ds)

-- the value is no list, or is one
abbrev pub list_misfit : Form → Setting → Option Items → Option (List ℕ)
list_misfit form s None = Some []
list_misfit form s (Some ds) = items_misfit (λ i. form s) 0 ds

-- a list of values of a form
abbrev pub list_of : Form → Form
list_of form s d = list_misfit form s (as_array d)

-- ---- a list whose length is known to its items

-- within this list
abbrev pub measured_by : Setting → Items → Setting
measured_by s ds = record { pass = s.pass; length = items_len ds; count = s.count }

-- the value is no list, or is one
abbrev pub measured_misfit : Form → Setting → Option Items → Option (List ℕ)
measured_misfit form s None = Some []
measured_misfit form s (Some ds) = items_misfit (λ i. form (measured_by s ds)) 0 ds

-- a list that is measured
abbrev pub measured : Form → Form
measured form s d = measured_misfit form s (as_array d)

-- ---- a list whose items know how many before them have a word at a tag

-- a text is there, and is the word
abbrev pub is_text_of : List ℕ → Option (List ℕ) → Bool
is_text_of word None = false
is_text_of word (Some text) = bytes_eq text word

-- the member of the tag is the word
abbrev pub has_word : List ℕ → List ℕ → Data → Bool
has_word tag word d = is_text_of word (option_and_then as_str (get tag d))

-- how many of the first n items have the word
abbrev pub count_before : List ℕ → List ℕ → ℕ → Items → ℕ
count_before tag word zero ds = 0
count_before tag word (suc n) no_items = 0
count_before tag word (suc n) (item d ds) =
    if has_word tag word d then suc (count_before tag word n ds) else count_before tag word n ds

-- behind this many
abbrev pub counted_as : Setting → ℕ → Setting
counted_as s n = record { pass = s.pass; length = s.length; count = n }

-- the item of an index, with the count of those before it
abbrev pub counted_misfit : List ℕ → List ℕ → Form → Setting → Items → ℕ → Data → Option (List ℕ)
counted_misfit tag word form s ds i d = form (counted_as s (count_before tag word i ds)) d

-- the value is no list, or is one
abbrev pub counting_misfit : List ℕ → List ℕ → Form → Setting → Option Items → Option (List ℕ)
counting_misfit tag word form s None = Some []
counting_misfit tag word form s (Some ds) = items_misfit (counted_misfit tag word form s ds) 0 ds

-- a list of which some items are counted
abbrev pub counting : List ℕ → List ℕ → Form → Form
counting tag word form s d = counting_misfit tag word form s (as_array d)
