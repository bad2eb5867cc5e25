-- Forms of values without parts.
use Rattle.std.specs.Prelude.{ℕ, List, length, Bool, true, false, not, ◌&&◌, ◌||◌, nat_le, nat_lt, bytes_eq, is_some, Option, None, Some, option_and_then}
use Rattle.std.specs.List.{list_any}
use Rattle.serde_json.specs.Data.{Data}
use Rattle.serde_json.specs.Find.{as_null, as_bool, as_number, as_str, as_u64, as_i64}
use Rattle.jar_values.specs.declared.moment.TheConstants.{MAX_MOMENT}
use Rattle.jar_values.specs.declared.text.TheConstants.{TEXT_END}
use Rattle.json_form.specs.Paths.{here_unless}
use Rattle.json_form.specs.Forms.{Form}
use Rattle.json_form.specs.declared.setting.Setting.{Setting}
use Rattle.json_form.specs.declared.setting.Pass.{Pass}
use Rattle.json_form.specs.declared.setting.Pass.TheVariants.{Shapes, Moments}

-- the pass of shapes
abbrev pub is_shapes : Pass → Bool
is_shapes Shapes = true
is_shapes Moments = false

-- the value itself, unless it fits, in the pass of shapes alone
abbrev pub shape : Setting → Bool → Option (List ℕ)
shape s fits = here_unless (not (is_shapes s.pass) || fits)

-- null
abbrev pub null : Form
null s d = shape s (is_some (as_null d))

-- true or false
abbrev pub flag : Form
flag s d = shape s (is_some (as_bool d))

-- ---- texts

-- a text that isn't too long
abbrev pub is_text : Option (List ℕ) → Bool
is_text None = false
is_text (Some s) = nat_lt (length s) TEXT_END

-- a text, but for very long ones
abbrev pub text : Form
text s d = shape s (is_text (as_str d))

-- a text that is one of some
abbrev pub is_word : List (List ℕ) → Option (List ℕ) → Bool
is_word words None = false
is_word words (Some s) = list_any (λ word. bytes_eq word s) words

-- one of some words
abbrev pub one_word : List (List ℕ) → Form
one_word words s d = shape s (is_word words (as_str d))

-- ---- whole numbers

-- the whole number that a value is, from 0 up
abbrev pub whole_of : Data → Option ℕ
whole_of d = option_and_then as_u64 (as_number d)

-- a number of a range
abbrev pub is_within : ℕ → ℕ → Option ℕ → Bool
is_within least most None = false
is_within least most (Some n) = nat_le least n && nat_le n most

-- a whole number from one up to another
abbrev pub whole : ℕ → ℕ → Form
whole least most s d = shape s (is_within least most (whole_of d))

-- a whole number of 64 bits, below 0 too; in the pass of moments one that is a moment
abbrev pub is_moment : Pass → Data → Bool
is_moment Shapes d = is_some (whole_of d) || is_some (option_and_then as_i64 (as_number d))
is_moment Moments d = is_within 0 MAX_MOMENT (whole_of d)

-- a moment
abbrev pub moment : Form
moment s d = here_unless (is_moment s.pass d)

-- a number below another
abbrev pub is_below : ℕ → Option ℕ → Bool
is_below end None = false
is_below end (Some n) = nat_lt n end

-- a number below the length of the list that is measured
abbrev pub below_length : Form
below_length s d = shape s (is_below s.length (whole_of d))

-- a number from 1 to the count of the items before
abbrev pub up_to_count : Form
up_to_count s d = shape s (is_within 1 s.count (whole_of d))
