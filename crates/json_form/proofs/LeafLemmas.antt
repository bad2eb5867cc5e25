-- What a value without parts is that fits in the pass of shapes, and in the pass of moments.
use Rattle.std.proofs.Common.{◌≡◌, ℕ, ◌<◌, ◌≤◌, List, length, Bool, true, false, not, ◌||◌, bytes_eq, is_some, Option, None, Some, refl, sym, ap, ◌∙◌, arith}
use Rattle.std.proofs.lemmas.Grind.{common_steps}
use Rattle.std.specs.List.{list_any}
use Rattle.serde_json.specs.Data.{Data}
use Rattle.serde_json.specs.Find.{as_null, as_bool, as_str}
use Rattle.jar_values.specs.declared.moment.TheConstants.{MAX_MOMENT}
use Rattle.jar_values.specs.declared.text.TheConstants.{TEXT_END}
use Rattle.json_form.specs.Paths.{here_unless}
use Rattle.json_form.specs.Leaves.{null, flag, text, one_word, whole, moment, below_length, up_to_count, shape, is_shapes, is_text, is_word, is_within, is_below, is_moment, whole_of}
use Rattle.json_form.specs.declared.setting.Setting.{Setting}
use Rattle.json_form.specs.declared.setting.Pass.TheVariants.{Shapes, Moments}

fits_here : (fits : Bool) → here_unless fits ≡ None → fits ≡ true
fits_here true none = refl
fits_here false none = absurd cc

fits_shape : (s : Setting) (fits : Bool) → s.pass ≡ Shapes → shape s fits ≡ None → fits ≡ true
fits_shape s fits shapes none = fits_here fits (ap (λ pass. here_unless (not (is_shapes pass) || fits)) (sym shapes) ∙ none)

given_flag : (o : Option Bool) → is_some o ≡ true → (b : Bool) × (o ≡ Some b)
given_flag None there = absurd cc
given_flag (Some b) there = (b, refl)

-- null is null
pub null_is : (s : Setting) (d : Data) → s.pass ≡ Shapes → null s d ≡ None → is_some (as_null d) ≡ true
null_is s d shapes fits = fits_shape s (is_some (as_null d)) shapes fits

-- a flag is true or false
pub flag_is : (s : Setting) (d : Data) → s.pass ≡ Shapes → flag s d ≡ None → (b : Bool) × (as_bool d ≡ Some b)
flag_is s d shapes fits = given_flag (as_bool d) (fits_shape s (is_some (as_bool d)) shapes fits)

short_text : (o : Option (List ℕ)) → is_text o ≡ true → (t : List ℕ) × (o ≡ Some t) × (length t < TEXT_END)
short_text None fits = absurd cc
short_text (Some t) fits = (t, refl, grind (arith, common_steps))

-- a text, and how long it may be
pub text_is : (s : Setting) (d : Data) → s.pass ≡ Shapes → text s d ≡ None → (t : List ℕ) × (as_str d ≡ Some t) × (length t < TEXT_END)
text_is s d shapes fits = short_text (as_str d) (fits_shape s (is_text (as_str d)) shapes fits)

known_word : (ws : List (List ℕ)) (o : Option (List ℕ)) → is_word ws o ≡ true → (t : List ℕ) × (o ≡ Some t) × (list_any (λ w. bytes_eq w t) ws ≡ true)
known_word ws None fits = absurd cc
known_word ws (Some t) fits = (t, refl, fits)

-- a text that is one of the words
pub word_is : (ws : List (List ℕ)) (s : Setting) (d : Data) → s.pass ≡ Shapes → one_word ws s d ≡ None
    → (t : List ℕ) × (as_str d ≡ Some t) × (list_any (λ w. bytes_eq w t) ws ≡ true)
word_is ws s d shapes fits = known_word ws (as_str d) (fits_shape s (is_word ws (as_str d)) shapes fits)

number_within : (least most : ℕ) (o : Option ℕ) → is_within least most o ≡ true → (n : ℕ) × (o ≡ Some n) × (least ≤ n) × (n ≤ most)
number_within least most None fits = absurd cc
number_within least most (Some n) fits = (n, refl, grind (arith, common_steps), grind (arith, common_steps))

-- a whole number of the range
pub whole_is : (least most : ℕ) (s : Setting) (d : Data) → s.pass ≡ Shapes → whole least most s d ≡ None
    → (n : ℕ) × (whole_of d ≡ Some n) × (least ≤ n) × (n ≤ most)
whole_is least most s d shapes fits = number_within least most (whole_of d) (fits_shape s (is_within least most (whole_of d)) shapes fits)

-- a number from 1 to the count of the items before
pub up_to_count_is : (s : Setting) (d : Data) → s.pass ≡ Shapes → up_to_count s d ≡ None → (n : ℕ) × (whole_of d ≡ Some n) × (1 ≤ n) × (n ≤ s.count)
up_to_count_is s d shapes fits = number_within 1 s.count (whole_of d) (fits_shape s (is_within 1 s.count (whole_of d)) shapes fits)

number_below : (end : ℕ) (o : Option ℕ) → is_below end o ≡ true → (n : ℕ) × (o ≡ Some n) × (n < end)
number_below end None fits = absurd cc
number_below end (Some n) fits = (n, refl, grind (arith, common_steps))

-- a number below the length of the list that is measured
pub below_length_is : (s : Setting) (d : Data) → s.pass ≡ Shapes → below_length s d ≡ None → (n : ℕ) × (whole_of d ≡ Some n) × (n < s.length)
below_length_is s d shapes fits = number_below s.length (whole_of d) (fits_shape s (is_below s.length (whole_of d)) shapes fits)

-- what fits in the pass of moments is a moment
pub moment_is : (s : Setting) (d : Data) → s.pass ≡ Moments → moment s d ≡ None → (n : ℕ) × (whole_of d ≡ Some n) × (n ≤ MAX_MOMENT)
moment_is s d moments fits =
    let n = number_within 0 MAX_MOMENT (whole_of d) (fits_here (is_moment Moments d) (ap (λ pass. here_unless (is_moment pass d)) (sym moments) ∙ fits)) in
    (n.0, n.1, n.3)
