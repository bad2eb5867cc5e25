-- What is known of a value that fits a form of several, in any pass.
use Rattle.std.proofs.Common.{◌≡◌, ℕ, List, [], ◌∷◌, Bool, true, false, not, ◌&&◌, ◌||◌, bytes_eq, is_some, Option, None, Some, option_and_then, refl, sym, ap, ◌∙◌, ◌⊎◌, inl, inr, if◌then◌else◌}
use Rattle.std.specs.List.{list_any}
use Rattle.serde_json.specs.Data.{Data, null, boolean, number, string, array, Members}
use Rattle.serde_json.specs.Data as json
use Rattle.serde_json.specs.Find.{get, as_null, as_str}
use Rattle.json_form.specs.Forms.{Form, by_shape}
use Rattle.json_form.specs.Objects.{Member, lacks_any, all_are_named, members_misfit}
use Rattle.json_form.specs.Alternatives.{or_null, if_has, either, Word, tagged, tag_misfit, text_misfit, word_misfit, has_outline, outline_misfit, one_of, is_amiss}
use Rattle.json_form.specs.declared.setting.Setting.{Setting}

null_or : (form : Form) (s : Setting) (d : Data) (is_null : Bool) → (if is_null then None else form s d) ≡ None → (is_null ≡ true) ⊎ (form s d ≡ None)
null_or form s d true fits = inl refl
null_or form s d false fits = inr fits

-- it is null, or it is of the form
pub or_null_fits : (form : Form) (s : Setting) (d : Data) → or_null form s d ≡ None → (is_some (as_null d) ≡ true) ⊎ (form s d ≡ None)
or_null_fits form s d fits = null_or form s d (is_some (as_null d)) fits

-- where the member is there
pub if_has_fits : (name : List ℕ) (there absent : Form) (s : Setting) (d value : Data) → if_has name there absent s d ≡ None → get name d ≡ Some value → there s d ≡ None
if_has_fits name there absent s d value fits found =
    ap (λ o. if is_some o then there s d else absent s d) (sym found) ∙ fits

-- where it isn't
pub if_hasnt_fits : (name : List ℕ) (there absent : Form) (s : Setting) (d : Data) → if_has name there absent s d ≡ None → get name d ≡ None → absent s d ≡ None
if_hasnt_fits name there absent s d fits none =
    ap (λ o. if is_some o then there s d else absent s d) (sym none) ∙ fits

one_or_other : (first second : Form) (s : Setting) (d : Data) (other : Bool) → (if other then second s d else first s d) ≡ None → (first s d ≡ None) ⊎ (second s d ≡ None)
one_or_other first second s d true fits = inr fits
one_or_other first second s d false fits = inl fits

-- it is of one of the two
pub either_is : (first second : Form) (s : Setting) (d : Data) → either first second s d ≡ None → (first s d ≡ None) ⊎ (second s d ≡ None)
either_is first second s d fits = one_or_other first second s d (is_some (first (by_shape s) d)) fits

-- ---- a tag

-- the word is one of the table
abbrev pub knows : List Word → List ℕ → Bool
knows words word = list_any (λ w. bytes_eq w.word word) words

of_test : (b : Bool) (form rest : Option (List ℕ)) (later : Bool) → (if b then form else rest) ≡ None → (rest ≡ None → later ≡ true) → b || later ≡ true
of_test true form rest later fits known = refl
of_test false form rest later fits known = known fits

word_is_known : (tag : List ℕ) (words : List Word) (word : List ℕ) (s : Setting) (d : Data) → word_misfit tag words word s d ≡ None → knows words word ≡ true
word_is_known tag [] word s d fits = absurd cc
word_is_known tag (w ∷ ws) word s d fits =
    of_test (bytes_eq w.word word) (w.form s d) (word_misfit tag ws word s d) (knows ws word) fits (word_is_known tag ws word s d)

text_given : (tag : List ℕ) (words : List Word) (o : Option (List ℕ)) (s : Setting) (d : Data) → text_misfit tag words o s d ≡ None
    → (word : List ℕ) × (o ≡ Some word) × (knows words word ≡ true) × (word_misfit tag words word s d ≡ None)
text_given tag words None s d fits = absurd cc
text_given tag words (Some word) s d fits = (word, refl, word_is_known tag words word s d fits, fits)

tag_given : (tag : List ℕ) (words : List Word) (o : Option Data) (s : Setting) (d : Data) → tag_misfit tag words o s d ≡ None
    → (word : List ℕ) × (option_and_then as_str o ≡ Some word) × (knows words word ≡ true) × (word_misfit tag words word s d ≡ None)
tag_given tag words None s d fits = absurd cc
tag_given tag words (Some value) s d fits = text_given tag words (as_str value) s d fits

-- the tag is a word of the table, and the value is of the form of that word
pub tagged_fits : (tag : List ℕ) (words : List Word) (s : Setting) (d : Data) → tagged tag words s d ≡ None
    → (word : List ℕ) × (option_and_then as_str (get tag d) ≡ Some word) × (knows words word ≡ true) × (word_misfit tag words word s d ≡ None)
tagged_fits tag words s d fits = tag_given tag words (get tag d) s d fits

-- so for the word that a reader finds
pub tagged_as : (tag : List ℕ) (words : List Word) (s : Setting) (d : Data) (word : List ℕ) → tagged tag words s d ≡ None
    → option_and_then as_str (get tag d) ≡ Some word → (knows words word ≡ true) × (word_misfit tag words word s d ≡ None)
tagged_as tag words s d word fits found =
    let h = tagged_fits tag words s d fits in
    let same : h.0 ≡ word = cc in
    rw (← same) (h.2, h.3)

-- ---- outlines

both_true : (x y : Bool) → x && y ≡ true → (x ≡ true) × (y ≡ true)
both_true true y h = (refl, h)
both_true false y h = absurd cc

is_not_true : (x : Bool) → not x ≡ true → x ≡ false
is_not_true true h = absurd cc
is_not_true false h = refl

-- an object has an outline, by its shape, and its members fit
pub record FitsOutline (ms : List Member) (s : Setting) (given : Members) : Type 0 where
  pub complete : lacks_any ms given ≡ false
  pub named : all_are_named ms given ≡ true
  pub keys : list_any (is_amiss (by_shape s) given) ms ≡ false
  pub fit : members_misfit ms s given ≡ None

outline_given : (ms : List Member) (s : Setting) (given : Members) → has_outline ms (by_shape s) given ≡ true → members_misfit ms s given ≡ None → FitsOutline ms s given
outline_given ms s given has fits =
    let lacks = lacks_any ms given in
    let named = all_are_named ms given in
    let amiss = list_any (is_amiss (by_shape s) given) ms in
    let h = both_true (not lacks) (named && not amiss) has in
    let k = both_true named (not amiss) h.1 in
    record { complete = is_not_true lacks h.0; named = k.0; keys = is_not_true amiss k.1; fit = fits }

this_or_later : (ms : List Member) (s : Setting) (given : Members) (has : Bool) (later : Option (List ℕ)) → has_outline ms (by_shape s) given ≡ has
    → (if has then members_misfit ms s given else later) ≡ None → FitsOutline ms s given ⊎ (later ≡ None)
this_or_later ms s given true later is fits = inl (outline_given ms s given is fits)
this_or_later ms s given false later is fits = inr fits

-- it has the first outline, or is judged by those after it
pub outline_or_later : (ms : List Member) (outlines : List (List Member)) (s : Setting) (given : Members) → outline_misfit (ms ∷ outlines) s given ≡ None
    → FitsOutline ms s given ⊎ (outline_misfit outlines s given ≡ None)
outline_or_later ms outlines s given fits =
    this_or_later ms s given (has_outline ms (by_shape s) given) (outline_misfit outlines s given) refl fits

-- an object, judged by the outlines
pub one_of_fits : (outlines : List (List Member)) (s : Setting) (d : Data) → one_of outlines s d ≡ None → (given : Members) × (d ≡ json.object given) × (outline_misfit outlines s given ≡ None)
one_of_fits outlines s null fits = absurd cc
one_of_fits outlines s (boolean b) fits = absurd cc
one_of_fits outlines s (number n) fits = absurd cc
one_of_fits outlines s (string t) fits = absurd cc
one_of_fits outlines s (array ds) fits = absurd cc
one_of_fits outlines s (json.object given) fits = (given, refl, fits)
