-- Forms of values that may be of several forms.
use Rattle.std.specs.Prelude.{ℕ, List, [], ◌∷◌, Bool, true, false, not, ◌&&◌, bytes_eq, is_some, Option, None, Some, if◌then◌else◌}
use Rattle.std.specs.List.{list_any}
use Rattle.serde_json.specs.Data.{Data, Members}
use Rattle.serde_json.specs.Find.{get, get_member, as_null, as_str, as_object}
use Rattle.json_form.specs.Paths.{in_member}
use Rattle.json_form.specs.Forms.{Form, by_shape}
use Rattle.json_form.specs.Objects.{Member, lacks_any, all_are_named, members_misfit}
use Rattle.json_form.specs.declared.setting.Setting.{Setting}
use Rattle.json_form.specs.declared.form.Presence.{Presence}
use Rattle.json_form.specs.declared.form.Presence.TheVariants.{Required, Optional, Key}

-- null, or what is of a form
abbrev pub or_null : Form → Form
or_null form s d = if is_some (as_null d) then None else form s d

-- what is of one form where a member is there, and of another where it isn't
abbrev pub if_has : List ℕ → Form → Form → Form
if_has name there absent s d = if is_some (get name d) then there s d else absent s d

-- what is of the first form by its shape, or else of the second
abbrev pub either : Form → Form → Form
either first second s d = if is_some (first (by_shape s) d) then second s d else first s d

-- ---- an object whose form goes by the word of a tag

-- a word that a tag may have, and the form of an object that has it
pub record Word : Type 0 where
  pub word : List ℕ
  pub form : Form

-- that word, and that form
abbrev pub on : List ℕ → Form → Word
on word form = record { word = word; form = form }

-- the word is unknown, or known
abbrev pub word_misfit : List ℕ → List Word → List ℕ → Form
word_misfit tag [] word s d = Some (in_member tag [])
word_misfit tag (w ∷ ws) word s d =
    if bytes_eq w.word word then w.form s d else word_misfit tag ws word s d

-- the tag is no text, or is one
abbrev pub text_misfit : List ℕ → List Word → Option (List ℕ) → Form
text_misfit tag words None s d = Some (in_member tag [])
text_misfit tag words (Some word) s d = word_misfit tag words word s d

-- the tag isn't there, or is
abbrev pub tag_misfit : List ℕ → List Word → Option Data → Form
tag_misfit tag words None s d = Some []
tag_misfit tag words (Some word) s d = text_misfit tag words (as_str word) s d

-- an object of the form of its word; where the tag is amiss, nothing else is looked at
abbrev pub tagged : List ℕ → List Word → Form
tagged tag words s d = tag_misfit tag words (get tag d) s d

-- ---- an object that has one of several lists of members

-- outlines are chosen by it
abbrev pub is_key : Presence → Bool
is_key Required = false
is_key Optional = false
is_key Key = true

-- in the value of a member that may be there
abbrev pub value_misfit : Form → Setting → Option Data → Option (List ℕ)
value_misfit form s None = None
value_misfit form s (Some d) = form s d

-- a member is a key that doesn't fit
abbrev pub is_amiss : Setting → Members → Member → Bool
is_amiss s given m = is_key m.presence && is_some (value_misfit m.form s (get_member m.name given))

-- an object has just these members, and its keys fit
abbrev pub has_outline : List Member → Setting → Members → Bool
has_outline ms s given =
    not (lacks_any ms given) && (all_are_named ms given && not (list_any (is_amiss s given) ms))

-- the first outline that an object has, by its shape, judges its members
abbrev pub outline_misfit : List (List Member) → Setting → Members → Option (List ℕ)
outline_misfit [] s given = Some []
outline_misfit (ms ∷ outlines) s given =
    if has_outline ms (by_shape s) given then members_misfit ms s given
    else outline_misfit outlines s given

-- the value is no object, or is one
abbrev pub outlined : List (List Member) → Setting → Option Members → Option (List ℕ)
outlined outlines s None = Some []
outlined outlines s (Some given) = outline_misfit outlines s given

-- an object that has none of the outlines is itself amiss
abbrev pub one_of : List (List Member) → Form
one_of outlines s d = outlined outlines s (as_object d)
