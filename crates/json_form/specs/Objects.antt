-- Forms of objects.
use Rattle.std.specs.Prelude.{ℕ, List, [], ◌∷◌, Bool, true, false, not, ◌&&◌, bytes_eq, is_some, Option, None, Some, option_map, if◌then◌else◌}
use Rattle.std.specs.Option.{option_or}
use Rattle.std.specs.List.{list_any}
use Rattle.serde_json.specs.Data.{Members, no_members, member}
use Rattle.serde_json.specs.Find.{get_member, as_object}
use Rattle.json_form.specs.Paths.{in_member}
use Rattle.json_form.specs.Forms.{Form}
use Rattle.json_form.specs.declared.setting.Setting.{Setting}
use Rattle.json_form.specs.declared.form.Presence.{Presence}
use Rattle.json_form.specs.declared.form.Presence.TheVariants.{Required, Optional, Key}

-- a member that a form names
pub record Member : Type 0 where
  pub name : List ℕ
  pub presence : Presence
  pub form : Form

-- one that has to be there
abbrev pub must : List ℕ → Form → Member
must name form = record { name = name; presence = Required; form = form }

-- one that may be absent
abbrev pub may : List ℕ → Form → Member
may name form = record { name = name; presence = Optional; form = form }

-- one that has to be there and to fit
abbrev pub key : List ℕ → Form → Member
key name form = record { name = name; presence = Key; form = form }

-- ---- which members there are

-- it has to be there
abbrev pub is_required : Presence → Bool
is_required Required = true
is_required Optional = false
is_required Key = true

-- a member that has to be there isn't
abbrev pub is_missing : Members → Member → Bool
is_missing given m = is_required m.presence && not (is_some (get_member m.name given))

-- one of several is missing
abbrev pub lacks_any : List Member → Members → Bool
lacks_any ms given = list_any (is_missing given) ms

-- a member of this name
abbrev pub is_named : List ℕ → Member → Bool
is_named name m = bytes_eq m.name name

-- each member that is there is named
abbrev pub all_are_named : List Member → Members → Bool
all_are_named ms no_members = true
all_are_named ms (member name d more) = list_any (is_named name) ms && all_are_named ms more

-- ---- what is amiss

-- in the member of a name: it is itself amiss where no form names it
abbrev pub member_misfit : List Member → List ℕ → Form
member_misfit [] name s d = Some []
member_misfit (m ∷ ms) name s d =
    if bytes_eq m.name name then m.form s d else member_misfit ms name s d

-- among members
abbrev pub members_misfit : List Member → Setting → Members → Option (List ℕ)
members_misfit ms s no_members = None
members_misfit ms s (member name d more) =
    option_or (option_map (in_member name) (member_misfit ms name s d)) (members_misfit ms s more)

-- in an object: it is itself amiss where a member is missing
abbrev pub given_misfit : List Member → Setting → Members → Option (List ℕ)
given_misfit ms s given = if lacks_any ms given then Some [] else members_misfit ms s given

-- the value is no object, or is one
abbrev pub object_misfit : List Member → Setting → Option Members → Option (List ℕ)
object_misfit ms s None = Some []
object_misfit ms s (Some given) = given_misfit ms s given

-- an object with these members and no others
abbrev pub object : List Member → Form
object ms s d = object_misfit ms s (as_object d)
