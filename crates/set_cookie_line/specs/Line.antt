-- Set-Cookie lines, after the 6265bis draft, section 5.6.
use Rattle.std.specs.Prelude.{◌≡◌, ℕ, ◌+◌, ◌⊎◌, ◌&&◌, ◌==◌, nat_lt, List, [], length, Option, Some, None, Result, Ok, Err, IsOk, MatchResult, if◌then◌else◌}
use Rattle.std.specs.List.{list_any}
use Rattle.jar_values.specs.declared.names.TheConstants.{MAX_PAIR_BYTES}
use Rattle.jar_values.specs.Bytes.{is_control}
use Rattle.set_cookie_line.specs.declared.line.Line.{Line}
use Rattle.set_cookie_line.specs.declared.line.LineRefusal.{LineRefusal}
use Rattle.set_cookie_line.specs.declared.line.LineRefusal.TheVariants.{Control, Empty, TooLong, NoMemory}
use Rattle.set_cookie_line.specs.Blanks.{trimmed}
use Rattle.set_cookie_line.specs.Cut.{cut}
use Rattle.set_cookie_line.specs.Kept.{Attributes, attributes_of, attributes_between}

-- the name of a line, by its pair cut at the first `=`: a pair without `=` has none
abbrev pub name_of : List ℕ × Option (List ℕ) → List ℕ
name_of (whole, None) = []
name_of (before, Some after) = trimmed before

-- the value of a line, by its pair cut at the first `=`: a pair without `=` is the value
abbrev pub value_of : List ℕ × Option (List ℕ) → List ℕ
value_of (whole, None) = trimmed whole
value_of (before, Some after) = trimmed after

-- the text of the pair, which ends before the first `;`
abbrev pub pair_text : List ℕ → List ℕ
pair_text text = (cut 0x3B text).0

-- the name of the line
abbrev pub line_name : List ℕ → List ℕ
line_name text = name_of (cut 0x3D (pair_text text))

-- the value of the line
abbrev pub line_value : List ℕ → List ℕ
line_value text = value_of (cut 0x3D (pair_text text))

-- the attributes in what follows the pair
abbrev pub attributes_after : Option (List ℕ) → Attributes
attributes_after None = attributes_of []
attributes_after (Some text) = attributes_between text

-- the attributes of the line
abbrev pub line_attributes : List ℕ → Attributes
line_attributes text = attributes_after (cut 0x3B text).1

-- the line of a name, a value and attributes
abbrev pub line_of : List ℕ → List ℕ → Attributes → Line
line_of name value attributes = record {
  name = name;
  value = value;
  domain = attributes.domain;
  path = attributes.path;
  expires = attributes.expires;
  max_age = attributes.max_age;
  secure = attributes.secure;
  http_only = attributes.http_only;
  same_site = attributes.same_site;
  priority = attributes.priority;
}

-- the first refusal of a line with this name and value: a control byte, neither name nor value, too
-- many bytes of both
abbrev pub first_refusal : List ℕ → List ℕ → List ℕ → Option LineRefusal
first_refusal text name value =
    if list_any is_control text then Some Control
    else (if length name == 0 && length value == 0 then Some Empty
    else (if nat_lt MAX_PAIR_BYTES (length name + length value) then Some TooLong
    else None))

-- the refusal, or else the line
abbrev pub unless_refused : Option LineRefusal → Line → Result Line LineRefusal
unless_refused (Some refusal) line = Err refusal
unless_refused None line = Ok line

-- the parts of a line, or its first refusal
unfoldable pub read_line : List ℕ → Result Line LineRefusal
read_line text =
    unless_refused (first_refusal text (line_name text) (line_value text))
    (line_of (line_name text) (line_value text) (line_attributes text))

-- the result is what the text reads as, or want of memory where it reads as a line
abbrev pub Reads : List ℕ → Result Line LineRefusal → Type 0
Reads text result =
    MatchResult result (λ line. read_line text ≡ Ok line)
    (λ refusal. (read_line text ≡ Err refusal) ⊎ ((refusal ≡ NoMemory) × IsOk (read_line text)))
