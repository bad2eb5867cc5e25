-- Stored rows: which of them are sound, the cookie that a sound row stands for, and the row of a cookie. The prefixes
-- are those of the 6265bis draft, section 5.4; the rest is this jar's own rule: docs/DEFINITIONS.md.
use Rattle.std.specs.Prelude.{ℕ, ◌+◌, ℤ, pos, negsuc, List, length, codes, Bool, true, false, not, ◌&&◌, ◌||◌, ◌==◌, nat_le, nat_lt, nat_eq, bytes_eq}
use Rattle.std.specs.Prelude.{Option, None, Some, if◌then◌else◌}
use Rattle.std.specs.Int.{is_in_range}
use Rattle.std.specs.List.{starts_with, list_all, list_any, prefix_len, suffix_len}
use Rattle.jar_values.specs.declared.attributes.SameSite.{SameSite}
use Rattle.jar_values.specs.declared.attributes.SameSite.TheVariants.{Unspecified, NoLimit, Lax, Strict}
use Rattle.jar_values.specs.declared.attributes.Priority.{Priority}
use Rattle.jar_values.specs.declared.attributes.Priority.TheVariants.{Low, Medium, High}
use Rattle.jar_values.specs.declared.moment.TheConstants.{MAX_MOMENT}
use Rattle.jar_values.specs.declared.names.TheConstants.{MAX_PAIR_BYTES}
use Rattle.jar_values.specs.Bytes.{is_blank, is_control}
use Rattle.jar_values.specs.Hosts.{undotted}
use Rattle.jar_values.specs.Names.{has_secure_prefix, has_host_prefix, is_reserved}
use Rattle.jar_types.specs.declared.cookie.Cookie.{Cookie}
use Rattle.jar_types.specs.declared.row.Row.{Row}

-- ---- numbers of a row

-- the number is from 0 up to a bound
abbrev pub is_up_to : ℕ → ℤ → Bool
is_up_to most (pos n) = nat_le n most
is_up_to most (negsuc n) = false

-- the number, and 0 for one below
abbrev pub count_of : ℤ → ℕ
count_of (pos n) = n
count_of (negsuc n) = 0

-- the number is 1
abbrev pub is_one : ℤ → Bool
is_one number = is_up_to 1 number && count_of number == 1

-- ---- the six points of a sound row

-- a byte of a host: visible ASCII without upper-case letters
abbrev pub is_host_byte : ℕ → Bool
is_host_byte byte = is_in_range 0x21 0x7E byte && not (is_in_range 0x41 0x5A byte)

-- 1: the host without one leading dot has such bytes alone, and one at least
abbrev pub has_sound_host : Row → Bool
has_sound_host row = not (length (undotted row.host) == 0) && list_all is_host_byte (undotted row.host)

-- a text without control bytes, and one without semicolons too
abbrev pub is_plain : List ℕ → Bool
is_plain text = not (list_any is_control text)

abbrev pub is_part : List ℕ → Bool
is_part text = is_plain text && not (list_any (λ byte. byte == 0x3B) text)

-- 2: the path begins with `/`, no text has a control byte, and name and value have no semicolon
abbrev pub has_sound_texts : Row → Bool
has_sound_texts row =
    starts_with nat_eq row.path (codes "/") && (is_plain row.path && (is_part row.name && is_part row.value))

-- a text that neither begins nor ends with a blank
abbrev pub is_trimmed : List ℕ → Bool
is_trimmed text = prefix_len is_blank text == 0 && suffix_len is_blank text == 0

-- 3: the name has no `=`, name and value have no blanks round them, one of them isn't empty, and they aren't too long
abbrev pub has_sound_pair : Row → Bool
has_sound_pair row =
    not (list_any (λ byte. byte == 0x3D) row.name)
    && (is_trimmed row.name
    && (is_trimmed row.value
    && (nat_lt 0 (length row.name + length row.value)
    && nat_le (length row.name + length row.value) MAX_PAIR_BYTES)))

-- 4: moments are moments, and the numbers are of their kinds
abbrev pub has_sound_numbers : Row → Bool
has_sound_numbers row =
    is_up_to MAX_MOMENT row.creation
    && (is_up_to MAX_MOMENT row.expiry
    && (is_up_to MAX_MOMENT row.access
    && (is_up_to 1 row.secure
    && (is_up_to 1 row.http_only
    && (is_up_to 3 row.same_site
    && is_up_to 2 row.priority)))))

-- 5: a cookie of SameSite None is Secure
abbrev pub has_sound_site : Row → Bool
has_sound_site row = not (is_one row.same_site) || is_one row.secure

-- 6: a name, or a value without one, that has a reserved form keeps what the form asks for
abbrev pub has_sound_prefix : Row → Bool
has_sound_prefix row =
    (not (has_secure_prefix row.name) || is_one row.secure)
    && ((not (has_host_prefix row.name)
    || (is_one row.secure && (not (starts_with nat_eq row.host (codes ".")) && bytes_eq row.path (codes "/"))))
    && (nat_lt 0 (length row.name) || not (is_reserved row.value)))

-- the row is sound
abbrev pub is_sound_row : Row → Bool
is_sound_row row =
    has_sound_host row
    && (has_sound_texts row
    && (has_sound_pair row
    && (has_sound_numbers row
    && (has_sound_site row
    && has_sound_prefix row))))

-- ---- rows and cookies

-- the SameSite of a number
abbrev pub site_of_number : ℕ → SameSite
site_of_number n =
    if n == 1 then NoLimit else (if n == 2 then Lax else (if n == 3 then Strict else Unspecified))

-- the number of a SameSite
abbrev pub number_of_site : SameSite → ℕ
number_of_site Unspecified = 0
number_of_site NoLimit = 1
number_of_site Lax = 2
number_of_site Strict = 3

-- the priority of a number
abbrev pub priority_of_number : ℕ → Priority
priority_of_number n = if n == 0 then Low else (if n == 1 then Medium else High)

-- the number of a priority
abbrev pub number_of_priority : Priority → ℕ
number_of_priority Low = 0
number_of_priority Medium = 1
number_of_priority High = 2

-- the number of a flag
abbrev pub number_of_flag : Bool → ℕ
number_of_flag false = 0
number_of_flag true = 1

-- the cookie of a row, column by column, under its key
abbrev pub cookie_in : List ℕ → Row → Cookie
cookie_in key row = record {
  key = key;
  host = row.host;
  name = row.name;
  path = row.path;
  value = row.value;
  creation = count_of row.creation;
  access = count_of row.access;
  expiry = Some (count_of row.expiry);
  secure = is_one row.secure;
  http_only = is_one row.http_only;
  same_site = site_of_number (count_of row.same_site);
  priority = priority_of_number (count_of row.priority);
}

-- the cookie that a row stands for, by the keys of hosts; none where the row is unsound
abbrev pub cookie_of_row : (List ℕ → List ℕ) → Row → Option Cookie
cookie_of_row key_of row = if is_sound_row row then Some (cookie_in (key_of (undotted row.host)) row) else None

-- the row of a cookie with this expiry
abbrev pub row_until : Cookie → ℕ → Row
row_until c expiry = record {
  host = c.host;
  name = c.name;
  path = c.path;
  value = c.value;
  creation = pos c.creation;
  expiry = pos expiry;
  access = pos c.access;
  secure = pos (number_of_flag c.secure);
  http_only = pos (number_of_flag c.http_only);
  same_site = pos (number_of_site c.same_site);
  priority = pos (number_of_priority c.priority);
}

abbrev pub row_where : Cookie → Option ℕ → Option Row
row_where c None = None
row_where c (Some expiry) = Some (row_until c expiry)

-- the row that stands for a cookie; none for a session cookie
abbrev pub row_of : Cookie → Option Row
row_of c = row_where c c.expiry
