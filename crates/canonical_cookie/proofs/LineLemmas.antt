-- What a line that was read holds to.
use Rattle.std.proofs.Common.{◌≡◌, ℕ, ◌+◌, ◌<◌, ◌≤◌, Bool, true, false, ◌&&◌, ◌==◌, not, cond, List, [], ◌∷◌, length, take, drop, codes, map, Option, Some, None, refl, ap, ◌∙◌, subst, arith}
use Rattle.std.specs.Prelude.{nat_eq, nat_lt, unwrap_or, Ok}
use Rattle.std.specs.Option.{option_or}
use Rattle.std.specs.List.{list_any, list_all, starts_with, slice_split, position, position_or_len}
use Rattle.std.specs.Str.{str_to_ascii_lowercase}
use Rattle.std.specs.Char.{to_ascii_lowercase}
use Rattle.std.proofs.lemmas.Bool.Decides.{nat_tests}
use Rattle.std.proofs.lemmas.List.{length-map}
use Rattle.jar_values.specs.declared.names.TheConstants.{MAX_PAIR_BYTES}
use Rattle.jar_values.specs.Bytes.{is_control}
use Rattle.jar_values.specs.Hosts.{undotted}
use Rattle.jar_types.specs.Rows.{is_trimmed}
use Rattle.cookie_date.specs.Date.{date}
use Rattle.set_cookie_line.specs.declared.attribute.Kind.{Kind}
use Rattle.set_cookie_line.specs.declared.attribute.Kind.TheVariants as kind
use Rattle.set_cookie_line.specs.declared.attribute.TheConstants.{MAX_ATTRIBUTE_BYTES}
use Rattle.set_cookie_line.specs.declared.line.Line.{Line}
use Rattle.set_cookie_line.specs.declared.line.LineRefusal.{LineRefusal}
use Rattle.set_cookie_line.specs.declared.line.LineRefusal.TheVariants.{Control, Empty, TooLong}
use Rattle.set_cookie_line.specs.Blanks.{trimmed}
use Rattle.set_cookie_line.specs.Cut.{cut_at, cut}
use Rattle.set_cookie_line.specs.MaxAge.{read_max_age}
use Rattle.set_cookie_line.specs.Attribute as attribute
use Rattle.set_cookie_line.specs.Attribute.{Attribute, where_read, read_domain, read_path, attribute_of, kind_of, attribute_name, attribute_value, read_attribute}
use Rattle.set_cookie_line.specs.Kept.{last_of, path_of, domain_of, attributes_between}
use Rattle.set_cookie_line.specs.Line.{name_of, value_of, pair_text, line_name, line_value, attributes_after, line_attributes, line_of, first_refusal, unless_refused, read_line}
use Rattle.canonical_cookie.proofs.TextLemmas.{none_before, none_behind, none_trimmed, none_cut_before, none_split, none_before_separator, trimmed_is_trimmed}

-- what every line that was read holds to
pub record IsReadLine (line : Line) : Type 0 where
  pub name_plain : list_any is_control line.name ≡ false
  pub name_part : list_any (λ byte. byte == 0x3B) line.name ≡ false
  pub name_whole : list_any (λ byte. byte == 0x3D) line.name ≡ false
  pub name_trimmed : is_trimmed line.name ≡ true
  pub value_plain : list_any is_control line.value ≡ false
  pub value_part : list_any (λ byte. byte == 0x3B) line.value ≡ false
  pub value_trimmed : is_trimmed line.value ≡ true
  pub some : 0 < length line.name + length line.value
  pub few : length line.name + length line.value ≤ MAX_PAIR_BYTES
  pub domain : (domain : List ℕ) → line.domain ≡ Some domain → 0 < length domain
  pub path_rooted : (path : List ℕ) → line.path ≡ Some path → starts_with nat_eq path (codes "/") ≡ true
  pub path_plain : (path : List ℕ) → line.path ≡ Some path → list_any is_control path ≡ false

-- ---- one attribute

no_path : (number : Option ℕ) (made : ℕ → Attribute) → ((n : ℕ) → path_of (made n) ≡ None) → path_of (where_read made number) ≡ None
no_path None made none = refl
no_path (Some n) made none = none n

no_domain : (number : Option ℕ) (made : ℕ → Attribute) → ((n : ℕ) → domain_of (made n) ≡ None) → domain_of (where_read made number) ≡ None
no_domain None made none = refl
no_domain (Some n) made none = none n

rooted_path : (rooted : Bool) (value path : List ℕ) → cond rooted (Some value) None ≡ Some path → (value ≡ path) × (rooted ≡ true)
rooted_path true value path is = (cc is, refl)
rooted_path false value path is = absurd (cc)

-- a Path attribute is its value, which begins with `/`
path_at : (kind : Kind) (value path : List ℕ) → path_of (attribute_of kind value) ≡ Some (Some path)
    → (value ≡ path) × (starts_with nat_eq value (codes "/") ≡ true)
path_at kind.Expires value path is = let none = no_path (date value) attribute.expires (λ n. refl) in absurd (cc)
path_at kind.MaxAge value path is = let none = no_path (read_max_age value) attribute.max_age (λ n. refl) in absurd (cc)
path_at kind.Domain value path is = absurd (cc)
path_at kind.Path value path is =
    let one : read_path value ≡ Some path = cc is in rooted_path (starts_with nat_eq value (codes "/")) value path one
path_at kind.Secure value path is = absurd (cc)
path_at kind.HttpOnly value path is = absurd (cc)
path_at kind.SameSite value path is = absurd (cc)
path_at kind.Priority value path is = absurd (cc)
path_at kind.Unknown value path is = absurd (cc)

full_domain : (empty : Bool) (text domain : List ℕ) → (length text == 0) ≡ empty → cond empty None (Some (str_to_ascii_lowercase text)) ≡ Some domain
    → 0 < length domain
full_domain true text domain test is = absurd (cc)
full_domain false text domain test is =
    let same : str_to_ascii_lowercase text ≡ domain = cc is in
    let long : length (str_to_ascii_lowercase text) ≡ length text = length-map text to_ascii_lowercase in
    let some : 0 < length text = grind (arith, nat_tests) in
    subst (λ (x : List ℕ). 0 < length x) same (omega arith)

-- a Domain attribute isn't empty
domain_at : (kind : Kind) (value domain : List ℕ) → domain_of (attribute_of kind value) ≡ Some (Some domain) → 0 < length domain
domain_at kind.Expires value domain is = let none = no_domain (date value) attribute.expires (λ n. refl) in absurd (cc)
domain_at kind.MaxAge value domain is = let none = no_domain (read_max_age value) attribute.max_age (λ n. refl) in absurd (cc)
domain_at kind.Domain value domain is =
    let one : read_domain value ≡ Some domain = cc is in full_domain (length (undotted value) == 0) (undotted value) domain refl one
domain_at kind.Path value domain is = absurd (cc)
domain_at kind.Secure value domain is = absurd (cc)
domain_at kind.HttpOnly value domain is = absurd (cc)
domain_at kind.SameSite value domain is = absurd (cc)
domain_at kind.Priority value domain is = absurd (cc)
domain_at kind.Unknown value domain is = absurd (cc)

kept_path : (long : Bool) (one : Attribute) (path : Option (List ℕ)) → path_of (cond long attribute.dropped one) ≡ Some path → path_of one ≡ Some path
kept_path true one path is = absurd (cc)
kept_path false one path is = is

kept_domain : (long : Bool) (one : Attribute) (domain : Option (List ℕ)) → domain_of (cond long attribute.dropped one) ≡ Some domain
    → domain_of one ≡ Some domain
kept_domain true one domain is = absurd (cc)
kept_domain false one domain is = is

-- no byte of an attribute's value is what none of its text is
none_after : (p : ℕ → Bool) (place : Option ℕ) (text : List ℕ) → list_any p text ≡ false → list_any p (trimmed (unwrap_or (cut_at text place).1 [])) ≡ false
none_after p None text none = refl
none_after p (Some i) text none = none_trimmed p _ (none_behind p (i + 1) text none)

-- what a text may say of a Path
abbrev IsPlainPath : List ℕ → Type 0
IsPlainPath path = (starts_with nat_eq path (codes "/") ≡ true) × (list_any is_control path ≡ false)

-- ---- the attributes of a text

pub one_path : (text path : List ℕ) → list_any is_control text ≡ false → path_of (read_attribute text) ≡ Some (Some path) → IsPlainPath path
unfolding read_attribute
one_path text path plain is =
    let value = attribute_value text in
    let kept = kept_path (nat_lt MAX_ATTRIBUTE_BYTES (length value)) (attribute_of (kind_of (attribute_name text)) value) (Some path) is in
    let at = path_at (kind_of (attribute_name text)) value path kept in
    let clean : list_any is_control value ≡ false = none_after is_control (position (λ byte. byte == 0x3D) text) text plain in
    (subst (λ (x : List ℕ). starts_with nat_eq x (codes "/") ≡ true) at.0 at.1, subst (λ (x : List ℕ). list_any is_control x ≡ false) at.0 clean)

pub one_domain : (text domain : List ℕ) → domain_of (read_attribute text) ≡ Some (Some domain) → 0 < length domain
unfolding read_attribute
one_domain text domain is =
    let value = attribute_value text in
    domain_at (kind_of (attribute_name text)) value domain
    (kept_domain (nat_lt MAX_ATTRIBUTE_BYTES (length value)) (attribute_of (kind_of (attribute_name text)) value) (Some domain) is)

from_either : {A : Type 0} (P : A → Type 0) (later here : Option A) (v : A) → ((w : A) → later ≡ Some w → P w) → ((w : A) → here ≡ Some w → P w)
    → option_or later here ≡ Some v → P v
from_either P None here v late now is = now v is
from_either P (Some w) here v late now is = let same : w ≡ v = cc is in subst P same (late w refl)

both_plain : (one all : Bool) → (not one && all) ≡ true → (one ≡ false) × (all ≡ true)
both_plain true all e = absurd (cc)
both_plain false all e = (refl, e)

-- what each attribute that has a part says of it, the last does
last_holds : {A : Type 0} (part : Attribute → Option A) (P : A → Type 0) (texts : List (List ℕ))
    → ((text : List ℕ) (v : A) → list_any is_control text ≡ false → part (read_attribute text) ≡ Some v → P v)
    → list_all (λ text. not (list_any is_control text)) texts ≡ true → (v : A) → last_of part (map read_attribute texts) ≡ Some v → P v
last_holds part P [] each plain v is = absurd (cc)
last_holds part P (text ∷ texts) each plain v is =
    let all = both_plain (list_any is_control text) (list_all (λ one. not (list_any is_control one)) texts) plain in
    from_either P (last_of part (map read_attribute texts)) (part (read_attribute text)) v
    (λ w last. last_holds part P texts each all.1 w last) (λ w here. each text w all.0 here) is

-- what is kept, where something is
kept_some : {A : Type 0} (last : Option (Option A)) (v : A) → unwrap_or last None ≡ Some v → last ≡ Some (Some v)
kept_some None v is = absurd (cc)
kept_some (Some one) v is = ap Some is

abbrev IsPlainOrNone : Option (List ℕ) → Type 0
IsPlainOrNone path = (text : List ℕ) → path ≡ Some text → IsPlainPath text

abbrev IsFullOrNone : Option (List ℕ) → Type 0
IsFullOrNone domain = (text : List ℕ) → domain ≡ Some text → 0 < length text

paths_between : (text path : List ℕ) → list_any is_control text ≡ false → (attributes_between text).path ≡ Some path → IsPlainPath path
paths_between text path plain is =
    let texts = slice_split (λ byte. byte == 0x3B) text in
    last_holds path_of IsPlainOrNone texts (λ one v clean at one_text same. one_path one one_text clean (at ∙ ap Some same))
    (none_split is_control (λ byte. byte == 0x3B) text plain) (Some path) (kept_some (last_of path_of (map read_attribute texts)) path is) path refl

domains_between : (text domain : List ℕ) → list_any is_control text ≡ false → (attributes_between text).domain ≡ Some domain → 0 < length domain
domains_between text domain plain is =
    let texts = slice_split (λ byte. byte == 0x3B) text in
    last_holds domain_of IsFullOrNone texts (λ one v clean at one_text same. one_domain one one_text (at ∙ ap Some same))
    (none_split is_control (λ byte. byte == 0x3B) text plain) (Some domain) (kept_some (last_of domain_of (map read_attribute texts)) domain is) domain refl

-- after the pair
paths_after : (place : Option ℕ) (text path : List ℕ) → list_any is_control text ≡ false → (attributes_after (cut_at text place).1).path ≡ Some path → IsPlainPath path
paths_after None text path plain is = absurd (cc)
paths_after (Some i) text path plain is = paths_between (drop (i + 1) text) path (none_behind is_control (i + 1) text plain) is

domains_after : (place : Option ℕ) (text domain : List ℕ) → list_any is_control text ≡ false → (attributes_after (cut_at text place).1).domain ≡ Some domain
    → 0 < length domain
domains_after None text domain plain is = absurd (cc)
domains_after (Some i) text domain plain is = domains_between (drop (i + 1) text) domain (none_behind is_control (i + 1) text plain) is

-- ---- the name and the value

none_name : (p : ℕ → Bool) (place : Option ℕ) (pair : List ℕ) → list_any p pair ≡ false → list_any p (name_of (cut_at pair place)) ≡ false
none_name p None pair none = refl
none_name p (Some i) pair none = none_trimmed p (take i pair) (none_before p i pair none)

none_value : (p : ℕ → Bool) (place : Option ℕ) (pair : List ℕ) → list_any p pair ≡ false → list_any p (value_of (cut_at pair place)) ≡ false
none_value p None pair none = none_trimmed p pair none
none_value p (Some i) pair none = none_trimmed p (drop (i + 1) pair) (none_behind p (i + 1) pair none)

name_is_trimmed : (place : Option ℕ) (pair : List ℕ) → is_trimmed (name_of (cut_at pair place)) ≡ true
name_is_trimmed None pair = refl
name_is_trimmed (Some i) pair = trimmed_is_trimmed (take i pair)

value_is_trimmed : (place : Option ℕ) (pair : List ℕ) → is_trimmed (value_of (cut_at pair place)) ≡ true
value_is_trimmed None pair = trimmed_is_trimmed pair
value_is_trimmed (Some i) pair = trimmed_is_trimmed (drop (i + 1) pair)

-- the name is before the separator
name_before : (p : ℕ → Bool) (place : Option ℕ) (pair : List ℕ) → list_any p (cut_at pair place).0 ≡ false → list_any p (name_of (cut_at pair place)) ≡ false
name_before p None pair none = refl
name_before p (Some i) pair none = none_trimmed p (take i pair) none

-- ---- lines

of_ok : (refusal : Option LineRefusal) (made line : Line) → unless_refused refusal made ≡ Ok line → (refusal ≡ None) × (made ≡ line)
of_ok None made line is = (refl, cc is)
of_ok (Some refusal) made line is = absurd (cc)

no_refusal : (control empty long : Bool) → cond control (Some Control) (cond empty (Some Empty) (cond long (Some TooLong) None)) ≡ None
    → (control ≡ false) × (empty ≡ false) × (long ≡ false)
no_refusal true empty long none = absurd (cc)
no_refusal false true long none = absurd (cc)
no_refusal false false true none = absurd (cc)
no_refusal false false false none = (refl, refl, refl)

not_both_empty : (m n : ℕ) → (m == 0 && n == 0) ≡ false → 0 < m + n
not_both_empty m n test = grind (arith, nat_tests)

at_most : (m n : ℕ) → nat_lt n m ≡ false → m ≤ n
at_most m n test = grind (arith, nat_tests)

line_from : (text : List ℕ) → first_refusal text (line_name text) (line_value text) ≡ None
    → IsReadLine (line_of (line_name text) (line_value text) (line_attributes text))
line_from text none =
    let name = line_name text in
    let value = line_value text in
    let pair = pair_text text in
    let tests = no_refusal (list_any is_control text) (length name == 0 && length value == 0) (nat_lt MAX_PAIR_BYTES (length name + length value)) none in
    let semicolon : ℕ → Bool = λ byte. byte == 0x3B in
    let equals : ℕ → Bool = λ byte. byte == 0x3D in
    let end : Option ℕ = position semicolon text in
    let middle : Option ℕ = position equals pair in
    let plain : list_any is_control pair ≡ false = none_cut_before is_control end text tests.0 in
    let part : list_any semicolon pair ≡ false = none_before_separator semicolon text (nat_lt (position_or_len semicolon text) (length text)) refl in
    let front : list_any equals (cut 0x3D pair).0 ≡ false
    = none_before_separator equals pair (nat_lt (position_or_len equals pair) (length pair)) refl in
    let long = tests.2 in
    record {
      name_plain = none_name is_control middle pair plain;
      name_part = none_name semicolon middle pair part;
      name_whole = name_before equals middle pair front;
      name_trimmed = name_is_trimmed middle pair;
      value_plain = none_value is_control middle pair plain;
      value_part = none_value semicolon middle pair part;
      value_trimmed = value_is_trimmed middle pair;
      some = not_both_empty (length name) (length value) tests.1;
      few = at_most (length name + length value) MAX_PAIR_BYTES long;
      domain = λ domain is. domains_after end text domain tests.0 is;
      path_rooted = λ path is. (paths_after end text path tests.0 is).0;
      path_plain = λ path is. (paths_after end text path tests.0 is).1;
    }

-- a line that a text reads as holds to it
pub line_is_read : (text : List ℕ) (line : Line) → read_line text ≡ Ok line → IsReadLine line
unfolding read_line
line_is_read text line is =
    let ok = of_ok (first_refusal text (line_name text) (line_value text)) (line_of (line_name text) (line_value text) (line_attributes text)) line is in
    subst IsReadLine ok.1 (line_from text ok.0)
