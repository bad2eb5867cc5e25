-- The row of a made cookie is sound, point by point.
use Rattle.std.proofs.Common.{◌≡◌, ℕ, zero, suc, ◌+◌, ◌-◌, ◌<◌, ◌≤◌, ⊎_elim, pos, Bool, true, false, ◌&&◌, ◌||◌, not, cond, List, ◌∷◌, ◌++◌, length, get_or, take, drop, reverse, map, codes, Option, Some, None, All, refl, sym, ap, ◌∙◌, subst, eqb, arith}
use Rattle.std.specs.Prelude.{nat_le, nat_lt, nat_eq, bytes_eq, unwrap_or, count_by, option_map, ◌==◌, is_some}
use Rattle.std.specs.Char.{to_ascii_lowercase}
use Rattle.std.specs.List.{starts_with, list_all, list_any, suffix_len, before_last}
use Rattle.std.proofs.lemmas.Bool.{cases_lt}
use Rattle.std.proofs.lemmas.Bool.Decides.{Decides-eqb, nat_tests}
use Rattle.std.proofs.lemmas.List.{get_or-map, get_or-reverse}
use Rattle.std.proofs.lemmas.List.Folds.{list_all-append, list_any_none, sum_by-zero}
use Rattle.std.proofs.lemmas.List.Sums.{list_all-from_AllPass, prefix_len_passes, sum_by-cons}
use Rattle.std.proofs.lemmas.Slice.Eq.{bytes_eq-Decides, starts_is, ends_is}
use Rattle.jar_values.specs.declared.attributes.SameSite.{SameSite}
use Rattle.jar_values.specs.declared.attributes.SameSite.TheVariants.{Unspecified, NoLimit, Lax, Strict}
use Rattle.jar_values.specs.declared.attributes.Priority.{Priority}
use Rattle.jar_values.specs.declared.attributes.Priority.TheVariants.{Low, Medium, High}
use Rattle.jar_values.specs.declared.moment.TheConstants.{MAX_MOMENT}
use Rattle.jar_values.specs.declared.names.TheConstants.{MAX_PAIR_BYTES}
use Rattle.jar_values.specs.Bytes.{is_control}
use Rattle.jar_values.specs.Hosts.{undotted, is_below, domain_matches, is_ip_host}
use Rattle.jar_values.specs.Names.{has_secure_prefix, has_host_prefix, is_reserved}
use Rattle.jar_types.specs.declared.cookie.Cookie.{Cookie}
use Rattle.jar_types.specs.declared.row.Row.{Row}
use Rattle.jar_types.specs.Rows.{is_up_to, is_one, is_host_byte, is_plain, is_part, has_sound_host, has_sound_texts, has_sound_pair, has_sound_numbers, has_sound_site, has_sound_prefix, is_sound_row, number_of_flag, number_of_site, number_of_priority, row_until, row_of}
use Rattle.set_cookie_line.specs.declared.line.Line.{Line}
use Rattle.public_suffix.specs.Rule.{SuffixRule}
use Rattle.site_match.specs.declared.place.Place.{Place}
use Rattle.site_match.specs.DefaultPaths.{default_path}
use Rattle.site_match.specs.Places.{IsVisible, IsSoundPlace, begins_with_dot}
use Rattle.site_match.proofs.PlaceLemmas.{place_is_sound}
use Rattle.canonical_cookie.specs.Expiry.{asked_expiry, capped, expiry_of}
use Rattle.canonical_cookie.specs.Refusals.{is_there_and, has_suffix_domain, is_no_limit}
use Rattle.canonical_cookie.specs.Making.{host_by, cookie_of}
use Rattle.canonical_cookie.specs.Laws.{IsMade}
use Rattle.canonical_cookie.proofs.TextLemmas.{none_before}
use Rattle.canonical_cookie.proofs.LineLemmas.{IsReadLine, line_is_read}
use Rattle.canonical_cookie.proofs.RowLemmas.{both, expiry_of_row}
use Rattle.canonical_cookie.proofs.MadeLemmas.{IsUnrefused, made_parts, undotted_host, undotted_domain, host_cases, passed}

-- two tests that are true are true together
pub and_true : (a b : Bool) → a ≡ true → b ≡ true → (a && b) ≡ true
and_true true b one two = two
and_true false b one two = absurd (cc)

or_true : (a b : Bool) → a ≡ true → (a || b) ≡ true
or_true true b one = refl
or_true false b one = absurd (cc)

not_none : (b : Bool) → b ≡ false → not b ≡ true
not_none true e = absurd (cc)
not_none false e = refl

-- ---- 1: the host

host_byte : (byte : ℕ) → IsVisible byte → to_ascii_lowercase byte ≡ byte → is_host_byte byte ≡ true
host_byte byte visible small = grind (arith, nat_tests)

-- bytes of a host that is visible and in lower case
host_bytes : (host : List ℕ) → All IsVisible host → map to_ascii_lowercase host ≡ host → list_all is_host_byte host ≡ true
host_bytes host visible lower =
    list_all-from_AllPass is_host_byte host
    (λ k d within.
    host_byte (get_or host k d) (visible k d within)
    (sym (get_or-map to_ascii_lowercase host k d d within) ∙ ap (λ (xs : List ℕ). get_or xs k d) lower))

ends_all : (p : ℕ → Bool) (front end : List ℕ) → list_all p (front ++ end) ≡ true → list_all p end ≡ true
ends_all p front end all = (both (list_all p front) (list_all p end) (sym (list_all-append p front end) ∙ all)).1

below_all : (p : ℕ → Bool) (host domain : List ℕ) → is_below host domain ≡ true → list_all p host ≡ true → list_all p domain ≡ true
below_all p host domain below all =
    let front : List ℕ = take (length host - length (46 ∷ domain)) host in
    let whole : host ≡ front ++ (46 ∷ domain) = (ends_is Decides-eqb host (46 ∷ domain) (is_below host domain) refl).0 below in
    let dotted : list_all p (46 ∷ domain) ≡ true = ends_all p front (46 ∷ domain) (subst (λ (x : List ℕ). list_all p x ≡ true) whole all) in
    (both (p 46) (list_all p domain) dotted).1

matched_all : (p : ℕ → Bool) (same below ip : Bool) (host domain : List ℕ) → bytes_eq host domain ≡ same → is_below host domain ≡ below
    → (same || (below && not ip)) ≡ true → list_all p host ≡ true → list_all p domain ≡ true
matched_all p true below ip host domain equal under matches all =
    subst (λ (x : List ℕ). list_all p x ≡ true) ((bytes_eq-Decides host domain).0 equal) all
matched_all p false true ip host domain equal under matches all = below_all p host domain under all
matched_all p false false ip host domain equal under matches all = absurd (cc)

-- a domain that the host matches has such bytes alone, as the host
domain_all : (p : ℕ → Bool) (host domain : List ℕ) → domain_matches host domain ≡ true → list_all p host ≡ true → list_all p domain ≡ true
domain_all p host domain matches all =
    matched_all p (bytes_eq host domain) (is_below host domain) (is_ip_host host) host domain refl refl matches all

abbrev IsSoundHost : List ℕ → Type 0
IsSoundHost host = (not (length host == 0) && list_all is_host_byte host) ≡ true

not_empty : (n : ℕ) → 0 < n → not (n == 0) ≡ true
not_empty n some = grind (arith, nat_tests)

sound_host : (host : List ℕ) → 0 < length host → list_all is_host_byte host ≡ true → IsSoundHost host
sound_host host some all = and_true (not (length host == 0)) (list_all is_host_byte host) (not_empty (length host) some) all

host_sound : (rules : List SuffixRule) (suffix : Bool) (line : Line) (place : Place) → IsSoundPlace place → IsReadLine line → IsUnrefused rules line place
    → IsSoundHost (undotted (host_by suffix place.host line.domain))
host_sound rules suffix line place at read free =
    let all : list_all is_host_byte place.host ≡ true = host_bytes place.host at.host at.lower in
    host_cases suffix place.host line.domain (IsSoundHost (undotted (host_by suffix place.host line.domain)))
    (λ own. subst IsSoundHost (sym (ap undotted own ∙ undotted_host place.host at.no_dot)) (sound_host place.host at.named all))
    (λ text is dotted.
    let matches = passed (domain_matches place.host) line.domain text is free.mismatch in
    subst IsSoundHost (sym (ap undotted dotted ∙ undotted_domain text))
    (sound_host text (read.domain text is) (domain_all is_host_byte place.host text matches all)))

-- ---- 2: the texts

visible_byte : (byte : ℕ) → IsVisible byte → is_control byte ≡ false
visible_byte byte visible = grind (arith, nat_tests)

visible_plain : (path : List ℕ) → All IsVisible path → list_any is_control path ≡ false
visible_plain path visible = list_any_none is_control path (λ k d within. visible_byte (get_or path k d) (visible k d within))

abbrev slash : ℕ → Bool
slash b = b == 47

-- what isn't passed by any byte isn't counted
no_slash : (b : ℕ) → not (slash b) ≡ true → eqb (cond (slash b) 1 0) 0 ≡ true
no_slash b other = grind (arith, nat_tests)

is_zero : (n : ℕ) → eqb n 0 ≡ true → n ≡ 0
is_zero n test = grind (arith, nat_tests)

none_counted : (text : List ℕ) → ((k : ℕ) (d : ℕ) → k < length text → not (slash (get_or text k d)) ≡ true) → count_by slash text ≡ 0
none_counted text each =
    is_zero (count_by slash text)
    (sum_by-zero (λ b. cond (slash b) 1 0) text
    ∙ list_all-from_AllPass (λ b. eqb (cond (slash b) 1 0) 0) text (λ k d within. no_slash (get_or text k d) (each k d within)))

-- behind a first slash there is another, where there are two
other_slash : (rest : List ℕ) → nat_le (count_by slash (47 ∷ rest)) 1 ≡ false → suffix_len (λ b. not (slash b)) (47 ∷ rest) < length rest
other_slash rest many =
    ⊎_elim (λ inside. inside)
    (λ beyond.
    let path : List ℕ = 47 ∷ rest in
    let none : count_by slash rest ≡ 0 =
    none_counted rest
    (λ k d within.
    let back : length path - 1 - (length rest - 1 - k) ≡ suc k = omega arith in
    let place = get_or-reverse path (length rest - 1 - k) d (omega arith) in
    let here : get_or (reverse path) (length rest - 1 - k) d ≡ get_or rest k d = place ∙ ap (λ (i : ℕ). get_or path i d) back in
    subst (λ (b : ℕ). not (slash b) ≡ true) here
    (prefix_len_passes (λ b. not (slash b)) (reverse path) (length rest - 1 - k) d (omega arith))) in
    let one : count_by slash path ≡ 1 + count_by slash rest = sum_by-cons (λ b. cond (slash b) 1 0) 47 rest in
    absurd (too_few (count_by slash path) (omega arith) many))
    (cases_lt (suffix_len (λ b. not (slash b)) (47 ∷ rest)) (length rest))
  where
    too_few : (n : ℕ) → n ≡ 1 → nat_le n 1 ≡ false → ⊥
    too_few n one many = grind (arith, nat_tests)

abbrev IsRooted : List ℕ → Type 0
IsRooted path = starts_with nat_eq path (codes "/") ≡ true

rooted_front : (n : ℕ) (rest : List ℕ) → 0 < n → IsRooted (take n (47 ∷ rest))
rooted_front zero rest some = absurd (omega arith)
rooted_front (suc n) rest some = refl

before_rooted : (rest : List ℕ) → nat_le (count_by slash (47 ∷ rest)) 1 ≡ false → IsRooted (before_last slash (47 ∷ rest))
before_rooted rest many =
    let inside = other_slash rest many in
    let long : length (47 ∷ rest) ≡ length rest + 1 = omega arith in
    rooted_front (length (47 ∷ rest) - suffix_len (λ b. not (slash b)) (47 ∷ rest) - 1) rest (omega arith)

default_by : (unrooted few : Bool) (path : List ℕ) → nat_le (count_by slash path) 1 ≡ few → IsRooted path
    → IsRooted (cond (unrooted || few) (codes "/") (before_last slash path))
default_by true few path count starts = refl
default_by false true path count starts = refl
default_by false false path count starts =
    let whole : path ≡ 47 ∷ drop 1 path = (starts_is Decides-eqb path (codes "/") (starts_with nat_eq path (codes "/")) refl).0 starts in
    subst (λ (x : List ℕ). IsRooted (before_last slash x)) (sym whole)
    (before_rooted (drop 1 path) (subst (λ (x : List ℕ). nat_le (count_by slash x) 1 ≡ false) whole count))

default_rooted : (path : List ℕ) → IsRooted path → IsRooted (default_path path)
default_rooted path starts = default_by (not (starts_with nat_eq path (codes "/"))) (nat_le (count_by slash path) 1) path refl starts

plain_by : (short : Bool) (path : List ℕ) → list_any is_control path ≡ false → list_any is_control (cond short (codes "/") (before_last slash path)) ≡ false
plain_by true path plain = refl
plain_by false path plain = none_before is_control (length path - suffix_len (λ b. not (slash b)) path - 1) path plain

default_plain : (path : List ℕ) → list_any is_control path ≡ false → list_any is_control (default_path path) ≡ false
default_plain path plain = plain_by (not (starts_with nat_eq path (codes "/")) || nat_le (count_by slash path) 1) path plain

abbrev IsSoundPath : List ℕ → Type 0
IsSoundPath path = IsRooted path × (list_any is_control path ≡ false)

path_by : (asked : Option (List ℕ)) (other : List ℕ) → ((path : List ℕ) → asked ≡ Some path → IsSoundPath path) → IsSoundPath other → IsSoundPath (unwrap_or asked other)
path_by None other named default = default
path_by (Some path) other named default = named path refl

path_sound : (line : Line) (place : Place) → IsSoundPlace place → IsReadLine line → IsSoundPath (unwrap_or line.path (default_path place.path))
path_sound line place at read =
    path_by line.path (default_path place.path) (λ path is. (read.path_rooted path is, read.path_plain path is))
    (default_rooted place.path at.rooted, default_plain place.path (visible_plain place.path at.path))

part_sound : (text : List ℕ) → list_any is_control text ≡ false → list_any (λ byte. byte == 0x3B) text ≡ false → is_part text ≡ true
part_sound text plain part = and_true (is_plain text) _ (not_none _ plain) (not_none _ part)

-- ---- 3: the pair

some_bytes : (n : ℕ) → 0 < n → nat_lt 0 n ≡ true
some_bytes n some = grind (arith, nat_tests)

up_to : (m n : ℕ) → m ≤ n → nat_le m n ≡ true
up_to m n few = grind (arith, nat_tests)

-- ---- 4: the numbers

capped_up_to : (now ms : ℕ) → capped now ms ≤ MAX_MOMENT
capped_up_to now ms = omega arith

expiry_by : (now ms : ℕ) (asked : Option ℕ) → option_map (capped now) asked ≡ Some ms → ms ≤ MAX_MOMENT
expiry_by now ms None is = absurd (cc)
expiry_by now ms (Some one) is = let same : capped now one ≡ ms = cc is in subst (λ (n : ℕ). n ≤ MAX_MOMENT) same (capped_up_to now one)

flag_up_to : (flag : Bool) → is_up_to 1 (pos (number_of_flag flag)) ≡ true
flag_up_to false = refl
flag_up_to true = refl

site_up_to : (site : SameSite) → is_up_to 3 (pos (number_of_site site)) ≡ true
site_up_to Unspecified = refl
site_up_to NoLimit = refl
site_up_to Lax = refl
site_up_to Strict = refl

priority_up_to : (priority : Priority) → is_up_to 2 (pos (number_of_priority priority)) ≡ true
priority_up_to Low = refl
priority_up_to Medium = refl
priority_up_to High = refl

-- ---- 5: SameSite

site_sound : (site : SameSite) (secure : Bool) → (is_no_limit site && not secure) ≡ false
    → (not (is_one (pos (number_of_site site))) || is_one (pos (number_of_flag secure))) ≡ true
site_sound Unspecified secure none = refl
site_sound NoLimit true none = refl
site_sound NoLimit false none = absurd (cc)
site_sound Lax secure none = refl
site_sound Strict secure none = refl

-- ---- 6: names of a reserved form

secure_sound : (prefix secure : Bool) → (prefix && not secure) ≡ false → (not prefix || is_one (pos (number_of_flag secure))) ≡ true
secure_sound false secure free = refl
secure_sound true true free = refl
secure_sound true false free = absurd (cc)

abbrev of_one_root : Bool → Option (List ℕ) → Option (List ℕ) → Bool
of_one_root secure domain path = secure && not (is_some domain) && is_there_and (λ text. bytes_eq text (codes "/")) path

root_sound : (prefix secure suffix : Bool) (host other : List ℕ) (domain path : Option (List ℕ)) → begins_with_dot host ≡ false
    → (prefix && not (of_one_root secure domain path)) ≡ false
    → (not prefix || (is_one (pos (number_of_flag secure))
    && (not (starts_with nat_eq (host_by suffix host domain) (codes ".")) && bytes_eq (unwrap_or path other) (codes "/")))) ≡ true
root_sound false secure suffix host other domain path no_dot free = refl
root_sound true false suffix host other domain path no_dot free = absurd (cc)
root_sound true true suffix host other (Some domain) path no_dot free = absurd (cc)
root_sound true true suffix host other None None no_dot free = absurd (cc)
root_sound true true suffix host other None (Some path) no_dot free = rw no_dot (not_not (bytes_eq path (codes "/")) free)
  where
    not_not : (b : Bool) → not b ≡ false → b ≡ true
    not_not true e = refl
    not_not false e = absurd (cc)

nameless_sound : (n : ℕ) (reserved : Bool) → (n == 0 && reserved) ≡ false → (nat_lt 0 n || not reserved) ≡ true
nameless_sound zero true free = absurd (cc)
nameless_sound zero false free = refl
nameless_sound (suc n) reserved free = or_true (nat_lt 0 (suc n)) (not reserved) (some_bytes (suc n) (omega arith))

-- ---- the row

-- the row of a line's cookie until a moment is sound
row_sound : (rules : List SuffixRule) (suffix : Bool) (line : Line) (place : Place) (now ms : ℕ) → IsSoundPlace place → IsReadLine line
    → IsUnrefused rules line place → now ≤ MAX_MOMENT → ms ≤ MAX_MOMENT → is_sound_row (row_until (cookie_of suffix line place now) ms) ≡ true
row_sound rules suffix line place now ms at read free moment until =
    let row : Row = row_until (cookie_of suffix line place now) ms in
    let path = path_sound line place at read in
    let long = length line.name + length line.value in
    let host : has_sound_host row ≡ true = host_sound rules suffix line place at read free in
    let texts : has_sound_texts row ≡ true =
    and_true _ _ path.0
    (and_true _ _ (not_none _ path.1)
    (and_true _ _ (part_sound line.name read.name_plain read.name_part) (part_sound line.value read.value_plain read.value_part))) in
    let pair : has_sound_pair row ≡ true =
    and_true _ _ (not_none _ read.name_whole)
    (and_true _ _ read.name_trimmed
    (and_true _ _ read.value_trimmed (and_true _ _ (some_bytes long read.some) (up_to long MAX_PAIR_BYTES read.few)))) in
    let numbers : has_sound_numbers row ≡ true =
    and_true _ _ (up_to now MAX_MOMENT moment)
    (and_true _ _ (up_to ms MAX_MOMENT until)
    (and_true _ _ (up_to now MAX_MOMENT moment)
    (and_true _ _ (flag_up_to line.secure)
    (and_true _ _ (flag_up_to line.http_only)
    (and_true _ _ (site_up_to line.same_site) (priority_up_to line.priority)))))) in
    let site : has_sound_site row ≡ true = site_sound line.same_site line.secure free.none in
    let prefix : has_sound_prefix row ≡ true =
    and_true _ _ (secure_sound (has_secure_prefix line.name) line.secure free.secure)
    (and_true _ _
    (root_sound (has_host_prefix line.name) line.secure suffix place.host (default_path place.path) line.domain line.path at.no_dot free.host)
    (nameless_sound (length line.name) (is_reserved line.value) free.nameless)) in
    and_true _ _ host (and_true _ _ texts (and_true _ _ pair (and_true _ _ numbers (and_true _ _ site prefix))))

-- the row of a made cookie is sound
pub row_of_made : (rules : List SuffixRule) (cookie : Cookie) (row : Row) → IsMade rules cookie → row_of cookie ≡ Some row → is_sound_row row ≡ true
row_of_made rules cookie row is has =
    let (url, parsed, at) = is.at in
    let suffix = has_suffix_domain rules is.line in
    let parts = made_parts rules is.line is.place is.context is.script is.now cookie is.makes in
    let (ms, expiry, until) = expiry_of_row cookie row has in
    let asked : expiry_of is.line is.now ≡ Some ms = ap (λ (c : Cookie). c.expiry) parts.1 ∙ expiry in
    let sound =
    row_sound rules suffix is.line is.place is.now ms (place_is_sound rules url is.place at) (line_is_read is.text is.line is.read) parts.0 is.moment
    (expiry_by is.now ms (asked_expiry is.now is.line.max_age is.line.expires) asked) in
    subst (λ (r : Row). is_sound_row r ≡ true) until (subst (λ (c : Cookie). is_sound_row (row_until c ms) ≡ true) parts.1 sound)
