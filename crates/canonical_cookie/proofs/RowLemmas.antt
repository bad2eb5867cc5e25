-- The points of a sound row, each by itself.
use Rattle.std.proofs.Common.{◌≡◌, ◌≤◌, ℕ, zero, suc, ℤ, pos, negsuc, Bool, true, false, ◌&&◌, cond, List, Option, Some, None, refl, sym, ap, ◌∙◌, subst, arith}
use Rattle.std.specs.Prelude.{nat_le}
use Rattle.std.proofs.lemmas.Bool.Decides.{nat_tests}
use Rattle.jar_values.specs.declared.attributes.SameSite.{SameSite}
use Rattle.jar_values.specs.declared.attributes.SameSite.TheVariants.{Unspecified, NoLimit, Lax, Strict}
use Rattle.jar_values.specs.declared.attributes.Priority.{Priority}
use Rattle.jar_values.specs.declared.attributes.Priority.TheVariants.{Low, Medium, High}
use Rattle.jar_values.specs.declared.moment.TheConstants.{MAX_MOMENT}
use Rattle.jar_values.specs.Hosts.{undotted}
use Rattle.jar_types.specs.declared.cookie.Cookie.{Cookie}
use Rattle.jar_types.specs.declared.row.Row.{Row}
use Rattle.jar_types.specs.Rows.{is_up_to, count_of, is_one, has_sound_host, has_sound_texts, has_sound_pair, has_sound_numbers, is_sound_row, site_of_number, number_of_site, priority_of_number, number_of_priority, number_of_flag, cookie_in, cookie_of_row, row_until, row_where, row_of}
use Rattle.public_suffix.specs.Rule.{SuffixRule}
use Rattle.public_suffix.specs.Suffix.{key_of}

-- a test of numbers that is true
pub at_most : (m n : ℕ) → nat_le m n ≡ true → m ≤ n
at_most m n test = grind (arith, nat_tests)

-- of two tests that are true together each is
pub both : (a b : Bool) → (a && b) ≡ true → (a ≡ true) × (b ≡ true)
both true b e = (refl, e)
both false b e = absurd (cc)

-- the numbers of a sound row are sound
pub sound_numbers : (row : Row) → is_sound_row row ≡ true → has_sound_numbers row ≡ true
sound_numbers row sound =
    let host = both (has_sound_host row) _ sound in
    let texts = both (has_sound_texts row) _ host.1 in
    let pair = both (has_sound_pair row) _ texts.1 in
    (both (has_sound_numbers row) _ pair.1).0

-- what sound numbers are
pub record HasSoundNumbers (row : Row) : Type 0 where
  pub creation : is_up_to MAX_MOMENT row.creation ≡ true
  pub expiry : is_up_to MAX_MOMENT row.expiry ≡ true
  pub access : is_up_to MAX_MOMENT row.access ≡ true
  pub secure : is_up_to 1 row.secure ≡ true
  pub http_only : is_up_to 1 row.http_only ≡ true
  pub same_site : is_up_to 3 row.same_site ≡ true
  pub priority : is_up_to 2 row.priority ≡ true

pub each_number : (row : Row) → has_sound_numbers row ≡ true → HasSoundNumbers row
each_number row sound =
    let creation = both (is_up_to MAX_MOMENT row.creation) _ sound in
    let expiry = both (is_up_to MAX_MOMENT row.expiry) _ creation.1 in
    let access = both (is_up_to MAX_MOMENT row.access) _ expiry.1 in
    let secure = both (is_up_to 1 row.secure) _ access.1 in
    let http_only = both (is_up_to 1 row.http_only) _ secure.1 in
    let same_site = both (is_up_to 3 row.same_site) _ http_only.1 in
    record {
      creation = creation.0;
      expiry = expiry.0;
      access = access.0;
      secure = secure.0;
      http_only = http_only.0;
      same_site = same_site.0;
      priority = same_site.1;
    }

-- ---- numbers there and back

flag_back : (flag : Bool) → is_one (pos (number_of_flag flag)) ≡ flag
flag_back false = refl
flag_back true = refl

site_back : (site : SameSite) → site_of_number (number_of_site site) ≡ site
site_back Unspecified = refl
site_back NoLimit = refl
site_back Lax = refl
site_back Strict = refl

priority_back : (priority : Priority) → priority_of_number (number_of_priority priority) ≡ priority
priority_back Low = refl
priority_back Medium = refl
priority_back High = refl

number_back : (most : ℕ) (number : ℤ) → is_up_to most number ≡ true → pos (count_of number) ≡ number
number_back most (pos n) up_to = refl
number_back most (negsuc n) up_to = absurd (cc)

flag_kept : (number : ℤ) → is_up_to 1 number ≡ true → pos (number_of_flag (is_one number)) ≡ number
flag_kept (pos zero) up_to = refl
flag_kept (pos (suc zero)) up_to = refl
flag_kept (pos (suc (suc n))) up_to = let small = at_most (suc (suc n)) 1 up_to in absurd (omega arith)
flag_kept (negsuc n) up_to = absurd (cc)

site_kept : (number : ℤ) → is_up_to 3 number ≡ true → pos (number_of_site (site_of_number (count_of number))) ≡ number
site_kept (pos zero) up_to = refl
site_kept (pos (suc zero)) up_to = refl
site_kept (pos (suc (suc zero))) up_to = refl
site_kept (pos (suc (suc (suc zero)))) up_to = refl
site_kept (pos (suc (suc (suc (suc n))))) up_to = let small = at_most (suc (suc (suc (suc n)))) 3 up_to in absurd (omega arith)
site_kept (negsuc n) up_to = absurd (cc)

priority_kept : (number : ℤ) → is_up_to 2 number ≡ true → pos (number_of_priority (priority_of_number (count_of number))) ≡ number
priority_kept (pos zero) up_to = refl
priority_kept (pos (suc zero)) up_to = refl
priority_kept (pos (suc (suc zero))) up_to = refl
priority_kept (pos (suc (suc (suc n)))) up_to = let small = at_most (suc (suc (suc n))) 2 up_to in absurd (omega arith)
priority_kept (negsuc n) up_to = absurd (cc)

-- ---- rows there and back

-- a cookie that has a row has an expiry, which that row is until
until : (cookie : Cookie) (expiry : Option ℕ) (row : Row) → row_where cookie expiry ≡ Some row → (ms : ℕ) × (expiry ≡ Some ms) × (row_until cookie ms ≡ row)
until cookie None row is = absurd (cc)
until cookie (Some ms) row is = (ms, refl, cc is)

pub expiry_of_row : (cookie : Cookie) (row : Row) → row_of cookie ≡ Some row → (ms : ℕ) × (cookie.expiry ≡ Some ms) × (row_until cookie ms ≡ row)
expiry_of_row cookie row is = until cookie cookie.expiry row is

same_cookie : (cookie : Cookie) (key : List ℕ) (ms : ℕ) → cookie.expiry ≡ Some ms → cookie.key ≡ key → cookie_in key (row_until cookie ms) ≡ cookie
same_cookie cookie key ms expiry same =
    rw (flag_back cookie.secure, flag_back cookie.http_only, site_back cookie.same_site, priority_back cookie.priority, ← expiry, ← same) refl

where_sound : (sound : Bool) (cookie other : Cookie) → cond sound (Some cookie) None ≡ Some other → (sound ≡ true) × (cookie ≡ other)
where_sound true cookie other is = (refl, cc is)
where_sound false cookie other is = absurd (cc)

pub read_back : (rules : List SuffixRule) (cookie : Cookie) (row : Row) → row_of cookie ≡ Some row → is_sound_row row ≡ true
    → cookie.key ≡ key_of rules (undotted cookie.host) → cookie_of_row (key_of rules) row ≡ Some cookie
read_back rules cookie row has sound key =
    let (ms, expiry, is) = expiry_of_row cookie row has in
    let host : cookie.host ≡ row.host = ap (λ (r : Row). r.host) is in
    let own : cookie.key ≡ key_of rules (undotted row.host) = key ∙ ap (λ (h : List ℕ). key_of rules (undotted h)) host in
    rw sound (ap Some (ap (cookie_in (key_of rules (undotted row.host))) (sym is) ∙ same_cookie cookie (key_of rules (undotted row.host)) ms expiry own))

same_row : (key : List ℕ) (row : Row) → HasSoundNumbers row → row_of (cookie_in key row) ≡ Some row
same_row key row numbers =
    ap Some (rw (number_back MAX_MOMENT row.creation numbers.creation, number_back MAX_MOMENT row.expiry numbers.expiry, number_back MAX_MOMENT row.access numbers.access, flag_kept row.secure numbers.secure, flag_kept row.http_only numbers.http_only, site_kept row.same_site numbers.same_site, priority_kept row.priority numbers.priority) refl)

pub written_back : (rules : List SuffixRule) (row : Row) (cookie : Cookie) → cookie_of_row (key_of rules) row ≡ Some cookie → row_of cookie ≡ Some row
written_back rules row cookie is =
    let whole = where_sound (is_sound_row row) (cookie_in (key_of rules (undotted row.host)) row) cookie is in
    subst (λ (c : Cookie). row_of c ≡ Some row) whole.1 (same_row (key_of rules (undotted row.host)) row (each_number row (sound_numbers row whole.0)))
