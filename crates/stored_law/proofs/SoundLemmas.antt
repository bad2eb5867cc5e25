-- A sound row is the row of the cookie that it stands for.
use Rattle.std.proofs.Common.{◌≡◌, ℕ, suc, zero, Bool, true, false, cond, Some, None, refl, sym, ap, ◌∙◌, arith}
use Rattle.std.specs.Prelude.{ℤ, pos, negsuc, ◌&&◌, List}
use Rattle.std.proofs.lemmas.Bool.{and_parts, leb-true}
use Rattle.jar_values.specs.declared.moment.TheConstants.{MAX_MOMENT}
use Rattle.jar_types.specs.declared.cookie.Cookie.{Cookie}
use Rattle.jar_types.specs.declared.row.Row.{Row}
use Rattle.jar_types.specs.Ids.{id_of}
use Rattle.jar_types.specs.RowChanges.{row_id}
use Rattle.jar_types.specs.Rows.{is_up_to, count_of, is_one, is_sound_row, has_sound_host, has_sound_texts, has_sound_pair, has_sound_numbers, has_sound_site, has_sound_prefix, number_of_flag, number_of_site, number_of_priority, site_of_number, priority_of_number, cookie_in, cookie_of_row, row_of}
use Rattle.jar_values.specs.Hosts.{undotted}

-- ---- the numbers of a sound row

up_to_again : (most : ℕ) (z : ℤ) → is_up_to most z ≡ true → pos (count_of z) ≡ z
up_to_again most (pos n) e = refl
up_to_again most (negsuc n) e = absurd cc

flag_at : (n : ℕ) → is_up_to 1 (pos n) ≡ true → number_of_flag (is_one (pos n)) ≡ n
flag_at zero e = refl
flag_at (suc zero) e = refl
flag_at (suc (suc n)) e = let most = leb-true (suc (suc n)) 1 e in absurd (omega arith)

flag_again : (z : ℤ) → is_up_to 1 z ≡ true → pos (number_of_flag (is_one z)) ≡ z
flag_again (pos n) e = ap pos (flag_at n e)
flag_again (negsuc n) e = absurd cc

site_at : (n : ℕ) → is_up_to 3 (pos n) ≡ true → number_of_site (site_of_number n) ≡ n
site_at zero e = refl
site_at (suc zero) e = refl
site_at (suc (suc zero)) e = refl
site_at (suc (suc (suc zero))) e = refl
site_at (suc (suc (suc (suc n)))) e = let most = leb-true (suc (suc (suc (suc n)))) 3 e in absurd (omega arith)

site_again : (z : ℤ) → is_up_to 3 z ≡ true → pos (number_of_site (site_of_number (count_of z))) ≡ z
site_again (pos n) e = ap pos (site_at n e)
site_again (negsuc n) e = absurd cc

priority_at : (n : ℕ) → is_up_to 2 (pos n) ≡ true → number_of_priority (priority_of_number n) ≡ n
priority_at zero e = refl
priority_at (suc zero) e = refl
priority_at (suc (suc zero)) e = refl
priority_at (suc (suc (suc n))) e = let most = leb-true (suc (suc (suc n))) 2 e in absurd (omega arith)

priority_again : (z : ℤ) → is_up_to 2 z ≡ true → pos (number_of_priority (priority_of_number (count_of z))) ≡ z
priority_again (pos n) e = ap pos (priority_at n e)
priority_again (negsuc n) e = absurd cc

-- the numbers of a sound row are sound
pub sound_numbers : (row : Row) → is_sound_row row ≡ true → has_sound_numbers row ≡ true
sound_numbers row e =
    let texts = (and_parts (has_sound_host row) (has_sound_texts row && (has_sound_pair row && (has_sound_numbers row && (has_sound_site row && has_sound_prefix row)))) e).1 in
    let pair = (and_parts (has_sound_texts row) (has_sound_pair row && (has_sound_numbers row && (has_sound_site row && has_sound_prefix row))) texts).1 in
    let numbers = (and_parts (has_sound_pair row) (has_sound_numbers row && (has_sound_site row && has_sound_prefix row)) pair).1 in
    (and_parts (has_sound_numbers row) (has_sound_site row && has_sound_prefix row) numbers).0

abbrev row_with : Row → ℤ → ℤ → ℤ → ℤ → ℤ → ℤ → ℤ → Row
row_with row creation expiry access secure http_only same_site priority = record row {
  creation = creation;
  expiry = expiry;
  access = access;
  secure = secure;
  http_only = http_only;
  same_site = same_site;
  priority = priority;
}

numbers_again : (key : List ℕ) (row : Row) → has_sound_numbers row ≡ true → row_of (cookie_in key row) ≡ Some row
numbers_again key row e =
    let p0 = and_parts (is_up_to MAX_MOMENT row.creation) (is_up_to MAX_MOMENT row.expiry && (is_up_to MAX_MOMENT row.access && (is_up_to 1 row.secure && (is_up_to 1 row.http_only && (is_up_to 3 row.same_site && is_up_to 2 row.priority))))) e in
    let p1 = and_parts (is_up_to MAX_MOMENT row.expiry) (is_up_to MAX_MOMENT row.access && (is_up_to 1 row.secure && (is_up_to 1 row.http_only && (is_up_to 3 row.same_site && is_up_to 2 row.priority)))) p0.1 in
    let p2 = and_parts (is_up_to MAX_MOMENT row.access) (is_up_to 1 row.secure && (is_up_to 1 row.http_only && (is_up_to 3 row.same_site && is_up_to 2 row.priority))) p1.1 in
    let p3 = and_parts (is_up_to 1 row.secure) (is_up_to 1 row.http_only && (is_up_to 3 row.same_site && is_up_to 2 row.priority)) p2.1 in
    let p4 = and_parts (is_up_to 1 row.http_only) (is_up_to 3 row.same_site && is_up_to 2 row.priority) p3.1 in
    let p5 = and_parts (is_up_to 3 row.same_site) (is_up_to 2 row.priority) p4.1 in
    let c = pos (count_of row.creation) in
    let x = pos (count_of row.expiry) in
    let a = pos (count_of row.access) in
    let s = pos (number_of_flag (is_one row.secure)) in
    let h = pos (number_of_flag (is_one row.http_only)) in
    let m = pos (number_of_site (site_of_number (count_of row.same_site))) in
    let p = pos (number_of_priority (priority_of_number (count_of row.priority))) in
    ap Some (
    ap (λ z. row_with row z x a s h m p) (up_to_again MAX_MOMENT row.creation p0.0)
    ∙ ap (λ z. row_with row row.creation z a s h m p) (up_to_again MAX_MOMENT row.expiry p1.0)
    ∙ ap (λ z. row_with row row.creation row.expiry z s h m p) (up_to_again MAX_MOMENT row.access p2.0)
    ∙ ap (λ z. row_with row row.creation row.expiry row.access z h m p) (flag_again row.secure p3.0)
    ∙ ap (λ z. row_with row row.creation row.expiry row.access row.secure z m p) (flag_again row.http_only p4.0)
    ∙ ap (λ z. row_with row row.creation row.expiry row.access row.secure row.http_only z p) (site_again row.same_site p5.0)
    ∙ ap (λ z. row_with row row.creation row.expiry row.access row.secure row.http_only row.same_site z) (priority_again row.priority p5.1)
    )

-- a sound row is that of the cookie that it stands for
pub row_again : (key : List ℕ) (row : Row) → is_sound_row row ≡ true → row_of (cookie_in key row) ≡ Some row
row_again key row e = numbers_again key row (sound_numbers row e)

-- ---- the cookie of a row

cookie_id_at : (b : Bool) (key : List ℕ) (row : Row) (c : Cookie) → cond b (Some (cookie_in key row)) None ≡ Some c → id_of c ≡ row_id row
cookie_id_at true key row c e = let is : cookie_in key row ≡ c = cc in ap id_of (sym is)
cookie_id_at false key row c e = absurd cc

-- it has the id of the row
pub cookie_id : (key_of : List ℕ → List ℕ) (row : Row) (c : Cookie) → cookie_of_row key_of row ≡ Some c → id_of c ≡ row_id row
cookie_id key_of row c e = cookie_id_at (is_sound_row row) (key_of (undotted row.host)) row c e
