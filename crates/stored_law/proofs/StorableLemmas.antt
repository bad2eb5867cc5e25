-- What can be stored still can where its creation or its access is another moment; and a sound row's cookie can be stored.
use Rattle.std.proofs.Common.{◌≡◌, ℕ, ◌≤◌, Bool, true, false, cond, refl, ap, ◌∙◌, Option, None, Some}
use Rattle.std.specs.Prelude.{◌&&◌, nat_le, option_to_list, ℤ, pos, List, negsuc}
use Rattle.std.specs.List.{list_all}
use Rattle.std.proofs.lemmas.Bool.{and_parts, leb-true, le-leb}
use Rattle.jar_values.specs.declared.moment.TheConstants.{MAX_MOMENT}
use Rattle.jar_types.specs.declared.cookie.Cookie.{Cookie}
use Rattle.jar_types.specs.declared.row.Row.{Row}
use Rattle.jar_types.specs.Rows.{is_up_to, count_of, is_sound_row, has_sound_host, has_sound_texts, has_sound_pair, has_sound_numbers, has_sound_site, has_sound_prefix, row_until, row_where, cookie_in}
use Rattle.stored_law.specs.Keeping.{IsStorable}
use Rattle.stored_law.proofs.FoundLemmas.{kept_where}
use Rattle.stored_law.proofs.SoundLemmas.{row_again, sound_numbers}

-- ---- another creation, another access

sound_again : (h t p n n' rest : Bool) → (n ≡ true → n' ≡ true) → ((h && (t && (p && (n && rest)))) && true) ≡ true
    → ((h && (t && (p && (n' && rest)))) && true) ≡ true
sound_again false t p n n' rest on e = absurd cc
sound_again true false p n n' rest on e = absurd cc
sound_again true true false n n' rest on e = absurd cc
sound_again true true true false n' rest on e = absurd cc
sound_again true true true true n' rest on e = ap (λ b. (b && rest) && true) (on refl) ∙ e

created_again : (c c' rest : Bool) → c' ≡ true → (c && rest) ≡ true → (c' && rest) ≡ true
created_again c c' rest is e = ap (λ b. b && rest) is ∙ (and_parts c rest e).1

accessed_again : (c x a a' rest : Bool) → a' ≡ true → (c && (x && (a && rest))) ≡ true → (c && (x && (a' && rest))) ≡ true
accessed_again false x a a' rest is e = absurd cc
accessed_again true false a a' rest is e = absurd cc
accessed_again true true a a' rest is e = ap (λ b. b && rest) is ∙ (and_parts a rest e).1

created_row : (c : Cookie) (creation : ℕ) (expiry : Option ℕ) → creation ≤ MAX_MOMENT → list_all is_sound_row (option_to_list (row_where c expiry)) ≡ true
    → list_all is_sound_row (option_to_list (row_where (record c { creation = creation }) expiry)) ≡ true
created_row c creation None most e = refl
created_row c creation (Some expiry) most e =
    let row = row_until c expiry in
    sound_again (has_sound_host row) (has_sound_texts row) (has_sound_pair row) (has_sound_numbers row) _ (has_sound_site row && has_sound_prefix row) (λ sound. created_again (is_up_to MAX_MOMENT row.creation) (nat_le creation MAX_MOMENT) _ (le-leb creation MAX_MOMENT most) sound) e

accessed_row : (c : Cookie) (access : ℕ) (expiry : Option ℕ) → access ≤ MAX_MOMENT → list_all is_sound_row (option_to_list (row_where c expiry)) ≡ true
    → list_all is_sound_row (option_to_list (row_where (record c { access = access }) expiry)) ≡ true
accessed_row c access None most e = refl
accessed_row c access (Some expiry) most e =
    let row = row_until c expiry in
    sound_again (has_sound_host row) (has_sound_texts row) (has_sound_pair row) (has_sound_numbers row) _ (has_sound_site row && has_sound_prefix row) (
    λ sound.
    accessed_again (is_up_to MAX_MOMENT row.creation) (is_up_to MAX_MOMENT row.expiry) (is_up_to MAX_MOMENT row.access) (nat_le access MAX_MOMENT) _ (le-leb access MAX_MOMENT most) sound
    ) e

pub storable_over : (old c : Cookie) → IsStorable old → IsStorable c → IsStorable (record c { creation = old.creation })
storable_over old c was is = record { row = created_row c old.creation c.expiry was.creation is.row; creation = was.creation }

pub storable_at : (now : ℕ) (c : Cookie) → now ≤ MAX_MOMENT → IsStorable c → IsStorable (record c { access = now })
storable_at now c most is = record { row = accessed_row c now c.expiry most is.row; creation = is.creation }

-- ---- the cookie of a sound row

pub sound_storable : (key : List ℕ) (row : Row) → is_sound_row row ≡ true → IsStorable (cookie_in key row)
sound_storable key row sound = record {
  row = ap (λ o. list_all is_sound_row (option_to_list o)) (row_again key row sound) ∙ ap (λ b. b && true) sound;
  creation = created row.creation (and_parts (is_up_to MAX_MOMENT row.creation) _ (sound_numbers row sound)).0;
}
  where
    created : (z : ℤ) → is_up_to MAX_MOMENT z ≡ true → count_of z ≤ MAX_MOMENT
    created (pos n) e = leb-true n MAX_MOMENT e
    created (negsuc n) e = absurd cc

-- ---- a row that is sound is kept

pub sound_kept : (o : Option Row) → list_all is_sound_row (option_to_list o) ≡ true → kept_where is_sound_row o ≡ o
sound_kept None e = refl
sound_kept (Some row) e = ap (λ b. cond b (Some row) None) (and_parts (is_sound_row row) true e).0
