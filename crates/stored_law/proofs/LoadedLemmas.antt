-- A load of what is stored of a key that isn't loaded keeps what is held beside a jar.
use Rattle.std.proofs.Common.{◌≡◌, ℕ, List, [], ◌∷◌, Bool, true, false, cond, refl, sym, ap, ◌∙◌, Option, None, Some}
use Rattle.std.specs.Prelude.{filter, not, ◌&&◌, bytes_eq, option_and_then}
use Rattle.std.specs.List.{cons_option}
use Rattle.std.specs.List.Sorted.{IsStrictlySortedBy}
use Rattle.std.specs.Option.{option_or}
use Rattle.std.proofs.lemmas.Bool.{and_left}
use Rattle.std.proofs.lemmas.List.Kept.{IsStrictlySortedBy-filter}
use Rattle.jar_types.specs.declared.cookie.Cookie.{Cookie}
use Rattle.jar_types.specs.declared.cookie.CookieId.{CookieId}
use Rattle.jar_types.specs.declared.row.Row.{Row}
use Rattle.jar_types.specs.Ids.{id_of, cookie_cmp, RisesById}
use Rattle.jar_types.specs.Journals.{Rules, key_at}
use Rattle.jar_types.specs.Loads.{KeyLoads, has_text, without_text, with_loaded}
use Rattle.jar_types.specs.Purges.{has_key}
use Rattle.jar_types.specs.RowChanges.{row_id, row_at, RowsRise}
use Rattle.jar_types.specs.Rows.{is_sound_row, cookie_in, cookie_of_row, row_of}
use Rattle.jar_types.specs.Sets.{with_cookie}
use Rattle.jar_types.specs.Steps.{loaded_among}
use Rattle.jar_types.specs.Stored.{cookies_of_rows, stored_cookies}
use Rattle.jar_types.proofs.FindLemmas.{find_passes}
use Rattle.jar_types.proofs.RisingLemmas.{loaded_rises}
use Rattle.stored_law.proofs.FoundLemmas.{all_weaker, or_none, kept_where}
use Rattle.stored_law.proofs.AtLemmas.{at, found, at_same, found_put, none_below}
use Rattle.stored_law.proofs.MadeLemmas.{found_filter}
use Rattle.stored_law.proofs.EachLemmas.{loaded_each}
use Rattle.stored_law.proofs.KeepLemmas.{IsOwn, own_over, AllOwn, none_found, stored_at, HoldsJust, Keeps}
use Rattle.stored_law.proofs.KeyLemmas.{loaded_unloaded}
use Rattle.stored_law.proofs.LoadLemmas.{found_cookie}
use Rattle.stored_law.proofs.HostLemmas.{cookies_rise}
use Rattle.stored_law.proofs.SoundLemmas.{row_again}
use Rattle.stored_law.proofs.StorableLemmas.{sound_storable}
use Rattle.stored_law.proofs.TextLemmas.{text_is, text_itself, text_turned, left_has}

-- ---- what is found among loaded cookies

among_at : (b : Bool) (c : Cookie) (newer before : Option Cookie) → (b ≡ true → newer ≡ None)
    → option_or newer (cond b (Some c) before) ≡ option_or (cond b (Some c) newer) before
among_at true c newer before alone = ap (λ o. option_or o (Some c)) (alone refl)
among_at false c newer before alone = refl

found_among : (i : CookieId) (loaded cookies : List Cookie) → RisesById loaded
    → found id_of i (loaded_among loaded cookies) ≡ option_or (found id_of i loaded) (found id_of i cookies)
unfolding IsStrictlySortedBy
found_among i [] cookies rises = refl
found_among i (c ∷ cs) cookies rises =
    found_among i cs (with_cookie c cookies) rises.1
    ∙ ap (option_or (found id_of i cs)) (found_put id_of i c cookies)
    ∙ among_at (at id_of i c) c (found id_of i cs) (found id_of i cookies) (λ has. none_below id_of i c cs has rises.0)

-- ---- the stored cookies of a key are own

own_made_at : (r : Rules) (key : List ℕ) (unloaded : List (List ℕ)) (row : Row) (sound is_key : Bool) (left : List Cookie) → is_sound_row row ≡ sound
    → bytes_eq (key_at r row.host) key ≡ is_key → has_text key unloaded ≡ false → AllOwn r unloaded (filter (has_key key) left)
    → AllOwn r unloaded (filter (has_key key) (cons_option (cond sound (Some (cookie_in (key_at r row.host) row)) None) left))
own_made_at r key unloaded row false is_key left is is' loaded rest = rest
own_made_at r key unloaded row true false left is is' loaded rest = rw is' rest
own_made_at r key unloaded row true true left is is' loaded rest =
    rw is' (
      record {
        key = refl;
        loaded = ap (λ k. has_text k unloaded) (text_is (key_at r row.host) key is') ∙ loaded;
        storable = sound_storable (key_at r row.host) row is;
      },
      rest,
    )

own_stored : (r : Rules) (key : List ℕ) (unloaded : List (List ℕ)) (rows : List Row) → has_text key unloaded ≡ false → AllOwn r unloaded (stored_cookies r rows key)
own_stored r key unloaded [] loaded = tt
own_stored r key unloaded (row ∷ rows) loaded =
    own_made_at r key unloaded row (is_sound_row row) (bytes_eq (key_at r row.host) key) (cookies_of_rows r rows) refl refl loaded (own_stored r key unloaded rows loaded)

-- ---- what is found of an id that has the key, or another one

stored_found : (r : Rules) (rows : List Row) (key : List ℕ) (i : CookieId) → RowsRise rows
    → found id_of i (stored_cookies r rows key) ≡ kept_where (has_key key) (option_and_then (cookie_of_row r.key_of) (found row_id i rows))
stored_found r rows key i rises =
    found_filter id_of i (has_key key) (cookies_of_rows r rows) (cookies_rise r rows rises)
    ∙ ap (kept_where (has_key key)) (found_cookie r rows i rises)

-- its row is the sound row of the id
own_key_at : (r : Rules) (key : List ℕ) (row : Row) (sound : Bool) → is_sound_row row ≡ sound → bytes_eq (key_at r row.host) key ≡ true
    → option_and_then row_of (kept_where (has_key key) (cond sound (Some (cookie_in (key_at r row.host) row)) None)) ≡ cond sound (Some row) None
own_key_at r key row false is own = refl
own_key_at r key row true is own =
    ap (λ b. option_and_then row_of (cond b (Some (cookie_in (key_at r row.host) row)) None)) own ∙ row_again (key_at r row.host) row is

own_key : (r : Rules) (rows : List Row) (key : List ℕ) (i : CookieId) (o : Option Row) → found row_id i rows ≡ o → bytes_eq key (key_at r i.host) ≡ true
    → option_and_then row_of (kept_where (has_key key) (option_and_then (cookie_of_row r.key_of) o)) ≡ kept_where is_sound_row o
own_key r rows key i None is own = refl
own_key r rows key i (Some row) is own =
    own_key_at r key row (is_sound_row row) refl (
    text_turned (key_at r row.host) key
    ∙ ap (λ j. bytes_eq key (key_at r j.host)) (sym (at_same row_id i row (find_passes (at row_id i) rows row is)))
    ∙ own
    )

other_key_at : (r : Rules) (key : List ℕ) (row : Row) (sound : Bool) → bytes_eq (key_at r row.host) key ≡ false
    → kept_where (has_key key) (cond sound (Some (cookie_in (key_at r row.host) row)) None) ≡ None
other_key_at r key row false other = refl
other_key_at r key row true other = ap (λ b. cond b (Some (cookie_in (key_at r row.host) row)) None) other

other_key : (r : Rules) (rows : List Row) (key : List ℕ) (i : CookieId) (o : Option Row) → found row_id i rows ≡ o → bytes_eq key (key_at r i.host) ≡ false
    → kept_where (has_key key) (option_and_then (cookie_of_row r.key_of) o) ≡ None
other_key r rows key i None is other = refl
other_key r rows key i (Some row) is other =
    other_key_at r key row (is_sound_row row) (
    text_turned (key_at r row.host) key
    ∙ ap (λ j. bytes_eq key (key_at r j.host)) (sym (at_same row_id i row (find_passes (at row_id i) rows row is)))
    ∙ other
    )

-- ---- the load

without_has : (key other : List ℕ) (unloaded : List (List ℕ)) → has_text other (without_text key unloaded) ≡ (has_text other unloaded && not (bytes_eq key other))
without_has key other unloaded = left_has (λ t. not (bytes_eq key t)) other unloaded

and_true : (a : Bool) → (a && true) ≡ a
and_true true = refl
and_true false = refl

and_false : (a : Bool) → (a && false) ≡ false
and_false true = refl
and_false false = refl

loaded_at : (r : Rules) (rows held : List Row) (unloaded : List (List ℕ)) (cookies : List Cookie) (key : List ℕ) (i : CookieId) (same : Bool)
    → RowsRise rows → AllOwn r unloaded cookies → has_text key unloaded ≡ true → bytes_eq key (key_at r i.host) ≡ same
    → kept_where is_sound_row (found row_id i held) ≡ stored_at r rows unloaded cookies i
    → kept_where is_sound_row (found row_id i held)
    ≡ cond (not (has_text (key_at r i.host) unloaded && not same)) (option_and_then row_of (option_or (kept_where (has_key key) (option_and_then (cookie_of_row r.key_of) (found row_id i rows))) (found id_of i cookies)))
    (kept_where is_sound_row (found row_id i rows))
loaded_at r rows held unloaded cookies key i true rises own there is e =
    let o = found row_id i rows in
    let of_key = kept_where (has_key key) (option_and_then (cookie_of_row r.key_of) o) in
    let there' : has_text (key_at r i.host) unloaded ≡ true = ap (λ k. has_text k unloaded) (sym (text_is key (key_at r i.host) is)) ∙ there in
    e
    ∙ ap (λ b. cond (not b) (row_at i cookies) (kept_where is_sound_row o)) there'
    ∙ sym (
    ap (λ b. cond (not b) (option_and_then row_of (option_or of_key (found id_of i cookies))) (kept_where is_sound_row o)) (and_false (has_text (key_at r i.host) unloaded))
    ∙ ap (λ p. option_and_then row_of (option_or of_key p)) (none_found r unloaded cookies i own there')
    ∙ ap (option_and_then row_of) (or_none of_key)
    ∙ own_key r rows key i o refl is
    )
loaded_at r rows held unloaded cookies key i false rises own there is e =
    let o = found row_id i rows in
    e
    ∙ sym (
    ap (λ b. cond (not b) (option_and_then row_of (option_or (kept_where (has_key key) (option_and_then (cookie_of_row r.key_of) o)) (found id_of i cookies))) (kept_where is_sound_row o)) (and_true (has_text (key_at r i.host) unloaded))
    ∙ ap (λ p. cond (not (has_text (key_at r i.host) unloaded)) (option_and_then row_of (option_or p (found id_of i cookies))) (kept_where is_sound_row o)) (other_key r rows key i o refl is)
    )

loaded_just : (r : Rules) (rows held : List Row) (unloaded : List (List ℕ)) (cookies : List Cookie) (key : List ℕ) → RowsRise rows → AllOwn r unloaded cookies
    → has_text key unloaded ≡ true → HoldsJust r rows held unloaded cookies
    → HoldsJust r rows held (without_text key unloaded) (loaded_among (stored_cookies r rows key) cookies)
loaded_just r rows held unloaded cookies key rises own there just i =
    let stored = stored_cookies r rows key in
    let rises' : RisesById stored = IsStrictlySortedBy-filter cookie_cmp (has_key key) (cookies_of_rows r rows) (cookies_rise r rows rises) in
    let sound = kept_where is_sound_row (found row_id i rows) in
    loaded_at r rows held unloaded cookies key i (bytes_eq key (key_at r i.host)) rises own there refl (just i)
    ∙ sym (
    ap (λ b. cond (not b) (row_at i (loaded_among stored cookies)) sound) (without_has key (key_at r i.host) unloaded)
    ∙ ap (λ o. cond (not (has_text (key_at r i.host) unloaded && not (bytes_eq key (key_at r i.host)))) (option_and_then row_of o) sound)
    (found_among i stored cookies rises' ∙ ap (λ o. option_or o (found id_of i cookies)) (stored_found r rows key i rises))
    )

-- the key is loaded, and others as before
still_own : (r : Rules) (key : List ℕ) (unloaded : List (List ℕ)) (cookies : List Cookie) → AllOwn r unloaded cookies → AllOwn r (without_text key unloaded) cookies
still_own r key unloaded cookies own =
    all_weaker (IsOwn r unloaded) (IsOwn r (without_text key unloaded)) (
    λ c is.
    record {
      key = is.key;
      loaded = without_has key c.key unloaded ∙ and_left (has_text c.key unloaded) (not (bytes_eq key c.key)) is.loaded;
      storable = is.storable;
    }
    ) cookies own

now_loaded : (key : List ℕ) (unloaded : List (List ℕ)) → has_text key (without_text key unloaded) ≡ false
now_loaded key unloaded = without_has key key unloaded ∙ ap (λ b. has_text key unloaded && not b) (text_itself key) ∙ and_false (has_text key unloaded)

pub loaded_keeps : (r : Rules) (rows held : List Row) (cookies : List Cookie) (l : KeyLoads) (key : List ℕ) → RowsRise rows → has_text key l.unloaded ≡ true
    → Keeps r rows held cookies l → Keeps r rows held (loaded_among (stored_cookies r rows key) cookies) (with_loaded key l)
loaded_keeps r rows held cookies l key rises there k =
    let left = without_text key l.unloaded in
    record {
      rises = k.rises;
      ids = loaded_rises (stored_cookies r rows key) cookies k.ids;
      own =
          loaded_each (IsOwn r left) (λ old c was is. own_over r left old c was is) (stored_cookies r rows key) cookies
          (own_stored r key left rows (now_loaded key l.unloaded))
          (still_own r key l.unloaded cookies k.own);
      keys = loaded_unloaded key l k.keys;
      just = loaded_just r rows held l.unloaded cookies key rises k.own there k.just;
    }
