-- What is held beside a jar: of each id its row in the jar where its key is loaded, else its sound row among those that the
-- jar was opened over; each event keeps that.
use Rattle.std.proofs.Common.{◌≡◌, ℕ, ◌≤◌, List, Bool, true, false, cond, refl, sym, ap, ◌∙◌, Option, None, Some}
use Rattle.std.specs.Prelude.{not, option_and_then}
use Rattle.std.specs.List.{AllByRecursion}
use Rattle.jar_values.specs.declared.moment.TheConstants.{MAX_MOMENT}
use Rattle.jar_types.specs.declared.cookie.Cookie.{Cookie}
use Rattle.jar_types.specs.declared.cookie.CookieId.{CookieId}
use Rattle.jar_types.specs.declared.row.Row.{Row}
use Rattle.jar_types.specs.Ids.{id_of, RisesById}
use Rattle.jar_types.specs.Journals.{Rules, key_at}
use Rattle.jar_types.specs.Loads.{KeyLoads, has_text}
use Rattle.jar_types.specs.RowChanges.{row_id, row_at, same_rows, row_changes, changed_rows, RowsRise}
use Rattle.jar_types.specs.Rows.{is_sound_row, row_of}
use Rattle.stored_law.specs.Keeping.{IsStorable}
use Rattle.stored_law.proofs.FoundLemmas.{find_none, all_weaker, kept_where}
use Rattle.stored_law.proofs.AtLemmas.{at, found, at_same}
use Rattle.stored_law.proofs.ChangeLemmas.{changed_rows_rise}
use Rattle.stored_law.proofs.RowLemmas.{same_rows_is, found_row}
use Rattle.stored_law.proofs.EachLemmas.{found_has}
use Rattle.stored_law.proofs.KeyLemmas.{AreUnloaded}
use Rattle.stored_law.proofs.StorableLemmas.{storable_over, storable_at, sound_kept}

-- ---- the cookies of a jar

-- the cookie has the key of its host, which is loaded, and can be stored
pub record IsOwn (r : Rules) (unloaded : List (List ℕ)) (c : Cookie) : Type 0 where
  pub key : c.key ≡ key_at r c.host
  pub loaded : has_text c.key unloaded ≡ false
  pub storable : IsStorable c

pub own_over : (r : Rules) (unloaded : List (List ℕ)) (old c : Cookie) → IsOwn r unloaded old → IsOwn r unloaded c
    → IsOwn r unloaded (record c { creation = old.creation })
own_over r unloaded old c was is = record { key = is.key; loaded = is.loaded; storable = storable_over old c was.storable is.storable }

pub own_at : (r : Rules) (unloaded : List (List ℕ)) (now : ℕ) (c : Cookie) → now ≤ MAX_MOMENT → IsOwn r unloaded c
    → IsOwn r unloaded (record c { access = now })
own_at r unloaded now c most is = record { key = is.key; loaded = is.loaded; storable = storable_at now c most is.storable }

abbrev pub AllOwn : Rules → List (List ℕ) → List Cookie → Type 0
AllOwn r unloaded cookies = AllByRecursion (IsOwn r unloaded) cookies

-- the jar has no cookie of a key that isn't loaded
pub none_found : (r : Rules) (unloaded : List (List ℕ)) (cookies : List Cookie) (i : CookieId) → AllOwn r unloaded cookies
    → has_text (key_at r i.host) unloaded ≡ true → found id_of i cookies ≡ None
none_found r unloaded cookies i own there =
    find_none (at id_of i) cookies (all_weaker (IsOwn r unloaded) (λ c. at id_of i c ≡ false) (λ c is. other c is (at id_of i c) refl) cookies own)
  where
    other : (c : Cookie) → IsOwn r unloaded c → (b : Bool) → at id_of i c ≡ b → at id_of i c ≡ false
    other c is false e = e
    other c is true e =
        let no : true ≡ false =
        sym there ∙ ap (λ j. has_text (key_at r j.host) unloaded) (at_same id_of i c e) ∙ ap (λ k. has_text k unloaded) (sym is.key) ∙ is.loaded in
        absurd cc

pub none_at : (r : Rules) (unloaded : List (List ℕ)) (cookies : List Cookie) (i : CookieId) → AllOwn r unloaded cookies
    → has_text (key_at r i.host) unloaded ≡ true → row_at i cookies ≡ None
none_at r unloaded cookies i own there = ap (option_and_then row_of) (none_found r unloaded cookies i own there)

own_row_at : (r : Rules) (unloaded : List (List ℕ)) (cookies : List Cookie) (i : CookieId) (o : Option Cookie) → AllOwn r unloaded cookies
    → found id_of i cookies ≡ o → kept_where is_sound_row (option_and_then row_of o) ≡ option_and_then row_of o
own_row_at r unloaded cookies i None own e = refl
own_row_at r unloaded cookies i (Some c) own e =
    let is : IsOwn r unloaded c = found_has (IsOwn r unloaded) (at id_of i) cookies c own e in
    sound_kept (row_of c) is.storable.row

-- their rows are sound
own_row : (r : Rules) (unloaded : List (List ℕ)) (cookies : List Cookie) (i : CookieId) → AllOwn r unloaded cookies
    → kept_where is_sound_row (row_at i cookies) ≡ row_at i cookies
own_row r unloaded cookies i own = own_row_at r unloaded cookies i (found id_of i cookies) own refl

-- ---- what is held

-- what is to be held of an id
abbrev pub stored_at : Rules → List Row → List (List ℕ) → List Cookie → CookieId → Option Row
stored_at r rows unloaded cookies i =
    cond (not (has_text (key_at r i.host) unloaded)) (row_at i cookies) (kept_where is_sound_row (found row_id i rows))

abbrev pub HoldsJust : Rules → List Row → List Row → List (List ℕ) → List Cookie → Type 0
HoldsJust r rows held unloaded cookies =
    (i : CookieId) → kept_where is_sound_row (found row_id i held) ≡ stored_at r rows unloaded cookies i

pub record Keeps (r : Rules) (rows held : List Row) (cookies : List Cookie) (l : KeyLoads) : Type 0 where
  pub rises : RowsRise held
  pub ids : RisesById cookies
  pub own : AllOwn r l.unloaded cookies
  pub keys : AreUnloaded l
  pub just : HoldsJust r rows held l.unloaded cookies

changed_at : (b same : Bool) (h before later o : Option Row) → same_rows before later ≡ same → (b ≡ true → (before ≡ None) × (later ≡ None))
    → kept_where is_sound_row later ≡ later → kept_where is_sound_row h ≡ cond (not b) before o
    → kept_where is_sound_row (cond same h later) ≡ cond (not b) later o
changed_at false true h before later o is none sound e = e ∙ same_rows_is before later is
changed_at false false h before later o is none sound e = sound
changed_at true true h before later o is none sound e = e
changed_at true false h before later o is none sound e =
    let no : true ≡ false = sym (ap (λ p. same_rows p later) (none refl).0 ∙ ap (same_rows None) (none refl).1) ∙ is in absurd cc

-- the changes between two lists of own cookies keep it so
pub changed_just : (r : Rules) (rows held : List Row) (unloaded : List (List ℕ)) (before later : List Cookie) → AllOwn r unloaded before → AllOwn r unloaded later
    → HoldsJust r rows held unloaded before → HoldsJust r rows (changed_rows held (row_changes before later)) unloaded later
changed_just r rows held unloaded before later own own' just i =
    let b = has_text (key_at r i.host) unloaded in
    ap (kept_where is_sound_row) (found_row i held before later)
    ∙ changed_at b (same_rows (row_at i before) (row_at i later)) (found row_id i held) (row_at i before) (row_at i later) (kept_where is_sound_row (found row_id i rows)) refl
    (λ there. (none_at r unloaded before i own there, none_at r unloaded later i own' there))
    (own_row r unloaded later i own')
    (just i)

pub changed_keeps : (r : Rules) (rows held : List Row) (later cookies : List Cookie) (l : KeyLoads) → Keeps r rows held cookies l → RisesById later
    → AllOwn r l.unloaded later → Keeps r rows (changed_rows held (row_changes cookies later)) later l
changed_keeps r rows held later cookies l k ids own = record {
  rises = changed_rows_rise held (row_changes cookies later) k.rises;
  ids = ids;
  own = own;
  keys = k.keys;
  just = changed_just r rows held l.unloaded cookies later k.own own k.just;
}

-- other wants, and another load that has begun
pub rekeyed : (r : Rules) (rows held : List Row) (cookies : List Cookie) (l l' : KeyLoads) → Keeps r rows held cookies l → l'.unloaded ≡ l.unloaded → AreUnloaded l'
    → Keeps r rows held cookies l'
rekeyed r rows held cookies l l' k same keys = record {
  rises = k.rises;
  ids = k.ids;
  own = rw same k.own;
  keys = keys;
  just = rw same k.just;
}
