-- What is stored after a journal: what is held beside the jar, by the changes of rows that all its events made.
use Rattle.std.proofs.Common.{◌≡◌, ℕ, List, [], ◌∷◌, ◌++◌, Bool, true, false, cond, refl, sym, ap, ◌∙◌, Option, None, Some}
use Rattle.std.specs.Prelude.{filter, filter_map, fold, map, not, ◌&&◌, ◌||◌, bytes_eq}
use Rattle.std.specs.List.{AllByRecursion}
use Rattle.std.specs.Option.{option_or}
use Rattle.std.proofs.lemmas.Bool.{and_parts}
use Rattle.std.proofs.lemmas.List.Kept.{IsStrictlySortedBy-filter}
use Rattle.jar_types.specs.declared.cookie.Cookie.{Cookie}
use Rattle.jar_types.specs.declared.cookie.CookieId.{CookieId}
use Rattle.jar_types.specs.declared.entry.Entry.{Entry}
use Rattle.jar_types.specs.declared.entry.Entry.TheVariants.{Call, Jar}
use Rattle.jar_types.specs.declared.entry.Event.{Event}
use Rattle.jar_types.specs.declared.entry.Event.TheVariants.{Call as CallEvent, Jar as JarEvent}
use Rattle.jar_types.specs.declared.row.Row.{Row}
use Rattle.jar_types.specs.declared.row.RowChange.{RowChange}
use Rattle.jar_types.specs.Batches.{may_commit}
use Rattle.jar_types.specs.Ids.{id_of, RisesById}
use Rattle.jar_types.specs.Journals.{Rules, key_at, stored_keys, events, stands, all_stand, own_fits, state_of}
use Rattle.jar_types.specs.Loads.{has_text, may_load}
use Rattle.jar_types.specs.RowChanges.{row_id, row_cmp, row_at, rows_after, changed_rows, RowsRise}
use Rattle.jar_types.specs.Rows.{is_sound_row, row_of}
use Rattle.jar_types.specs.States.{JarState, opening}
use Rattle.jar_types.specs.Steps.{after, own_may_stand, rows_at, entry_of, event_of}
use Rattle.jar_types.specs.Stored.{hosts_of, sound_rows, EntryIsHonest, is_left_stored, rows_beside}
use Rattle.jar_types.proofs.FindLemmas.{find_passes}
use Rattle.jar_types.proofs.RisingLemmas.{none_rise}
use Rattle.stored_law.specs.Keeping.{AllStorable, changes_from, row_changes_of, RowChangesGoOn, ChangesAreStored}
use Rattle.stored_law.proofs.FoundLemmas.{find_append, all_filter, kept_where}
use Rattle.stored_law.proofs.AtLemmas.{at, found, at_same, same_lists}
use Rattle.stored_law.proofs.MadeLemmas.{found_filter, found_made, made_rises}
use Rattle.stored_law.proofs.PlacedLemmas.{Apart, found_ordered, ordered_rises, apart_joined, apart_from}
use Rattle.stored_law.proofs.RowLemmas.{row_of_id}
use Rattle.stored_law.proofs.EventLemmas.{call_keeps, own_keeps}
use Rattle.stored_law.proofs.KeepLemmas.{none_at, Keeps}
use Rattle.stored_law.proofs.LoadLemmas.{host_there}
use Rattle.stored_law.proofs.TextLemmas.{text_is, text_itself, ascending_has, or_true}

-- ---- the changes of a longer journal

changes_joined : (s : JarState) (vs us : List Event) → changes_from s (vs ++ us) ≡ changes_from s vs ++ changes_from (fold after s vs) us
changes_joined s [] us = refl
changes_joined s (v ∷ vs) us =
    ap (λ cs. rows_at s v ++ cs) (changes_joined (after s v) vs us) ∙ joined (rows_at s v) (changes_from (after s v) vs) (changes_from (fold after s (v ∷ vs)) us)
  where
    joined : (xs ys zs : List RowChange) → xs ++ (ys ++ zs) ≡ (xs ++ ys) ++ zs
    joined [] ys zs = refl
    joined (x ∷ xs) ys zs = ap (λ cs. x ∷ cs) (joined xs ys zs)

events_joined : (journal more : List Entry) → events (journal ++ more) ≡ events journal ++ events more
events_joined [] more = refl
events_joined (e ∷ es) more = ap (λ vs. event_of e ∷ vs) (events_joined es more)

event_again : (s : JarState) (v : Event) → event_of (entry_of s v) ≡ v
event_again s (CallEvent caller now op) = refl
event_again s (JarEvent own) = refl

nothing_more : (cs : List RowChange) → cs ++ [] ≡ cs
nothing_more [] = refl
nothing_more (c ∷ cs) = ap (λ ds. c ∷ ds) (nothing_more cs)

pub row_changes_go_on : RowChangesGoOn
unfolding state_of
row_changes_go_on r journal v =
    let start = opening (stored_keys r) in
    let s = fold after start (events journal) in
    ap (changes_from start) (events_joined journal (entry_of s v ∷ []))
    ∙ changes_joined start (events journal) (event_of (entry_of s v) ∷ [])
    ∙ ap (λ u. changes_from start (events journal) ++ changes_from s (u ∷ [])) (event_again s v)
    ∙ ap (λ cs. changes_from start (events journal) ++ cs) (nothing_more (rows_at s v))

changed_joined : (rows : List Row) (cs ds : List RowChange) → changed_rows rows (cs ++ ds) ≡ changed_rows (changed_rows rows cs) ds
changed_joined rows [] ds = refl
changed_joined rows (c ∷ cs) ds = changed_joined (rows_after rows c) cs ds

-- ---- what is held after all events

keeps_on : (r : Rules) (rows held : List Row) (s : JarState) (journal : List Entry) → RowsRise rows → Keeps r rows held s.cookies s.loads.keys
    → all_stand r s (events journal) ≡ true → AllByRecursion (EntryIsHonest r rows) journal → AllStorable journal
    → Keeps r rows (changed_rows held (changes_from s (events journal))) (fold after s (events journal)).cookies (fold after s (events journal)).loads.keys
keeps_on r rows held s [] rises k stand honest can = k
keeps_on r rows held s (Call caller now op reply ∷ es) rises k stand honest can =
    let v = CallEvent caller now op in
    let parts = and_parts (stands r s v) (all_stand r (after s v) (events es)) stand in
    rw (changed_joined held (rows_at s v) (changes_from (after s v) (events es))) (
    keeps_on r rows (changed_rows held (rows_at s v)) (after s v) es rises
    (call_keeps r rows held s caller now op k parts.0 can.0) parts.1 honest.1 can.1
    )
keeps_on r rows held s (Jar own ∷ es) rises k stand honest can =
    let v = JarEvent own in
    let parts = and_parts (stands r s v) (all_stand r (after s v) (events es)) stand in
    let may = and_parts (may_load own s.loads) (may_commit own s.batches) (and_parts (own_may_stand s own) (own_fits r own) parts.0).0 in
    rw (changed_joined held (rows_at s v) (changes_from (after s v) (events es))) (
    keeps_on r rows (changed_rows held (rows_at s v)) (after s v) es rises
    (own_keeps r rows held s own rises k may.0 honest.0) parts.1 honest.1 can.1
    )

-- ---- what is held at the opening

key_there_at : (r : Rules) (host h : List ℕ) (has same has_key : Bool) → bytes_eq host h ≡ same → (has ≡ true → has_key ≡ true) → (same || has) ≡ true
    → (bytes_eq (key_at r host) (key_at r h) || has_key) ≡ true
key_there_at r host h has true has_key is on e =
    ap (λ t. bytes_eq (key_at r t) (key_at r h) || has_key) (text_is host h is) ∙ ap (λ b. b || has_key) (text_itself (key_at r h))
key_there_at r host h has false has_key is on e =
    ap (λ b. bytes_eq (key_at r host) (key_at r h) || b) (on e) ∙ or_true (bytes_eq (key_at r host) (key_at r h))

-- the key of a host is among the keys of the hosts
key_there : (r : Rules) (host : List ℕ) (hosts : List (List ℕ)) → has_text host hosts ≡ true → has_text (key_at r host) (map (key_at r) hosts) ≡ true
key_there r host [] e = absurd cc
key_there r host (h ∷ hs) e =
    key_there_at r host h (has_text host hs) (bytes_eq host h) (has_text (key_at r host) (map (key_at r) hs)) refl (key_there r host hs) e

opening_at : (r : Rules) (rows : List Row) (i : CookieId) (o : Option Row) (b : Bool) → found row_id i rows ≡ o → r.hosts ≡ hosts_of rows
    → has_text (key_at r i.host) (stored_keys r) ≡ b → kept_where is_sound_row o ≡ cond (not b) None (kept_where is_sound_row o)
opening_at r rows i o true is hosts e = refl
opening_at r rows i None false is hosts e = refl
opening_at r rows i (Some row) false is hosts e =
    let there : has_text i.host r.hosts ≡ true = ap (has_text i.host) hosts ∙ host_there i rows row is in
    let no : true ≡ false = sym (ascending_has (key_at r i.host) (map (key_at r) r.hosts) ∙ key_there r i.host r.hosts there) ∙ e in
    absurd cc

keeps_first : (r : Rules) (rows : List Row) → RowsRise rows → r.hosts ≡ hosts_of rows
    → Keeps r rows rows (opening (stored_keys r)).cookies (opening (stored_keys r)).loads.keys
keeps_first r rows rises hosts = record {
  rises = rises;
  ids = none_rise;
  own = tt;
  keys = record { wanted = tt; begun = λ key e. absurd cc };
  just = λ i. opening_at r rows i (found row_id i rows) (has_text (key_at r i.host) (stored_keys r)) refl hosts refl;
}

-- ---- what is held is what is to be stored

abbrev cookie_rows : List Cookie → List Row
cookie_rows cookies = filter_map row_of cookies

found_cookie_row : (i : CookieId) (cookies : List Cookie) → RisesById cookies → found row_id i (cookie_rows cookies) ≡ row_at i cookies
found_cookie_row i cookies ids = found_made id_of row_id row_of (λ c row e. row_of_id c row e) i cookies ids

none_left_at : (r : Rules) (s : JarState) (i : CookieId) (row : Row) (b : Bool) → has_text (key_at r row.host) s.loads.keys.unloaded ≡ b
    → is_left_stored r s row ≡ true → b ≡ true
none_left_at r s i row true is e = refl
none_left_at r s i row false is e =
    let parts = and_parts (is_sound_row row) (not (not (has_text (key_at r row.host) s.loads.keys.unloaded))) e in
    let no : false ≡ true = sym (ap (λ b. not (not b)) is) ∙ parts.1 in
    absurd cc

beside_apart : (r : Rules) (rows held : List Row) (s : JarState) → RowsRise rows → Keeps r rows held s.cookies s.loads.keys
    → Apart row_id (filter (is_left_stored r s) rows ++ cookie_rows s.cookies)
beside_apart r rows held s rises k =
    apart_joined row_id (filter (is_left_stored r s) rows) (cookie_rows s.cookies) (IsStrictlySortedBy-filter row_cmp (is_left_stored r s) rows rises)
    (apart_from row_id (cookie_rows s.cookies) (made_rises id_of row_id row_of (λ c row e. row_of_id c row e) s.cookies k.ids))
    (all_filter (λ row. found row_id (row_id row) (cookie_rows s.cookies) ≡ None) (is_left_stored r s) (
    λ row left.
    found_cookie_row (row_id row) s.cookies k.ids
    ∙ none_at r s.loads.keys.unloaded s.cookies (row_id row) k.own
    (none_left_at r s (row_id row) row (has_text (key_at r row.host) s.loads.keys.unloaded) refl left ∙ refl)
    ) rows)

left_row : (r : Rules) (s : JarState) (row : Row) (b : Bool) → has_text (key_at r row.host) s.loads.keys.unloaded ≡ b
    → is_left_stored r s row ≡ (is_sound_row row && b)
left_row r s row true is = ap (λ b. is_sound_row row && not (not b)) is
left_row r s row false is = ap (λ b. is_sound_row row && not (not b)) is

beside_row : (sound b : Bool) (row : Row) (jar : Option Row) → (b ≡ true → jar ≡ None)
    → option_or (cond (sound && b) (Some row) None) jar ≡ cond (not b) jar (cond sound (Some row) None)
beside_row true true row jar none = refl
beside_row true false row jar none = refl
beside_row false true row jar none = none refl
beside_row false false row jar none = refl

beside_at : (r : Rules) (rows : List Row) (s : JarState) (i : CookieId) (o : Option Row) (b : Bool) → found row_id i rows ≡ o
    → has_text (key_at r i.host) s.loads.keys.unloaded ≡ b → (b ≡ true → row_at i s.cookies ≡ None)
    → option_or (kept_where (is_left_stored r s) o) (row_at i s.cookies) ≡ cond (not b) (row_at i s.cookies) (kept_where is_sound_row o)
beside_at r rows s i None true is there none = none refl
beside_at r rows s i None false is there none = refl
beside_at r rows s i (Some row) b is there none =
    let own : i ≡ row_id row = at_same row_id i row (find_passes (at row_id i) rows row is) in
    let left = left_row r s row b (ap (λ j. has_text (key_at r j.host) s.loads.keys.unloaded) (sym own) ∙ there) in
    ap (λ c. option_or (cond c (Some row) None) (row_at i s.cookies)) left ∙ beside_row (is_sound_row row) b row (row_at i s.cookies) none

pub held_is_beside : (r : Rules) (rows held : List Row) (s : JarState) → RowsRise rows → Keeps r rows held s.cookies s.loads.keys
    → sound_rows held ≡ rows_beside r rows s
held_is_beside r rows held s rises k =
    let left = filter (is_left_stored r s) rows in
    let all = left ++ cookie_rows s.cookies in
    let apart = beside_apart r rows held s rises k in
    same_lists row_id (sound_rows held) (rows_beside r rows s) (IsStrictlySortedBy-filter row_cmp is_sound_row held k.rises) (ordered_rises row_id all apart) λ i.
    found_filter row_id i is_sound_row held k.rises
    ∙ k.just i
    ∙ sym (
    found_ordered row_id i all apart
    ∙ find_append (at row_id i) left (cookie_rows s.cookies)
    ∙ ap (λ o. option_or o (found row_id i (cookie_rows s.cookies))) (found_filter row_id i (is_left_stored r s) rows rises)
    ∙ ap (option_or (kept_where (is_left_stored r s) (found row_id i rows))) (found_cookie_row i s.cookies k.ids)
    ∙ beside_at r rows s i (found row_id i rows) (has_text (key_at r i.host) s.loads.keys.unloaded) refl refl (none_at r s.loads.keys.unloaded s.cookies i k.own)
    )

pub changes_are_stored : ChangesAreStored
unfolding state_of
changes_are_stored r rows journal rises legal honest can =
    let start = opening (stored_keys r) in
    held_is_beside r rows (changed_rows rows (row_changes_of r journal)) (fold after start (events journal)) rises
    (keeps_on r rows rows start journal rises (keeps_first r rows rises honest.hosts) legal.standing honest.loads can)
