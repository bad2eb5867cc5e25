-- What is left of keys that aren't loaded: the jar has none of their cookies, no change is of one
-- of their ids, and a load of such a key from rows that hold of these keys what is stored lists
-- what is stored of it.
use Rattle.std.proofs.Common.{◌≡◌, ℕ, List, [], ◌∷◌, ◌++◌, Bool, true, false, cond, refl, sym, ap, ◌∙◌, subst, Option, None, Some}
use Rattle.std.specs.Prelude.{not, ◌&&◌, bytes_eq, option_and_then}
use Rattle.std.specs.List.{AllByRecursion}
use Rattle.std.proofs.lemmas.Bool.{and_left}
use Rattle.std.proofs.lemmas.List.Kept.{IsStrictlySortedBy-filter}
use Rattle.jar_types.specs.declared.cookie.Cookie.{Cookie}
use Rattle.jar_types.specs.declared.cookie.CookieId.{CookieId}
use Rattle.jar_types.specs.declared.row.Row.{Row}
use Rattle.jar_types.specs.declared.row.RowChange.{RowChange}
use Rattle.jar_types.specs.Ids.{id_of}
use Rattle.jar_types.specs.Journals.{Rules, key_at}
use Rattle.jar_types.specs.Loads.{has_text, without_text}
use Rattle.jar_types.specs.Orders.{put_by}
use Rattle.jar_types.specs.Purges.{has_key}
use Rattle.jar_types.specs.RowChanges.{RowsRise, became, change_cmp, change_id, newest_over, row_at, row_change, row_changes, row_cmp, row_id, same_rows}
use Rattle.jar_types.specs.Rows.{cookie_in, is_sound_row, row_of}
use Rattle.jar_types.specs.Stored.{cookies_of_rows, hosts_of, stored_cookies}
use Rattle.jar_types.proofs.FindLemmas.{find_passes}
use Rattle.stored_law.specs.HostLoads.{cookies_of_hosts, has_host, hosts_of_key, is_host_of, rows_of_host}
use Rattle.stored_law.proofs.AtLemmas.{at, at_same, found, found_put, same_lists}
use Rattle.stored_law.proofs.FoundLemmas.{all_filter, all_left, all_weaker, find_none, kept_where}
use Rattle.stored_law.proofs.HostLemmas.{rows_all}
use Rattle.stored_law.proofs.LoadLemmas.{loads_are_honest}
use Rattle.stored_law.proofs.MadeLemmas.{found_filter}
use Rattle.stored_law.proofs.RowLemmas.{found_change}
use Rattle.stored_law.proofs.TextLemmas.{left_has, text_is, text_itself}

-- the key of the id's host isn't loaded
abbrev pub IsLeft : Rules → List (List ℕ) → CookieId → Type 0
IsLeft r unloaded i = has_text (key_at r i.host) unloaded ≡ true

-- a key that isn't loaded wasn't before another key was
pub was_left : (r : Rules) (key : List ℕ) (unloaded : List (List ℕ)) (i : CookieId) → IsLeft r (without_text key unloaded) i → IsLeft r unloaded i
was_left r key unloaded i e =
    first_part (has_text (key_at r i.host) unloaded) (not (bytes_eq key (key_at r i.host))) (sym (left_has (λ other. not (bytes_eq key other)) (key_at r i.host) unloaded) ∙ e)
  where
    first_part : (a b : Bool) → (a && b) ≡ true → a ≡ true
    first_part true b e = refl
    first_part false b e = absurd cc

-- ---- the cookies of a jar

-- the cookie has the key of its host, which is loaded
abbrev pub IsThere : Rules → List (List ℕ) → Cookie → Type 0
IsThere r unloaded c = (c.key ≡ key_at r c.host) × (has_text c.key unloaded ≡ false)

abbrev pub AllThere : Rules → List (List ℕ) → List Cookie → Type 0
AllThere r unloaded cookies = AllByRecursion (IsThere r unloaded) cookies

other_id : (r : Rules) (unloaded : List (List ℕ)) (i : CookieId) (c : Cookie) (b : Bool) → IsLeft r unloaded i → IsThere r unloaded c → at id_of i c ≡ b
    → at id_of i c ≡ false
other_id r unloaded i c false left is e = e
other_id r unloaded i c true left is e =
    let no : true ≡ false = sym left ∙ ap (λ j. has_text (key_at r j.host) unloaded) (at_same id_of i c e) ∙ ap (λ k. has_text k unloaded) (sym is.0) ∙ is.1 in
    absurd cc

-- the jar has none of an id whose key isn't loaded
none_there : (r : Rules) (unloaded : List (List ℕ)) (cookies : List Cookie) (i : CookieId) → AllThere r unloaded cookies → IsLeft r unloaded i
    → found id_of i cookies ≡ None
none_there r unloaded cookies i all left =
    find_none (at id_of i) cookies (all_weaker (IsThere r unloaded) (λ c. at id_of i c ≡ false) (λ c is. other_id r unloaded i c (at id_of i c) left is refl) cookies all)

-- those that were there still are where a key is loaded
pub still_there : (r : Rules) (key : List ℕ) (unloaded : List (List ℕ)) (cookies : List Cookie) → AllThere r unloaded cookies
    → AllThere r (without_text key unloaded) cookies
still_there r key unloaded cookies all =
    all_weaker (IsThere r unloaded) (IsThere r (without_text key unloaded))
    (λ c is. (is.0, left_has (λ other. not (bytes_eq key other)) c.key unloaded ∙ and_left (has_text c.key unloaded) (not (bytes_eq key c.key)) is.1)) cookies all

made_key : (r : Rules) (row : Row) (b : Bool) (c : Cookie) → cond b (Some (cookie_in (key_at r row.host) row)) None ≡ Some c → c.key ≡ key_at r c.host
made_key r row true c e =
    let is : cookie_in (key_at r row.host) row ≡ c = cc in subst (λ (d : Cookie). d.key ≡ key_at r d.host) is refl
made_key r row false c e = absurd cc

any_rows : (rows : List Row) → AllByRecursion (λ (row : Row). Unit {0}) rows
any_rows [] = tt
any_rows (row ∷ rows) = (tt, any_rows rows)

all_both : (P Q : Cookie → Type 0) (cookies : List Cookie) → AllByRecursion P cookies → AllByRecursion Q cookies → AllByRecursion (λ c. P c × Q c) cookies
all_both P Q [] all all' = tt
all_both P Q (c ∷ cs) all all' = ((all.0, all'.0), all_both P Q cs all.1 all'.1)

gone_key : (key : List ℕ) (unloaded : List (List ℕ)) (c : Cookie) → has_key key c ≡ true → has_text c.key (without_text key unloaded) ≡ false
gone_key key unloaded c e =
    ap (λ k. has_text k (without_text key unloaded)) (text_is c.key key e)
    ∙ left_has (λ other. not (bytes_eq key other)) key unloaded
    ∙ ap (λ b. has_text key unloaded && not b) (text_itself key)
    ∙ and_false (has_text key unloaded)
  where
    and_false : (a : Bool) → (a && false) ≡ false
    and_false true = refl
    and_false false = refl

-- and so are those that are stored of this key
pub stored_there : (r : Rules) (rows : List Row) (key : List ℕ) (unloaded : List (List ℕ)) → AllThere r (without_text key unloaded) (stored_cookies r rows key)
stored_there r rows key unloaded =
    let keyed = rows_all (λ c. c.key ≡ key_at r c.host) (λ row. Unit {0}) r (λ row c any e. made_key r row (is_sound_row row) c e) rows (any_rows rows) in
    all_both (λ c. c.key ≡ key_at r c.host) (λ c. has_text c.key (without_text key unloaded) ≡ false) (stored_cookies r rows key)
    (all_left (λ c. c.key ≡ key_at r c.host) (has_key key) (cookies_of_rows r rows) keyed)
    (all_filter (λ c. has_text c.key (without_text key unloaded) ≡ false) (has_key key) (λ c e. gone_key key unloaded c e) (cookies_of_rows r rows))

-- ---- changes

-- the row of an id that is in neither list of cookies didn't change
no_change : (i : CookieId) (before later : List Cookie) → found id_of i before ≡ None → found id_of i later ≡ None → row_change before later i ≡ None
no_change i before later e e' =
    ap (λ o. cond (same_rows (option_and_then row_of o) (row_at i later)) None (Some (became i (row_at i later)))) e
    ∙ ap (λ o. cond (same_rows None (option_and_then row_of o)) None (Some (became i (option_and_then row_of o)))) e'

pub changes_left : (r : Rules) (unloaded : List (List ℕ)) (before later : List Cookie) (i : CookieId) → AllThere r unloaded before → AllThere r unloaded later
    → IsLeft r unloaded i → found change_id i (row_changes before later) ≡ None
changes_left r unloaded before later i all all' left =
    found_change i before later ∙ no_change i before later (none_there r unloaded before i all left) (none_there r unloaded later i all' left)

none_first : (b : Bool) (c : RowChange) (o : Option RowChange) → cond b (Some c) o ≡ None → (b ≡ false) × (o ≡ None)
none_first true c o e = absurd cc
none_first false c o e = (refl, e)

-- no change is of an id where none was, and no newer one is
pub none_newer : (i : CookieId) (older newer : List RowChange) → found change_id i older ≡ None → found change_id i newer ≡ None
    → found change_id i (newest_over older newer) ≡ None
none_newer i older [] e e' = e
none_newer i older (c ∷ cs) e e' =
    let parts = none_first (at change_id i c) c (found change_id i cs) e' in
    none_newer i (put_by change_cmp c older) cs
    (found_put change_id i c older ∙ ap (λ b. cond b (Some c) (found change_id i older)) parts.0 ∙ e) parts.1

-- ---- a load

-- of each id whose key isn't loaded the row that is held is the one that was held at the opening
abbrev pub HoldsLeft : Rules → List Row → List Row → List (List ℕ) → Type 0
HoldsLeft r rows held unloaded = (i : CookieId) → IsLeft r unloaded i → found row_id i held ≡ found row_id i rows

other_host : (host : List ℕ) (i : CookieId) (rows : List Row) (o : Option Row) → found row_id i rows ≡ o → bytes_eq i.host host ≡ false
    → kept_where (has_host host) o ≡ None
other_host host i rows None is other = refl
other_host host i rows (Some row) is other =
    let own : i ≡ row_id row = at_same row_id i row (find_passes (at row_id i) rows row is) in
    ap (λ b. cond b (Some row) None) (ap (λ j. bytes_eq j.host host) (sym own) ∙ other)

module _ (r : Rules) (rows held : List Row) (unloaded : List (List ℕ)) (rises : RowsRise rows) (rises' : RowsRise held) (left : HoldsLeft r rows held unloaded) where
  host_at : (host : List ℕ) (i : CookieId) (b : Bool) → has_text (key_at r host) unloaded ≡ true → bytes_eq i.host host ≡ b
      → kept_where (has_host host) (found row_id i held) ≡ kept_where (has_host host) (found row_id i rows)
  host_at host i true there is =
      ap (kept_where (has_host host)) (left i (ap (λ h. has_text (key_at r h) unloaded) (text_is i.host host is) ∙ there))
  host_at host i false there is =
      other_host host i held (found row_id i held) refl is ∙ sym (other_host host i rows (found row_id i rows) refl is)

  -- the rows of a host of such a key are held as they were
  same_of_host : (host : List ℕ) → has_text (key_at r host) unloaded ≡ true → rows_of_host host held ≡ rows_of_host host rows
  same_of_host host there =
      same_lists row_id (rows_of_host host held) (rows_of_host host rows) (IsStrictlySortedBy-filter row_cmp (has_host host) held rises')
      (IsStrictlySortedBy-filter row_cmp (has_host host) rows rises) λ i.
      found_filter row_id i (has_host host) held rises'
      ∙ host_at host i (bytes_eq i.host host) there refl
      ∙ sym (found_filter row_id i (has_host host) rows rises)

  same_at : (key host : List ℕ) (others : List (List ℕ)) (b : Bool) → has_text key unloaded ≡ true → is_host_of r key host ≡ b
      → cookies_of_hosts r held others ≡ cookies_of_hosts r rows others
      → cookies_of_hosts r held (cond b (host ∷ others) others) ≡ cookies_of_hosts r rows (cond b (host ∷ others) others)
  same_at key host others true there is e =
      ap (λ rs. cookies_of_rows r rs ++ cookies_of_hosts r held others)
      (same_of_host host (ap (λ k. has_text k unloaded) (sym (text_is key (key_at r host) is)) ∙ there))
      ∙ ap (λ cs. cookies_of_rows r (rows_of_host host rows) ++ cs) e
  same_at key host others false there is e = e

  same_cookies : (key : List ℕ) (hosts : List (List ℕ)) → has_text key unloaded ≡ true
      → cookies_of_hosts r held (hosts_of_key r key hosts) ≡ cookies_of_hosts r rows (hosts_of_key r key hosts)
  same_cookies key [] there = refl
  same_cookies key (host ∷ hosts) there = same_at key host (hosts_of_key r key hosts) (is_host_of r key host) there refl (same_cookies key hosts there)

  -- a load of a key that isn't loaded lists what is stored of it
  pub load_is_stored : (key : List ℕ) → r.hosts ≡ hosts_of rows → has_text key unloaded ≡ true
      → cookies_of_hosts r held (hosts_of_key r key r.hosts) ≡ stored_cookies r rows key
  load_is_stored key hosts there =
      same_cookies key r.hosts there
      ∙ ap (λ hs. cookies_of_hosts r rows (hosts_of_key r key hs)) hosts
      ∙ loads_are_honest r rows key rises
