-- The changes of rows between two lists of cookies, of which those that aren't loaded are the same,
-- are those between the loaded ones.
use Rattle.std.proofs.Common.{◌≡◌, List, ◌++◌, Bool, true, false, cond, Option, None, Some, refl, sym, ap, ◌∙◌}
use Rattle.std.specs.Prelude.{filter, filter_map, map, not, option_and_then}
use Rattle.std.specs.Cmp.{IsTotalOrder}
use Rattle.std.specs.Cmp.Lexicographic.{on_texts}
use Rattle.std.specs.List.{AllByRecursion}
use Rattle.std.specs.Ordering.{is_eq}
use Rattle.std.specs.declared.cmp.Ordering.TheVariants.{Equal}
use Rattle.std.proofs.lemmas.Cmp.{then_total, int_eq_equiv}
use Rattle.std.proofs.lemmas.List.Elements.{filter-append}
use Rattle.jar_types.specs.declared.cookie.Cookie.{Cookie}
use Rattle.jar_types.specs.declared.cookie.CookieId.{CookieId}
use Rattle.jar_types.specs.declared.row.Row.{Row}
use Rattle.jar_types.specs.Ids.{id_cmp, id_of}
use Rattle.jar_types.specs.Journals.{Rules, key_at}
use Rattle.jar_types.specs.Loads.{KeyLoads, is_loaded}
use Rattle.jar_types.specs.Orders.{ascending}
use Rattle.jar_types.specs.RowChanges.{became, has_id, ids_of_both, row_at, row_change, row_changes, same_row, same_rows}
use Rattle.jar_types.specs.Rows.{row_of}
use Rattle.eager_law.proofs.MemberLemmas.{weaker, append_all}
use Rattle.eager_law.proofs.FilterLemmas.{found, listed, mapped}
use Rattle.eager_law.proofs.AscendingLemmas.{ascending_kept}
use Rattle.eager_law.proofs.PartLemmas.{part, rest, IsKeyed, same_hosts, text_itself}

id_total : IsTotalOrder id_cmp
id_total =
    then_total (on_texts (λ (i : CookieId). i.host)) (then_total (on_texts (λ (i : CookieId). i.name)) (on_texts (λ (i : CookieId). i.path)))

-- ---- a row that is what it was

row_itself : (row : Row) → same_row row row ≡ true
row_itself row =
    rw (
      text_itself row.host,
      text_itself row.name,
      text_itself row.path,
      text_itself row.value,
      int_eq_equiv.refl row.creation,
      int_eq_equiv.refl row.expiry,
      int_eq_equiv.refl row.access,
      int_eq_equiv.refl row.secure,
      int_eq_equiv.refl row.http_only,
      int_eq_equiv.refl row.same_site,
      int_eq_equiv.refl row.priority,
    ) refl

rows_themselves : (row : Option Row) → same_rows row row ≡ true
rows_themselves None = refl
rows_themselves (Some row) = row_itself row

no_change : (before later : List Cookie) (id : CookieId) → row_at id before ≡ row_at id later
    → row_change before later id ≡ None
no_change before later id e =
    let change = λ (row : Option Row). cond (same_rows row (row_at id later)) None (Some (became id (row_at id later))) in
    ap change e ∙ ap (λ b. cond b None (Some (became id (row_at id later)))) (rows_themselves (row_at id later))

-- ---- ids of loaded keys

module _ (r : Rules) (l : KeyLoads) where
  -- the key of the id is loaded
  abbrev id_loaded : CookieId → Bool
  id_loaded id = is_loaded (key_at r id.host) l

  of_id : (id : CookieId) (c : Cookie) → IsKeyed r c → has_id id c ≡ true → is_loaded c.key l ≡ id_loaded id
  of_id id c k e = ap (λ k. is_loaded k l) (k ∙ ap (key_at r) (sym (same_hosts id (id_of c) e)))

  same_loaded : (i j : CookieId) → id_cmp i j ≡ Equal → id_loaded j ≡ id_loaded i
  same_loaded i j e = ap (λ h. is_loaded (key_at r h) l) (sym (same_hosts i j (ap is_eq e)))

  at_part : (id : CookieId) (cookies : List Cookie) → AllByRecursion (IsKeyed r) cookies → id_loaded id ≡ true
      → row_at id (part l cookies) ≡ row_at id cookies
  at_part id cookies all there =
      ap (option_and_then row_of) (found (has_id id) (λ c. is_loaded c.key l) cookies
      (weaker (IsKeyed r) (λ c. has_id id c ≡ true → is_loaded c.key l ≡ true) (λ c k e. of_id id c k e ∙ there) cookies all))

  at_rest : (id : CookieId) (cookies : List Cookie) → AllByRecursion (IsKeyed r) cookies → id_loaded id ≡ false
      → row_at id (rest l cookies) ≡ row_at id cookies
  at_rest id cookies all away =
      ap (option_and_then row_of) (found (has_id id) (λ c. not (is_loaded c.key l)) cookies
      (weaker (IsKeyed r) (λ c. has_id id c ≡ true → not (is_loaded c.key l) ≡ true) (λ c k e. ap not (of_id id c k e ∙ away)) cookies all))

  module _ (before later : List Cookie) (all : AllByRecursion (IsKeyed r) before) (all' : AllByRecursion (IsKeyed r) later)
      (stays : rest l later ≡ rest l before) where
    changed_part : (id : CookieId) → id_loaded id ≡ true
        → row_change (part l before) (part l later) id ≡ row_change before later id
    changed_part id there =
        ap (λ row. let new = row_at id (part l later) in cond (same_rows row new) None (Some (became id new))) (at_part id before all there)
        ∙ ap (λ new. cond (same_rows (row_at id before) new) None (Some (became id new))) (at_part id later all' there)

    unchanged_rest : (id : CookieId) → id_loaded id ≡ false → row_change before later id ≡ None
    unchanged_rest id away =
        no_change before later id (sym (at_rest id before all away) ∙ ap (row_at id) (sym stays) ∙ at_rest id later all' away)

    ids_part : map id_of (part l before ++ part l later) ≡ filter id_loaded (map id_of (before ++ later))
    ids_part =
        ap (map id_of) (sym (filter-append (λ c. is_loaded c.key l) before later))
        ∙ sym (mapped id_loaded (λ c. is_loaded c.key l) id_of (before ++ later)
        (weaker (IsKeyed r) (λ c. id_loaded (id_of c) ≡ is_loaded c.key l) (λ c k. ap (λ k. is_loaded k l) (sym k)) (before ++ later)
        (append_all (IsKeyed r) before later all all')))

    pub rows_part : row_changes (part l before) (part l later) ≡ row_changes before later
    rows_part =
        ap (λ ids. filter_map (row_change (part l before) (part l later)) (ascending id_cmp ids)) ids_part
        ∙ ap (filter_map (row_change (part l before) (part l later)))
        (sym (ascending_kept id_total id_loaded same_loaded (map id_of (before ++ later))))
        ∙ listed (row_change before later) (row_change (part l before) (part l later)) id_loaded changed_part unchanged_rest
        (ids_of_both before later)
