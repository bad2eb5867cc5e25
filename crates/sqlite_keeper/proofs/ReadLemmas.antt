-- What the queries show of the table.
use Rattle.std.proofs.Common.{◌≡◌, ℕ, ℤ, Bool, true, false, cond, ◌&&◌, ◌++◌, List, [], ◌∷◌, map, filter, flat_map, refl, sym, ap, subst, ◌∙◌, is_eq, IsPermutation, Some, true≢false}
use Rattle.std.specs.List.{AllByRecursion}
use Rattle.std.specs.Prelude.{bytes_eq}
use Rattle.std.specs.Cmp.Lexicographic.{nat_list_cmp_total}
use Rattle.std.specs.Ordering.{ordering_then, ordering_reverse}
use Rattle.std.specs.declared.cmp.Ordering.{Ordering}
use Rattle.std.specs.declared.cmp.Ordering.TheVariants.{Less, Equal, Greater}
use Rattle.std.proofs.lemmas.List.Sorted.{IsPermutation-sym, IsPermutation-trans, IsPermutation-map}
use Rattle.std.proofs.lemmas.Map.Text.{is_eq-slice_cmp}
use Rattle.sqlite.specs.declared.types.Value.TheVariants.{Null, Text}
use Rattle.sqlite.specs.Collation.TheVariants.{Binary}
use Rattle.sqlite.specs.Order.{Row as Cells}
use Rattle.sqlite.specs.Ops.{binary, is_true}
use Rattle.sqlite.specs.Program.{overlay}
use Rattle.sqlite.specs.Query.{IsAnswer, output, output_cmp, page, Output, matches_as, end}
use Rattle.sqlite.specs.State.{State, Shown}
use Rattle.sqlite.proofs.Callers.{reads_as}
use Rattle.sqlite_sql.specs.Ops.{from_truth}
use Rattle.sqlite_sql.specs.declared.ops.BinaryOp.TheVariants.{Compare}
use Rattle.sqlite_sql.specs.declared.ops.CompareOp.TheVariants.{Eq}
use Rattle.sqlite_sql.proofs.QueryLemmas.{output_cmp_total}
use Rattle.sqlite_trees.specs.Tree.{IsAscending}
use Rattle.sqlite_value.proofs.OrderLemmas.{value_cmp-Text}
use Rattle.sqlite_keyed.proofs.SortLemmas.{sorted_unique}
use Rattle.sqlite_keyed.proofs.ListLemmas.{map-map, filter-map, flat_map-map, flat_map_same_on, filter_same, IsPermutation-filter, ascending-filter, ascending-map, ascending_weaker}
use Rattle.jar_types.specs.declared.row.Row.{Row}
use Rattle.jar_types.specs.Ids.{text_cmp}
use Rattle.jar_types.specs.RowChanges.{row_cmp}
use Rattle.jar_keeper.specs.HostRows.{rows_of_host}
use Rattle.sqlite_keeper.specs.CookieTable.{hosts_text, load_text, cookie_schema}
use Rattle.sqlite_keeper.specs.Laws.{ascending}
use Rattle.sqlite_keeper.specs.TableRows.{HoldsRows, host_cells, shown_cells, stored_cells}
use Rattle.sqlite_keeper.proofs.RowOrder.{same_texts}
use Rattle.sqlite_keeper.proofs.TextFacts.{hosts_query, hosts_is, hosts_plain, load_query, load_is, load_plain}

-- what is sorted, and what is shown of it
abbrev pub Numbered : Type 0
Numbered = ℤ × Row

-- the parameters beside a row, as the terms of a query see them
abbrev pub seen_by : Cells → Numbered → List Cells
seen_by params n = params ∷ stored_cells n ∷ []

truth : (t : Bool) → is_true (from_truth (Some t)) ≡ t
truth true = refl
truth false = refl

-- `=` between texts is that of their bytes
pub text_eq : (a b : List ℕ) → is_true (binary (Compare Eq Binary) (Text a) (Text b)) ≡ same_texts a b
unfolding binary
text_eq a b = ap (λ o. is_true (from_truth (Some (is_eq o)))) (value_cmp-Text a b) ∙ truth (same_texts a b)

-- the elements that pass, each as a list of one
pub passing_ones : {A B : Type 0} (p : A → Bool) (f : A → B) (xs : List A)
    → flat_map (λ x. cond (p x) (f x ∷ []) []) xs ≡ map f (filter p xs)
passing_ones p f [] = refl
passing_ones {A} {B} p f (x ∷ xs) = go (p x) (passing_ones p f xs)
  where
    go : (b : Bool) → flat_map (λ y. cond (p y) (f y ∷ []) []) xs ≡ map f (filter p xs)
        → cond b (f x ∷ []) [] ++ flat_map (λ y. cond (p y) (f y ∷ []) []) xs ≡ map f (cond b (x ∷ filter p xs) (filter p xs))
    go true more = ap (λ l. f x ∷ l) more
    go false more = more

-- what holds of each element may be used where two are compared
ascending_among : {X : Type 0} (R S : X → X → Type 0) (P : X → Type 0) → ((a b : X) → P a → P b → R a b → S a b) → (xs : List X)
    → AllByRecursion P xs → IsAscending R xs → IsAscending S xs
ascending_among R S P turn [] all up = tt
ascending_among {X} R S P turn (x ∷ xs) all up = (each xs all.1 up.0, ascending_among R S P turn xs all.1 up.1)
  where
    each : (ys : List X) → AllByRecursion P ys → AllByRecursion (R x) ys → AllByRecursion (S x) ys
    each [] ps rs = tt
    each (y ∷ ys) ps rs = (turn x y all.0 ps.0 rs.0, each ys ps.1 rs.1)

all_pass : {X : Type 0} (p : X → Bool) (xs : List X) → AllByRecursion (λ x. p x ≡ true) (filter p xs)
all_pass p [] = tt
all_pass {X} p (x ∷ xs) = go (p x) refl (all_pass p xs)
  where
    go : (b : Bool) → p x ≡ b → AllByRecursion (λ y. p y ≡ true) (filter p xs)
        → AllByRecursion (λ y. p y ≡ true) (cond b (x ∷ filter p xs) (filter p xs))
    go true e more = (e, more)
    go false e more = more

equal_from : (o : Ordering) → is_eq o ≡ true → o ≡ Equal
equal_from Less e = absurd (true≢false (sym e))
equal_from Equal e = refl
equal_from Greater e = absurd (true≢false (sym e))

-- ---- a load

abbrev is_of : List ℕ → Row → Bool
is_of host row = same_texts row.host host

-- the rows of a host, as the statement tests it
pub of_host : (host : List ℕ) (rows : List Row) → filter (is_of host) rows ≡ rows_of_host host rows
of_host host rows = filter_same (is_of host) (λ row. bytes_eq row.host host) (λ row. is_eq-slice_cmp row.host host) rows

abbrev led : Row → Output
led row = (Text row.name ∷ Text row.path ∷ [], shown_cells row)

-- at one host, the order of the ids is that of name and path
below_led : (host : List ℕ) (a b : Row) → is_of host a ≡ true → is_of host b ≡ true → row_cmp a b ≡ Less
    → output_cmp load_query (led a) (led b) ≡ Less
below_led host a b p q low =
    let total = nat_list_cmp_total in
    let tied : text_cmp a.host b.host ≡ Equal =
    total.congr a.host host b.host (equal_from (text_cmp a.host host) p) ∙ total.antisymm host b.host
    ∙ ap ordering_reverse (equal_from (text_cmp b.host host) q) in
    let rest : ordering_then (text_cmp a.name b.name) (text_cmp a.path b.path) ≡ Less = rw tied at low in
    rw (value_cmp-Text, value_cmp-Text) (again (text_cmp a.name b.name) (text_cmp a.path b.path) rest)
  where
    again : (o p : Ordering) → ordering_then o p ≡ Less → ordering_then o (ordering_then p Equal) ≡ Less
    again Less p less = refl
    again Equal Less less = refl
    again Equal Equal less = less
    again Equal Greater less = less
    again Greater p less = less

one_test : (b : Bool) → (b && true) ≡ b
one_test true = refl
one_test false = refl

found_rows : (host : List ℕ) (numbered : List Numbered)
    → flat_map (λ r. matches_as Null (λ _. []) load_query.filter end ((Text host ∷ []) ∷ r ∷ [])) (map stored_cells numbered)
    ≡ map (seen_by (Text host ∷ [])) (filter (λ n. is_of host n.1) numbered)
found_rows host numbered =
    let params = Text host ∷ [] in
    flat_map-map _ stored_cells numbered
    ∙ flat_map_same_on _ (λ n. cond (is_of host n.1) (seen_by params n ∷ []) [])
    (λ n. ap (λ b. cond b (seen_by params n ∷ []) []) (one_test _ ∙ text_eq n.1.host host)) numbered
    ∙ passing_ones (λ n. is_of host n.1) (seen_by params) numbered

pub loads : (old new : State) (host : List ℕ) (rows : List Row) (out : List Cells) → HoldsRows old.now rows
    → Shown load_text (Text host ∷ []) old new out → out ≡ map shown_cells (rows_of_host host rows)
loads old new host rows out holds shown =
    let params = Text host ∷ [] in
    let got = reads_as load_text params old new cookie_schema holds.schema _ load_is.0 load_plain load_is.1 out shown in
    let a : IsAnswer load_query (overlay old.now.trees []) params out = got.answer Null in
    let mine = filter (is_of host) rows in
    let staged : a.staged ≡ map (seen_by params) (filter (λ n. is_of host n.1) holds.numbered) =
    a.grouped ∙ rw holds.stores (found_rows host holds.numbered) in
    let kept : a.kept ≡ map led (filter (is_of host) (map (λ n. n.1) holds.numbered)) =
    a.distinct ∙ ap (map (output load_query)) staged ∙ map-map (output load_query) (seen_by params) _
    ∙ sym (ap (map led) (filter-map (is_of host) (λ n. n.1) holds.numbered) ∙ map-map led (λ n. n.1) _) in
    let mixed : IsPermutation (map led mine) a.ordered =
    IsPermutation-trans _ _ _
    (IsPermutation-sym _ _ (IsPermutation-map led _ _ (IsPermutation-filter (is_of host) _ _ holds.same)))
    (subst (λ l. IsPermutation l a.ordered) kept a.same) in
    let strict : IsAscending (λ x y. output_cmp load_query x y ≡ Less) (map led mine) =
    ascending-map _ led _
    (ascending_among (λ x y. row_cmp x y ≡ Less) _ (λ x. is_of host x ≡ true) (below_led host) _ (all_pass (is_of host) rows)
    (ascending-filter _ (is_of host) rows (ascending row_cmp rows holds.rise))) in
    let ordered = sorted_unique (output_cmp load_query) (output_cmp_total load_query) _ a.ordered strict mixed a.sorted in
    a.shown ∙ ap (λ xs. page load_query params (map (λ (o : Output). o.1) xs)) ordered ∙ map-map (λ (o : Output). o.1) led _
    ∙ ap (map shown_cells) (of_host host rows)

-- ---- the hosts

abbrev host_led : Row → Output
host_led row = (Text row.host ∷ Text row.name ∷ Text row.path ∷ [], host_cells row)

below_all : (a b : Row) → row_cmp a b ≡ Less → output_cmp hosts_query (host_led a) (host_led b) ≡ Less
below_all a b low =
    rw (value_cmp-Text, value_cmp-Text, value_cmp-Text)
    (again (text_cmp a.host b.host) (text_cmp a.name b.name) (text_cmp a.path b.path) low)
  where
    again : (o p q : Ordering) → ordering_then o (ordering_then p q) ≡ Less
        → ordering_then o (ordering_then p (ordering_then q Equal)) ≡ Less
    again Less p q less = refl
    again Equal Less q less = refl
    again Equal Equal Less less = refl
    again Equal Equal Equal less = less
    again Equal Equal Greater less = less
    again Equal Greater q less = less
    again Greater p q less = less

all_rows : (numbered : List Numbered)
    → flat_map (λ r. matches_as Null (λ _. []) hosts_query.filter end ([] ∷ r ∷ [])) (map stored_cells numbered)
    ≡ map (seen_by []) numbered
all_rows [] = refl
all_rows (n ∷ numbered) = ap (λ l. seen_by [] n ∷ l) (all_rows numbered)

pub lists_hosts : (old new : State) (rows : List Row) (out : List Cells) → HoldsRows old.now rows → Shown hosts_text [] old new out
    → out ≡ map host_cells rows
lists_hosts old new rows out holds shown =
    let got = reads_as hosts_text [] old new cookie_schema holds.schema _ hosts_is.0 hosts_plain hosts_is.1 out shown in
    let a : IsAnswer hosts_query (overlay old.now.trees []) [] out = got.answer Null in
    let staged : a.staged ≡ map (seen_by []) holds.numbered = a.grouped ∙ rw holds.stores (all_rows holds.numbered) in
    let kept : a.kept ≡ map host_led (map (λ n. n.1) holds.numbered) =
    a.distinct ∙ ap (map (output hosts_query)) staged ∙ map-map (output hosts_query) (seen_by []) _ ∙ sym (map-map host_led (λ n. n.1) _) in
    let mixed : IsPermutation (map host_led rows) a.ordered =
    IsPermutation-trans _ _ _ (IsPermutation-sym _ _ (IsPermutation-map host_led _ _ holds.same))
    (subst (λ l. IsPermutation l a.ordered) kept a.same) in
    let strict : IsAscending (λ x y. output_cmp hosts_query x y ≡ Less) (map host_led rows) =
    ascending-map _ host_led _
    (ascending_weaker (λ x y. row_cmp x y ≡ Less) _ below_all rows (ascending row_cmp rows holds.rise)) in
    let ordered = sorted_unique (output_cmp hosts_query) (output_cmp_total hosts_query) _ a.ordered strict mixed a.sorted in
    a.shown ∙ ap (λ xs. page hosts_query [] (map (λ (o : Output). o.1) xs)) ordered ∙ map-map (λ (o : Output). o.1) host_led _
