-- What a row that is put meets, and where it comes.
use Rattle.std.proofs.Common.{◌≡◌, inl, inr, suc, ◌≤◌, ℤ, ◌<ℤ◌, ◌++◌, is_lt, is_gt, Bool, true, false, not, cond, ◌&&◌, ◌||◌, List, [], ◌∷◌, map, filter, length, refl, sym, ap, subst, ◌∙◌, arith, is_eq, int_cmp, IsPermutation, true≢false, Some}
use Rattle.std.specs.List.{AllByRecursion}
use Rattle.std.specs.Ordering.{ordering_reverse}
use Rattle.std.specs.declared.cmp.Ordering.{Ordering}
use Rattle.std.specs.declared.cmp.Ordering.TheVariants.{Less, Equal, Greater}
use Rattle.std.proofs.lemmas.Cmp.{int_cmp_total, tied_itself}
use Rattle.std.proofs.lemmas.List.Sorted.{length_permutation, IsPermutation-map, IsPermutation-trans, IsPermutation-sym, IsPermutation-cons}
use Rattle.std.proofs.lemmas.Map.Lookups.{exact_bytes}
use Rattle.sqlite.specs.declared.types.Value.{Value}
use Rattle.sqlite.specs.declared.types.Value.TheVariants.{Null, Int}
use Rattle.sqlite.specs.Order.{Row as Cells}
use Rattle.sqlite.specs.Kind.TheVariants.{Integer}
use Rattle.sqlite.specs.Ops.{unary, binary, is_true}
use Rattle.sqlite.specs.Cast.{cast, cast_row}
use Rattle.sqlite.specs.Collation.TheVariants.{Binary}
use Rattle.sqlite.specs.Edit.{are_fresh, is_taken}
use Rattle.sqlite_sql.specs.Ops.{from_truth}
use Rattle.sqlite_sql.specs.declared.ops.BinaryOp.TheVariants.{Compare}
use Rattle.sqlite_sql.specs.declared.ops.CompareOp.TheVariants.{Eq}
use Rattle.sqlite_rules.specs.Keys.{conflicts}
use Rattle.sqlite_rules.specs.Lists.{Has}
use Rattle.sqlite_trees.specs.Tree.{IsAscending, put_row}
use Rattle.sqlite_trees.proofs.ListLemmas as lists
use Rattle.sqlite_value.proofs.KeyLemmas.{first_key-plain}
use Rattle.sqlite_value.proofs.OrderLemmas.{value_cmp-Int}
use Rattle.sqlite_keyed.specs.Keyed.{IsKeyedBy, insert_by}
use Rattle.sqlite_keyed.proofs.KeyedLemmas.{Less-from_lt, IsKeyedBy-insert_by, IsKeyedBy-delete_where}
use Rattle.sqlite_keyed.proofs.ListLemmas.{filter-map, IsPermutation-filter, all-filter}
use Rattle.jar_types.specs.declared.row.Row.{Row}
use Rattle.jar_types.specs.Ids.{text_cmp}
use Rattle.jar_types.specs.Orders.{put_by}
use Rattle.jar_types.specs.RowChanges.{row_cmp, row_id, RowsRise}
use Rattle.jar_keeper.proofs.RowLemmas.{row_total, put_rises}
use Rattle.sqlite_keeper.specs.CookieTable.{cookie_table, key_index}
use Rattle.sqlite_keeper.specs.Laws.{ascending}
use Rattle.sqlite_keeper.specs.TableRows.{HasUtf8, row_cells, stored_cells}
use Rattle.sqlite_keeper.proofs.NumberedLemmas.{same_number, put_is_insert, insert_mixed, free_of}
use Rattle.sqlite_keeper.proofs.ReadLemmas.{Numbered, text_eq}
use Rattle.sqlite_keeper.proofs.RowOrder.{same_texts, has_texts, tied_is, put_mixed}

-- ---- its cells as they are stored

either : (b : Bool) (x : Value) → cond b x x ≡ x
either true x = refl
either false x = refl

cast_int : (n : ℤ) → cast Integer (Int n) ≡ Int n
unfolding unary
cast_int n = either _ (Int n)

cast_null : cast Integer Null ≡ Null
unfolding unary
cast_null = either _ Null

pub cast_source : (row : Row) → cast_row cookie_table (Null ∷ row_cells row) ≡ Null ∷ row_cells row
cast_source row = simp (cast_null, cast_int)

pub cast_stored : (n : Numbered) → cast_row cookie_table (stored_cells n) ≡ stored_cells n
cast_stored n = simp (cast_int)

truth : (t : Bool) → is_true (from_truth (Some t)) ≡ t
truth true = refl
truth false = refl

pub number_eq : (a b : ℤ) → is_true (binary (Compare Eq Binary) (Int a) (Int b)) ≡ same_number a b
unfolding binary
number_eq a b = ap (λ o. is_true (from_truth (Some (is_eq o)))) (value_cmp-Int a b) ∙ truth (same_number a b)

four_tests : (a b c : Bool) → ((a && (b && (c && true))) || false) ≡ (a && (b && c))
four_tests true true true = refl
four_tests true true false = refl
four_tests true false c = refl
four_tests false b c = refl

-- a row conflicts with the new one just where it has its id
pub conflict_is : (j : ℤ) (new : Row) (n : Numbered)
    → conflicts (Some (1 ∷ 2 ∷ 3 ∷ [])) (key_index ∷ []) cookie_table (stored_cells (j, new)) (stored_cells n) ≡ has_texts (row_id new) n.1
conflict_is j new n =
    rw (first_key-plain, text_eq n.1.host new.host, text_eq n.1.name new.name, text_eq n.1.path new.path)
    (four_tests (same_texts n.1.host new.host) (same_texts n.1.name new.name) (same_texts n.1.path new.path))

-- ---- at most one row has an id

few : {X : Type 0} (R : X → X → Type 0) (q : X → Bool) → ((a b : X) → R a b → q a ≡ true → q b ≡ false) → (xs : List X)
    → IsAscending R xs → length (filter q xs) ≤ 1
few R q alone [] up = omega arith
few {X} R q alone (x ∷ xs) up = go (q x) refl (few R q alone xs up.1)
  where
    go : (b : Bool) → q x ≡ b → length (filter q xs) ≤ 1 → length (cond b (x ∷ filter q xs) (filter q xs)) ≤ 1
    go true e more =
        let none = ap length (lists.filter_none q xs (lists.all_weaker (R x) (λ y. q y ≡ false) (λ y h. alone x y h e) xs up.0)) in
        omega (arith, none)
    go false e more = more

only : {X : Type 0} (x : X) (xs : List X) → length xs ≤ 1 → Has xs x → xs ≡ x ∷ []
only x [] short has = absurd has
only x (y ∷ []) short (inl e) = ap (λ z. z ∷ []) (sym e)
only x (y ∷ []) short (inr has) = absurd has
only x (y ∷ z ∷ xs) short has = absurd (omega arith)

has_passed : {X : Type 0} (q : X → Bool) (x : X) (xs : List X) → Has xs x → q x ≡ true → Has (filter q xs) x
has_passed q x [] has pass = absurd has
has_passed {X} q x (y ∷ xs) has pass = go (q y) refl has (λ h. has_passed q x xs h pass)
  where
    go : (b : Bool) → q y ≡ b → Has (y ∷ xs) x → (Has xs x → Has (filter q xs) x) → Has (cond b (y ∷ filter q xs) (filter q xs)) x
    go true e (inl h) more = inl h
    go true e (inr h) more = inr (more h)
    go false e (inl h) more = absurd (true≢false (sym pass ∙ ap q h ∙ e))
    go false e (inr h) more = more h

-- the row that cells stand for
pub origin : (all : List Numbered) (cells : Cells) → Has (map stored_cells all) cells → (n : Numbered) × Has all n × (cells ≡ stored_cells n)
origin [] cells has = absurd has
origin (x ∷ xs) cells (inl e) = (x, inl refl, e)
origin (x ∷ xs) cells (inr has) = let more = origin xs cells has in (more.0, inr more.1, more.2)

as_long : (xs : List Numbered) → length (map (λ (n : Numbered). n.1) xs) ≡ length xs
as_long [] = refl
as_long (x ∷ xs) = ap suc (as_long xs)

equal_from : (o : Ordering) → is_eq o ≡ true → o ≡ Equal
equal_from Less e = absurd (true≢false (sym e))
equal_from Equal e = refl
equal_from Greater e = absurd (true≢false (sym e))

-- of two rows in order one at most has the id
id_apart : (new a b : Row) → row_cmp a b ≡ Less → has_texts (row_id new) a ≡ true → has_texts (row_id new) b ≡ false
id_apart new a b low pass =
    let first : row_cmp a new ≡ Equal = equal_from (row_cmp a new) (tied_is (row_id new) a ∙ pass) in
    let second : row_cmp new b ≡ Less = sym (row_total.congr a new b first) ∙ low in
    sym (tied_is (row_id new) b) ∙ ap is_eq (row_total.antisymm b new ∙ ap ordering_reverse second)

pub one_of_id : (new : Row) (all : List Numbered) (rows : List Row) (n : Numbered) → IsPermutation (map (λ n. n.1) all) rows
    → RowsRise rows → Has all n → has_texts (row_id new) n.1 ≡ true → filter (λ n. has_texts (row_id new) n.1) all ≡ n ∷ []
one_of_id new all rows n same rise has pass =
    let test = has_texts (row_id new) in
    let short = few (λ a b. row_cmp a b ≡ Less) test (id_apart new) rows (ascending row_cmp rows rise) in
    let long : length (filter test rows) ≡ length (filter test (map (λ n. n.1) all)) =
    length_permutation _ _ (IsPermutation-filter test _ _ same) in
    let mapped : length (filter test (map (λ n. n.1) all)) ≡ length (map (λ (n : Numbered). n.1) (filter (λ n. test n.1) all)) =
    ap length (filter-map test (λ n. n.1) all) in
    let counted : length (map (λ (n : Numbered). n.1) (filter (λ n. test n.1) all)) ≡ length (filter (λ (n : Numbered). test n.1) all) =
    as_long (filter (λ (n : Numbered). test n.1) all) in
    only n _ (omega (arith, short, long, mapped, counted)) (has_passed (λ n. test n.1) n all has pass)

-- of two rows whose rowids rise one at most has the rowid
number_apart : (n a b : Numbered) → a.0 <ℤ b.0 → same_number a.0 n.0 ≡ true → same_number b.0 n.0 ≡ false
number_apart n a b low pass =
    let tie = equal_from (int_cmp a.0 n.0) pass in
    ap is_eq (int_cmp_total.antisymm b.0 n.0 ∙ ap ordering_reverse (sym (int_cmp_total.congr a.0 n.0 b.0 tie) ∙ Less-from_lt a.0 b.0 low))

pub one_of_number : (all : List Numbered) (n : Numbered) → IsKeyedBy (λ m. m.0) all → Has all n
    → filter (λ m. same_number m.0 n.0) all ≡ n ∷ []
one_of_number all n keyed has =
    only n _ (few (λ a b. a.0 <ℤ b.0) (λ m. same_number m.0 n.0) (number_apart n) all keyed)
    (has_passed (λ m. same_number m.0 n.0) n all has (ap is_eq (tied_itself int_cmp_total n.0)))

-- ---- the texts of an id

-- one id is the same three texts
pub texts_are : (new row : Row) → has_texts (row_id new) row ≡ true
    → (row.host ≡ new.host) × (row.name ≡ new.name) × (row.path ≡ new.path)
texts_are new row pass =
    go (text_cmp row.host new.host) (text_cmp row.name new.name) (text_cmp row.path new.path) refl refl refl pass
  where
    go : (a b c : Ordering) → text_cmp row.host new.host ≡ a → text_cmp row.name new.name ≡ b → text_cmp row.path new.path ≡ c
        → (is_eq a && (is_eq b && is_eq c)) ≡ true → (row.host ≡ new.host) × (row.name ≡ new.name) × (row.path ≡ new.path)
    go Equal Equal Equal p q r pass = (exact_bytes _ _ p, exact_bytes _ _ q, exact_bytes _ _ r)
    go Less b c p q r pass = absurd (true≢false (sym pass))
    go Greater b c p q r pass = absurd (true≢false (sym pass))
    go Equal Less c p q r pass = absurd (true≢false (sym pass))
    go Equal Greater c p q r pass = absurd (true≢false (sym pass))
    go Equal Equal Less p q r pass = absurd (true≢false (sym pass))
    go Equal Equal Greater p q r pass = absurd (true≢false (sym pass))

-- where no row conflicts, none has the id
pub none_of_id : (j : ℤ) (new : Row) (all : List Numbered)
    → ((cells : Cells) → Has (map stored_cells all) cells
    → conflicts (Some (1 ∷ 2 ∷ 3 ∷ [])) (key_index ∷ []) cookie_table (stored_cells (j, new)) cells ≡ true → ⊥)
    → AllByRecursion (λ n. has_texts (row_id new) n.1 ≡ false) all
none_of_id j new [] free = tt
none_of_id j new (x ∷ xs) free =
    (go (has_texts (row_id new) x.1) refl, none_of_id j new xs (λ cells has. free cells (inr has)))
  where
    go : (b : Bool) → has_texts (row_id new) x.1 ≡ b → has_texts (row_id new) x.1 ≡ false
    go true e = absurd (free (stored_cells x) (inl refl) (conflict_is j new x ∙ e))
    go false e = e

-- ---- a row in its place

-- a tree that holds rows
pub record Laid (tree : List Cells) (rows : List Row) : Type 0 where
  pub numbered : List Numbered
  pub stores : tree ≡ map stored_cells numbered
  pub keyed : IsKeyedBy (λ n. n.0) numbered
  pub same : IsPermutation (map (λ n. n.1) numbered) rows
  pub rise : RowsRise rows
  pub texts : AllByRecursion HasUtf8 rows

append_all : (P : Row → Type 0) (rows more : List Row) → AllByRecursion P rows → AllByRecursion P more → AllByRecursion P (rows ++ more)
append_all P [] more all others = others
append_all P (row ∷ rows) more all others = (all.0, append_all P rows more all.1 others)

put_all : (P : Row → Type 0) (new : Row) (rows : List Row) → P new → AllByRecursion P rows → AllByRecursion P (put_by row_cmp new rows)
put_all P new rows p all =
    append_all P _ _ (all-filter P (λ r. is_lt (row_cmp r new)) rows all) (p, all-filter P (λ r. is_gt (row_cmp r new)) rows all)

untaken : (b : Bool) → (not b && true) ≡ true → b ≡ false
untaken true fresh = absurd (true≢false (sym fresh))
untaken false fresh = refl

-- the row is put beside those that have another id
pub placing : (new : Numbered) (all : List Numbered) (rows : List Row) (before after : List Cells) → IsKeyedBy (λ n. n.0) all
    → IsPermutation (map (λ n. n.1) all) rows → RowsRise rows → AllByRecursion HasUtf8 rows → HasUtf8 new.1
    → before ≡ map stored_cells (filter (λ n. not (has_texts (row_id new.1) n.1)) all)
    → are_fresh before (stored_cells new ∷ []) ≡ true → after ≡ put_row (stored_cells new) before
    → Laid after (put_by row_cmp new.1 rows)
placing new all rows before after keyed same rise texts utf8 is fresh put =
    let test = has_texts (row_id new.1) in
    let rest = filter (λ n. not (test n.1)) all in
    let free = free_of new rest (untaken (is_taken (map stored_cells rest) (stored_cells new))
    (subst (λ l. are_fresh l (stored_cells new ∷ []) ≡ true) is fresh)) in
    let mixed : IsPermutation (new.1 ∷ map (λ n. n.1) rest) (map (λ n. n.1) (insert_by (λ n. n.0) rest new)) =
    IsPermutation-map (λ n. n.1) _ _ (insert_mixed new rest free) in
    let others : IsPermutation (map (λ n. n.1) rest) (filter (λ row. not (test row)) rows) =
    subst (λ l. IsPermutation l (filter (λ row. not (test row)) rows)) (filter-map _ (λ n. n.1) all)
    (IsPermutation-filter (λ row. not (test row)) _ _ same) in
    record {
      numbered = insert_by (λ n. n.0) rest new;
      stores = put ∙ ap (put_row (stored_cells new)) is ∙ put_is_insert new rest;
      keyed = IsKeyedBy-insert_by (λ n. n.0) rest new (IsKeyedBy-delete_where (λ n. n.0) (λ n. test n.1) all keyed);
      same = IsPermutation-trans _ _ _ (IsPermutation-sym _ _ mixed)
          (IsPermutation-trans _ _ _ (IsPermutation-cons new.1 _ _ others) (put_mixed new.1 rows));
      rise = put_rises new.1 rows rise;
      texts = put_all HasUtf8 new.1 rows utf8 texts;
    }
