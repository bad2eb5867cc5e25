-- The hosts of rows that are in the order of their ids, and the rows of each.
use Rattle.std.proofs.Common.{◌≡◌, ℕ, zero, suc, ◌+◌, ◌-◌, ◌<◌, List, [], ◌∷◌, ◌++◌, length, take, drop, get_or, Bool, true, false, cond, refl, sym, ap, ◌∙◌, subst, add-one, append_assoc, arith}
use Rattle.std.proofs.lemmas.List.{take_all, length-drop}
use Rattle.std.proofs.Math.Seq.{drop-cons}
use Rattle.std.specs.Prelude.{bytes_eq, map}
use Rattle.std.specs.Cmp.{IsTotalOrder}
use Rattle.std.specs.Cmp.Lexicographic.{nat_list_cmp_total}
use Rattle.std.specs.List.{AllByRecursion}
use Rattle.std.specs.List.Sorted.{IsStrictlySortedBy}
use Rattle.std.specs.Ordering.{is_lt, is_gt, is_eq, ordering_then, ordering_reverse}
use Rattle.std.specs.declared.cmp.Ordering.{Ordering}
use Rattle.std.specs.declared.cmp.Ordering.TheVariants.{Less, Equal, Greater}
use Rattle.std.proofs.lemmas.Map.Text.{is_eq-slice_cmp}
use Rattle.std.proofs.lemmas.List.Kept.{IsStrictlySortedBy-filter}
use Rattle.std.proofs.lemmas.Slice.Eq.{bytes_eq-Decides}
use Rattle.jar_types.specs.declared.row.Row.{Row}
use Rattle.jar_types.specs.Ids.{text_cmp}
use Rattle.jar_types.specs.Orders.{placed_once, ascending}
use Rattle.jar_types.specs.RowChanges.{row_cmp, RowsRise}
use Rattle.jar_types.specs.Stored.{hosts_of}
use Rattle.jar_keeper.specs.HostRows.{has_host, rows_of_host, AreOfHost, begins_with}
use Rattle.jar_keeper.proofs.RowLemmas.{passing}

pub text_total : IsTotalOrder text_cmp
text_total = nat_list_cmp_total

-- texts of one order are the same
pub text_same : (x y : List ℕ) → text_cmp x y ≡ Equal → x ≡ y
text_same x y e = (bytes_eq-Decides x y).0 (sym (is_eq-slice_cmp x y) ∙ ap is_eq e)

-- ---- the first host

-- the host stands first of these
abbrev Heads : List ℕ → List (List ℕ) → Type 0
Heads host [] = ⊥
Heads host (first ∷ hosts) = first ≡ host

not_after : (w rest : Ordering) → ordering_then w rest ≡ Less → is_gt w ≡ false
not_after Less rest e = refl
not_after Equal rest e = refl
not_after Greater rest e = absurd cc

heads_at : (x y : List ℕ) (ys : List (List ℕ)) (w : Ordering) → text_cmp x y ≡ w → is_gt w ≡ false
    → Heads x (cond (is_lt w) (x ∷ y ∷ ys) (cond (is_eq w) (y ∷ ys) (y ∷ placed_once text_cmp x ys)))
heads_at x y ys Less e below = refl
heads_at x y ys Equal e below = sym (text_same x y e)
heads_at x y ys Greater e below = absurd cc

placed_heads : (x z : List ℕ) (hosts : List (List ℕ)) → is_gt (text_cmp x z) ≡ false → Heads z hosts
    → Heads x (placed_once text_cmp x hosts)
placed_heads x z [] below heads = absurd heads
placed_heads x z (y ∷ ys) below heads =
    heads_at x y ys (text_cmp x y) refl (ap (λ t. is_gt (text_cmp x t)) heads ∙ below)

-- the hosts begin with that of the first row
hosts_head : (row : Row) (rows : List Row) → RowsRise (row ∷ rows) → Heads row.host (hosts_of (row ∷ rows))
unfolding IsStrictlySortedBy
hosts_head row [] rises = refl
hosts_head row (next ∷ rows) rises =
    placed_heads row.host next.host (hosts_of (next ∷ rows)) (not_after (text_cmp row.host next.host) _ rises.0.0)
    (hosts_head next rows rises.1)

same_at : (x z : List ℕ) (w : Ordering) → text_cmp x z ≡ w → bytes_eq z x ≡ is_eq (ordering_reverse w)
same_at x z w e = sym (is_eq-slice_cmp z x) ∙ ap is_eq (text_total.antisymm z x ∙ ap ordering_reverse e)

placed_at : (x y : List ℕ) (ys : List (List ℕ)) (w : Ordering) (same : Bool) → same ≡ is_eq (ordering_reverse w) → is_gt w ≡ false
    → cond (is_lt w) (x ∷ y ∷ ys) (cond (is_eq w) (y ∷ ys) (y ∷ placed_once text_cmp x ys)) ≡ cond same (y ∷ ys) (x ∷ y ∷ ys)
placed_at x y ys Less same e below = ap (λ b. cond b (y ∷ ys) (x ∷ y ∷ ys)) (sym e)
placed_at x y ys Equal same e below = ap (λ b. cond b (y ∷ ys) (x ∷ y ∷ ys)) (sym e)
placed_at x y ys Greater same e below = absurd cc

placed_same : (x z : List ℕ) (hosts : List (List ℕ)) → is_gt (text_cmp x z) ≡ false → Heads z hosts
    → placed_once text_cmp x hosts ≡ cond (bytes_eq z x) hosts (x ∷ hosts)
placed_same x z [] below heads = absurd heads
placed_same x z (y ∷ ys) below heads =
    placed_at x y ys (text_cmp x y) (bytes_eq z x) (same_at x z (text_cmp x y) (ap (text_cmp x) (sym heads)))
    (ap (λ t. is_gt (text_cmp x t)) heads ∙ below)

-- a row's host stands before those of the rows behind it, where the next row isn't of that host too
pub hosts_step : (row : Row) (rows : List Row) → RowsRise (row ∷ rows)
    → hosts_of (row ∷ rows) ≡ cond (begins_with row.host rows) (hosts_of rows) (row.host ∷ hosts_of rows)
unfolding IsStrictlySortedBy
hosts_step row [] rises = refl
hosts_step row (next ∷ rows) rises =
    placed_same row.host next.host (hosts_of (next ∷ rows)) (not_after (text_cmp row.host next.host) _ rises.0.0)
    (hosts_head next rows rises.1)

left_rise : (rows : List Row) (place : ℕ) → RowsRise rows → RowsRise (drop place rows)
unfolding IsStrictlySortedBy
left_rise rows zero rises = rises
left_rise [] (suc place) rises = tt
left_rise (row ∷ rows) (suc place) rises = left_rise rows place rises.1

-- the hosts from a place on
hosts_from : (rows : List Row) (place : ℕ) (row : Row) → RowsRise rows → place < length rows → row ≡ get_or rows place row
    → hosts_of (drop place rows)
    ≡ cond (begins_with row.host (drop (place + 1) rows)) (hosts_of (drop (place + 1) rows)) (row.host ∷ hosts_of (drop (place + 1) rows))
hosts_from rows place row rises within is =
    let split : drop place rows ≡ row ∷ drop (place + 1) rows =
    rw (add-one, drop-cons rows place row within) (ap (λ r. r ∷ drop (suc place) rows) (sym is)) in
    let left : RowsRise (row ∷ drop (place + 1) rows) = subst RowsRise split (left_rise rows place rises) in
    ap hosts_of split ∙ hosts_step row (drop (place + 1) rows) left

-- a slice from a place on is what is left there
pub rest_of : (rows : List Row) (place : ℕ) → take (length rows - place) (drop place rows) ≡ drop place rows
rest_of rows place = take_all (length rows - place) (drop place rows) (simp length-drop (omega arith))

-- where the next row has the same host, it is noted there
pub host_passed : (hosts all : List (List ℕ)) (rows : List Row) (place : ℕ) (row : Row) → RowsRise rows → place < length rows
    → row ≡ get_or rows place row → begins_with row.host (drop (place + 1) rows) ≡ true
    → hosts ++ hosts_of (drop place rows) ≡ all → hosts ++ hosts_of (drop (place + 1) rows) ≡ all
host_passed hosts all rows place row rises within is same so_far =
    let rest = hosts_of (drop (place + 1) rows) in
    let step : hosts_of (drop place rows) ≡ rest =
    hosts_from rows place row rises within is ∙ ap (λ b. cond b rest (row.host ∷ rest)) same in
    ap (λ hs. hosts ++ hs) (sym step) ∙ so_far

-- else it is noted here
pub host_noted : (hosts all : List (List ℕ)) (rows : List Row) (place : ℕ) (row : Row) → RowsRise rows → place < length rows
    → row ≡ get_or rows place row → begins_with row.host (drop (place + 1) rows) ≡ false
    → hosts ++ hosts_of (drop place rows) ≡ all → (hosts ++ row.host ∷ []) ++ hosts_of (drop (place + 1) rows) ≡ all
host_noted hosts all rows place row rises within is other so_far =
    let rest = hosts_of (drop (place + 1) rows) in
    let step : hosts_of (drop place rows) ≡ row.host ∷ rest =
    hosts_from rows place row rises within is ∙ ap (λ b. cond b rest (row.host ∷ rest)) other in
    append_assoc hosts (row.host ∷ []) rest ∙ ap (λ hs. hosts ++ hs) (sym step) ∙ so_far

-- ---- hosts ascend

once_at : (P : List ℕ → Type 0) (x y : List ℕ) (ys : List (List ℕ)) (w : Ordering) → P x → P y → AllByRecursion P ys
    → AllByRecursion P (placed_once text_cmp x ys)
    → AllByRecursion P (cond (is_lt w) (x ∷ y ∷ ys) (cond (is_eq w) (y ∷ ys) (y ∷ placed_once text_cmp x ys)))
once_at P x y ys Less p q all rest = (p, (q, all))
once_at P x y ys Equal p q all rest = (q, all)
once_at P x y ys Greater p q all rest = (q, rest)

once_all : (P : List ℕ → Type 0) (x : List ℕ) (ys : List (List ℕ)) → P x → AllByRecursion P ys
    → AllByRecursion P (placed_once text_cmp x ys)
once_all P x [] p all = (p, tt)
once_all P x (y ∷ ys) p all = once_at P x y ys (text_cmp x y) p all.0 all.1 (once_all P x ys p all.1)

before_all : (x y : List ℕ) (ys : List (List ℕ)) → text_cmp x y ≡ Less → AllByRecursion (λ z. text_cmp y z ≡ Less) ys
    → AllByRecursion (λ z. text_cmp x z ≡ Less) ys
before_all x y [] less all = tt
before_all x y (z ∷ zs) less all = (text_total.trans x y z less all.0, before_all x y zs less all.1)

rises_at : (x y : List ℕ) (ys : List (List ℕ)) (w : Ordering) → text_cmp x y ≡ w → IsStrictlySortedBy text_cmp (y ∷ ys)
    → IsStrictlySortedBy text_cmp (placed_once text_cmp x ys)
    → IsStrictlySortedBy text_cmp (cond (is_lt w) (x ∷ y ∷ ys) (cond (is_eq w) (y ∷ ys) (y ∷ placed_once text_cmp x ys)))
unfolding IsStrictlySortedBy
rises_at x y ys Less e rises rest = ((e, before_all x y ys e rises.0), rises)
rises_at x y ys Equal e rises rest = rises
rises_at x y ys Greater e rises rest =
    (once_all (λ z. text_cmp y z ≡ Less) x ys (text_total.antisymm y x ∙ ap ordering_reverse e) rises.0, rest)

placed_rises : (x : List ℕ) (ys : List (List ℕ)) → IsStrictlySortedBy text_cmp ys → IsStrictlySortedBy text_cmp (placed_once text_cmp x ys)
unfolding IsStrictlySortedBy
placed_rises x [] rises = (tt, tt)
placed_rises x (y ∷ ys) rises = rises_at x y ys (text_cmp x y) refl rises (placed_rises x ys rises.1)

ascending_rises : (texts : List (List ℕ)) → IsStrictlySortedBy text_cmp (ascending text_cmp texts)
unfolding IsStrictlySortedBy
ascending_rises [] = tt
ascending_rises (x ∷ xs) = placed_rises x (ascending text_cmp xs) (ascending_rises xs)

-- the hosts of rows ascend
pub hosts_rise : (rows : List Row) → IsStrictlySortedBy text_cmp (hosts_of rows)
hosts_rise rows = ascending_rises (map (λ row. row.host) rows)

-- ---- the rows of a host

-- they are of it, and in the order of their ids where all rows are
pub host_rows : (host : List ℕ) (rows : List Row) → RowsRise rows → AreOfHost host (rows_of_host host rows) × RowsRise (rows_of_host host rows)
host_rows host rows rises = (
  passing (λ row. row.host ≡ host) (has_host host) (λ row e. (bytes_eq-Decides row.host host).0 e) rows,
  IsStrictlySortedBy-filter row_cmp (has_host host) rows rises,
)
