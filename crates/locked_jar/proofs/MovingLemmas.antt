-- Cells: those of bound keys are cells, and no two keys have one; and how they are made pending, one after another.
use Rattle.std.proofs.Common.{◌≡◌, ◌≢◌, ◌<◌, ◌≤◌, ◌+◌, ◌||◌, ℕ, zero, suc, List, [], ◌∷◌, length, take, get_or, Bool, true, false, cond, refl, sym, ap, ◌∙◌, subst, ⊎_elim, arith, eq-eqb, ne_eqb}
use Rattle.std.specs.Prelude.{slice_index_or, ◌==◌, not, nat_lt, bytes_eq, map, filter_map, Option, None, Some, option_map}
use Rattle.std.specs.List.{cons_option, prefix_len}
use Rattle.std.specs.List.Sorted.{IsStrictlySortedBy}
use Rattle.std.proofs.lemmas.Bool.{cases_eq}
use Rattle.jar_types.specs.declared.bound_key.BoundKey.{BoundKey}
use Rattle.jar_types.specs.declared.bound_key.TheConstants.{MOST_CELLS}
use Rattle.jar_types.specs.declared.change.Change.{Change}
use Rattle.jar_types.specs.Bound.{is_bound_to, cell_of}
use Rattle.jar_types.specs.Changes.{moved_keys}
use Rattle.jar_types.specs.Loads.{has_text}
use Rattle.stored_law.proofs.TextLemmas.{Ascends, ascending_ascends, not_under, text_is, text_itself}
use Rattle.version_cells.specs.Listings.{has, IsDistinct, IsCell}
use Rattle.version_cells.specs.Lists.{cells_moved}
use Rattle.locked_jar.specs.Moving.{AreCells}

-- ---- tests

left_false : (a b : Bool) → (a || b) ≡ false → a ≡ false
left_false true b e = e
left_false false b e = refl

right_false : (a b : Bool) → (a || b) ≡ false → b ≡ false
right_false true b e = let z : true ≡ false = e in cc
right_false false b e = e

-- ---- the cell of a key

-- how many stand before the bound key
abbrev before : List ℕ → List BoundKey → ℕ
before key bound = prefix_len (λ b. not (is_bound_to key b)) bound

found_key_at : (key : List ℕ) (b : BoundKey) (bs : List BoundKey) (d : BoundKey) (is : Bool) → is_bound_to key b ≡ is
    → (before key bs < length bs → (get_or bs (before key bs) d).key ≡ key)
    → cond (not is) (1 + before key bs) 0 < length (b ∷ bs) → (get_or (b ∷ bs) (cond (not is) (1 + before key bs) 0) d).key ≡ key
found_key_at key b bs d true e on fits = text_is b.key key e
found_key_at key b bs d false e on fits =
    let one : 1 + before key bs ≡ suc (before key bs) = omega arith in
    rw one (on (omega (arith, fits)))

found_key : (key : List ℕ) (bound : List BoundKey) (d : BoundKey) → before key bound < length bound → (get_or bound (before key bound) d).key ≡ key
found_key key [] d fits = absurd (omega (arith, fits))
found_key key (b ∷ bs) d fits = found_key_at key b bs d (is_bound_to key b) refl (found_key key bs d) fits

cell_at_place : (fits : Bool) (n c most : ℕ) → nat_lt n most ≡ fits → option_map suc (cond fits (Some n) None) ≡ Some c → (c ≡ suc n) × (n < most)
cell_at_place true n c most is e = (cc, grind arith)
cell_at_place false n c most is e = absurd cc

place_of_cell : (key : List ℕ) (bound : List BoundKey) (c : ℕ) → cell_of key bound ≡ Some c → (c ≡ suc (before key bound)) × (before key bound < length bound)
place_of_cell key bound c e = cell_at_place (nat_lt (before key bound) (length bound)) (before key bound) c (length bound) refl e

no_key : BoundKey
no_key = record { key = []; version = 0 }

-- no two keys have one cell
pub one_key : (k m : List ℕ) (bound : List BoundKey) (c : ℕ) → cell_of k bound ≡ Some c → cell_of m bound ≡ Some c → k ≡ m
one_key k m bound c e f =
    let p = place_of_cell k bound c e in
    let q = place_of_cell m bound c f in
    let same : before k bound ≡ before m bound = let a = p.0 in let b = q.0 in omega (arith, a, b) in
    sym (found_key k bound no_key p.1) ∙ (ap (λ i. (get_or bound i no_key).key) same ∙ found_key m bound no_key q.1)

-- the cell of a key is a cell, where no more keys are bound than may be
pub cell_fits : (key : List ℕ) (bound : List BoundKey) (c : ℕ) → length bound ≤ MOST_CELLS → cell_of key bound ≡ Some c → IsCell c
cell_fits key bound c few e =
    let p = place_of_cell key bound c e in let a = p.0 in let b = p.1 in (omega (arith, a), omega (arith, a, b, few))

-- ---- the cells of several keys

-- the cells of those of these keys that are bound
abbrev pub cells_among : List BoundKey → List (List ℕ) → List ℕ
cells_among bound keys = filter_map (λ key. cell_of key bound) keys

fits_at : (key : List ℕ) (bound : List BoundKey) (cells : List ℕ) (o : Option ℕ) → cell_of key bound ≡ o → length bound ≤ MOST_CELLS
    → AreCells cells → AreCells (cons_option o cells)
fits_at key bound cells None e few all = all
fits_at key bound cells (Some c) e few all = (cell_fits key bound c few e, all)

cells_fit : (keys : List (List ℕ)) (bound : List BoundKey) → length bound ≤ MOST_CELLS → AreCells (cells_among bound keys)
cells_fit [] bound few = tt
cells_fit (key ∷ keys) bound few = fits_at key bound (cells_among bound keys) (cell_of key bound) refl few (cells_fit keys bound few)

apart_here : (d c : ℕ) → d ≢ c → (d == c) ≡ false
apart_here d c ne = ne_eqb d c ne

-- a key's cell isn't among those of other keys
other_at : (key : List ℕ) (m : List ℕ) (bound : List BoundKey) (c : ℕ) (cells : List ℕ) (o : Option ℕ) → cell_of key bound ≡ Some c → cell_of m bound ≡ o
    → bytes_eq key m ≡ false → has c cells ≡ false → has c (cons_option o cells) ≡ false
other_at key m bound c cells None e f differ rest = rest
other_at key m bound c cells (Some d) e f differ rest =
    let ne : d ≢ c = λ same. let k : key ≡ m = one_key key m bound c e (f ∙ ap (λ n. Some n) same) in
    let t : true ≡ false = sym (text_itself key) ∙ (ap (bytes_eq key) k ∙ differ) in cc in
    ap (λ b. b || has c cells) (apart_here d c ne) ∙ rest

others : (key : List ℕ) (keys : List (List ℕ)) (bound : List BoundKey) (c : ℕ) → cell_of key bound ≡ Some c → has_text key keys ≡ false
    → has c (cells_among bound keys) ≡ false
others key [] bound c e none = refl
others key (m ∷ ms) bound c e none =
    other_at key m bound c (cells_among bound ms) (cell_of m bound) e refl (left_false (bytes_eq key m) (has_text key ms) none)
    (others key ms bound c e (right_false (bytes_eq key m) (has_text key ms) none))

distinct_at : (key : List ℕ) (keys : List (List ℕ)) (bound : List BoundKey) (o : Option ℕ) → cell_of key bound ≡ o → has_text key keys ≡ false
    → IsDistinct (cells_among bound keys) → IsDistinct (cons_option o (cells_among bound keys))
distinct_at key keys bound None e none rest = rest
distinct_at key keys bound (Some c) e none rest = (others key keys bound c e none, rest)

cells_differ : (keys : List (List ℕ)) (bound : List BoundKey) → Ascends keys → IsDistinct (cells_among bound keys)
unfolding IsStrictlySortedBy
cells_differ [] bound rises = tt
cells_differ (key ∷ keys) bound rises =
    distinct_at key keys bound (cell_of key bound) refl (not_under key keys rises.0) (cells_differ keys bound rises.1)

-- the cells that changes move are cells, none twice
pub moved_differ : (bound : List BoundKey) (changes : List Change) → IsDistinct (cells_moved bound changes)
moved_differ bound changes = cells_differ (moved_keys changes) bound (ascending_ascends (map (λ c. c.cookie.key) changes))

pub moved_fit : (bound : List BoundKey) (changes : List Change) → length bound ≤ MOST_CELLS → AreCells (cells_moved bound changes)
moved_fit bound changes few = cells_fit (moved_keys changes) bound few

-- ---- one after another

pub cell_in : (xs : List ℕ) (i : ℕ) → AreCells xs → i < length xs → IsCell (slice_index_or xs i 0)
cell_in [] i a h = absurd (omega arith)
cell_in (x ∷ xs) zero a h = a.0
cell_in (x ∷ xs) (suc i) a h = cell_in xs i a.1 (omega arith)

or_swap : (a b c : Bool) → (a || (b || c)) ≡ (b || (a || c))
or_swap true true c = refl
or_swap true false c = refl
or_swap false b c = refl

has_more : (c : ℕ) (xs : List ℕ) (i : ℕ) → i < length xs → has c (take (suc i) xs) ≡ ((slice_index_or xs i 0 == c) || has c (take i xs))
has_more c [] i h = absurd (omega arith)
has_more c (x ∷ xs) zero h = refl
has_more c (x ∷ xs) (suc i) h = ap (λ b. (x == c) || b) (has_more c xs i (omega arith)) ∙ or_swap (x == c) (slice_index_or xs i 0 == c) (has c (take i xs))

turned : (x y : ℕ) → (y == x) ≡ false → (x == y) ≡ false
turned x y e = ⊎_elim
    (λ (h : x ≡ y). let t : true ≡ false = sym (eq-eqb y x (sym h)) ∙ e in cc)
    (λ (h : x ≢ y). ne_eqb x y h)
    (cases_eq x y)

apart : (x : ℕ) (xs : List ℕ) (i : ℕ) → has x xs ≡ false → i < length xs → (slice_index_or xs i 0 == x) ≡ false
apart x [] i e h = absurd (omega arith)
apart x (y ∷ xs) zero e h = left_false (y == x) (has x xs) e
apart x (y ∷ xs) (suc i) e h = apart x xs i (right_false (y == x) (has x xs) e) (omega arith)

both_false : (a b : Bool) → a ≡ false → b ≡ false → (a || b) ≡ false
both_false a b h k = ap (λ t. t || b) h ∙ k

pub fresh_at : (xs : List ℕ) (i : ℕ) → IsDistinct xs → i < length xs → has (slice_index_or xs i 0) (take i xs) ≡ false
fresh_at [] i d h = absurd (omega arith)
fresh_at (x ∷ xs) zero d h = refl
fresh_at (x ∷ xs) (suc i) d h = both_false _ _ (turned x (slice_index_or xs i 0) (apart x xs i d.0 (omega arith))) (fresh_at xs i d.1 (omega arith))

pub more : (c : ℕ) (xs : List ℕ) (i : ℕ) → i < length xs → has c (take (i + 1) xs) ≡ ((slice_index_or xs i 0 == c) || has c (take i xs))
more c xs i h = subst (λ n. has c (take n xs) ≡ ((slice_index_or xs i 0 == c) || has c (take i xs))) (one_up i) (has_more c xs i h)
  where
    one_up : (i : ℕ) → suc i ≡ i + 1
    one_up i = omega arith
