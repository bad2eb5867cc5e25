-- What rises over the last of a list, added one after another.
use Rattle.std.proofs.lemmas.List.{take_all}
use Rattle.std.proofs.Common.{◌≡◌, ℕ, zero, suc, ◌-◌, ◌<◌, ◌≤◌, slice_get, Option, Some, None, Bool, true, false, cond, List, [], ◌∷◌, ◌++◌, map, fold, length, get_or, take, refl, sym, ap, subst, ◌∙◌, arith, true≢false, append_assoc}
use Rattle.std.specs.Prelude.{bytes_eq}
use Rattle.std.specs.List.{AllByRecursion}
use Rattle.std.specs.List.Sorted.{IsStrictlySortedBy}
use Rattle.std.specs.Cmp.{IsTotalOrder}
use Rattle.std.specs.Ordering.{is_lt, is_eq, ordering_reverse}
use Rattle.std.specs.declared.cmp.Ordering.{Ordering}
use Rattle.std.specs.declared.cmp.Ordering.TheVariants.{Less, Equal, Greater}
use Rattle.std.proofs.lemmas.Map.Text.{is_eq-slice_cmp}
use Rattle.jar_types.specs.declared.row.Row.{Row}
use Rattle.jar_types.specs.Ids.{text_cmp}
use Rattle.jar_types.specs.RowChanges.{RowsRise}
use Rattle.jar_types.specs.Stored.{hosts_of}
use Rattle.jar_keeper.specs.HostRows.{begins_with}
use Rattle.jar_keeper.proofs.HostLemmas.{text_total, text_same, hosts_step}
use Rattle.sqlite_keeper.specs.Rising.{comes_after, added}
use Rattle.sqlite_keeper.specs.TableRows.{HasUtf8}

less_from : (o : Ordering) → is_lt o ≡ true → o ≡ Less
less_from Less e = refl
less_from Equal e = absurd (true≢false (sym e))
less_from Greater e = absurd (true≢false (sym e))

module _ {X : Type 0} (cmp : X → X → Ordering) where
  -- ---- the last of a list decides

  pub after_last : (front : List X) (last x : X) → comes_after cmp (front ++ last ∷ []) x ≡ is_lt (cmp last x)
  after_last [] last x = refl
  after_last (y ∷ []) last x = refl
  after_last (y ∷ next ∷ more) last x = after_last (next ∷ more) last x

  -- what comes after the last comes after all
  all_before : (total : IsTotalOrder cmp) (first : X) (xs : List X) (x : X) → AllByRecursion (λ y. cmp first y ≡ Less) xs
      → IsStrictlySortedBy cmp xs → comes_after cmp (first ∷ xs) x ≡ true → cmp first x ≡ Less
  unfolding IsStrictlySortedBy
  all_before total first [] x below rise after = less_from (cmp first x) after
  all_before total first (y ∷ ys) x below rise after =
      total.trans first y x below.0 (all_before total y ys x rise.0 rise.1 after)

  push_all : (P : X → Type 0) (xs : List X) (x : X) → AllByRecursion P xs → P x → AllByRecursion P (xs ++ x ∷ [])
  push_all P [] x all p = (p, tt)
  push_all P (y ∷ ys) x all p = (all.0, push_all P ys x all.1 p)

  after_rest : (y : X) (ys : List X) (x : X) → comes_after cmp (y ∷ ys) x ≡ true → comes_after cmp ys x ≡ true
  after_rest y [] x after = refl
  after_rest y (next ∷ more) x after = after

  pub pushed_rises : (total : IsTotalOrder cmp) (xs : List X) (x : X) → IsStrictlySortedBy cmp xs → comes_after cmp xs x ≡ true
      → IsStrictlySortedBy cmp (xs ++ x ∷ [])
  unfolding IsStrictlySortedBy
  pushed_rises total [] x rise after = (tt, tt)
  pushed_rises total (y ∷ ys) x rise after = (
    push_all (λ z. cmp y z ≡ Less) ys x rise.0 (all_before total y ys x rise.0 rise.1 after),
    pushed_rises total ys x rise.1 (after_rest y ys x after),
  )

  -- ---- a list that rises is added whole

  next_after : (front : List X) (x : X) (rest : List X) → IsStrictlySortedBy cmp (front ++ x ∷ rest) → comes_after cmp front x ≡ true
  unfolding IsStrictlySortedBy
  next_after [] x rest rise = refl
  next_after (y ∷ []) x rest rise = ap is_lt rise.0.0
  next_after (y ∷ next ∷ more) x rest rise = next_after (next ∷ more) x rest rise.1

  pub all_added : (front rest : List X) → IsStrictlySortedBy cmp (front ++ rest) → fold (added cmp) front rest ≡ front ++ rest
  all_added front [] rise = sym (Rattle.std.proofs.Common.append-nil front)
  all_added front (x ∷ rest) rise =
      let split : front ++ (x ∷ rest) ≡ (front ++ x ∷ []) ++ rest = sym (append_assoc front (x ∷ []) rest) in
      ap (λ b. fold (added cmp) (cond b (front ++ x ∷ []) front) rest) (next_after front x rest rise)
      ∙ all_added (front ++ x ∷ []) rest (subst (IsStrictlySortedBy cmp) split rise) ∙ sym split

  pub push_added : (xs : List X) (start : List X) (x : X) → fold (added cmp) start (xs ++ x ∷ []) ≡ added cmp (fold (added cmp) start xs) x
  push_added [] start x = refl
  push_added (y ∷ ys) start x = push_added ys (added cmp start y) x

-- ---- the hosts of rows that rise

abbrev host_of : Row → List ℕ
host_of row = row.host

same_test : (a b : List ℕ) (o : Ordering) → text_cmp a b ≡ o → bytes_eq b a ≡ is_eq (ordering_reverse o)
same_test a b o e = sym (is_eq-slice_cmp b a) ∙ ap is_eq (text_total.antisymm b a ∙ ap ordering_reverse e)

-- behind the host of a row those of the next rows are added
host_added : (front : List (List ℕ)) (row : Row) (rows : List Row) → RowsRise (row ∷ rows)
    → fold (added text_cmp) (front ++ row.host ∷ []) (map host_of rows)
    ≡ front ++ cond (begins_with row.host rows) (hosts_of rows) (row.host ∷ hosts_of rows)
unfolding IsStrictlySortedBy
host_added front row [] rise = refl
host_added front row (next ∷ rows) rise = go (text_cmp row.host next.host) refl (λ given. host_added given next rows rise.1)
  where
    step : hosts_of (next ∷ rows) ≡ cond (begins_with next.host rows) (hosts_of rows) (next.host ∷ hosts_of rows)
    step = hosts_step next rows rise.1

    taken : (o : Ordering) → text_cmp row.host next.host ≡ o
        → fold (added text_cmp) (front ++ row.host ∷ []) (map host_of (next ∷ rows))
        ≡ fold (added text_cmp) (cond (is_lt o) ((front ++ row.host ∷ []) ++ next.host ∷ []) (front ++ row.host ∷ [])) (map host_of rows)
    taken o e =
        ap (λ b. fold (added text_cmp) (cond b ((front ++ row.host ∷ []) ++ next.host ∷ []) (front ++ row.host ∷ [])) (map host_of rows))
        (after_last text_cmp front row.host next.host ∙ ap is_lt e)

    shown : (o : Ordering) → text_cmp row.host next.host ≡ o
        → front ++ cond (is_eq (ordering_reverse o)) (hosts_of (next ∷ rows)) (row.host ∷ hosts_of (next ∷ rows))
        ≡ front ++ cond (begins_with row.host (next ∷ rows)) (hosts_of (next ∷ rows)) (row.host ∷ hosts_of (next ∷ rows))
    shown o e = ap (λ b. front ++ cond b (hosts_of (next ∷ rows)) (row.host ∷ hosts_of (next ∷ rows))) (sym (same_test row.host next.host o e))

    go : (o : Ordering) → text_cmp row.host next.host ≡ o
        → ((given : List (List ℕ)) → fold (added text_cmp) (given ++ next.host ∷ []) (map host_of rows)
        ≡ given ++ cond (begins_with next.host rows) (hosts_of rows) (next.host ∷ hosts_of rows))
        → fold (added text_cmp) (front ++ row.host ∷ []) (map host_of (next ∷ rows))
        ≡ front ++ cond (begins_with row.host (next ∷ rows)) (hosts_of (next ∷ rows)) (row.host ∷ hosts_of (next ∷ rows))
    go Less e more =
        taken Less e ∙ more (front ++ row.host ∷ []) ∙ ap (λ l. (front ++ row.host ∷ []) ++ l) (sym step)
        ∙ append_assoc front (row.host ∷ []) (hosts_of (next ∷ rows)) ∙ shown Less e
    go Equal e more =
        taken Equal e
        ∙ ap (λ x. fold (added text_cmp) (front ++ x ∷ []) (map host_of rows)) (text_same row.host next.host e)
        ∙ more front ∙ ap (λ l. front ++ l) (sym step) ∙ shown Equal e
    go Greater e more = absurd (let less = rise.0.0 in let not : Greater ≡ Less = rw e at less in cc)

pub hosts_added : (rows : List Row) → RowsRise rows → fold (added text_cmp) [] (map host_of rows) ≡ hosts_of rows
unfolding IsStrictlySortedBy
hosts_added [] rise = refl
hosts_added (row ∷ rows) rise = host_added [] row rows rise ∙ sym (hosts_step row rows rise)

-- ---- what a loop over cells adds

pub none_sorted : {X : Type 0} (cmp : X → X → Ordering) (xs : List X) → xs ≡ [] → IsStrictlySortedBy cmp xs
unfolding IsStrictlySortedBy
none_sorted cmp [] none = tt
none_sorted cmp (x ∷ xs) none = absurd cc

pub pushed : {X : Type 0} (cmp : X → X → Ordering) (total : IsTotalOrder cmp) (xs ys : List X) (x : X) → comes_after cmp xs x ≡ true
    → ys ≡ xs ++ x ∷ [] → IsStrictlySortedBy cmp xs → IsStrictlySortedBy cmp ys
pushed cmp total xs ys x after is rise = subst (IsStrictlySortedBy cmp) (sym is) (pushed_rises cmp total xs x rise after)

abbrev pub by_last : {X : Type 0} → (X → X → Ordering) → X → Option X → Bool
by_last cmp x None = true
by_last cmp x (Some last) = is_lt (cmp last x)

-- the last of a list decides what comes after it
pub at_last : {X : Type 0} (cmp : X → X → Ordering) (xs : List X) (x : X) → comes_after cmp xs x ≡ by_last cmp x (slice_get xs (length xs - 1))
at_last cmp [] x = refl
at_last cmp (last ∷ []) x = refl
at_last cmp (y ∷ next ∷ more) x =
    let e : length (y ∷ next ∷ more) - 1 ≡ suc (length (next ∷ more) - 1) = omega arith in
    at_last cmp (next ∷ more) x ∙ ap (λ i. by_last cmp x (slice_get (y ∷ next ∷ more) i)) (sym e)

-- what stands behind cells that are shown
pub record Behind {X Y : Type 0} (f : X → Y) (P : X → Type 0) (xs : List X) (i : ℕ) (y : Y) : Type 0 where
  pub origin : X
  pub is : y ≡ f origin
  pub holds : P origin
  pub taken : take (suc i) xs ≡ take i xs ++ origin ∷ []

behind_at : {X Y : Type 0} (f : X → Y) (P : X → Type 0) (xs : List X) (i : ℕ) (y : Y) → i < length (map f xs)
    → y ≡ get_or (map f xs) i y → AllByRecursion P xs → Behind f P xs i y
behind_at f P [] i y within is all = absurd (omega arith)
behind_at f P (x ∷ xs) zero y within is all = record { origin = x; is = is; holds = all.0; taken = refl }
behind_at f P (x ∷ xs) (suc i) y within is all =
    let more = behind_at f P xs i y (omega arith) is all.1 in
    record { origin = more.origin; is = more.is; holds = more.holds; taken = ap (λ l. x ∷ l) more.taken }

pub behind : {X Y : Type 0} (f : X → Y) (P : X → Type 0) (xs : List X) (ys : List Y) (i : ℕ) (y : Y) → ys ≡ map f xs → i < length ys
    → y ≡ get_or ys i y → AllByRecursion P xs → Behind f P xs i y
behind f P xs ys i y are within is all =
    behind_at f P xs i y (subst (λ l. i < length l) are within) (subst (λ l. y ≡ get_or l i y) are is) all

mapped_end : {X Y : Type 0} (f : X → Y) (xs : List X) (x : X) → map f (xs ++ x ∷ []) ≡ map f xs ++ f x ∷ []
mapped_end f [] x = refl
mapped_end f (y ∷ ys) x = ap (λ l. f y ∷ l) (mapped_end f ys x)

-- one more is added
pub one_more_added : {X Y : Type 0} (cmp : Y → Y → Ordering) (f : X → Y) (xs : List X) (i : ℕ) (x : X) → take (suc i) xs ≡ take i xs ++ x ∷ []
    → fold (added cmp) [] (map f (take (suc i) xs)) ≡ added cmp (fold (added cmp) [] (map f (take i xs))) (f x)
one_more_added cmp f xs i x taken =
    ap (λ l. fold (added cmp) [] (map f l)) taken ∙ ap (fold (added cmp) []) (mapped_end f (take i xs) x)
    ∙ push_added cmp (map f (take i xs)) [] (f x)

all_taken : {X : Type 0} (xs : List X) (i : ℕ) → length xs ≤ i → take i xs ≡ xs
all_taken xs i whole = take_all i xs whole

as_long : {X Y : Type 0} (f : X → Y) (xs : List X) → length (map f xs) ≡ length xs
as_long f [] = refl
as_long f (x ∷ xs) = ap suc (as_long f xs)

-- all were taken where all that is shown was
pub whole : {X Y : Type 0} (f : X → Y) (xs : List X) (ys : List Y) (i : ℕ) → ys ≡ map f xs → length ys ≤ i → take i xs ≡ xs
whole f xs ys i are all =
    let long : length ys ≡ length xs = ap length are ∙ as_long f xs in all_taken xs i (omega (arith, long))

pub same_map : {X : Type 0} (xs : List X) → map (λ x. x) xs ≡ xs
same_map [] = refl
same_map (x ∷ xs) = ap (λ l. x ∷ l) (same_map xs)

-- the row is of the host, and its texts are UTF-8
abbrev pub HasOwner : List ℕ → Row → Type 0
HasOwner host row = (row.host ≡ host) × HasUtf8 row

pub have_owner : (host : List ℕ) (rows : List Row) → AllByRecursion (λ row. row.host ≡ host) rows → AllByRecursion HasUtf8 rows
    → AllByRecursion (HasOwner host) rows
have_owner host [] of texts = tt
have_owner host (row ∷ rows) of texts = ((of.0, texts.0), have_owner host rows of.1 texts.1)

pub none_all : {X : Type 0} (P : X → Type 0) (xs : List X) → xs ≡ [] → AllByRecursion P xs
none_all P [] none = tt
none_all P (x ∷ xs) none = absurd cc
