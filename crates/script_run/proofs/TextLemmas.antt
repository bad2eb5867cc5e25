-- Lists of texts: what taking one out or adding one makes of them, and how many pass a test.
use Rattle.std.proofs.Common.{◌≡◌, ◌<◌, ◌≤◌, ◌+◌, ℕ, List, [], ◌∷◌, ◌++◌, Bool, true, false, cond, length, refl, ap, sym, ◌∙◌, arith}
use Rattle.std.specs.Prelude.{bytes_eq, not, ◌||◌, count_by}
use Rattle.std.specs.List.{AllByRecursion}
use Rattle.std.specs.List.Sorted.{IsStrictlySortedBy}
use Rattle.std.specs.Ordering.{ordering_reverse}
use Rattle.std.specs.declared.cmp.Ordering.{Ordering}
use Rattle.std.specs.declared.cmp.Ordering.TheVariants.{Less, Equal, Greater}
use Rattle.std.proofs.lemmas.List.Sums.{sum_by-cons}
use Rattle.std.proofs.lemmas.Slice.Eq.{bytes_eq-Decides}
use Rattle.stored_law.proofs.IdLemmas.{text_total}
use Rattle.jar_types.specs.Ids.{text_cmp}
use Rattle.jar_types.specs.Loads.{has_text, without_text}

abbrev Text : Type 0
Text = List ℕ

pub same_text : (x y : Text) → bytes_eq x y ≡ true → x ≡ y
same_text x y e = (bytes_eq-Decides x y).0 e

pub text_self : (x : Text) → bytes_eq x x ≡ true
text_self x = (bytes_eq-Decides x x).1 refl

-- ---- one text more, or less

or_last : (a b c : Bool) → (a || (b || c)) ≡ ((a || b) || c)
or_last true b c = refl
or_last false b c = refl

or_false : (a : Bool) → (a || false) ≡ a
or_false true = refl
or_false false = refl

pub has_last : (k x : Text) (xs : List Text) → has_text k (xs ++ x ∷ []) ≡ (has_text k xs || bytes_eq k x)
has_last k x [] = or_false (bytes_eq k x)
has_last k x (y ∷ ys) = ap (λ b. bytes_eq k y || b) (has_last k x ys) ∙ or_last (bytes_eq k y) (has_text k ys) (bytes_eq k x)

either : (a b : Bool) → (a || b) ≡ true → a ≡ false → b ≡ true
either true b e f = absurd cc
either false b e f = e

or_true : (a : Bool) → (a || true) ≡ true
or_true true = refl
or_true false = refl

head_or_rest : (b : Bool) (k : Text) (ys zs : List Text) → (has_text k zs ≡ true → has_text k ys ≡ true)
    → (b || has_text k zs) ≡ true → (b || has_text k ys) ≡ true
head_or_rest true k ys zs rest some = refl
head_or_rest false k ys zs rest some = rest some

-- what stands without a text stands with it
kept_where : (keeps : Bool) (k y : Text) (ys zs : List Text) → (has_text k zs ≡ true → has_text k ys ≡ true)
    → has_text k (cond keeps (y ∷ zs) zs) ≡ true → has_text k (y ∷ ys) ≡ true
kept_where true k y ys zs rest some = head_or_rest (bytes_eq k y) k ys zs rest some
kept_where false k y ys zs rest some = rw (rest some) (or_true (bytes_eq k y))

pub has_without : (k x : Text) (ys : List Text) → has_text k (without_text x ys) ≡ true → has_text k ys ≡ true
has_without k x [] some = some
has_without k x (y ∷ ys) some = kept_where (not (bytes_eq x y)) k y ys (without_text x ys) (has_without k x ys) some

-- the text itself doesn't
out_where : (is : Bool) (x y : Text) (ys : List Text) → bytes_eq x y ≡ is → has_text x ys ≡ false → has_text x (cond (not is) (y ∷ ys) ys) ≡ false
out_where true x y ys e none = none
out_where false x y ys e none = rw e none

pub none_without : (x : Text) (ys : List Text) → has_text x (without_text x ys) ≡ false
none_without x [] = refl
none_without x (y ∷ ys) = out_where (bytes_eq x y) x y (without_text x ys) refl (none_without x ys)

not_same : (is : Bool) (k x y : Text) → bytes_eq k y ≡ is → bytes_eq x y ≡ true → bytes_eq x k ≡ false → bytes_eq k y ≡ false
not_same false k x y e f ne = e
not_same true k x y e f ne =
    let one : x ≡ y = same_text x y f in
    let two : k ≡ y = same_text k y e in
    let both : bytes_eq x k ≡ true = ap (bytes_eq x) (two ∙ sym one) ∙ text_self x in
    let clash : true ≡ false = sym both ∙ ne in
    absurd cc

-- another stands as before
other_where : (is : Bool) (k x y : Text) (ys zs : List Text) → bytes_eq x y ≡ is → bytes_eq x k ≡ false → has_text k zs ≡ has_text k ys
    → has_text k (cond (not is) (y ∷ zs) zs) ≡ has_text k (y ∷ ys)
other_where false k x y ys zs e ne rest = ap (λ b. bytes_eq k y || b) rest
other_where true k x y ys zs e ne rest =
    rest ∙ sym (ap (λ b. b || has_text k ys) (not_same (bytes_eq k y) k x y refl e ne))

pub other_without : (k x : Text) (ys : List Text) → bytes_eq x k ≡ false → has_text k (without_text x ys) ≡ has_text k ys
other_without k x [] ne = refl
other_without k x (y ∷ ys) ne = other_where (bytes_eq x y) k x y ys (without_text x ys) refl ne (other_without k x ys ne)

-- ---- lists in which no text stands twice

abbrev pub NoTwice : List Text → Type 0
NoTwice [] = Unit {0}
NoTwice (x ∷ xs) = (has_text x xs ≡ false) × NoTwice xs

fewer_has : (is : Bool) (y : Text) (ys zs : List Text) → has_text y zs ≡ is → has_text y ys ≡ false → ((k : Text) → has_text k zs ≡ true → has_text k ys ≡ true)
    → has_text y zs ≡ false
fewer_has false y ys zs e none within = e
fewer_has true y ys zs e none within = let clash : true ≡ false = sym (within y e) ∙ none in absurd cc

no_twice_where : (keeps : Bool) (y : Text) (ys zs : List Text) → has_text y ys ≡ false → ((k : Text) → has_text k zs ≡ true → has_text k ys ≡ true) → NoTwice zs
    → NoTwice (cond keeps (y ∷ zs) zs)
no_twice_where true y ys zs none within rest = (fewer_has (has_text y zs) y ys zs refl none within, rest)
no_twice_where false y ys zs none within rest = rest

pub no_twice_without : (x : Text) (ys : List Text) → NoTwice ys → NoTwice (without_text x ys)
no_twice_without x [] all = tt
no_twice_without x (y ∷ ys) all =
    no_twice_where (not (bytes_eq x y)) y ys (without_text x ys) all.0 (λ k. has_without k x ys) (no_twice_without x ys all.1)

not_less : (o : Ordering) → o ≡ ordering_reverse o → o ≡ Less → ⊥
not_less Less e less = absurd cc
not_less Equal e less = absurd cc
not_less Greater e less = absurd cc

less_other : (is : Bool) (x y : Text) → bytes_eq x y ≡ is → text_cmp x y ≡ Less → bytes_eq x y ≡ false
less_other false x y e less = e
less_other true x y e less =
    let same : x ≡ y = same_text x y e in
    let self : text_cmp x x ≡ Less = ap (text_cmp x) same ∙ less in
    absurd (not_less (text_cmp x x) (text_total.antisymm x x) self)

none_of : (x : Text) (ys : List Text) → AllByRecursion (λ y. text_cmp x y ≡ Less) ys → has_text x ys ≡ false
none_of x [] all = refl
none_of x (y ∷ ys) all = rw (less_other (bytes_eq x y) x y refl all.0) (none_of x ys all.1)

pub rise_no_twice : (xs : List Text) → IsStrictlySortedBy text_cmp xs → NoTwice xs
unfolding IsStrictlySortedBy
rise_no_twice [] rises = tt
rise_no_twice (x ∷ xs) rises = (none_of x xs rises.0, rise_no_twice xs rises.1)

-- ---- how many pass a test

abbrev one_if : Bool → ℕ
one_if b = cond b 1 0

flags : (a b : Bool) → (a ≡ true → b ≡ true) → one_if a ≤ one_if b
flags true b f = rw (f refl) (omega arith)
flags false b f = omega arith

flag : (a : Bool) → one_if a ≤ 1
flag true = omega arith
flag false = omega arith

pub count_cons : (p : Text → Bool) (x : Text) (xs : List Text) → count_by p (x ∷ xs) ≡ one_if (p x) + count_by p xs
count_cons p x xs = sum_by-cons (λ k. one_if (p k)) x xs

-- the test that passes more counts more
pub counts_more : (p q : Text → Bool) → ((k : Text) → p k ≡ true → q k ≡ true) → (xs : List Text) → count_by p xs ≤ count_by q xs
counts_more p q f [] = omega arith
counts_more p q f (x ∷ xs) =
    let rest = counts_more p q f xs in
    let one = flags (p x) (q x) (f x) in
    omega (arith, rest, one, count_cons p x xs, count_cons q x xs)

-- fewer texts count less
without_where : (p : Text → Bool) (keeps : Bool) (y : Text) (ys zs : List Text) → count_by p zs ≤ count_by p ys
    → count_by p (cond keeps (y ∷ zs) zs) ≤ count_by p (y ∷ ys)
without_where p true y ys zs rest = omega (arith, rest, count_cons p y ys, count_cons p y zs)
without_where p false y ys zs rest = let one = count_cons p y ys in omega (arith, rest, one)

pub counts_without : (p : Text → Bool) (x : Text) (ys : List Text) → count_by p (without_text x ys) ≤ count_by p ys
counts_without p x [] = omega arith
counts_without p x (y ∷ ys) = without_where p (not (bytes_eq x y)) y ys (without_text x ys) (counts_without p x ys)

fewer_where : (is : Bool) (x y : Text) (ys zs : List Text) → bytes_eq x y ≡ is → length zs ≤ length ys → (has_text x ys ≡ true → length zs < length ys)
    → (is || has_text x ys) ≡ true → length (cond (not is) (y ∷ zs) zs) < length (y ∷ ys)
fewer_where true x y ys zs e some rest has = omega (arith, some)
fewer_where false x y ys zs e some rest has = let less = rest has in omega (arith, less)

no_more : (keeps : Bool) (y : Text) (ys zs : List Text) → length zs ≤ length ys → length (cond keeps (y ∷ zs) zs) ≤ length (y ∷ ys)
no_more true y ys zs rest = omega (arith, rest)
no_more false y ys zs rest = omega (arith, rest)

pub length_without : (x : Text) (ys : List Text) → length (without_text x ys) ≤ length ys
length_without x [] = omega arith
length_without x (y ∷ ys) = no_more (not (bytes_eq x y)) y ys (without_text x ys) (length_without x ys)

pub fewer_without : (x : Text) (ys : List Text) → has_text x ys ≡ true → length (without_text x ys) < length ys
fewer_without x [] has = absurd cc
fewer_without x (y ∷ ys) has =
    fewer_where (bytes_eq x y) x y ys (without_text x ys) refl (length_without x ys) (fewer_without x ys) has

-- the test that fails where another passed at one text counts less
less_where : (is : Bool) (p q : Text → Bool) (x y : Text) (ys : List Text) → bytes_eq x y ≡ is → p x ≡ false → q x ≡ true
    → one_if (p y) ≤ one_if (q y) → count_by p ys ≤ count_by q ys → (has_text x ys ≡ true → count_by p ys < count_by q ys)
    → (is || has_text x ys) ≡ true → count_by p (y ∷ ys) < count_by q (y ∷ ys)
less_where true p q x y ys e fails passes one all rest has =
    let same = same_text x y e in
    let first : one_if (p y) ≡ 0 = ap one_if (ap p (sym same) ∙ fails) in
    let second : one_if (q y) ≡ 1 = ap one_if (ap q (sym same) ∙ passes) in
    omega (arith, first, second, all, count_cons p y ys, count_cons q y ys)
less_where false p q x y ys e fails passes one all rest has =
    let less = rest has in omega (arith, one, less, count_cons p y ys, count_cons q y ys)

pub counts_less : (p q : Text → Bool) → ((k : Text) → p k ≡ true → q k ≡ true) → (x : Text) (ys : List Text) → p x ≡ false → q x ≡ true
    → has_text x ys ≡ true → count_by p ys < count_by q ys
counts_less p q f x [] fails passes has = absurd cc
counts_less p q f x (y ∷ ys) fails passes has =
    less_where (bytes_eq x y) p q x y ys refl fails passes (flags (p y) (q y) (f y)) (counts_more p q f ys) (counts_less p q f x ys fails passes) has

neither : (a b : Bool) → (a || b) ≡ false → (a ≡ false) × (b ≡ false)
neither true b e = absurd cc
neither false b e = (refl, e)

-- where no text stands twice, a test that passes at one text more counts one more at most
pub counts_within : (p q : Text → Bool) (x : Text) → ((k : Text) → bytes_eq x k ≡ false → p k ≡ true → q k ≡ true) → (ys : List Text)
    → has_text x ys ≡ false → count_by p ys ≤ count_by q ys
counts_within p q x f [] none = omega arith
counts_within p q x f (y ∷ ys) none =
    let parts = neither (bytes_eq x y) (has_text x ys) none in
    let rest = counts_within p q x f ys parts.1 in
    let one = flags (p y) (q y) (f y parts.0) in
    omega (arith, rest, one, count_cons p y ys, count_cons q y ys)

one_more_where : (is : Bool) (p q : Text → Bool) (x y : Text) (ys : List Text) → bytes_eq x y ≡ is
    → ((k : Text) → bytes_eq x k ≡ false → p k ≡ true → q k ≡ true) → has_text y ys ≡ false → count_by p ys ≤ count_by q ys + 1
    → count_by p (y ∷ ys) ≤ count_by q (y ∷ ys) + 1
one_more_where true p q x y ys e f none rest =
    let same = same_text x y e in
    let all = counts_within p q x f ys (ap (λ k. has_text k ys) same ∙ none) in
    let one = flag (p y) in
    omega (arith, one, all, count_cons p y ys, count_cons q y ys)
one_more_where false p q x y ys e f none rest =
    let one = flags (p y) (q y) (f y e) in
    omega (arith, one, rest, count_cons p y ys, count_cons q y ys)

pub counts_one_more : (p q : Text → Bool) (x : Text) → ((k : Text) → bytes_eq x k ≡ false → p k ≡ true → q k ≡ true) → (ys : List Text) → NoTwice ys
    → count_by p ys ≤ count_by q ys + 1
counts_one_more p q x f [] all = omega arith
counts_one_more p q x f (y ∷ ys) all =
    one_more_where (bytes_eq x y) p q x y ys refl f all.0 (counts_one_more p q x f ys all.1)
