-- Rules in the order of their steps: those whose steps begin alike rise at the next.
use Rattle.std.proofs.Common.{◌≡◌, ℕ, zero, suc, ◌+◌, ◌<◌, ◌≤◌, Bool, true, false, cond, List, [], ◌∷◌, ◌++◌, length, get_or, reverse, refl, sym, ap, ◌∙◌, subst, arith}
use Rattle.std.specs.Prelude.{◌==◌, ◌&&◌, filter}
use Rattle.std.specs.Bool.{⊤}
use Rattle.std.specs.List.{AllByRecursion}
use Rattle.std.specs.List.Sorted.{IsNonDecreasingBy}
use Rattle.std.specs.Cmp.Lexicographic.{slice_cmp}
use Rattle.std.specs.Ordering.{nat_cmp, is_lt, ordering_then, MatchOrdering}
use Rattle.std.specs.declared.cmp.Ordering.{Ordering}
use Rattle.std.specs.declared.cmp.Ordering.TheVariants.{Less, Equal, Greater}
use Rattle.std.proofs.lemmas.Bool.Decides.{nat_tests}
use Rattle.std.proofs.lemmas.Cmp.{ranked, nat_list_cmp_total}
use Rattle.std.proofs.lemmas.List.{length-append, length-map, length-reverse}
use Rattle.std.proofs.lemmas.List.Elements.{All-from_recursion, recursion_from_All}
use Rattle.std.proofs.lemmas.List.Sorted.{sorted_far, ranks_by}
use Rattle.public_suffix.specs.declared.rule.Rule.{Rule}
use Rattle.public_suffix.specs.Steps.{byte_step, mark_step, text_steps, rule_steps, step_at, AreInOrder, RiseAt}

-- ---- the order of steps

-- the first number decides, and where it is the same the rest
first_le : (y x : ℕ) (r o : Ordering) → MatchOrdering r (y < x) (y ≡ x) (x < y) → is_lt (ordering_then r o) ≡ false → x ≤ y
first_le y x Less o less up = absurd (cc)
first_le y x Equal o same up = omega arith
first_le y x Greater o more up = omega arith

then_rest : (y x : ℕ) (r o : Ordering) → MatchOrdering r (y < x) (y ≡ x) (x < y) → y ≡ x → ordering_then r o ≡ o
then_rest y x Less o less same = absurd (omega arith)
then_rest y x Equal o _ same = refl
then_rest y x Greater o more same = absurd (omega arith)

then_first : (y x : ℕ) (r o : Ordering) → MatchOrdering r (y < x) (y ≡ x) (x < y) → (y ≡ x → ⊥) → r ≡ ordering_then r o
then_first y x Less o less other = refl
then_first y x Equal o same other = absurd (other same)
then_first y x Greater o more other = refl

same_cmp : (x y : ℕ) (r q : Ordering) → MatchOrdering r (x < y) (x ≡ y) (y < x) → MatchOrdering q (x + 1 < y + 1) (x + 1 ≡ y + 1) (y + 1 < x + 1) → r ≡ q
same_cmp x y Less Less a b = refl
same_cmp x y Less Equal a b = absurd (omega arith)
same_cmp x y Less Greater a b = absurd (omega arith)
same_cmp x y Equal Less a b = absurd (omega arith)
same_cmp x y Equal Equal a b = refl
same_cmp x y Equal Greater a b = absurd (omega arith)
same_cmp x y Greater Less a b = absurd (omega arith)
same_cmp x y Greater Equal a b = absurd (omega arith)
same_cmp x y Greater Greater a b = refl

is_less : (x y : ℕ) (r : Ordering) → MatchOrdering r (x < y) (x ≡ y) (y < x) → x < y → r ≡ Less
is_less x y Less rank less = refl
is_less x y Equal rank less = absurd (omega arith)
is_less x y Greater rank less = absurd (omega arith)

is_greater : (x y : ℕ) (r : Ordering) → MatchOrdering r (x < y) (x ≡ y) (y < x) → y < x → r ≡ Greater
is_greater x y Less rank more = absurd (omega arith)
is_greater x y Equal rank more = absurd (omega arith)
is_greater x y Greater rank more = refl

pub cmp_more : (x y : ℕ) → nat_cmp x y ≡ nat_cmp (x + 1) (y + 1)
cmp_more x y = same_cmp x y (nat_cmp x y) (nat_cmp (x + 1) (y + 1)) (ranked x y _ refl) (ranked (x + 1) (y + 1) _ refl)

-- where lists are the same up to a place and not there, the numbers there decide
pub cmp_at : (xs ys : List ℕ) (i : ℕ) → i < length xs → i < length ys → ((k : ℕ) → k < i → get_or xs k 0 ≡ get_or ys k 0) → (get_or xs i 0 ≡ get_or ys i 0 → ⊥) → nat_cmp (get_or xs i 0) (get_or ys i 0) ≡ slice_cmp nat_cmp xs ys
cmp_at [] ys i a b same other = absurd (omega arith)
cmp_at (x ∷ xs) [] i a b same other = absurd (omega arith)
cmp_at (x ∷ xs) (y ∷ ys) zero a b same other = then_first x y (nat_cmp x y) (slice_cmp nat_cmp xs ys) (ranked x y _ refl) other
cmp_at (x ∷ xs) (y ∷ ys) (suc i) a b same other =
    cmp_at xs ys i (omega arith) (omega arith) (λ k below. same (suc k) (omega arith)) other
    ∙ sym (then_rest x y (nat_cmp x y) (slice_cmp nat_cmp xs ys) (ranked x y _ refl) (same 0 (omega arith)))

-- where they are the same as far as both go, their lengths decide
pub cmp_lengths : (xs ys : List ℕ) → ((k : ℕ) → k < length xs → k < length ys → get_or xs k 0 ≡ get_or ys k 0) → nat_cmp (length xs) (length ys) ≡ slice_cmp nat_cmp xs ys
cmp_lengths [] [] same = refl
cmp_lengths [] (y ∷ ys) same = is_less 0 (length (y ∷ ys)) _ (ranked 0 (length (y ∷ ys)) _ refl) (omega arith)
cmp_lengths (x ∷ xs) [] same = is_greater (length (x ∷ xs)) 0 _ (ranked (length (x ∷ xs)) 0 _ refl) (omega arith)
cmp_lengths (x ∷ xs) (y ∷ ys) same =
    (let m : length (x ∷ xs) ≡ length xs + 1 = omega arith in let n : length (y ∷ ys) ≡ length ys + 1 = omega arith in ap (λ (k : ℕ). nat_cmp k (length (y ∷ ys))) m ∙ ap (nat_cmp (length xs + 1)) n ∙ sym (cmp_more (length xs) (length ys)))
    ∙ cmp_lengths xs ys (λ k a b. same (suc k) (omega arith) (omega arith))
    ∙ sym (then_rest x y (nat_cmp x y) (slice_cmp nat_cmp xs ys) (ranked x y _ refl) (same 0 (omega arith) (omega arith)))

-- ---- the steps of a rule

pub text_steps_length : (text : List ℕ) → length (text_steps text) ≡ length text
text_steps_length text = length-map (reverse text) byte_step ∙ length-reverse text

pub rule_steps_length : (rule : Rule) → length (rule_steps rule) ≡ length rule.text + 1
rule_steps_length rule = omega (arith, length-append (text_steps rule.text) (mark_step rule.mark ∷ []), text_steps_length rule.text)

-- ---- steps that begin alike

-- whether steps begin with others
abbrev pub begins : List ℕ → List ℕ → Bool
begins [] steps = true
begins (p ∷ ps) [] = false
begins (p ∷ ps) (s ∷ ss) = (s == p) && begins ps ss

and_true : (a : Bool) → (a && true) ≡ a
and_true true = refl
and_true false = refl

and_assoc : (a b c : Bool) → (a && (b && c)) ≡ ((a && b) && c)
and_assoc true b c = refl
and_assoc false b c = refl

pub and_first : (a b : Bool) → (a && b) ≡ true → a ≡ true
and_first true b both = refl
and_first false b both = both

pub and_second : (a b : Bool) → (a && b) ≡ true → b ≡ true
and_second true b both = both
and_second false b both = absurd (cc)

pub same_number : (x y : ℕ) → (x == y) ≡ true → x ≡ y
same_number x y same = grind (arith, nat_tests)

other_number : (s : ℕ) → 0 < s → false ≡ (0 == s)
other_number s some = grind (arith, nat_tests)

-- with one step more, they begin with the others and have this one next
pub begins-more : (ps steps : List ℕ) (s : ℕ) → 0 < s → begins (ps ++ s ∷ []) steps ≡ (begins ps steps && (get_or steps (length ps) 0 == s))
begins-more [] [] s some = other_number s some
begins-more [] (x ∷ xs) s some = and_true (x == s)
begins-more (p ∷ ps) [] s some = refl
begins-more (p ∷ ps) (x ∷ xs) s some = ap (λ (b : Bool). (x == p) && b) (begins-more ps xs s some) ∙ and_assoc (x == p) (begins ps xs) (get_or xs (length ps) 0 == s)

-- of two that begin alike the later has no lesser step next
pub next_rises : (ps xs ys : List ℕ) → begins ps xs ≡ true → begins ps ys ≡ true → is_lt (slice_cmp nat_cmp ys xs) ≡ false → get_or xs (length ps) 0 ≤ get_or ys (length ps) 0
next_rises [] [] ys a b up = omega arith
next_rises [] (x ∷ xs) [] a b up = absurd (cc)
next_rises [] (x ∷ xs) (y ∷ ys) a b up = first_le y x (nat_cmp y x) (slice_cmp nat_cmp ys xs) (ranked y x _ refl) up
next_rises (p ∷ ps) [] ys a b up = absurd (cc)
next_rises (p ∷ ps) (x ∷ xs) [] a b up = absurd (cc)
next_rises (p ∷ ps) (x ∷ xs) (y ∷ ys) a b up =
    let one = same_number x p (and_first (x == p) (begins ps xs) a) in
    let two = same_number y p (and_first (y == p) (begins ps ys) b) in
    next_rises ps xs ys (and_second (x == p) (begins ps xs) a) (and_second (y == p) (begins ps ys) b)
    (ap is_lt (sym (then_rest y x (nat_cmp y x) (slice_cmp nat_cmp ys xs) (ranked y x _ refl) (two ∙ sym one))) ∙ up)

-- ---- rules in order

-- no rule comes after a later one
abbrev Climbs : List Rule → Type 0
Climbs [] = ⊤
Climbs (x ∷ xs) = AllByRecursion (λ y. is_lt (slice_cmp nat_cmp (rule_steps y) (rule_steps x)) ≡ false) xs × Climbs xs

sorted_climbs : (rules : List Rule) → AreInOrder rules → Climbs rules
sorted_climbs [] sorted = tt
sorted_climbs (x ∷ xs) sorted = (
  recursion_from_All (λ y. is_lt (slice_cmp nat_cmp (rule_steps y) (rule_steps x)) ≡ false) xs
      (λ k d h. sorted_far (λ y z. is_lt (slice_cmp nat_cmp (rule_steps y) (rule_steps z))) (ranks_by nat_list_cmp_total rule_steps) (x ∷ xs) sorted 0 (suc k) d (omega arith) (omega arith)),
  sorted_climbs xs
      (λ k d low high.
      let e : suc k + 1 ≡ suc (k + 1) = omega arith in
      subst (λ n. is_lt (slice_cmp nat_cmp (rule_steps (get_or (x ∷ xs) n d)) (rule_steps (get_or xs k d))) ≡ false) e (sorted (suc k) d (omega arith) (omega arith))),
)

module _ {X : Type 0} (f : X → ℕ) where
  -- numbers that rise
  abbrev Rise : List X → Type 0
  Rise [] = ⊤
  Rise (x ∷ xs) = AllByRecursion (λ y. f x ≤ f y) xs × Rise xs

  rise_by_index : (xs : List X) → Rise xs → IsNonDecreasingBy f xs
  rise_by_index [] up i j d le lt = absurd (omega arith)
  rise_by_index (x ∷ xs) up zero zero d le lt = omega arith
  rise_by_index (x ∷ xs) up zero (suc j) d le lt = All-from_recursion (λ y. f x ≤ f y) xs up.0 j d (omega arith)
  rise_by_index (x ∷ xs) up (suc i) zero d le lt = absurd (omega arith)
  rise_by_index (x ∷ xs) up (suc i) (suc j) d le lt = rise_by_index xs up.1 i j d (omega arith) (omega arith)

-- those that begin with some steps rise at the next
module _ (ps : List ℕ) where
  all_rise : (x : Rule) (rules : List Rule) → begins ps (rule_steps x) ≡ true → AllByRecursion (λ y. is_lt (slice_cmp nat_cmp (rule_steps y) (rule_steps x)) ≡ false) rules → AllByRecursion (λ y. step_at (length ps) x ≤ step_at (length ps) y) (filter (λ r. begins ps (rule_steps r)) rules)
  all_rise x [] here all = tt
  all_rise x (y ∷ ys) here all =
      elim (begins ps (rule_steps y)) as (λ b. begins ps (rule_steps y) ≡ b → AllByRecursion (λ z. step_at (length ps) x ≤ step_at (length ps) z) (cond b (y ∷ filter (λ r. begins ps (rule_steps r)) ys) (filter (λ r. begins ps (rule_steps r)) ys))) [
        | true ↦ λ there. (next_rises ps (rule_steps x) (rule_steps y) here there all.0, all_rise x ys here all.1)
        | false ↦ λ _. all_rise x ys here all.1
      ] refl

  climbs_rise : (rules : List Rule) → Climbs rules → Rise (step_at (length ps)) (filter (λ r. begins ps (rule_steps r)) rules)
  climbs_rise [] up = tt
  climbs_rise (x ∷ xs) up =
      elim (begins ps (rule_steps x)) as (λ b. begins ps (rule_steps x) ≡ b → Rise (step_at (length ps)) (cond b (x ∷ filter (λ r. begins ps (rule_steps r)) xs) (filter (λ r. begins ps (rule_steps r)) xs))) [
        | true ↦ λ here. (all_rise x xs here up.0, climbs_rise xs up.1)
        | false ↦ λ _. climbs_rise xs up.1
      ] refl

  pub begun_rise : (rules : List Rule) → AreInOrder rules → RiseAt (length ps) (filter (λ r. begins ps (rule_steps r)) rules)
  begun_rise rules sorted = rise_by_index (step_at (length ps)) (filter (λ r. begins ps (rule_steps r)) rules) (climbs_rise rules (sorted_climbs rules sorted))
