-- The six points follow from the rule.
use Rattle.std.proofs.Common.{◌≡◌, ◌≢◌, ◌<◌, ◌≤◌, ◌+◌, ◌&&◌, ℕ, zero, suc, List, [], ◌∷◌, set, Bool, true, false, cond, refl, sym, ap, ◌∙◌, subst, ⊎_elim, arith, Option, Some, None, add-zero}
use Rattle.std.specs.Prelude.{nat_lt, ◌==◌}
use mathlib.Core.Option.{some, some-injective}
use lib.ListN.{get_elem?}
use Rattle.std.proofs.lemmas.Bool.{cases_eq, cases_Bool, and_parts, lt-ltb, eq-eqb, eqb-true, ltb-true, le-ltb}
use Rattle.atomic_table.proofs.Lists.{set_else}
use Rattle.version_cells.specs.declared.view.Permit.{Permit}
use Rattle.version_cells.specs.declared.view.Kind.{Kind}
use Rattle.version_cells.specs.declared.view.Kind.TheVariants.{Baton, Pass, Copy, Spent}
use Rattle.version_cells.specs.declared.view.View.{View}
use Rattle.version_cells.specs.Listings.{one, total, owned}
use Rattle.version_cells.specs.Views.{is_pass, is_pass_of, is_permit_of, uses_of, spent_view, At}
use Rattle.version_cells.specs.Held.{IsPassOf, Holds, AtHome, Away, Held}
use Rattle.version_cells.specs.Rule.{RuleAt, RuleHasSixPoints, pass_count, permit_count, entry_count}
use Rattle.version_cells.proofs.Sums.{total-set, total_at, two_at, alone, none_of, each_set_else}
use Rattle.version_cells.proofs.Fronting.{calls_at_home}

one_le : (b : Bool) → one b ≤ 1
one_le true = omega arith
one_le false = omega arith

one_true : (b : Bool) → 1 ≤ one b → b ≡ true
one_true true h = refl
one_true false h = absurd (omega arith)

one_zero : (b : Bool) → one b ≡ 0 → b ≡ false
one_zero true h = absurd (omega arith)
one_zero false h = refl

true_one : (b : Bool) → b ≡ true → 1 ≤ one b
true_one b h = subst (λ t. 1 ≤ one t) (sym h) (omega arith)

is_one : (n : ℕ) (v : View) → IsPassOf n v → is_pass_of n v ≡ true
is_one n v h = ap (λ t. is_pass t && (v.number == n)) h.0 ∙ eq-eqb v.number n h.1

-- where one item weighs something, one is found
abbrev Found : {A : Type 0} → (A → ℕ) → List A → Type 0
Found {A} f xs = (i : ℕ) × (x : A) × (get_elem? xs i ≡ some x) × (1 ≤ f x)

further : {A : Type 0} (f : A → ℕ) (x : A) (xs : List A) → (1 ≤ total f xs → Found f xs)
    → 1 ≤ f x + total f xs → (k : ℕ) → f x ≡ k → Found f (x ∷ xs)
further f x xs rest h zero e = let r = rest (omega arith) in (suc r.0, r.1, r.2, r.3)
further f x xs rest h (suc k) e = (0, x, refl, omega arith)

found : {A : Type 0} (f : A → ℕ) (xs : List A) → 1 ≤ total f xs → Found f xs
found f [] h = absurd (omega arith)
found f (x ∷ xs) h = further f x xs (found f xs) h (f x) refl

kind_of : (q : Kind) → is_pass q ≡ true → q ≡ Pass
kind_of Baton g = let z : false ≡ true = g in cc
kind_of Pass g = refl
kind_of Copy g = let z : false ≡ true = g in cc
kind_of Spent g = let z : false ≡ true = g in cc

numbered_is : (n : ℕ) (u : View) → is_pass_of n u ≡ true → IsPassOf n u
numbered_is n u h = let p = and_parts (is_pass u.kind) (u.number == n) h in (kind_of u.kind p.0, eqb-true u.number n p.1)

too_many : (a b t c : ℕ) → 1 ≤ a → 1 ≤ b → a + b ≤ t → t ≡ c → c ≤ 1 → ⊥
too_many a b t c h i j e l = omega arith

zero_parts : (x y : ℕ) → x + y ≡ 0 → (x ≡ 0) × (y ≡ 0)
zero_parts x y h = (omega arith, omega arith)

module _ (words : List ℕ) (views : List View) (seat : ℕ) (b : View) (k : RuleAt words views seat b) where
  below : (n t : ℕ) → 1 ≤ t → t ≤ one (nat_lt n b.next) → n < b.next
  below n t h l = ltb-true n b.next (one_true (nat_lt n b.next) (omega arith))

  differ : (by other n : ℕ) (v w : View) → At views by v → At views other w → IsPassOf n v
      → IsPassOf n w → by ≡ other
  differ by other n v w at there iv iw = ⊎_elim (λ (e : by ≡ other). e)
      (λ (ne : by ≢ other). absurd (too_many _ _ _ _ (true_one (is_pass_of n v) (is_one n v iv)) (true_one (is_pass_of n w) (is_one n w iw))
      (two_at (pass_count n) views by other v w at there (λ e. ne (sym e))) (k.passes n) (one_le (nat_lt n b.next))))
      (cases_eq by other)

  numbers : (by n : ℕ) (v : View) → At views by v → IsPassOf n v → n < b.next
  numbers by n v at iv = below n (pass_count n v) (true_one (is_pass_of n v) (is_one n v iv)) (let t = total_at (pass_count n) views by v at in let p = k.passes n in omega arith)

  -- who holds a permit counts for it
  permit_is_of : (n uses : ℕ) (v : View) → v.permit ≡ Some (record { number = n; uses = uses })
      → (is_permit_of n v.permit ≡ true)
  permit_is_of n uses v e = ap (λ (o : Option Permit). is_permit_of n o) e ∙ eq-eqb n n refl

  counts_permit : (n uses : ℕ) (v : View) → v.permit ≡ Some (record { number = n; uses = uses })
      → 1 ≤ permit_count n v
  counts_permit n uses v e = let t = true_one (is_permit_of n v.permit) (permit_is_of n uses v e) in omega arith

  permits_low : (by n uses : ℕ) → Holds views by n uses → n < b.next
  permits_low by n uses h = below n (permit_count n h.0) (counts_permit n uses h.0 h.2) (let t = total_at (permit_count n) views by h.0 h.1 in let p = k.permits n in omega arith)

  only_one : (by other n uses more : ℕ) → Holds views by n uses → Holds views other n more
      → other ≡ by
  only_one by other n uses more h g = ⊎_elim (λ (e : other ≡ by). e)
      (λ (ne : other ≢ by). absurd (too_many _ _ _ _ (counts_permit n uses h.0 h.2) (counts_permit n more g.0 g.2)
      (two_at (permit_count n) views by other h.0 g.0 h.1 g.1 ne) (k.permits n) (one_le (nat_lt n b.next))))
      (cases_eq other by)

  -- a view without number and permit accounts for nothing
  no_account : (n : ℕ) (w : View) → pass_count n w ≡ 0 → one (is_permit_of n w.permit) ≡ 0
      → entry_count n w ≡ 0
  no_account n w p q =
      ap (λ t. cond t w.calls 0 + cond (is_permit_of n w.permit) (uses_of w.permit) 0) (one_zero (is_pass_of n w) p)
      ∙ ap (λ t. 0 + cond t (uses_of w.permit) 0) (one_zero (is_permit_of n w.permit) q)

  owners : (n : ℕ) → b.next ≤ n → owned n b.own.seen ≡ 0
  owners n h = sym (k.entries n) ∙ none_of (entry_count n) views each
    where
      none : one (nat_lt n b.next) ≡ 0
      none = ap one (le-ltb n b.next h)

      least : (f t c : ℕ) → f ≤ t → t ≡ c → c ≡ 0 → f ≡ 0
      least f t c i j l = omega arith

      each : (j : ℕ) (w : View) → get_elem? views j ≡ some w → entry_count n w ≡ 0
      each j w at = no_account n w (least _ _ _ (total_at (pass_count n) views j w at) (k.passes n) none)
          (zero_parts _ _ (least _ _ _ (total_at (permit_count n) views j w at) (k.permits n) none)).1

  home_permit : (n : ℕ) (v : View) → IsPassOf n v → v.away ≡ false
      → permit_count n v ≡ 1 + one (is_permit_of n v.permit)
  home_permit n v iv home = ap (λ t. cond t 0 (pass_count n v) + one (is_permit_of n v.permit)) home ∙ ap (λ t. one t + one (is_permit_of n v.permit)) (is_one n v iv)

  at_home : (by n : ℕ) (v : View) → At views by v → IsPassOf n v → v.away ≡ false
      → AtHome views b.own.seen n v.calls
  at_home by n v at iv home = (nobody, subst (λ m. owned m b.own.seen ≡ v.calls) iv.1 (calls_at_home words views seat b by v k at iv.0 home))
    where
      twice : (a p t c : ℕ) → a ≡ 1 + p → 1 ≤ p → a ≤ t → t ≡ c → c ≤ 1 → ⊥
      twice a p t c h i j e l = omega arith

      nobody : (other uses : ℕ) → ¬ (Holds views other n uses)
      nobody other uses h = ⊎_elim
          (λ (e : other ≡ by). let same : h.0 ≡ v = some-injective h.0 v (sym h.1 ∙ ap (get_elem? views) e ∙ at) in
          twice _ _ _ _ (home_permit n v iv home)
          (true_one (is_permit_of n v.permit) (ap (λ (u : View). is_permit_of n u.permit) (sym same) ∙ permit_is_of n uses h.0 h.2))
          (total_at (permit_count n) views by v at) (k.permits n) (one_le (nat_lt n b.next)))
          (λ (ne : other ≢ by). too_many _ _ _ _ (let t = home_permit n v iv home in omega arith) (counts_permit n uses h.0 h.2)
          (two_at (permit_count n) views by other v h.0 at h.1 ne) (k.permits n) (one_le (nat_lt n b.next)))
          (cases_eq other by)

  permit_is : (n : ℕ) (o : Option Permit) → is_permit_of n o ≡ true
      → o ≡ Some (record { number = n; uses = uses_of o })
  permit_is n None h = let z : false ≡ true = h in cc
  permit_is n (Some p) h = ap (λ m. Some (record { number = m; uses = p.uses })) (eqb-true p.number n h)

  -- the holder of a permit that is away
  module _ (by n : ℕ) (v : View) (at : At views by v) (iv : IsPassOf n v) (gone : v.away ≡ true) where
    holder : (i : ℕ) × (u : View) × At views i u × (is_permit_of n u.permit ≡ true)
    holder = let f = found (permit_count n) views (subst (λ t. 1 ≤ t) (sym (k.permits n)) (true_one (nat_lt n b.next) (lt (numbers by n v at iv)))) in
        (f.0, f.1, f.2, held_by f.0 f.1 f.2 f.3 f.1.away refl)
      where
        lt : n < b.next → nat_lt n b.next ≡ true
        lt h = lt-ltb n b.next h

        second : (x y : ℕ) → 1 ≤ x + y → x ≡ 0 → 1 ≤ y
        second x y h e = omega arith

        held_by : (i : ℕ) (u : View) → At views i u → 1 ≤ permit_count n u → (a : Bool) → u.away ≡ a
            → is_permit_of n u.permit ≡ true
        held_by i u there some_permit true e = one_true (is_permit_of n u.permit) (second (cond u.away 0 (pass_count n u)) _ some_permit (ap (λ t. cond t 0 (pass_count n u)) e))
        held_by i u there some_permit false e = ⊎_elim
            (λ (y : is_pass_of n u ≡ true).
            let where_ : i ≡ by = differ i by n u v there at (numbered_is n u y) iv in
            let same : u ≡ v = some-injective u v (sym there ∙ ap (get_elem? views) where_ ∙ at) in
            let z : false ≡ true = sym e ∙ ap (λ (x : View). x.away) same ∙ gone in cc)
            (λ (no : is_pass_of n u ≡ false).
            one_true (is_permit_of n u.permit) (second (cond u.away 0 (pass_count n u)) _ some_permit (ap (λ t. cond t 0 (pass_count n u)) e ∙ ap one no)))
            (cases_Bool (is_pass_of n u))

    -- all that is accounted for lies with the pass and the holder
    accounted : (i : ℕ) (u : View) → At views i u → is_permit_of n u.permit ≡ true
        → total (entry_count n) views ≡ v.calls + uses_of u.permit
    accounted i u there held = ⊎_elim together apart (cases_eq i by)
      where
        rest : (x y z t c : ℕ) → x + y ≤ t → 1 ≤ x → t ≡ c → c ≤ 1 → y ≡ 0
        rest x y z t c h a e l = omega arith

        others : (j : ℕ) (w : View) → j ≢ by → j ≢ i → At views j w → entry_count n w ≡ 0
        others j w nb ni aj = no_account n w
            (rest _ _ 0 _ _ (two_at (pass_count n) views by j v w at aj nb) (true_one (is_pass_of n v) (is_one n v iv)) (k.passes n) (one_le (nat_lt n b.next)))
            (zero_parts _ _ (rest _ _ 0 _ _ (two_at (permit_count n) views i j u w there aj ni) (let t = true_one (is_permit_of n u.permit) held in omega arith) (k.permits n) (one_le (nat_lt n b.next)))).1

        own : entry_count n v ≡ v.calls + cond (is_permit_of n v.permit) (uses_of v.permit) 0
        own = ap (λ t. cond t v.calls 0 + cond (is_permit_of n v.permit) (uses_of v.permit) 0) (is_one n v iv)

        together : i ≡ by → total (entry_count n) views ≡ v.calls + uses_of u.permit
        together e =
            let same : u ≡ v = some-injective u v (sym there ∙ ap (get_elem? views) e ∙ at) in
            alone (entry_count n) views by v at (λ j w nb aj. others j w nb (λ q. nb (q ∙ e)) aj) ∙ own
            ∙ ap (λ (x : View). v.calls + cond (is_permit_of n x.permit) (uses_of x.permit) 0) (sym same) ∙ ap (λ t. v.calls + cond t (uses_of u.permit) 0) held

        apart : i ≢ by → total (entry_count n) views ≡ v.calls + uses_of u.permit
        apart ne =
            let no_own : one (is_permit_of n v.permit) ≡ 0 = (zero_parts _ _ (rest _ _ 0 _ _ (two_at (permit_count n) views i by u v there at (λ e. ne (sym e))) (let t = true_one (is_permit_of n u.permit) held in omega arith) (k.permits n) (one_le (nat_lt n b.next)))).1 in
            let mine : entry_count n v ≡ v.calls = own ∙ ap (λ t. v.calls + cond t (uses_of v.permit) 0) (one_zero (is_permit_of n v.permit) no_own) ∙ add-zero v.calls in
            let not_his : pass_count n u ≡ 0 = rest _ _ 0 _ _ (two_at (pass_count n) views by i v u at there ne) (true_one (is_pass_of n v) (is_one n v iv)) (k.passes n) (one_le (nat_lt n b.next)) in
            let his : entry_count n u ≡ 0 + uses_of u.permit = ap (λ t. cond t u.calls 0 + cond (is_permit_of n u.permit) (uses_of u.permit) 0) (one_zero (is_pass_of n u) not_his) ∙ ap (λ t. 0 + cond t (uses_of u.permit) 0) held in
            let without = total-set (entry_count n) views by v spent_view at in
            let left : total (entry_count n) (set views by spent_view) ≡ entry_count n u =
            alone (entry_count n) (set views by spent_view) i u (set_else views by i spent_view ne ∙ there)
            (λ j w ni aj. each_set_else (λ m (x : View). m ≢ i → entry_count n x ≡ 0) views by spent_view (λ m x nb am nm. others m x nb nm am) (λ _. refl) j w aj ni) in
            sums _ _ _ _ _ _ without left mine his
          where
            sums : (t o a q c x : ℕ) → o + a ≡ t + 0 → o ≡ q → a ≡ c → q ≡ 0 + x → t ≡ c + x
            sums t o a q c x h e f g = omega arith

    is_away : Away views b.own.seen n v.calls
    is_away =
        let h = holder in
        let is = permit_is n h.1.permit h.3 in (
          h.0,
          uses_of h.1.permit,
          (h.1, h.2, is),
          (λ other more g. only_one h.0 other n (uses_of h.1.permit) more (h.1, h.2, is) g),
          sym (k.entries n) ∙ accounted h.0 h.1 h.2 h.3,
        )

  pub points : Held words views b
  points = record {
    sized = k.size;
    counted = k.counted;
    versions = k.versions;
    remembered = k.remembered;
    last = k.last;
    numbers_differ = differ;
    numbers_below = numbers;
    owners_below = owners;
    permits_below = permits_low;
    at_home = at_home;
    away = is_away;
  }

pub rule_has_six_points : RuleHasSixPoints
rule_has_six_points words views r = (r.0, r.1, r.2.at_seat, r.2.is_baton, r.2.only, points words views r.0 r.1 r.2)
