-- A view that is cut in two keeps the rule.
use Rattle.std.proofs.Common.{◌≡◌, ◌≢◌, ◌<◌, ◌+◌, ◌&&◌, ℕ, List, [], ◌∷◌, ◌++◌, set, Bool, true, false, cond, refl, sym, ap, ◌∙◌, ⊎_elim, arith, Option, None, add-zero}
use Rattle.std.specs.Prelude.{nat_lt, ◌==◌}
use Rattle.std.proofs.lemmas.Bool.{cases_order, lt-ltb, le-ltb, eq-eqb, ne_eqb}
use Rattle.atomic_table.proofs.Lists.{set_here, at_longer}
use Rattle.atomic_table.specs.Table.{Splits}
use Rattle.version_cells.specs.declared.listing.Listing.{Listing}
use Rattle.version_cells.specs.declared.view.Permit.{Permit}
use Rattle.version_cells.specs.declared.view.Kind.TheVariants.{Baton, Pass, Copy}
use Rattle.version_cells.specs.declared.view.View.{View}
use Rattle.version_cells.specs.Listings.{one, total, owned}
use Rattle.version_cells.specs.Views.{is_pass, is_permit_of, no_memory, new_pass, memories, At}
use Rattle.version_cells.specs.Moves.{after_new_pass, without_permit, baton_copy_with_permit, baton_copy, pass_copy, pass_copy_with_permit, after_lending}
use Rattle.version_cells.specs.Held.{Fits, AllFit, RemembersLast}
use Rattle.version_cells.specs.Rule.{RuleAt, pass_count, permit_count, entry_count}
use Rattle.version_cells.proofs.Sums.{total-set, total_push, each_set, each_push}
use Rattle.version_cells.proofs.Prefixes.{starts_itself}
use Rattle.version_cells.proofs.Keeping.{at_length, seated, other_there}
use Rattle.version_cells.proofs.Steps.{Holding, pass_no_baton}

parts : (u t p v l r a b : ℕ) → u + v ≡ t + l → p ≡ u + r → t ≡ a → a + l + r ≡ v + b → p ≡ b
parts u t p v l r a b h e k w = omega arith

-- a pass's view is cut, and no seat of a baton is concerned
pass_cut : (words : List ℕ) (views : List View) (seat : ℕ) (b : View) (id : ℕ) (v l r : View)
    → RuleAt words views seat b → At views id v
    → v.kind ≢ Baton → l.kind ≢ Baton → r.kind ≢ Baton → AllFit words b.own.seen (memories l)
    → AllFit words b.own.seen (memories r)
    → RemembersLast l → RemembersLast r
    → ((n : ℕ) → pass_count n l + pass_count n r ≡ pass_count n v)
    → ((n : ℕ) → permit_count n l + permit_count n r ≡ permit_count n v)
    → ((n : ℕ) → entry_count n l + entry_count n r ≡ entry_count n v)
    → RuleAt words (set views id l ++ r ∷ []) seat b
pass_cut words views seat b id v l r k at vk lk rk lfit rfit llast rlast passes_fit permits_fit entries_fit = record {
  at_seat = at_longer (set views id l) (r ∷ []) seat b (other_there views seat b id v l k.at_seat at vk k.is_baton);
  is_baton = k.is_baton;
  only = each_push (λ by (u : View). u.kind ≡ Baton → by ≡ seat) (set views id l) r
      (each_set (λ by (u : View). u.kind ≡ Baton → by ≡ seat) views id l k.only (λ e. absurd (lk e))) (λ by e. absurd (rk e));
  size = k.size;
  room = k.room;
  counted = k.counted;
  versions = k.versions;
  remembered = each_push (λ by (u : View). AllFit words b.own.seen (memories u)) (set views id l) r
      (each_set (λ by (u : View). AllFit words b.own.seen (memories u)) views id l k.remembered lfit) (λ by. rfit);
  last = each_push (λ by (u : View). RemembersLast u) (set views id l) r
      (each_set (λ by (u : View). RemembersLast u) views id l k.last llast) (λ by. rlast);
  passes = λ n. cut (pass_count n) (k.passes n) (passes_fit n);
  permits = λ n. cut (permit_count n) (k.permits n) (permits_fit n);
  entries = λ n. cut (entry_count n) (k.entries n) (entries_fit n);
}
  where
    sum : (a lf rf vf : ℕ) → lf + rf ≡ vf → a + lf + rf ≡ vf + a
    sum a lf rf vf h = omega arith

    cut : (f : View → ℕ) {a : ℕ} → total f views ≡ a → f l + f r ≡ f v
        → total f (set views id l ++ r ∷ []) ≡ a
    cut f {a} e w = parts _ _ _ _ _ _ _ _ (total-set f views id v l at) (total_push f (set views id l) r) e (sum a (f l) (f r) (f v) w)

-- the baton's view is cut, or makes a pass
baton_cut : (words : List ℕ) (views : List View) (id : ℕ) (v : View) (next : ℕ) (p : Option Permit)
    (r : View)
    → RuleAt words views id v
    → r.kind ≢ Baton → AllFit words v.own.seen (memories r)
    → RemembersLast r
    → ((n : ℕ) → one (nat_lt n v.next) + pass_count n v + pass_count n r ≡ pass_count n v + one (nat_lt n next))
    → ((n : ℕ) → one (nat_lt n v.next) + permit_count n (record v { next = next; permit = p }) + permit_count n r ≡ permit_count n v + one (nat_lt n next))
    → ((n : ℕ) → owned n v.own.seen + entry_count n (record v { next = next; permit = p }) + entry_count n r ≡ entry_count n v + owned n v.own.seen)
    → RuleAt words (set views id (record v { next = next; permit = p }) ++ r ∷ []) id (record v { next = next; permit = p })
baton_cut words views id v next p r k rk rfit rlast passes_fit permits_fit entries_fit = record {
  at_seat = at_longer (set views id l) (r ∷ []) id l (set_here views id l (at_length views id v k.at_seat));
  is_baton = k.is_baton;
  only = each_push (λ by (u : View). u.kind ≡ Baton → by ≡ id) (set views id l) r
      (each_set (λ by (u : View). u.kind ≡ Baton → by ≡ id) views id l k.only (λ e. refl)) (λ by e. absurd (rk e));
  size = k.size;
  room = k.room;
  counted = k.counted;
  versions = k.versions;
  remembered = each_push (λ by (u : View). AllFit words v.own.seen (memories u)) (set views id l) r
      (each_set (λ by (u : View). AllFit words v.own.seen (memories u)) views id l k.remembered (k.remembered id v k.at_seat)) (λ by. rfit);
  last = each_push (λ by (u : View). RemembersLast u) (set views id l) r
      (each_set (λ by (u : View). RemembersLast u) views id l k.last
      (λ e. let h : Baton ≡ Pass = sym k.is_baton ∙ e in cc))
      (λ by. rlast);
  passes = λ n. parts _ _ _ _ _ _ _ _ (total-set (pass_count n) views id v l k.at_seat) (total_push (pass_count n) (set views id l) r) (k.passes n) (passes_fit n);
  permits = λ n. parts _ _ _ _ _ _ _ _ (total-set (permit_count n) views id v l k.at_seat) (total_push (permit_count n) (set views id l) r) (k.permits n) (permits_fit n);
  entries = λ n. parts _ _ _ _ _ _ _ _ (total-set (entry_count n) views id v l k.at_seat) (total_push (entry_count n) (set views id l) r) (k.entries n) (entries_fit n);
}
  where
    l : View
    l = record v { next = next; permit = p }

-- one number more below the next
tested : (x y z a b c : Bool) → x ≡ a → y ≡ b → z ≡ c → one a + one b ≡ one c
    → one x + one y ≡ one z
tested x y z a b c h i j e = ap (λ t. one t + one y) h ∙ ap (λ t. one a + one t) i ∙ e ∙ ap one (sym j)

one_more : (n m : ℕ) → one (nat_lt n m) + one (m == n) ≡ one (nat_lt n (m + 1))
one_more n m = ⊎_elim
    (λ (e : n ≡ m). tested _ _ _ false true true (le-ltb n m (omega arith)) (eq-eqb m n (sym e)) (lt-ltb n (m + 1) (omega arith)) refl)
    (⊎_elim
    (λ (h : n < m). tested _ _ _ true false true (lt-ltb n m h) (ne_eqb m n (λ e. omega arith)) (lt-ltb n (m + 1) (omega arith)) refl)
    (λ (h : m < n). tested _ _ _ false false false (le-ltb n m (omega arith)) (ne_eqb m n (λ e. omega arith)) (le-ltb n (m + 1) (omega arith)) refl))
    (cases_order n m)

-- sums of few parts
make_sum : (a x y c : ℕ) → a + y ≡ c → a + x + y ≡ x + c
make_sum a x y c h = omega arith

give_sum : (a x y : ℕ) → a + (x + 0) + (0 + y) ≡ x + y + a
give_sum a x y = omega arith

pub cond_none : (b : Bool) → let z : ℕ = cond b 0 0 in z ≡ 0
cond_none true = refl
cond_none false = refl

pub blank_fits : (words : List ℕ) (log : List Listing) → Fits words log no_memory
blank_fits words log = record { begins = (log, refl); found = omega arith; look = tt }

-- a copy is no pass, so nothing is said of its looks
copy_no_pass : {P : Type 0} → Copy ≡ Pass → P
copy_no_pass e = absurd (let h : Copy ≡ Pass = e in cc)

new_number : (n m : ℕ) → pass_count n (new_pass m) ≡ one (m == n)
new_number n m = refl

pub makes_pass : (id : ℕ) (v : View) → v.kind ≡ Baton
    → Splits {S = ℕ} {V = View} Holding id v (after_new_pass v) (new_pass v.next)
makes_pass id v kind s r at =
    let k = seated s.words s.views r id v at kind in (
      id,
      after_new_pass v,
      baton_cut s.words s.views id v (v.next + 1) v.permit (new_pass v.next) k
          (λ e. let h : Pass ≡ Baton = e in cc) (blank_fits s.words v.own.seen, tt) (λ _. refl)
          (λ n. make_sum _ _ _ _ (one_more n v.next))
          (λ n. make_sum _ _ _ _ (ap (λ x. one (nat_lt n v.next) + x) (add-zero _) ∙ one_more n v.next))
          (λ n. make_sum _ _ _ _ (ap (λ x. owned n v.own.seen + (x + 0)) (cond_none (v.next == n)) ∙ add-zero _)),
    )

pub gives_permit : (id : ℕ) (v : View) → v.kind ≡ Baton
    → Splits {S = ℕ} {V = View} Holding id v (without_permit v) (baton_copy_with_permit v)
gives_permit id v kind s r at =
    let k = seated s.words s.views r id v at kind in (
      id,
      without_permit v,
      baton_cut s.words s.views id v v.next None (baton_copy_with_permit v) k
          (λ e. let h : Copy ≡ Baton = e in cc)
          (record { begins = starts_itself v.own.seen; found = omega arith; look = tt }, tt) copy_no_pass
          (λ n. make_sum _ _ _ _ (add-zero _))
          (λ n. give_sum _ _ _)
          (λ n. give_sum _ _ _),
    )

pub copies_baton : (id : ℕ) (v : View) → v.kind ≡ Baton
    → Splits {S = ℕ} {V = View} Holding id v v (baton_copy v)
copies_baton id v kind s r at =
    let k = seated s.words s.views r id v at kind in (
      id,
      v,
      baton_cut s.words s.views id v v.next v.permit (baton_copy v) k
          (λ e. let h : Copy ≡ Baton = e in cc)
          (record { begins = starts_itself v.own.seen; found = omega arith; look = tt }, tt) copy_no_pass
          (λ n. make_sum _ _ _ _ (add-zero _))
          (λ n. make_sum _ _ _ _ (add-zero _))
          (λ n. make_sum _ _ _ _ (add-zero _)),
    )

pub copies_pass : (id : ℕ) (v : View) → v.kind ≡ Pass
    → Splits {S = ℕ} {V = View} Holding id v v (pass_copy v)
copies_pass id v kind s r at =
    let k = r.2 in let old = k.remembered id v at in (
      r.0,
      r.1,
      pass_cut s.words s.views r.0 r.1 id v v (pass_copy v) k at (pass_no_baton v kind) (pass_no_baton v kind)
          (λ e. let h : Copy ≡ Baton = e in cc) old (old.0, tt) (k.last id v at) copy_no_pass (λ n. add-zero _) (λ n. add-zero _) (λ n. add-zero _),
    )

lend_sum : (x y : ℕ) → (0 + x) + (0 + y) ≡ y + x
lend_sum x y = omega arith

pub lends : (id : ℕ) (v : View) → v.kind ≡ Pass → v.away ≡ false
    → Splits {S = ℕ} {V = View} Holding id v (after_lending v) (pass_copy_with_permit v)
lends id v kind home s r at =
    let k = r.2 in let old = k.remembered id v at in (
      r.0,
      r.1,
      pass_cut s.words s.views r.0 r.1 id v (after_lending v) (pass_copy_with_permit v) k at (pass_no_baton v kind) (pass_no_baton v kind)
          (λ e. let h : Copy ≡ Baton = e in cc) old (old.0, tt) (k.last id v at) copy_no_pass (λ n. add-zero _)
          (λ n. lend_sum (one (is_permit_of n v.permit)) (one (v.number == n))
          ∙ ap (λ t. one (is_pass t && (v.number == n)) + one (is_permit_of n v.permit)) (sym kind)
          ∙ ap (λ t. cond t 0 (pass_count n v) + one (is_permit_of n v.permit)) (sym home))
          (λ n. ap (λ x. entry_count n (after_lending v) + (0 + x)) (cond_none (v.number == n)) ∙ add-zero _),
    )
