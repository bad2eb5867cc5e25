-- A seat that takes a copy in keeps the rule.
use Rattle.std.proofs.Common.{◌≡◌, ◌≢◌, ◌≤◌, ◌+◌, ◌&&◌, ℕ, List, length, set, Bool, true, false, cond, refl, sym, ap, ◌∙◌, subst, arith, Option, Some, None, add-zero, eq-eqb}
use Rattle.std.specs.Prelude.{nat_lt, ◌==◌}
use Rattle.atomic_table.proofs.Lists.{set_here, set_else}
use Rattle.atomic_table.specs.Table.{Joins}
use Rattle.version_cells.specs.declared.cells.TheConstants.{MOST_ENTRIES}
use Rattle.version_cells.specs.declared.listing.Listing.{Listing}
use Rattle.version_cells.specs.declared.view.Memory.{Memory}
use Rattle.version_cells.specs.declared.view.Permit.{Permit}
use Rattle.version_cells.specs.declared.view.Kind.TheVariants.{Baton, Pass, Copy, Spent}
use Rattle.version_cells.specs.declared.view.View.{View}
use Rattle.version_cells.specs.Listings.{one, has, turns, total, owned}
use Rattle.version_cells.specs.Views.{is_pass, is_pass_of, is_permit_of, uses_of, copy_with, spent_view, memories, At}
use Rattle.version_cells.specs.Moves.{either_permit, MayTake, IsOwn, baton_with_copy, pass_with_copy}
use Rattle.version_cells.specs.Held.{AllFit, RemembersLast}
use Rattle.version_cells.specs.Rule.{RuleAt, pass_count, permit_count, entry_count}
use Rattle.version_cells.proofs.Sums.{total-set, total_at, each_set}
use Rattle.version_cells.proofs.Keeping.{at_length, seated, other_there}
use Rattle.version_cells.proofs.Steps.{Holding, pass_no_baton}
use Rattle.version_cells.proofs.Cuts.{blank_fits}

-- the other seat is where it was, whatever the first became
other_at : (views : List View) (id other : ℕ) (w x : View) → ¬ (other ≡ id)
    → At (set views id x) other w → At views other w
other_at views id other w x apart at = sym (set_else views id other x apart) ∙ at

met : (t u o v w b x a : ℕ) → u + v ≡ t + b → o + w ≡ u + x → t ≡ a → b + x ≡ v + w → o ≡ a
met t u o v w b x a h k e s = omega arith

-- one view took another in, which is spent_view
module _ (words : List ℕ) (views : List View) (id other : ℕ) (v w x : View) (at : At views id v) (there : At (set views id x) other w) where
  joined : (f : View → ℕ) {a : ℕ} → total f views ≡ a → f spent_view ≡ 0 → f x ≡ f v + f w
      → total f (set (set views id x) other spent_view) ≡ a
  joined f {a} e z s = met _ _ _ _ _ _ _ _ (total-set f views id v x at) (total-set f (set views id x) other w spent_view there) e (zeroed _ _ _ z s)
    where
      zeroed : (a b c : ℕ) → b ≡ 0 → a ≡ c → a + b ≡ c
      zeroed a b c h k = omega arith

  pass_joined : (seat : ℕ) (b : View) → RuleAt words views seat b → ¬ (other ≡ id) → v.kind ≢ Baton
      → x.kind ≢ Baton → w.kind ≢ Baton → AllFit words b.own.seen (memories x)
      → RemembersLast x
      → ((n : ℕ) → pass_count n x ≡ pass_count n v + pass_count n w)
      → ((n : ℕ) → permit_count n x ≡ permit_count n v + permit_count n w)
      → ((n : ℕ) → entry_count n x ≡ entry_count n v + entry_count n w)
      → RuleAt words (set (set views id x) other spent_view) seat b
  pass_joined seat b k apart vk xk wk fit last passes_fit permits_fit entries_fit = record {
    at_seat = other_there (set views id x) seat b other w spent_view (other_there views seat b id v x k.at_seat at vk k.is_baton) there wk k.is_baton;
    is_baton = k.is_baton;
    only = each_set (λ by (u : View). u.kind ≡ Baton → by ≡ seat) (set views id x) other spent_view
        (each_set (λ by (u : View). u.kind ≡ Baton → by ≡ seat) views id x k.only (λ e. absurd (xk e))) (λ e. let h : Spent ≡ Baton = e in cc);
    size = k.size;
    room = k.room;
    counted = k.counted;
    versions = k.versions;
    remembered = each_set (λ by (u : View). AllFit words b.own.seen (memories u)) (set views id x) other spent_view
        (each_set (λ by (u : View). AllFit words b.own.seen (memories u)) views id x k.remembered fit) (blank_fits words b.own.seen, tt);
    last = each_set (λ by (u : View). RemembersLast u) (set views id x) other spent_view
        (each_set (λ by (u : View). RemembersLast u) views id x k.last last) (λ e. let h : Spent ≡ Pass = e in cc);
    passes = λ n. joined (pass_count n) (k.passes n) refl (passes_fit n);
    permits = λ n. joined (permit_count n) (k.permits n) refl (permits_fit n);
    entries = λ n. joined (entry_count n) (k.entries n) refl (entries_fit n);
  }

  baton_joined : RuleAt words views id v → ¬ (other ≡ id) → x.kind ≡ Baton → w.kind ≢ Baton
      → x.own.seen ≡ v.own.seen → x.pending ≡ v.pending → x.next ≡ v.next
      → AllFit words v.own.seen (memories x)
      → ((n : ℕ) → pass_count n x ≡ pass_count n v + pass_count n w)
      → ((n : ℕ) → permit_count n x ≡ permit_count n v + permit_count n w)
      → ((n : ℕ) → entry_count n x ≡ entry_count n v + entry_count n w)
      → RuleAt words (set (set views id x) other spent_view) id x
  baton_joined k apart xk wk seen pend next fit passes_fit permits_fit entries_fit = record {
    at_seat = set_else (set views id x) other id spent_view (λ e. apart (sym e)) ∙ set_here views id x (at_length views id v at);
    is_baton = xk;
    only = each_set (λ by (u : View). u.kind ≡ Baton → by ≡ id) (set views id x) other spent_view
        (each_set (λ by (u : View). u.kind ≡ Baton → by ≡ id) views id x k.only (λ e. refl)) (λ e. let h : Spent ≡ Baton = e in cc);
    size = k.size;
    room = subst (λ (l : List Listing). length l ≤ MOST_ENTRIES) (sym seen) k.room;
    counted = k.counted ∙ ap (λ (l : List Listing). length l) (sym seen);
    versions = λ c low high. k.versions c low high ∙ ap (λ (l : List Listing). turns c l + one (has c v.pending)) (sym seen) ∙ ap (λ (l : List ℕ). turns c x.own.seen + one (has c l)) (sym pend);
    remembered = subst (λ (l : List Listing). (by : ℕ) (u : View) → At (set (set views id x) other spent_view) by u → AllFit words l (memories u)) (sym seen)
        (each_set (λ by (u : View). AllFit words v.own.seen (memories u)) (set views id x) other spent_view
        (each_set (λ by (u : View). AllFit words v.own.seen (memories u)) views id x k.remembered fit) (blank_fits words v.own.seen, tt));
    last = each_set (λ by (u : View). RemembersLast u) (set views id x) other spent_view
        (each_set (λ by (u : View). RemembersLast u) views id x k.last (λ e. let h : Baton ≡ Pass = sym xk ∙ e in cc))
        (λ e. let h : Spent ≡ Pass = e in cc);
    passes = λ n. joined (pass_count n) (k.passes n) refl (passes_fit n) ∙ ap (λ m. one (nat_lt n m)) (sym next);
    permits = λ n. joined (permit_count n) (k.permits n) refl (permits_fit n) ∙ ap (λ m. one (nat_lt n m)) (sym next);
    entries = λ n. joined (entry_count n) (k.entries n) refl (entries_fit n) ∙ ap (λ (l : List Listing). owned n l) (sym seen);
  }

copy_no_baton : (m : Memory) (p : Option Permit) → (copy_with m p).kind ≢ Baton
copy_no_baton m p e = let h : Copy ≡ Baton = e in cc

-- of two permits one at most is there
took_permits : (p q : Option Permit) (n : ℕ) → MayTake p q
    → one (is_permit_of n (either_permit p q)) ≡ one (is_permit_of n p) + one (is_permit_of n q)
took_permits None q n h = omega arith
took_permits (Some p) None n h = sym (add-zero _)
took_permits (Some p) (Some q) n h = absurd h

took_account : (p q : Option Permit) (n : ℕ) → MayTake p q
    → cond (is_permit_of n (either_permit p q)) (uses_of (either_permit p q)) 0 ≡ cond (is_permit_of n p) (uses_of p) 0 + cond (is_permit_of n q) (uses_of q) 0
took_account None q n h = omega arith
took_account (Some p) None n h = sym (add-zero _)
took_account (Some p) (Some q) n h = absurd h

take_sum : (x y z t : ℕ) → t ≡ y + z → x + t ≡ x + y + (0 + z)
take_sum x y z t h = omega arith

pub baton_takes : (id other : ℕ) (v : View) (m : Memory) (p : Option Permit) → v.kind ≡ Baton
    → MayTake v.permit p
    → Joins {S = ℕ} {V = View} Holding id v other (copy_with m p) (baton_with_copy v (copy_with m p)) spent_view
baton_takes id other v m p kind may s r at apart there =
    let w : View = copy_with m p in let x : View = baton_with_copy v w in
    let k = seated s.words s.views r id v at kind in
    let old = k.remembered id v at in
    let his = k.remembered other w (other_at s.views id other w x apart there) in (
      id,
      x,
      baton_joined s.words s.views id other v w x at there k apart kind (copy_no_baton m p) refl refl refl (old.0, (his.0, old.1))
          (λ n. sym (add-zero _))
          (λ n. take_sum _ _ _ _ (took_permits v.permit p n may))
          (λ n. take_sum _ _ _ _ (took_account v.permit p n may)),
    )

-- two views weigh no more than all
two_views : (f : View → ℕ) (views : List View) (id other : ℕ) (v w x : View) → At views id v
    → At (set views id x) other w → f x ≡ 0 → f v + f w ≤ total f views
two_views f views id other v w x at there z =
    let a = total-set f views id v x at in let b = total_at f (set views id x) other w there in omega arith

one_le : (b : Bool) → one b ≤ 1
one_le true = omega arith
one_le false = omega arith

-- where a permit of the pass lies with a copy, it is away
must_be_away : (words : List ℕ) (views : List View) (seat : ℕ) (b : View) (id other : ℕ)
    (v w : View) (p : Permit)
    → RuleAt words views seat b
    → At views id v → At views other w → ¬ (other ≡ id) → v.kind ≡ Pass → w.permit ≡ Some p
    → p.number ≡ v.number → v.away ≡ true
must_be_away words views seat b id other v w p k at there apart kind has_it own = decide v.away refl
  where
    n : ℕ
    n = v.number

    mine : (a : Bool) → v.away ≡ a → a ≡ false → 1 ≤ permit_count n v
    mine a e f = subst (λ t. 1 ≤ cond t 0 (pass_count n v) + one (is_permit_of n v.permit)) (sym (e ∙ f))
        (subst (λ t. 1 ≤ one (is_pass t && (v.number == n)) + one (is_permit_of n v.permit)) (sym kind)
        (subst (λ t. 1 ≤ one t + one (is_permit_of n v.permit)) (sym (eq-eqb v.number n refl)) (omega arith)))

    his : 1 ≤ permit_count n w
    his = subst (λ (o : Option Permit). 1 ≤ cond w.away 0 (pass_count n w) + one (is_permit_of n o)) (sym has_it)
        (subst (λ t. 1 ≤ cond w.away 0 (pass_count n w) + one t) (sym (eq-eqb p.number n own)) (omega arith))

    both : permit_count n v + permit_count n w ≤ total (permit_count n) views
    both = two_views (permit_count n) views id other v w spent_view at (set_else views id other spent_view apart ∙ there) refl

    few : (a b t c : ℕ) → 1 ≤ a → 1 ≤ b → a + b ≤ t → t ≡ c → c ≤ 1 → ⊥
    few a b t c h i j e l = omega arith

    decide : (a : Bool) → v.away ≡ a → v.away ≡ true
    decide true e = e
    decide false e = absurd (few _ _ _ _ (mine false e refl) his both (k.permits n) (one_le (nat_lt n b.next)))

split_calls : (b : Bool) (x y : ℕ) → cond b (x + y) 0 ≡ cond b x 0 + cond b y 0
split_calls true x y = refl
split_calls false x y = refl

home_sum : (x y : ℕ) → x + y ≡ 0 + y + (0 + x)
home_sum x y = omega arith

calls_sum : (c x y z : ℕ) → c ≡ x + z → c + y ≡ x + y + (0 + z)
calls_sum c x y z h = omega arith

pub pass_takes : (id other : ℕ) (v : View) (m : Memory) (p : Option Permit) → v.kind ≡ Pass
    → IsOwn v.number p
    → Joins {S = ℕ} {V = View} Holding id v other (copy_with m p) (pass_with_copy v (copy_with m p)) spent_view
pass_takes id other v m None kind own s r at apart there =
    let w : View = copy_with m None in let x : View = pass_with_copy v w in
    let k = r.2 in let old = k.remembered id v at in
    let his = k.remembered other w (other_at s.views id other w x apart there) in (
      r.0,
      r.1,
      pass_joined s.words s.views id other v w x at there r.0 r.1 k apart (pass_no_baton v kind) (pass_no_baton v kind)
          (copy_no_baton m None) (old.0, (his.0, old.1)) (k.last id v at)
          (λ n. sym (add-zero _))
          (λ n. sym (add-zero _))
          (λ n. ap (λ c. cond (is_pass_of n v) c 0 + cond (is_permit_of n v.permit) (uses_of v.permit) 0) (add-zero v.calls) ∙ sym (add-zero _)),
    )
pass_takes id other v m (Some p) kind own s r at apart there =
    let w : View = copy_with m (Some p) in let x : View = pass_with_copy v w in
    let k = r.2 in let old = k.remembered id v at in
    let there' = other_at s.views id other w x apart there in
    let his = k.remembered other w there' in
    let away = must_be_away s.words s.views r.0 r.1 id other v w p k at there' apart kind refl own in
    let same : (n : ℕ) → is_pass_of n v ≡ (p.number == n) = λ n. ap (λ t. is_pass t && (v.number == n)) kind ∙ ap (λ t. t == n) (sym own) in (
      r.0,
      r.1,
      pass_joined s.words s.views id other v w x at there r.0 r.1 k apart (pass_no_baton v kind) (pass_no_baton v kind)
          (copy_no_baton m (Some p)) (old.0, (his.0, old.1)) (k.last id v at)
          (λ n. sym (add-zero _))
          (λ n. home_sum (pass_count n v) (one (is_permit_of n v.permit))
          ∙ ap (λ t. 0 + one (is_permit_of n v.permit) + (0 + one t)) (same n)
          ∙ ap (λ t. cond t 0 (pass_count n v) + one (is_permit_of n v.permit) + (0 + one (p.number == n))) (sym away))
          (λ n. calls_sum _ _ _ _ (split_calls (is_pass_of n v) v.calls p.uses ∙ ap (λ t. cond (is_pass_of n v) v.calls 0 + cond t p.uses 0) (same n))),
    )
