-- One pass from the most accessed candidate on tells who is spared.
use Rattle.std.proofs.Common.{◌≡◌, ℕ, zero, suc, ◌+◌, ◌-◌, ◌<◌, List, [], ◌∷◌, ◌++◌, Bool, true, false, cond, length, take, get_or, refl, sym, ap, ◌∙◌, arith, append-nil}
use Rattle.std.specs.Prelude.{filter, not, nat_lt, ◌&&◌}
use Rattle.std.specs.List.{AllByRecursion, count_by}
use Rattle.std.specs.List.Sorted.{IsStrictlySortedBy}
use Rattle.std.specs.Ordering.{is_lt}
use Rattle.std.specs.declared.cmp.Ordering.TheVariants.{Less}
use Rattle.std.proofs.lemmas.Bool.Decides.{nat_tests}
use Rattle.std.proofs.lemmas.Cmp.{tied_itself}
use Rattle.std.proofs.lemmas.List.Sums.{sum_by-cons, count_by_more_yes, count_by_more_no}
use Rattle.std.proofs.lemmas.List.Elements.{filter_more}
use Rattle.jar_values.specs.declared.attributes.Priority.{Priority}
use Rattle.jar_types.specs.Plans.{access_cmp, same_priority, quota, is_ahead, is_spared}
use Rattle.eviction.specs.declared.candidate.Candidate.{Candidate}
use Rattle.eviction.specs.Candidates.{candidate_looks}
use Rattle.eviction.specs.Spared.{Descends}
use Rattle.eviction.proofs.SortLemmas.{flipped}
use Rattle.eviction.proofs.FaceLemmas.{candidate_total}

-- d has the priority
abbrev pub has_priority : Priority → Candidate → Bool
has_priority p d = same_priority p d.face.priority

and_false : (b : Bool) → (b && false) ≡ false
and_false true = refl
and_false false = refl

and_true : (b : Bool) → (b && true) ≡ b
and_true true = refl
and_true false = refl

abbrev one_where : Bool → ℕ
one_where b = cond b 1 0

none_counts : (c : Candidate) (cs : List Candidate) → AllByRecursion (λ d. access_cmp candidate_looks d c ≡ Less) cs → count_by (is_ahead candidate_looks c) cs ≡ 0
none_counts c [] all = refl
none_counts c (d ∷ ds) all =
    let behind : is_ahead candidate_looks c d ≡ false = ap (λ w. same_priority c.face.priority d.face.priority && is_lt w) (flipped candidate_total d c Less all.0) ∙ and_false (same_priority c.face.priority d.face.priority) in
    let none : cond (is_ahead candidate_looks c d) 1 0 ≡ zero = ap (λ b. cond b 1 0) behind in
    omega (arith, sum_by-cons (λ e. cond (is_ahead candidate_looks c e) 1 0) d ds, none, none_counts c ds all.1)

all_at : (P : Candidate → Type 0) (cs : List Candidate) (i : ℕ) (d : Candidate) → i < length cs → AllByRecursion P cs → P (get_or cs i d)
all_at P [] i d lt all = absurd (omega arith)
all_at P (c ∷ cs) zero d lt all = all.0
all_at P (c ∷ cs) (suc i) d lt all = all_at P cs i d (omega arith) all.1

-- ahead of the one at a place are those before it, of its priority
pub ahead_before : (cs : List Candidate) → Descends cs → (i : ℕ) (d : Candidate) → i < length cs
    → count_by (is_ahead candidate_looks (get_or cs i d)) cs ≡ count_by (has_priority (get_or cs i d).face.priority) (take i cs)
unfolding IsStrictlySortedBy
ahead_before [] falls i d lt = absurd (omega arith)
ahead_before (c ∷ cs) falls zero d lt =
    let itself : is_ahead candidate_looks c c ≡ false = ap (λ w. same_priority c.face.priority c.face.priority && is_lt w) (tied_itself candidate_total c) ∙ and_false (same_priority c.face.priority c.face.priority) in
    let none : cond (is_ahead candidate_looks c c) 1 0 ≡ zero = ap (λ b. cond b 1 0) itself in
    omega (arith, sum_by-cons (λ e. cond (is_ahead candidate_looks c e) 1 0) c cs, none, none_counts c cs falls.0)
ahead_before (c ∷ cs) falls (suc i) d lt =
    let x = get_or cs i d in
    let less : access_cmp candidate_looks x c ≡ Less = all_at (λ y. access_cmp candidate_looks y c ≡ Less) cs i d (omega arith) falls.0 in
    let same : is_ahead candidate_looks x c ≡ has_priority x.face.priority c = ap (λ w. same_priority x.face.priority c.face.priority && is_lt w) less ∙ and_true (same_priority x.face.priority c.face.priority) in
    let one = ap one_where same in
    omega (arith, sum_by-cons (λ e. cond (is_ahead candidate_looks x e) 1 0) c cs, sum_by-cons (λ e. cond (has_priority x.face.priority e) 1 0) c (take i cs), one, ahead_before cs falls.1 i d (omega arith))

below : (n q : ℕ) → nat_lt 0 (q - n) ≡ nat_lt n q
below n q = grind (arith, nat_tests)

-- whether the one at a place is spared
pub spared_at : (cs : List Candidate) → Descends cs → (i : ℕ) (d : Candidate) → i < length cs
    → nat_lt 0 (quota (get_or cs i d).face.priority - count_by (has_priority (get_or cs i d).face.priority) (take i cs)) ≡ is_spared candidate_looks cs (get_or cs i d)
spared_at cs falls i d lt =
    below (count_by (has_priority (get_or cs i d).face.priority) (take i cs)) (quota (get_or cs i d).face.priority)
    ∙ ap (λ n. nat_lt n (quota (get_or cs i d).face.priority)) (sym (ahead_before cs falls i d lt))

-- ---- a step of the pass

-- the pass stands at x, the i-th of these, and q says how many of each priority may still be spared
pub record StandsAt (cs : List Candidate) (i : ℕ) (x : Candidate) (q : Priority → ℕ) : Type 0 where
  pub falls : Descends cs
  pub within : i < length cs
  pub here : x ≡ get_or cs i x
  pub left : (p : Priority) → q p ≡ quota p - count_by (has_priority p) (take i cs)

abbrev unspared : List Candidate → Candidate → Bool
unspared cs c = not (is_spared candidate_looks cs c)

tells : (cs : List Candidate) (i : ℕ) (x : Candidate) (q : Priority → ℕ) (b : Bool) → StandsAt cs i x q → b ≡ nat_lt 0 (q x.face.priority) → unspared cs (get_or cs i x) ≡ not b
tells cs i x q b s e =
    let y = get_or cs i x in
    ap not (sym (spared_at cs s.falls i x s.within))
    ∙ ap (λ n. not (nat_lt 0 n)) (sym (s.left y.face.priority))
    ∙ ap (λ z. not (nat_lt 0 (q z.face.priority))) (sym s.here) ∙ sym (ap not e)

-- it isn't spared, and is kept
pub step_left : (cs : List Candidate) (i : ℕ) (x : Candidate) (q : Priority → ℕ) (b : Bool) (left more : List Candidate) → StandsAt cs i x q → b ≡ nat_lt 0 (q x.face.priority)
    → b ≡ false → left ≡ filter (unspared cs) (take i cs) → more ≡ left ++ x ∷ [] → more ≡ filter (unspared cs) (take (i + 1) cs)
step_left cs i x q b left more s e f h k =
    k ∙ ap (λ ys. ys ++ x ∷ []) h
    ∙ ap (λ y. filter (unspared cs) (take i cs) ++ y ∷ []) s.here
    ∙ sym (filter_more (unspared cs) cs i x s.within ∙ ap (λ d. filter (unspared cs) (take i cs) ++ cond d (get_or cs i x ∷ []) []) (tells cs i x q b s e ∙ ap not f))

-- it is spared
pub step_spared : (cs : List Candidate) (i : ℕ) (x : Candidate) (q : Priority → ℕ) (b : Bool) (left : List Candidate) → StandsAt cs i x q → b ≡ nat_lt 0 (q x.face.priority)
    → b ≡ true → left ≡ filter (unspared cs) (take i cs) → left ≡ filter (unspared cs) (take (i + 1) cs)
step_spared cs i x q b left s e f h =
    h ∙ sym (append-nil (filter (unspared cs) (take i cs)))
    ∙ sym (filter_more (unspared cs) cs i x s.within ∙ ap (λ d. filter (unspared cs) (take i cs) ++ cond d (get_or cs i x ∷ []) []) (tells cs i x q b s e ∙ ap not f))

counted_at : (cs : List Candidate) (i : ℕ) (x : Candidate) (p : Priority) (b : Bool) → i < length cs → has_priority p (get_or cs i x) ≡ b → count_by (has_priority p) (take (i + 1) cs) ≡ count_by (has_priority p) (take i cs) + cond b 1 0
counted_at cs i x p true lt e = count_by_more_yes (has_priority p) cs i x lt e
counted_at cs i x p false lt e = let h = count_by_more_no (has_priority p) cs i x lt e in omega (arith, h)

-- and counts
pub step_counted : (cs : List Candidate) (i : ℕ) (x : Candidate) (q : Priority → ℕ) (p : Priority) (n : ℕ) → StandsAt cs i x q
    → n ≡ q p - cond (has_priority p x) 1 0 → n ≡ quota p - count_by (has_priority p) (take (i + 1) cs)
step_counted cs i x q p n s e =
    let same = ap (has_priority p) (sym s.here) in
    let more = counted_at cs i x p (has_priority p x) s.within same in
    omega (arith, e, s.left p, more)
