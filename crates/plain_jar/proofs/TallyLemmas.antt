-- Tallies with one count more, by the place of the caller's.
use Rattle.std.proofs.Common.{◌≡◌, ◌+◌, ◌<◌, ◌≤◌, ℕ, suc, List, [], ◌∷◌, ◌++◌, Bool, true, false, cond, length, get_or, set, refl, sym, ap, arith}
use Rattle.std.specs.Prelude.{not, nat_lt, position, None, Some}
use Rattle.std.specs.List.{prefix_len}
use Rattle.jar_types.specs.declared.tally.Tally.{Tally}
use Rattle.jar_types.specs.Tallies.{is_of, counted}

-- the tally, one higher
abbrev raised : Tally → Tally
raised t = record t { count = t.count + 1 }

-- how many stand before the caller's
abbrev before : ℕ → List Tally → ℕ
before caller ts = prefix_len (λ t. not (is_of caller t)) ts

there_at : (caller : ℕ) (b : Bool) (t : Tally) (ts : List Tally) (d : Tally)
    → (before caller ts < length ts → set ts (before caller ts) (raised (get_or ts (before caller ts) d)) ≡ counted caller ts)
    → cond (not b) (1 + before caller ts) 0 < length (t ∷ ts)
    → set (t ∷ ts) (cond (not b) (1 + before caller ts) 0) (raised (get_or (t ∷ ts) (cond (not b) (1 + before caller ts) 0) d))
    ≡ cond b (raised t ∷ ts) (t ∷ counted caller ts)
there_at caller true t ts d on fits = refl
there_at caller false t ts d on fits =
    let one : 1 + before caller ts ≡ suc (before caller ts) = omega arith in
    rw one (ap (λ us. t ∷ us) (on (omega (arith, fits))))

there : (caller : ℕ) (ts : List Tally) (d : Tally) → before caller ts < length ts
    → set ts (before caller ts) (raised (get_or ts (before caller ts) d)) ≡ counted caller ts
there caller [] d fits = absurd (omega (arith, fits))
there caller (t ∷ ts) d fits = there_at caller (is_of caller t) t ts d (there caller ts d) fits

new_at : (caller : ℕ) (b : Bool) (t : Tally) (ts : List Tally)
    → (length ts ≤ before caller ts → ts ++ record { caller = caller; count = 1 } ∷ [] ≡ counted caller ts)
    → length (t ∷ ts) ≤ cond (not b) (1 + before caller ts) 0
    → (t ∷ ts) ++ record { caller = caller; count = 1 } ∷ [] ≡ cond b (raised t ∷ ts) (t ∷ counted caller ts)
new_at caller true t ts on past = absurd (omega (arith, past))
new_at caller false t ts on past = ap (λ us. t ∷ us) (on (omega (arith, past)))

new : (caller : ℕ) (ts : List Tally) → length ts ≤ before caller ts → ts ++ record { caller = caller; count = 1 } ∷ [] ≡ counted caller ts
new caller [] past = refl
new caller (t ∷ ts) past = new_at caller (is_of caller t) t ts (new caller ts) past

found_at : (fits : Bool) (n i : ℕ) (most : ℕ) → nat_lt n most ≡ fits → cond fits (Some n) None ≡ Some i → (n ≡ i) × (n < most)
found_at true n i most is e = (cc, grind arith)
found_at false n i most is e = absurd cc

missed_at : (fits : Bool) (n : ℕ) (most : ℕ) → nat_lt n most ≡ fits → cond fits (Some n) None ≡ None → most ≤ n
missed_at true n most is e = absurd cc
missed_at false n most is e = grind arith

-- the caller's tally is found, and rises
pub counted_there : (caller : ℕ) (ts : List Tally) (i : ℕ) (d : Tally) → position (is_of caller) ts ≡ Some i
    → set ts i (record (get_or ts i d) { count = (get_or ts i d).count + 1 }) ≡ counted caller ts
counted_there caller ts i d e =
    let found = found_at (nat_lt (before caller ts) (length ts)) (before caller ts) i (length ts) refl e in
    rw (sym found.0) (there caller ts d found.1)

-- the caller has none yet
pub counted_new : (caller : ℕ) (ts : List Tally) → position (is_of caller) ts ≡ None
    → ts ++ record { caller = caller; count = 1 } ∷ [] ≡ counted caller ts
counted_new caller ts e = new caller ts (missed_at (nat_lt (before caller ts) (length ts)) (before caller ts) (length ts) refl e)
