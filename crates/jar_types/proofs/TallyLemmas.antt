-- Tallies with one count more.
use Rattle.std.proofs.Common.{◌≡◌, ◌≤◌, ◌+◌, ℕ, List, [], ◌∷◌, Bool, true, false, cond, refl, sym, ap, ◌∙◌, arith}
use Rattle.std.specs.Prelude.{◌==◌}
use Rattle.jar_types.specs.declared.tally.Tally.{Tally}
use Rattle.jar_types.specs.Tallies.{tally_of, counted}

own_at : (b : Bool) (caller : ℕ) (t : Tally) (ts : List Tally) → (t.caller == caller) ≡ b
    → tally_of caller (counted caller ts) ≡ tally_of caller ts + 1
    → tally_of caller (cond b (record t { count = t.count + 1 } ∷ ts) (t ∷ counted caller ts)) ≡ cond b t.count (tally_of caller ts) + 1
own_at true caller t ts is on = ap (λ b. cond b (t.count + 1) (tally_of caller ts)) is
own_at false caller t ts is on = ap (λ b. cond b t.count (tally_of caller (counted caller ts))) is ∙ on

-- the caller did it once more
pub counted_once : (caller : ℕ) (ts : List Tally) → tally_of caller (counted caller ts) ≡ tally_of caller ts + 1
counted_once caller [] = grind arith
counted_once caller (t ∷ ts) = own_at (t.caller == caller) caller t ts refl (counted_once caller ts)

other_at : (b c : Bool) (caller other : ℕ) (t : Tally) (ts : List Tally) → (t.caller == caller) ≡ b → (t.caller == other) ≡ c → (caller == other) ≡ false
    → tally_of other (counted caller ts) ≡ tally_of other ts
    → tally_of other (cond b (record t { count = t.count + 1 } ∷ ts) (t ∷ counted caller ts)) ≡ cond c t.count (tally_of other ts)
other_at true true caller other t ts is is' not_same on = grind arith
other_at true false caller other t ts is is' not_same on = ap (λ c. cond c (t.count + 1) (tally_of other ts)) is'
other_at false c caller other t ts is is' not_same on =
    ap (λ c. cond c t.count (tally_of other (counted caller ts))) is' ∙ ap (cond c t.count) on

-- another did it as often as before
pub counted_other : (caller other : ℕ) (ts : List Tally) → (caller == other) ≡ false → tally_of other (counted caller ts) ≡ tally_of other ts
counted_other caller other [] not_same = ap (λ b. cond b 1 0) not_same
counted_other caller other (t ∷ ts) not_same =
    other_at (t.caller == caller) (t.caller == other) caller other t ts refl refl not_same (counted_other caller other ts not_same)

least_at : (b : Bool) (caller other : ℕ) (ts : List Tally) → (caller == other) ≡ b → tally_of other ts ≤ tally_of other (counted caller ts)
least_at true caller other ts is = let one = counted_once caller ts in let same : caller ≡ other = grind arith in rw (sym same) (omega (arith, one))
least_at false caller other ts is = omega (arith, counted_other caller other ts is)

-- nobody did it less often
pub counted_least : (caller other : ℕ) (ts : List Tally) → tally_of other ts ≤ tally_of other (counted caller ts)
counted_least caller other ts = least_at (caller == other) caller other ts refl
