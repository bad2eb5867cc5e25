-- Passes that meet the jar for the last time, one after another.
use Rattle.std.proofs.Common.{◌≡◌, ◌<◌, ◌≤◌, ℕ, zero, suc, List, [], ◌∷◌, length, get_or, set, sym, ap, ◌∙◌, subst, arith}
use Rattle.std.specs.List.{AllByRecursion}
use Rattle.atomic_table.specs.Seated.{TableId}
use Rattle.version_cells.specs.declared.listing.Listing.{Listing}
use Rattle.version_cells.specs.Listings.{StartsWith, owned}
use Rattle.version_cells.specs.Standing.{PassStanding}
use Rattle.version_cells.proofs.Prefixes.{starts_trans}
use Rattle.locked_jar.specs.Passes.{HasSeen, IsHome}
use Rattle.shared_jar.specs.Finishing.{AreFinished, IsFinished}

-- ---- one pass

pub last_met : (history : List Listing) (p q : PassStanding) → StartsWith p.view.own.seen p.front → HasSeen history p q → IsFinished history p q
last_met history p q begins seen = record {
  number = seen.met.number;
  front = seen.front;
  calls = seen.calls;
  looks = seen.met.looks;
  last = seen.met.last;
  begins = subst (StartsWith history) (sym seen.front) (starts_trans history p.view.own.seen p.front seen.met.begins begins);
  owns = ap (λ n. owned n history) seen.met.number ∙ (seen.owns ∙ sym seen.calls);
}

pub last_home : (table : TableId) (history : List Listing) (p q : PassStanding) → IsHome table p → HasSeen history p q → IsHome table q
last_home table history p q home seen = (seen.met.table ∙ home.0, seen.met.home)

-- ---- several passes

-- the first i of these passes are finished, and the others are as they were
abbrev pub FirstFinished : List Listing → ℕ → List PassStanding → List PassStanding → Type 0
FirstFinished history zero ps qs = ps ≡ qs
FirstFinished history (suc i) [] qs = ⊥
FirstFinished history (suc i) (p ∷ ps) [] = ⊥
FirstFinished history (suc i) (p ∷ ps) (q ∷ qs) = IsFinished history p q × FirstFinished history i ps qs

first_more : (history : List Listing) (ps qs : List PassStanding) (p q : PassStanding) → 0 < length qs → ps ≡ qs → p ≡ get_or qs 0 p → IsFinished history p q
    → FirstFinished history 1 ps (set qs 0 q)
first_more history ps [] p q some same is done = absurd (omega (arith, some))
first_more history [] (r ∷ qs) p q some same is done = absurd cc
first_more history (s ∷ ps) (r ∷ qs) p q some same is done =
    let one : p ≡ s = let head : s ≡ r = cc in is ∙ sym head in
    let rest : ps ≡ qs = cc in
    (subst (λ k. IsFinished history k q) one done, rest)

-- one more is finished
pub more_finished : (history : List Listing) (i : ℕ) (ps qs : List PassStanding) (p q : PassStanding) → i < length qs → FirstFinished history i ps qs
    → p ≡ get_or qs i p → IsFinished history p q → FirstFinished history (suc i) ps (set qs i q)
more_finished history zero ps qs p q within all is done = first_more history ps qs p q within all is done
more_finished history (suc i) [] qs p q within all is done = absurd all
more_finished history (suc i) (r ∷ ps) [] p q within all is done = absurd all
more_finished history (suc i) (r ∷ ps) (s ∷ qs) p q within all is done = (all.0, more_finished history i ps qs p q (omega (arith, within)) all.1 is done)

pub all_finished : (history : List Listing) (i : ℕ) (ps qs : List PassStanding) → length qs ≤ i → FirstFinished history i ps qs → AreFinished history ps qs
all_finished history zero ps [] past all = subst (λ (ks : List PassStanding). AreFinished history ks []) (sym all) tt
all_finished history zero ps (q ∷ qs) past all = absurd (omega (arith, past))
all_finished history (suc i) [] qs past all = absurd all
all_finished history (suc i) (p ∷ ps) [] past all = absurd all
all_finished history (suc i) (p ∷ ps) (q ∷ qs) past all = (all.0, all_finished history i ps qs (omega (arith, past)) all.1)

-- what holds of each pass, after a write
pub all_set : (P : PassStanding → Type 0) (ps : List PassStanding) (i : ℕ) (q : PassStanding) → AllByRecursion P ps → P q → AllByRecursion P (set ps i q)
all_set P [] i q all one = tt
all_set P (p ∷ ps) zero q all one = (one, all.1)
all_set P (p ∷ ps) (suc i) q all one = (all.0, all_set P ps i q all.1 one)
