-- In whatever order actors run, they come to stand where the turns leave them.
use Rattle.std.proofs.Common.{◌≡◌, ◌<◌, ◌≤◌, ◌∙◌, ℕ, zero, suc, List, [], ◌∷◌, length, drop, slice_get, slice_index, true, false, if◌then◌else◌, Some, inl, inr, refl, ap, sym, arith, get_or-set_same, get_or-set_other, length-set}
use Rattle.std.proofs.lemmas.Bool.{both_ways, cases_eq, ltb-true, lt-ltb}
use Rattle.script_text.specs.declared.actor.Actor.{Actor}
use Rattle.script_text.specs.declared.step.Step.{Step}
use Rattle.script_text.specs.declared.step.What.{What}
use Rattle.script_text.specs.declared.step.What.TheVariants as what
use Rattle.script_text.specs.Deadlocks.{Positions, at_start, steps_at, post_counts, waits, one_on, go_on, run_first, after_turns, AllWait, WaitingActorsHaveEnded}
use Rattle.script_text.proofs.PostLemmas.{length-at_start, post_counts-at, posts_before-le}
use Rattle.script_text.proofs.DeadlockLemmas.{within_steps}

-- actors that stand so have not passed those places
abbrev NotPast : Positions → Positions → Type 0
NotPast places at = (a : ℕ) → slice_index places a ≤ slice_index at a

counts_below : (actors : List Actor) (places at : Positions) (a : ℕ) → length places ≡ length actors → length at ≡ length actors
    → NotPast places at → slice_index (post_counts actors places) a ≤ slice_index (post_counts actors at) a
counts_below actors places at a e f h =
    omega (arith, post_counts-at actors places a e, post_counts-at actors at a f, posts_before-le (steps_at actors a) (slice_index places a) (slice_index at a) (h a))

-- what waits there waits here
still_waits : (actors : List Actor) (places at : Positions) (w : What) → length places ≡ length actors → length at ≡ length actors
    → NotPast places at → waits actors at w ≡ true → waits actors places w ≡ true
still_waits actors places at (what.Hear actor n) e f h wait =
    lt-ltb (slice_index (post_counts actors places) actor) n
    (omega (arith, counts_below actors places at actor e f h, ltb-true (slice_index (post_counts actors at) actor) n wait))
still_waits actors places at what.Post e f h wait = absurd cc
still_waits actors places at what.All e f h wait = absurd cc
still_waits actors places at what.Clear e f h wait = absurd cc
still_waits actors places at (what.Set ask line) e f h wait = absurd cc
still_waits actors places at (what.Get ask) e f h wait = absurd cc
still_waits actors places at (what.Delete host name path) e f h wait = absurd cc
still_waits actors places at (what.Listen ask name) e f h wait = absurd cc
still_waits actors places at (what.Changes listener) e f h wait = absurd cc
still_waits actors places at (what.Unlisten listener) e f h wait = absurd cc
still_waits actors places at (what.Read url) e f h wait = absurd cc
still_waits actors places at (what.Write line url) e f h wait = absurd cc

-- the next step, and what is behind it
next_of : (all : List Step) (n : ℕ) (step : Step) (steps : List Step) → step ∷ steps ≡ drop n all
    → (slice_get all n ≡ Some step) × (steps ≡ drop (suc n) all)
next_of [] zero step steps e = absurd cc
next_of [] (suc n) step steps e = absurd cc
next_of (s ∷ ss) zero step steps e = (let same : s ≡ step = cc in ap (λ x. Some x) same, cc)
next_of (s ∷ ss) (suc n) step steps e = next_of ss n step steps e

less_at : (m n : ℕ) → m ≤ n → (m ≡ n → ⊥) → m < n
less_at m n le ne = omega arith

-- an actor that may make a step hasn't come so far
not_past_on : (actors : List Actor) (places at : Positions) (a : ℕ) (step : Step) → length places ≡ length actors → length at ≡ length actors
    → AllWait actors at → NotPast places at → slice_get (steps_at actors a) (slice_index places a) ≡ Some step
    → waits actors places step.what ≡ false → a < length places → NotPast (one_on places a) at
not_past_on actors places at a step e f wait h next free lt b =
    let less : slice_index places a < slice_index at a = less_at (slice_index places a) (slice_index at a) (h a) (λ same. both_ways (waits actors places step.what) free (still_waits actors places at step.what e f h (wait a step (ap (slice_get (steps_at actors a)) (sym same) ∙ next)))) in
    elim (cases_eq b a) as (λ _. slice_index (one_on places a) b ≤ slice_index at b) [
      | inl same ↦ rw same (rw get_or-set_same (omega (arith, h a, less)))
      | inr other ↦ rw get_or-set_other (h b)
    ]

-- a run doesn't pass places where all wait or have ended
go_on_below : (actors : List Actor) (a : ℕ) (places at : Positions) (steps : List Step) → length places ≡ length actors → length at ≡ length actors
    → AllWait actors at → NotPast places at → steps ≡ drop (slice_index places a) (steps_at actors a) → NotPast (go_on actors a places steps) at
go_on_below actors a places at [] e f wait h is = h
go_on_below actors a places at (step ∷ steps) e f wait h is =
    let next = next_of (steps_at actors a) (slice_index places a) step steps is in
    elim (waits actors places step.what) as (λ w. waits actors places step.what ≡ w → NotPast (if w then places else go_on actors a (one_on places a) steps) at) [
      | true ↦ λ _. h
      | false ↦ λ free.
          let lt : a < length places = omega (arith, within_steps actors a (slice_index places a) step next.0) in
          let here : slice_index (one_on places a) a ≡ suc (slice_index places a) = get_or-set_same places a (suc (slice_index places a)) 0 lt in
          go_on_below actors a (one_on places a) at steps (length-set places a (suc (slice_index places a)) ∙ e) f wait
          (not_past_on actors places at a step e f wait h next.0 free lt)
          (next.1 ∙ ap (λ n. drop n (steps_at actors a)) (sym here))
    ] refl

length-go_on : (actors : List Actor) (a : ℕ) (places : Positions) (steps : List Step) → length (go_on actors a places steps) ≡ length places
length-go_on actors a places [] = refl
length-go_on actors a places (step ∷ steps) =
    elim (waits actors places step.what) as (λ w. length (if w then places else go_on actors a (one_on places a) steps) ≡ length places)
    [ true ↦ refl | false ↦ length-go_on actors a (one_on places a) steps ∙ length-set places a (suc (slice_index places a)) ]

length-run_first : (actors : List Actor) (k : ℕ) (places : Positions) → length (run_first actors k places) ≡ length places
length-run_first actors zero places = refl
length-run_first actors (suc k) places =
    let before = run_first actors k places in
    length-go_on actors k before (drop (slice_index before k) (steps_at actors k)) ∙ length-run_first actors k places

run_first_below : (actors : List Actor) (k : ℕ) (places at : Positions) → length places ≡ length actors → length at ≡ length actors
    → AllWait actors at → NotPast places at → NotPast (run_first actors k places) at
run_first_below actors zero places at e f wait h = h
run_first_below actors (suc k) places at e f wait h =
    let before = run_first actors k places in
    go_on_below actors k before at (drop (slice_index before k) (steps_at actors k)) (length-run_first actors k places ∙ e) f wait
    (run_first_below actors k places at e f wait h) refl

length-after_turns : (actors : List Actor) (n : ℕ) → length (after_turns actors n) ≡ length actors
length-after_turns actors zero = length-at_start actors
length-after_turns actors (suc n) = length-run_first actors (length actors) (after_turns actors n) ∙ length-after_turns actors n

zero_at_start : (actors : List Actor) (a : ℕ) → slice_index (at_start actors) a ≡ 0
zero_at_start [] a = refl
zero_at_start (x ∷ xs) zero = refl
zero_at_start (x ∷ xs) (suc a) = zero_at_start xs a

turns_below : (actors : List Actor) (n : ℕ) (at : Positions) → length at ≡ length actors → AllWait actors at → NotPast (after_turns actors n) at
turns_below actors zero at f wait = λ a. omega (arith, zero_at_start actors a)
turns_below actors (suc n) at f wait =
    run_first_below actors (length actors) (after_turns actors n) at (length-after_turns actors n) f wait (turns_below actors n at f wait)

-- without a deadlock, actors that all wait or have ended, in whatever order they ran, have all ended
pub waiting_actors_have_ended : WaitingActorsHaveEnded
waiting_actors_have_ended actors at many none wait a =
    let stand = none.1 in
    let below : slice_index (after_turns actors stand.turns) a ≤ slice_index at a = turns_below actors stand.turns at many wait a in
    let here : slice_index (after_turns actors stand.turns) a ≡ slice_index none.0 a = ap (λ (l : Positions). slice_index l a) stand.after in
    let ended : length (steps_at actors a) ≤ slice_index none.0 a = none.2 a in
    omega arith
