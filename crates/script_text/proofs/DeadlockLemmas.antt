-- Lemmas on the runs of actors.
use Rattle.std.proofs.Common.{◌≡◌, ◌<◌, ◌+◌, ◌∙◌, ◌||◌, ℕ, zero, suc, List, [], ◌∷◌, length, drop, set, slice_get, slice_index, Bool, true, false, if◌then◌else◌, Some, None, refl, ap, sym, arith, get_or-set_same, length-set}
use Rattle.std.proofs.lemmas.List.{set-get_or}
use Rattle.std.proofs.lemmas.Option.{slice_get_within}
use Rattle.script_text.specs.declared.actor.Actor.{Actor}
use Rattle.script_text.specs.declared.step.Step.{Step}
use Rattle.script_text.specs.Deadlocks.{Positions, at_start, steps_at, posts, posts_before, post_counts, waits, one_on, go_on, run_one, Stand, steps_left, Moves}
use Rattle.script_text.proofs.PostLemmas.{length-at_start, post_counts-at, post_counts-set, post_counts-at_start, more_by, posts_before-suc}

pub steps_left-set : (actors : List Actor) (places : Positions) (a : ℕ) → length places ≡ length actors
    → slice_index places a < length (steps_at actors a)
    → steps_left actors (set places a (suc (slice_index places a))) + 1 ≡ steps_left actors places
steps_left-set [] places a e lt = absurd (omega arith)
steps_left-set (x ∷ xs) [] a e lt = absurd (omega arith)
steps_left-set (x ∷ xs) (n ∷ ns) zero e lt = omega arith
steps_left-set (x ∷ xs) (n ∷ ns) (suc a) e lt = omega (arith, steps_left-set xs ns a (omega arith) lt)

-- the counts after a step
abbrev counts_after : Bool → List ℕ → ℕ → List ℕ
counts_after is_post counts a = if is_post then one_on counts a else counts

set_more : (b : Bool) (l : List ℕ) (a : ℕ) → set l a (more_by b (slice_index l a)) ≡ counts_after b l a
set_more true l a = refl
set_more false l a = set-get_or l a 0

pub stand_on : (actors : List Actor) (places counts : List ℕ) (a : ℕ) (step : Step) → Stand actors places counts
    → slice_get (steps_at actors a) (slice_index places a) ≡ Some step
    → Stand actors (one_on places a) (counts_after (posts step.what) counts a)
stand_on actors places counts a step h e = record {
  many = length-set places a (suc (slice_index places a)) ∙ h.many;
  counted =
      let all = post_counts actors places in
      let here : slice_index all a ≡ posts_before (steps_at actors a) (slice_index places a) = post_counts-at actors places a h.many in
      let more : posts_before (steps_at actors a) (suc (slice_index places a)) ≡ more_by (posts step.what) (slice_index all a) =
      posts_before-suc (steps_at actors a) (slice_index places a) step e ∙ ap (more_by (posts step.what)) (sym here) in
      ap (λ l. counts_after (posts step.what) l a) h.counted
      ∙ (sym (set_more (posts step.what) all a)
      ∙ (ap (set all a) (sym more) ∙ sym (post_counts-set actors places a (suc (slice_index places a)) h.many)));
}

-- an actor that may make its next step makes it, and then goes on
pub drop_next : (steps : List Step) (n : ℕ) (step : Step) → slice_get steps n ≡ Some step → drop n steps ≡ step ∷ drop (suc n) steps
drop_next [] n step e = absurd cc
drop_next (s ∷ ss) zero step e = let same : s ≡ step = cc in ap (λ x. x ∷ ss) same
drop_next (s ∷ ss) (suc n) step e = drop_next ss n step e

drop_none : (steps : List Step) (n : ℕ) → slice_get steps n ≡ None → drop n steps ≡ []
drop_none [] zero e = refl
drop_none [] (suc n) e = refl
drop_none (s ∷ ss) zero e = absurd cc
drop_none (s ∷ ss) (suc n) e = drop_none ss n e

pub if_true : {X : Type 0} (b : Bool) (x y : X) → b ≡ true → (if b then x else y) ≡ x
if_true true x y e = refl
if_true false x y e = absurd cc

pub if_false : {X : Type 0} (b : Bool) (x y : X) → b ≡ false → (if b then x else y) ≡ y
if_false true x y e = absurd cc
if_false false x y e = refl

pub within_steps : (actors : List Actor) (a n : ℕ) (step : Step) → slice_get (steps_at actors a) n ≡ Some step → a < length actors
within_steps [] a n step e = absurd cc
within_steps (x ∷ xs) zero n step e = omega arith
within_steps (x ∷ xs) (suc a) n step e = omega (arith, within_steps xs a n step e)

-- an actor that runs makes the next step where it doesn't wait
pub run_on : (actors : List Actor) (places : Positions) (a : ℕ) (step : Step) → length places ≡ length actors
    → slice_get (steps_at actors a) (slice_index places a) ≡ Some step → waits actors places step.what ≡ false
    → run_one actors a (one_on places a) ≡ run_one actors a places
run_on actors places a step many e free =
    let lt : a < length places = omega (arith, within_steps actors a (slice_index places a) step e) in
    let at : slice_index (one_on places a) a ≡ suc (slice_index places a) = get_or-set_same places a (suc (slice_index places a)) 0 lt in
    let steps = steps_at actors a in
    ap (λ n. go_on actors a (one_on places a) (drop n steps)) at
    ∙ (sym (if_false (waits actors places step.what) places (go_on actors a (one_on places a) (drop (suc (slice_index places a)) steps)) free)
    ∙ ap (go_on actors a places) (sym (drop_next steps (slice_index places a) step e)))

-- it stands where it waits, and where it has ended
pub run_waits : (actors : List Actor) (places : Positions) (a : ℕ) (step : Step)
    → slice_get (steps_at actors a) (slice_index places a) ≡ Some step → waits actors places step.what ≡ true
    → run_one actors a places ≡ places
run_waits actors places a step e wait =
    let steps = steps_at actors a in
    ap (go_on actors a places) (drop_next steps (slice_index places a) step e)
    ∙ if_true (waits actors places step.what) places (go_on actors a (one_on places a) (drop (suc (slice_index places a)) steps)) wait

pub run_ends : (actors : List Actor) (places : Positions) (a : ℕ) → slice_get (steps_at actors a) (slice_index places a) ≡ None
    → run_one actors a places ≡ places
run_ends actors places a e = ap (go_on actors a places) (drop_none (steps_at actors a) (slice_index places a) e)

-- ---- moves

pub no_move : (actors : List Actor) (places : Positions) → Moves actors false places places
no_move actors places = record { still = λ e. refl; on = λ e. absurd cc; never_back = omega arith }

pub moves_on : (actors : List Actor) (moved : Bool) (old places : Positions) (a : ℕ) (step : Step) → length places ≡ length actors
    → slice_get (steps_at actors a) (slice_index places a) ≡ Some step → Moves actors moved old places
    → Moves actors true old (one_on places a)
moves_on actors moved old places a step many e h =
    let less : steps_left actors (one_on places a) < steps_left actors old =
    omega (arith, steps_left-set actors places a many (slice_get_within (steps_at actors a) (slice_index places a) step e), h.never_back) in
    record { still = λ e. absurd cc; on = λ e. less; never_back = omega arith }

pub moves_then : (actors : List Actor) (first second : Bool) (old mid new : Positions) → Moves actors first old mid
    → Moves actors second mid new → Moves actors (second || first) old new
moves_then actors first true old mid new h k =
    record { still = λ e. absurd cc; on = λ e. let l : steps_left actors new < steps_left actors mid = k.on refl in omega (arith, h.never_back); never_back = omega (arith, h.never_back, k.never_back) }
moves_then actors first false old mid new h k =
    let same : new ≡ mid = k.still refl in rw same h

-- ---- at the start

pub stand_at_start : (actors : List Actor) → Stand actors (at_start actors) (at_start actors)
stand_at_start actors = record { many = length-at_start actors; counted = sym (post_counts-at_start actors) }
