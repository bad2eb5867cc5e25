-- Deadlock: the actors run in order, again and again, each until it ends or stands at a hear whose
-- actor has posted too few times. Where a turn through all of them moves none, and not all have
-- ended, the script has a deadlock. This jar's own rule: docs/DEFINITIONS.md.
use Rattle.std.specs.Prelude.{◌≡◌, ℕ, zero, suc, ◌+◌, ◌<◌, ◌≤◌, ◌-◌, List, [], ◌∷◌, length, take, drop, replicate, Bool, true, false, nat_lt, count_by, slice_get, slice_index, slice_set, Option, None, Some, if◌then◌else◌}
use Rattle.script_text.specs.declared.actor.Actor.{Actor}
use Rattle.script_text.specs.declared.deadlock.Waiting.{Waiting}
use Rattle.script_text.specs.declared.step.Step.{Step}
use Rattle.script_text.specs.declared.step.What.{What}
use Rattle.script_text.specs.declared.step.What.TheVariants.{Post, Hear}

-- where the actors stand: how many of its steps each has made
abbrev pub Positions : Type 0
Positions = List ℕ

-- before their first steps
abbrev pub at_start : List Actor → Positions
at_start actors = replicate (length actors) 0

-- the steps of an actor, and none of one past the last
abbrev pub steps_of : Option Actor → List Step
steps_of None = []
steps_of (Some actor) = actor.steps

abbrev pub steps_at : List Actor → ℕ → List Step
steps_at actors a = steps_of (slice_get actors a)

-- whether a step is a post
abbrev pub posts : What → Bool
posts Post = true
posts _ = false

-- how often an actor of these steps has posted that has made n of them
abbrev pub posts_before : List Step → ℕ → ℕ
posts_before steps n = count_by (λ (step : Step). posts step.what) (take n steps)

-- how often each actor has posted
abbrev pub post_counts : List Actor → Positions → List ℕ
post_counts [] places = []
post_counts (actor ∷ actors) [] = []
post_counts (actor ∷ actors) (n ∷ places) = posts_before actor.steps n ∷ post_counts actors places

-- whether a step waits: it is a hear whose actor has posted too few times
abbrev pub waits_for : List ℕ → What → Bool
waits_for counts (Hear actor n) = nat_lt (slice_index counts actor) n
waits_for counts _ = false

abbrev pub waits : List Actor → Positions → What → Bool
waits actors places what = waits_for (post_counts actors places) what

-- an actor makes one step more
abbrev pub one_on : Positions → ℕ → Positions
one_on places a = slice_set places a (suc (slice_index places a))

-- an actor goes on through these steps, which it hasn't made: it ends, or stands at one that waits
abbrev pub go_on : List Actor → ℕ → Positions → List Step → Positions
go_on actors a places [] = places
go_on actors a places (step ∷ steps) =
    if waits actors places step.what then places else go_on actors a (one_on places a) steps

-- an actor runs
abbrev pub run_one : List Actor → ℕ → Positions → Positions
run_one actors a places = go_on actors a places (drop (slice_index places a) (steps_at actors a))

-- the first k actors run, in order
abbrev pub run_first : List Actor → ℕ → Positions → Positions
run_first actors zero places = places
run_first actors (suc k) places = run_one actors k (run_first actors k places)

-- a turn: all actors run, in order
abbrev pub turn : List Actor → Positions → Positions
turn actors places = run_first actors (length actors) places

-- where the actors stand after n turns
abbrev pub after_turns : List Actor → ℕ → Positions
after_turns actors zero = at_start actors
after_turns actors (suc n) = turn actors (after_turns actors n)

-- the actors come to stand so: after some turns, where one turn more moves none
pub record ComeToStand (actors : List Actor) (places : Positions) : Type 0 where
  pub turns : ℕ
  pub after : after_turns actors turns ≡ places
  pub still : turn actors places ≡ places

-- an actor has made all of its steps
abbrev pub HasEnded : List Actor → Positions → ℕ → Type 0
HasEnded actors places a = length (steps_at actors a) ≤ slice_index places a

abbrev pub AllHaveEnded : List Actor → Positions → Type 0
AllHaveEnded actors places = (a : ℕ) → HasEnded actors places a

-- the actors come to stand where all of them have ended
abbrev pub HasNoDeadlock : List Actor → Type 0
HasNoDeadlock actors = (places : Positions) × ComeToStand actors places × AllHaveEnded actors places

-- this actor is the first that hasn't ended, and stands at this step
pub record IsFirstLeft (actors : List Actor) (places : Positions) (waiting : Waiting) : Type 0 where
  pub before : (a : ℕ) → a < waiting.actor → HasEnded actors places a
  pub step : waiting.step ≡ slice_index places waiting.actor
  pub unfinished : waiting.step < length (steps_at actors waiting.actor)

-- the actors come to stand where this one is the first that hasn't ended
pub record IsDeadlock (actors : List Actor) (waiting : Waiting) : Type 0 where
  pub places : Positions
  pub stand : ComeToStand actors places
  pub first : IsFirstLeft actors places waiting

-- what the test of actors finds: who waits for ever, or that none does
abbrev pub FindsDeadlock : List Actor → Option Waiting → Type 0
FindsDeadlock actors None = HasNoDeadlock actors
FindsDeadlock actors (Some waiting) = IsDeadlock actors waiting

-- each actor that hasn't ended stands at a hear that waits
abbrev pub AllWait : List Actor → Positions → Type 0
AllWait actors places =
    (a : ℕ) (step : Step) → slice_get (steps_at actors a) (slice_index places a) ≡ Some step
    → waits actors places step.what ≡ true

-- without a deadlock, actors of which each waits or has ended, in whatever order they ran, have all
-- ended
abbrev pub WaitingActorsHaveEnded : Type 0
WaitingActorsHaveEnded =
    (actors : List Actor) (places : Positions) → length places ≡ length actors
    → HasNoDeadlock actors → AllWait actors places → AllHaveEnded actors places

-- that no public clause cites

-- the posts of actors that stand so are these
pub record Stand (actors : List Actor) (places counts : List ℕ) : Type 0 where
  pub many : length places ≡ length actors
  pub counted : counts ≡ post_counts actors places

-- how many steps are left
abbrev pub steps_left : List Actor → Positions → ℕ
steps_left [] places = 0
steps_left (actor ∷ actors) [] = 0
steps_left (actor ∷ actors) (n ∷ places) = (length actor.steps - n) + steps_left actors places

-- actors stood so and now stand so, and whether one of them moved
pub record Moves (actors : List Actor) (moved : Bool) (old new : Positions) : Type 0 where
  pub still : moved ≡ false → new ≡ old
  pub on : moved ≡ true → steps_left actors new < steps_left actors old
  pub never_back : steps_left actors new ≤ steps_left actors old
