-- Each limit as a number, deadlocks and counts at small scripts, and what the causes of refusals keep out, as
-- docs/DEFINITIONS.md has them.
use Rattle.std.proofs.Common.{◌≡◌, ◌<◌, ◌+◌, ◌∙◌, zero, suc, ℕ, List, [], ◌∷◌, length, replicate, codes, None, inr, refl, ap, arith}
use Rattle.std.specs.Fmt.{digits}
use Rattle.std.proofs.lemmas.List.{length-replicate}
use Rattle.std.proofs.lemmas.List.Sums.{sum_by-cons}
use Rattle.script_text.specs.declared.actor.Actor.{Actor}
use Rattle.script_text.specs.declared.actor.TheConstants.{MOST_ACTORS}
use Rattle.script_text.specs.declared.script.TheConstants.{MOST_LIMIT}
use Rattle.script_text.specs.declared.spot.Spot.TheVariants.{OfActor, OfStep}
use Rattle.script_text.specs.declared.step.Step.{Step}
use Rattle.script_text.specs.declared.step.TheConstants.{MOST_STEPS}
use Rattle.script_text.specs.declared.step.What.{What}
use Rattle.script_text.specs.declared.step.What.TheVariants.{All, Post, Hear}
use Rattle.script_text.specs.Counts.{step_count, IsTooMany}
use Rattle.script_text.specs.Deadlocks.{HasEnded, AllHaveEnded, HasNoDeadlock, IsDeadlock}
use Rattle.script_text.specs.Drafts.{DraftActor, post}
use Rattle.script_text.specs.Walk.{path_of, member_path}

-- ---- limits

limits : (MOST_ACTORS ≡ 64) × (MOST_STEPS ≡ 20000) × (MOST_LIMIT ≡ 1000000)
limits = (refl, refl, refl)

-- ---- paths

paths : (path_of (OfActor 12) ≡ codes "/actors/12") × (path_of (OfStep 0 19999) ≡ codes "/actors/0/steps/19999")
    × (member_path (OfStep 63 7) (codes "url") ≡ codes "/actors/63/steps/7/url")
unfolding digits
paths = (refl, refl, refl)

-- ---- deadlocks

-- steps at the moment 0
abbrev at_0 : List What → List Step
at_0 [] = []
at_0 (what ∷ whats) = record { now = 0; what = what } ∷ at_0 whats

-- a fetch that does these
abbrev doing : List What → Actor
doing whats = record { view = None; steps = at_0 whats }

-- an actor that hears one post of an actor, and then posts
abbrev hears_then_posts : ℕ → Actor
hears_then_posts actor = doing (Hear actor 1 ∷ Post ∷ [])

-- two actors that hear each other: the first is named, at its hear
two_wait : IsDeadlock (hears_then_posts 1 ∷ hears_then_posts 0 ∷ []) (record { actor = 0; step = 0 })
two_wait = record {
  places = 0 ∷ 0 ∷ [];
  stand = record { turns = 0; after = refl; still = refl };
  first = record { before = λ a lt. absurd (omega arith); step = refl; unfinished = omega arith };
}

-- three in a ring, each behind a step that stops none
abbrev in_ring : ℕ → Actor
in_ring actor = doing (All ∷ Hear actor 1 ∷ Post ∷ [])

three_wait : IsDeadlock (in_ring 1 ∷ in_ring 2 ∷ in_ring 0 ∷ []) (record { actor = 0; step = 1 })
three_wait = record {
  places = 1 ∷ 1 ∷ 1 ∷ [];
  stand = record { turns = 1; after = refl; still = refl };
  first = record { before = λ a lt. absurd (omega arith); step = refl; unfinished = omega arith };
}

-- an actor that hears its own post before it is made waits for ever, and the one before it has ended
first_ended : (a : ℕ) → a < 1 → HasEnded (doing (Post ∷ []) ∷ hears_then_posts 1 ∷ []) (1 ∷ 0 ∷ []) a
first_ended zero lt = omega arith
first_ended (suc a) lt = absurd (omega arith)

own_post : IsDeadlock (doing (Post ∷ []) ∷ hears_then_posts 1 ∷ []) (record { actor = 1; step = 0 })
own_post = record {
  places = 1 ∷ 0 ∷ [];
  stand = record { turns = 1; after = refl; still = refl };
  first = record { before = first_ended; step = refl; unfinished = omega arith };
}

-- none where a post comes first, though the hearer stands before the one that posts
two_ended : AllHaveEnded (hears_then_posts 1 ∷ doing (Post ∷ Hear 0 1 ∷ []) ∷ []) (2 ∷ 2 ∷ [])
two_ended zero = omega arith
two_ended (suc zero) = omega arith
two_ended (suc (suc a)) = omega arith

post_first : HasNoDeadlock (hears_then_posts 1 ∷ doing (Post ∷ Hear 0 1 ∷ []) ∷ [])
post_first = (2 ∷ 2 ∷ [], record { turns = 2; after = refl; still = refl }, two_ended)

-- and none where an actor hears its own post behind it
one_ended : AllHaveEnded (doing (Post ∷ Hear 0 1 ∷ []) ∷ []) (2 ∷ [])
one_ended zero = omega arith
one_ended (suc a) = omega arith

own_post_behind : HasNoDeadlock (doing (Post ∷ Hear 0 1 ∷ []) ∷ [])
own_post_behind = (2 ∷ [], record { turns = 1; after = refl; still = refl }, one_ended)

-- two posts are more than one
second_post : IsDeadlock (doing (Hear 1 2 ∷ []) ∷ doing (Post ∷ []) ∷ []) (record { actor = 0; step = 0 })
second_post = record {
  places = 0 ∷ 1 ∷ [];
  stand = record { turns = 1; after = refl; still = refl };
  first = record { before = λ a lt. absurd (omega arith); step = refl; unfinished = omega arith };
}

-- ---- counts

-- an actor of so many posts
abbrev posting : ℕ → DraftActor
posting n = record { sees = None; steps = replicate n (record { now = 0; what = post }) }

counted : (n : ℕ) (rest : List DraftActor) → step_count (posting n ∷ rest) ≡ n + step_count rest
counted n rest = sum_by-cons (λ (actor : DraftActor). length actor.steps) (posting n) rest ∙ ap (λ k. k + step_count rest) (length-replicate n _)

-- 20,000 steps are few enough, and the list of the one behind them is named
one_too_many : IsTooMany (posting 20000 ∷ posting 0 ∷ posting 1 ∷ posting 5 ∷ []) (codes "/actors/2/steps")
unfolding digits
one_too_many = inr (
  omega arith,
  (
    2,
    record {
      before = omega (arith, counted 20000 (posting 0 ∷ []), counted 0 []);
      over = omega (arith, counted 20000 (posting 0 ∷ posting 1 ∷ []), counted 0 (posting 1 ∷ []), counted 1 []);
    },
    refl,
  ),
)
