-- Lemmas on how often actors have posted.
use Rattle.std.proofs.Common.{◌≡◌, ◌≤◌, ◌+◌, ◌∙◌, ℕ, zero, suc, List, [], ◌∷◌, length, take, set, slice_get, slice_index, Bool, true, false, sum_by, if◌then◌else◌, Some, refl, ap, sym, arith, length-take}
use Rattle.std.proofs.lemmas.List.{take-take}
use Rattle.std.proofs.lemmas.List.Sums.{count_by-le-length, sum_by-cons, sum_by-take-le}
use Rattle.script_text.specs.declared.actor.Actor.{Actor}
use Rattle.script_text.specs.declared.step.Step.{Step}
use Rattle.script_text.specs.Deadlocks.{Positions, at_start, steps_at, posts, posts_before, post_counts}

pub length-post_counts : (actors : List Actor) (places : Positions) → length places ≡ length actors
    → length (post_counts actors places) ≡ length actors
length-post_counts [] places e = refl
length-post_counts (x ∷ xs) [] e = absurd (omega arith)
length-post_counts (x ∷ xs) (n ∷ ns) e = ap suc (length-post_counts xs ns (omega arith))

posts_before-none : (n : ℕ) → posts_before [] n ≡ 0
posts_before-none zero = refl
posts_before-none (suc n) = refl

posts_before-at_first : (steps : List Step) → posts_before steps 0 ≡ 0
posts_before-at_first [] = refl
posts_before-at_first (s ∷ ss) = refl

-- the count of an actor is that of its steps
pub post_counts-at : (actors : List Actor) (places : Positions) (a : ℕ) → length places ≡ length actors
    → slice_index (post_counts actors places) a ≡ posts_before (steps_at actors a) (slice_index places a)
post_counts-at [] [] a e = sym (posts_before-none (slice_index [] a))
post_counts-at [] (n ∷ ns) a e = absurd (omega arith)
post_counts-at (x ∷ xs) [] a e = absurd (omega arith)
post_counts-at (x ∷ xs) (n ∷ ns) zero e = refl
post_counts-at (x ∷ xs) (n ∷ ns) (suc a) e = post_counts-at xs ns a (omega arith)

pub post_counts-set : (actors : List Actor) (places : Positions) (a n : ℕ) → length places ≡ length actors
    → post_counts actors (set places a n) ≡ set (post_counts actors places) a (posts_before (steps_at actors a) n)
post_counts-set [] [] a n e = refl
post_counts-set [] (m ∷ ns) a n e = absurd (omega arith)
post_counts-set (x ∷ xs) [] a n e = absurd (omega arith)
post_counts-set (x ∷ xs) (m ∷ ns) zero n e = refl
post_counts-set (x ∷ xs) (m ∷ ns) (suc a) n e = ap (λ l. posts_before x.steps m ∷ l) (post_counts-set xs ns a n (omega arith))

pub post_counts-at_start : (actors : List Actor) → post_counts actors (at_start actors) ≡ at_start actors
post_counts-at_start [] = refl
post_counts-at_start (x ∷ xs) = λ k. posts_before-at_first x.steps k ∷ post_counts-at_start xs k

-- one post more, or none
abbrev pub more_by : Bool → ℕ → ℕ
more_by is_post n = if is_post then suc n else n

-- what a step counts for
abbrev worth : Step → ℕ
worth step = if posts step.what then 1 else 0

posts_before-cons : (s : Step) (ss : List Step) (n : ℕ) → posts_before (s ∷ ss) (suc n) ≡ worth s + posts_before ss n
posts_before-cons s ss n = sum_by-cons worth s (take n ss)

add_more : (k : ℕ) (b : Bool) (n : ℕ) → k + more_by b n ≡ more_by b (k + n)
add_more k true n = omega arith
add_more k false n = refl

first_more : (b : Bool) → (if b then 1 else 0) + 0 ≡ more_by b 0
first_more true = refl
first_more false = refl

pub posts_before-suc : (steps : List Step) (n : ℕ) (step : Step) → slice_get steps n ≡ Some step
    → posts_before steps (suc n) ≡ more_by (posts step.what) (posts_before steps n)
posts_before-suc [] n step e = absurd cc
posts_before-suc (s ∷ ss) zero step e =
    let same : s ≡ step = cc in
    posts_before-cons s ss 0 ∙ (ap (λ k. worth s + k) (posts_before-at_first ss) ∙ (first_more (posts s.what) ∙ ap (λ (t : Step). more_by (posts t.what) 0) same))
posts_before-suc (s ∷ ss) (suc n) step e =
    posts_before-cons s ss (suc n) ∙ (ap (λ k. worth s + k) (posts_before-suc ss n step e)
    ∙ (add_more (worth s) (posts step.what) (posts_before ss n) ∙ ap (more_by (posts step.what)) (sym (posts_before-cons s ss n))))

pub posts_before-le : (steps : List Step) (m n : ℕ) → m ≤ n → posts_before steps m ≤ posts_before steps n
posts_before-le steps m n h =
    let part : sum_by worth (take m (take n steps)) ≤ sum_by worth (take n steps) = sum_by-take-le worth (take n steps) m in
    let same : sum_by worth (take m (take n steps)) ≡ sum_by worth (take m steps) = ap (sum_by worth) (take-take m n steps h) in
    omega (arith, part, same)

pub posts_before-few : (steps : List Step) (n : ℕ) → posts_before steps n ≤ n
posts_before-few steps n =
    omega (arith, count_by-le-length (λ (s : Step). posts s.what) (take n steps), length-take n steps)

pub length-at_start : (actors : List Actor) → length (at_start actors) ≡ length actors
length-at_start [] = refl
length-at_start (x ∷ xs) = ap suc (length-at_start xs)
