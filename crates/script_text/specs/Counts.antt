-- How many actors and steps a script may have. This jar's own rule: docs/DEFINITIONS.md.
use Rattle.std.specs.Prelude.{◌≡◌, ◌<◌, ◌≤◌, ◌⊎◌, ℕ, suc, List, length, take, sum_by, codes, Option, None, Some}
use Rattle.script_text.specs.declared.actor.TheConstants.{MOST_ACTORS}
use Rattle.script_text.specs.declared.spot.Spot.TheVariants.{OfActor}
use Rattle.script_text.specs.declared.step.TheConstants.{MOST_STEPS}
use Rattle.script_text.specs.Drafts.{DraftActor}
use Rattle.script_text.specs.Walk.{member_path}

-- how many steps actors have together
abbrev pub step_count : List DraftActor → ℕ
step_count actors = sum_by (λ (actor : DraftActor). length actor.steps) actors

-- the steps of the actor of this index are those that are too many
pub record IsOverAt (actors : List DraftActor) (index : ℕ) : Type 0 where
  pub before : step_count (take index actors) ≤ MOST_STEPS
  pub over : MOST_STEPS < step_count (take (suc index) actors)

-- there are too many actors, or else too many steps: the path is that of their list
abbrev pub IsTooMany : List DraftActor → List ℕ → Type 0
IsTooMany actors path =
    ((MOST_ACTORS < length actors) × (path ≡ codes "/actors"))
    ⊎ ((length actors ≤ MOST_ACTORS)
    × ((index : ℕ) × IsOverAt actors index × (path ≡ member_path (OfActor index) (codes "steps"))))

-- there are not too many
pub record HasFew (actors : List DraftActor) : Type 0 where
  pub actors_within : length actors ≤ MOST_ACTORS
  pub steps_within : step_count actors ≤ MOST_STEPS

-- that no public clause cites

-- what counting finds
abbrev pub FindsTooMany : List DraftActor → Option (List ℕ) → Type 0
FindsTooMany actors None = HasFew actors
FindsTooMany actors (Some path) = IsTooMany actors path
