-- What an actor does, turn after turn: a renderer first binds the key of its document, and then come the steps of its script.
-- This jar's own rule: docs/DEFINITIONS.md.
use Rattle.std.specs.Prelude.{ℕ, ◌+◌, ◌-◌, List, [], ◌∷◌, ◌++◌, length, map, slice_get, Option, None, Some}
use Rattle.run_report.specs.declared.item.Item.{Item}
use Rattle.script_text.specs.declared.actor.Actor.{Actor}
use Rattle.script_text.specs.declared.script.Script.{Script}
use Rattle.script_text.specs.declared.step.Step.{Step}
use Rattle.script_text.specs.Deadlocks.{Positions}
use Rattle.script_text.specs.Placed.{View}

-- a turn: the Bind of a renderer, or a step
pub data Turn : Type 0 where
  binds : Turn
  does : Step → Turn

-- the turns before the first step: one of who renders, and else none
abbrev pub turns_before : Option View → List Turn
turns_before None = []
turns_before (Some sees) = binds ∷ []

-- the turns of an actor, in their order
abbrev pub turns_of : Actor → List Turn
turns_of actor = turns_before actor.view ++ map does actor.steps

-- and none of an actor past the last
abbrev pub turns_where : Option Actor → List Turn
turns_where None = []
turns_where (Some actor) = turns_of actor

abbrev pub turns_at : List Actor → ℕ → List Turn
turns_at actors a = turns_where (slice_get actors a)

-- the document and the site of an actor that renders
abbrev pub view_where : Option Actor → Option View
view_where None = None
view_where (Some actor) = actor.view

abbrev pub view_at : List Actor → ℕ → Option View
view_at actors a = view_where (slice_get actors a)

-- the moment of a turn: a renderer binds at the script's start
abbrev pub turn_now : Script → Turn → ℕ
turn_now script binds = script.start
turn_now script (does step) = step.now

-- ---- how far actors are, by the items that they have: one for each turn that they have done

-- how many turns an actor has before its first step
abbrev pub lead_of : Actor → ℕ
lead_of actor = length (turns_before actor.view)

-- how many of its steps each actor has done
abbrev pub positions_of : List Actor → List (List Item) → Positions
positions_of [] lists = []
positions_of (actor ∷ actors) [] = []
positions_of (actor ∷ actors) (items ∷ lists) = (length items - lead_of actor) ∷ positions_of actors lists

-- how many turns are left
abbrev pub turns_left : List Actor → List (List Item) → ℕ
turns_left [] lists = 0
turns_left (actor ∷ actors) [] = 0
turns_left (actor ∷ actors) (items ∷ lists) =
    (lead_of actor + length actor.steps - length items) + turns_left actors lists
