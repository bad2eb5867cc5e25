-- Which scripts are admitted: their counts, their numbers and the steps of each kind of actor are
-- those of the form, their places are those of URLs by their suffix rules, and they have no
-- deadlock. This jar's own rule: docs/DEFINITIONS.md.
use Rattle.std.specs.Prelude.{◌≡◌, ◌<◌, ◌≤◌, ℕ, List, length, take, sum_by, count_by, Bool, true, false, slice_get, Option, None, Some, is_some, IfSome}
use Rattle.public_suffix.specs.Rule.{SuffixRule}
use Rattle.site_match.specs.declared.fetch.FetchAsk.{FetchAsk}
use Rattle.site_match.specs.declared.place.Place.{Place}
use Rattle.script_text.specs.declared.actor.Actor.{Actor}
use Rattle.script_text.specs.declared.actor.TheConstants.{MOST_ACTORS}
use Rattle.script_text.specs.declared.script.Script.{Script}
use Rattle.script_text.specs.declared.script.TheConstants.{MOST_LIMIT}
use Rattle.script_text.specs.declared.step.Step.{Step}
use Rattle.script_text.specs.declared.step.TheConstants.{MOST_STEPS}
use Rattle.script_text.specs.declared.step.What.{What}
use Rattle.script_text.specs.declared.step.What.TheVariants.{Set, Get, Delete, All, Clear, Listen, Changes, Unlisten, Post, Hear, Read, Write}
use Rattle.script_text.specs.Deadlocks.{HasNoDeadlock}
use Rattle.script_text.specs.Placed.{View}
use Rattle.script_text.specs.Walk.{IsPlace}

-- ---- places

-- a place is that of a URL by the suffix rules
abbrev pub IsPlaced : List SuffixRule → Place → Type 0
IsPlaced rules place = (url : List ℕ) × IsPlace rules url place

-- the places of what a step says of itself are those of URLs
pub record IsPlacedAsk (rules : List SuffixRule) (ask : FetchAsk) : Type 0 where
  pub place : IsPlaced rules ask.place
  pub site : IfSome ask.site (IsPlaced rules)
  pub initiator : IfSome ask.initiator (IsPlaced rules)

-- the places of a renderer's view are those of URLs
pub record IsPlacedView (rules : List SuffixRule) (sees : View) : Type 0 where
  pub document : IsPlaced rules sees.0
  pub site : IfSome sees.1 (IsPlaced rules)

-- the places of a step are those of URLs
abbrev pub IsPlacedWhat : List SuffixRule → What → Type 0
IsPlacedWhat rules (Set ask line) = IsPlacedAsk rules ask
IsPlacedWhat rules (Get ask) = IsPlacedAsk rules ask
IsPlacedWhat rules (Delete host name path) = Unit {0}
IsPlacedWhat rules All = Unit {0}
IsPlacedWhat rules Clear = Unit {0}
IsPlacedWhat rules (Listen ask name) = IfSome ask (IsPlacedAsk rules)
IsPlacedWhat rules (Changes listener) = Unit {0}
IsPlacedWhat rules (Unlisten listener) = Unit {0}
IsPlacedWhat rules Post = Unit {0}
IsPlacedWhat rules (Hear actor n) = Unit {0}
IsPlacedWhat rules (Read url) = IfSome url (IsPlaced rules)
IsPlacedWhat rules (Write line url) = IfSome url (IsPlaced rules)

-- ---- steps

-- a listen: a renderer's says nothing of itself, and a fetch's has a name only where it does
abbrev pub MayListen : Bool → Bool → Option (List ℕ) → Type 0
MayListen true says name = says ≡ false
MayListen false true name = Unit {0}
MayListen false false name = name ≡ None

-- where a step stands: whether its actor renders, how many listens its actor has before it, and
-- how many actors there are
pub record Where : Type 0 where
  pub renders : Bool
  pub listens : ℕ
  pub actors : ℕ

-- a step on a listener is on one that its actor has, counted from 1
pub record IsListener (at : Where) (listener : ℕ) : Type 0 where
  pub least : 1 ≤ listener
  pub most : listener ≤ at.listens

-- a hear is of an actor that there is, and waits for a post
pub record IsHeard (at : Where) (actor n : ℕ) : Type 0 where
  pub actor_within : actor < at.actors
  pub least : 1 ≤ n

-- a step may stand there
abbrev pub MayStand : Where → What → Type 0
MayStand at (Set ask line) = at.renders ≡ false
MayStand at (Get ask) = at.renders ≡ false
MayStand at (Delete host name path) = at.renders ≡ false
MayStand at All = at.renders ≡ false
MayStand at Clear = at.renders ≡ false
MayStand at (Listen ask name) = MayListen at.renders (is_some ask) name
MayStand at (Changes listener) = IsListener at listener
MayStand at (Unlisten listener) = IsListener at listener
MayStand at Post = Unit {0}
MayStand at (Hear actor n) = IsHeard at actor n
MayStand at (Read url) = at.renders ≡ true
MayStand at (Write line url) = at.renders ≡ true

-- whether a step is a listen
abbrev pub listens : What → Bool
listens (Listen ask name) = true
listens _ = false

-- how many of the first n of these steps are listens
abbrev pub listens_before : List Step → ℕ → ℕ
listens_before steps n = count_by (λ (step : Step). listens step.what) (take n steps)

-- where a step of an actor stands
abbrev pub place_of_step : Script → Actor → ℕ → Where
place_of_step script actor s = record {
  renders = is_some actor.view;
  listens = listens_before actor.steps s;
  actors = length script.actors;
}

-- ---- actors and scripts

-- an actor's steps may stand where they do, and its places are those of URLs
pub record IsAdmittedActor (script : Script) (actor : Actor) : Type 0 where
  pub view_places : IfSome actor.view (IsPlacedView script.suffixes)
  pub step_places : (s : ℕ) (step : Step) → slice_get actor.steps s ≡ Some step
      → IsPlacedWhat script.suffixes step.what
  pub steps_stand : (s : ℕ) (step : Step) → slice_get actor.steps s ≡ Some step
      → MayStand (place_of_step script actor s) step.what

-- a script is admitted
pub record IsAdmitted (script : Script) : Type 0 where
  pub few_actors : length script.actors ≤ MOST_ACTORS
  pub few_steps : sum_by (λ (actor : Actor). length actor.steps) script.actors ≤ MOST_STEPS
  pub least_limit : 1 ≤ script.limit
  pub most_limit : script.limit ≤ MOST_LIMIT
  pub each_actor : (a : ℕ) (actor : Actor) → slice_get script.actors a ≡ Some actor
      → IsAdmittedActor script actor
  pub no_deadlock : HasNoDeadlock script.actors
