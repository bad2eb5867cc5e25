-- What keeps a script from being admitted: a step of the other kind of actor, a listener that the actor
-- hasn't, a hear of no actor or of no post, and a place of no URL.
use Rattle.std.proofs.Common.{◌≡◌, ◌≤◌, ℕ, List, Bool, true, false, Option, Some, None, arith}
use Rattle.public_suffix.specs.Rule.{SuffixRule}
use Rattle.site_match.specs.declared.fetch.FetchAsk.{FetchAsk}
use Rattle.site_match.specs.declared.place.Place.{Place}
use Rattle.script_text.specs.declared.script.Script.{Script}
use Rattle.script_text.specs.declared.step.What.TheVariants.{Set, Get, Delete, All, Clear, Listen, Changes, Unlisten, Hear, Read, Write}
use Rattle.script_text.specs.Admitted.{IsPlaced, IsPlacedWhat, Where, MayStand, IsAdmitted}
use Rattle.script_text.specs.Walk.{IsPlace}

-- behind two listens, among three actors
abbrev at : Bool → Where
at renders = record { renders = renders; listens = 2; actors = 3 }

-- only a fetch sets, gets, deletes, asks for all and clears
of_fetches : (ask : FetchAsk) (line : List ℕ) → (MayStand (at true) (Set ask line) → ⊥) × (MayStand (at true) (Get ask) → ⊥)
    × (MayStand (at true) (Delete line line line) → ⊥) × (MayStand (at true) All → ⊥) × (MayStand (at true) Clear → ⊥)
of_fetches ask line = (λ h. absurd cc, λ h. absurd cc, λ h. absurd cc, λ h. absurd cc, λ h. absurd cc)

-- only a renderer reads and writes
of_renderers : (url : Option Place) (line : List ℕ) → (MayStand (at false) (Read url) → ⊥) × (MayStand (at false) (Write line url) → ⊥)
of_renderers url line = (λ h. absurd cc, λ h. absurd cc)

-- a renderer's listen says nothing of itself, and a fetch's has no name without a place
listens : (ask : FetchAsk) (name : List ℕ) → (MayStand (at true) (Listen (Some ask) None) → ⊥) × (MayStand (at false) (Listen None (Some name)) → ⊥)
listens ask name = (λ h. absurd cc, λ h. absurd cc)

-- listeners are counted from 1, and none is past the listens before
listeners : (MayStand (at true) (Changes 0) → ⊥) × (MayStand (at true) (Changes 3) → ⊥) × (MayStand (at false) (Unlisten 0) → ⊥)
    × (MayStand (at false) (Unlisten 3) → ⊥)
listeners = (
  λ h. let low : 1 ≤ 0 = h.least in absurd (omega arith),
  λ h. let high : 3 ≤ 2 = h.most in absurd (omega arith),
  λ h. let low : 1 ≤ 0 = h.least in absurd (omega arith),
  λ h. let high : 3 ≤ 2 = h.most in absurd (omega arith),
)

-- a hear is of one of the actors, and of one post at least
hears : (MayStand (at true) (Hear 3 1) → ⊥) × (MayStand (at false) (Hear 0 0) → ⊥)
hears = (λ h. let high : 4 ≤ 3 = h.actor_within in absurd (omega arith), λ h. let low : 1 ≤ 0 = h.least in absurd (omega arith))

-- and what may stand: the last of the listeners, and a hear of the last actor, for one post
may : MayStand (at true) (Changes 2) × MayStand (at false) (Hear 2 1)
may = (record { least = omega arith; most = omega arith }, record { actor_within = omega arith; least = omega arith })

-- a place that no URL gives keeps a step out
no_place : (rules : List SuffixRule) (place : Place) (line : List ℕ) → ((url : List ℕ) → IsPlace rules url place → ⊥)
    → (IsPlacedWhat rules (Read (Some place)) → ⊥) × (IsPlacedWhat rules (Write line (Some place)) → ⊥)
no_place rules place line none = (λ h. none h.0 h.1, λ h. none h.0 h.1)

-- and an ask whose place, site or initiator is such
no_ask_place : (rules : List SuffixRule) (ask : FetchAsk) → (IsPlaced rules ask.place → ⊥) → IsPlacedWhat rules (Get ask) → ⊥
no_ask_place rules ask none h = none h.place

-- a limit of 0, and one past a million
no_limit : (script : Script) → script.limit ≡ 0 → IsAdmitted script → ⊥
no_limit script is h = let low = h.least_limit in absurd (omega arith)

high_limit : (script : Script) → script.limit ≡ 1000001 → IsAdmitted script → ⊥
high_limit script is h = let high = h.most_limit in absurd (omega arith)
