-- Which bytes are a script, and why others are refused: by the first cause that applies, in the
-- order of the names of refusals, at the first path of the walk at which it does. This jar's own
-- rule: docs/DEFINITIONS.md.
use Rattle.std.specs.Prelude.{◌≡◌, ◌⊎◌, ℕ, List, [], codes, Option, None, Some, IsUtf8, Result, Ok, Err}
use Rattle.serde_json.specs.Data.{Data}
use Rattle.serde_json.specs.Read.{read}
use Rattle.public_suffix.specs.Rule.{SuffixRule}
use Rattle.json_form.specs.Forms.{misfit}
use Rattle.json_form.specs.declared.setting.Pass.TheVariants.{Shapes, Moments}
use Rattle.script_text.specs.declared.deadlock.Waiting.{Waiting}
use Rattle.script_text.specs.declared.refused.Refusal.{Refusal}
use Rattle.script_text.specs.declared.refused.Refusal.TheVariants.{TooLarge, NotJson, Shape, TooMany, BadMoment, BadSuffixes, BadPlace, Deadlock}
use Rattle.script_text.specs.declared.refused.Refused.{Refused}
use Rattle.script_text.specs.declared.refused.ScriptRefusal.{ScriptRefusal}
use Rattle.script_text.specs.declared.refused.ScriptRefusal.TheVariants as refusal
use Rattle.script_text.specs.declared.script.Script.{Script}
use Rattle.script_text.specs.declared.spot.Spot.TheVariants.{OfStep}
use Rattle.script_text.specs.Counts.{IsTooMany, HasFew}
use Rattle.script_text.specs.Deadlocks.{HasNoDeadlock, IsDeadlock}
use Rattle.script_text.specs.Readings.{draft_of}
use Rattle.script_text.specs.Form.{script}
use Rattle.script_text.specs.Placed.{IsRules, IsNoRules, IsScriptOf}
use Rattle.script_text.specs.Walk.{bad_place, IsFirstBad, path_of, script_urls}

-- the bytes are the JSON text of a value
abbrev pub IsJson : List ℕ → Data → Type 0
IsJson bytes d = IsUtf8 bytes × (read bytes ≡ Some d)

-- the bytes are no JSON text: no UTF-8, or no text that the grammar has
abbrev pub IsNoJson : List ℕ → Type 0
IsNoJson bytes = IsUtf8 bytes → read bytes ≡ None

-- a value is of the form of a script
abbrev pub IsOfForm : Data → Type 0
IsOfForm d = misfit Shapes script d ≡ None

-- a value is of the form, with few enough actors and steps, and each moment lies in range
pub record IsTimely (d : Data) : Type 0 where
  pub form : IsOfForm d
  pub few : HasFew (draft_of d).actors
  pub moments : misfit Moments script d ≡ None

-- the actors of the script that a value says wait for ever, the first at this path
pub record IsDeadlockIn (d : Data) (path : List ℕ) : Type 0 where
  pub said : Script
  pub placed : IsScriptOf (draft_of d) said
  pub waiting : Waiting
  pub waits : IsDeadlock said.actors waiting
  pub is : path ≡ path_of (OfStep waiting.actor waiting.step)

-- a value is refused by this name at this path
abbrev pub IsRefusedAs : Data → Refusal → List ℕ → Type 0
IsRefusedAs d TooLarge path = ⊥
IsRefusedAs d NotJson path = ⊥
IsRefusedAs d Shape path = misfit Shapes script d ≡ Some path
IsRefusedAs d TooMany path = IsOfForm d × IsTooMany (draft_of d).actors path
IsRefusedAs d BadMoment path =
    IsOfForm d × HasFew (draft_of d).actors × (misfit Moments script d ≡ Some path)
IsRefusedAs d BadSuffixes path =
    IsTimely d × IsNoRules (draft_of d).suffixes × (path ≡ codes "/suffixes")
IsRefusedAs d BadPlace path =
    IsTimely d × ((rules : List SuffixRule) × IsRules (draft_of d).suffixes rules
    × IsFirstBad rules (script_urls (draft_of d).actors) (bad_place path))
IsRefusedAs d Deadlock path = IsTimely d × IsDeadlockIn d path

-- a value is refused so
abbrev pub IsRefusedIn : Data → Refused → Type 0
IsRefusedIn d r = IsRefusedAs d r.name r.path

-- a value says this script
pub record IsScriptIn (d : Data) (said : Script) : Type 0 where
  pub timely : IsTimely d
  pub placed : IsScriptOf (draft_of d) said
  pub no_deadlock : HasNoDeadlock said.actors

-- what a value comes to
abbrev pub ReadsData : Data → Result Script ScriptRefusal → Type 0
ReadsData d (Ok said) = IsScriptIn d said
ReadsData d (Err (refusal.Refused r)) = IsRefusedIn d r
ReadsData d (Err refusal.NoMemory) = Unit {0}

-- the refusal of what is no JSON text
abbrev pub not_json : Refused
not_json = record { name = NotJson; path = [] }

-- what bytes come to: they are the JSON text of a value, and come to what it does; or they are none
abbrev pub ReadsScript : List ℕ → Result Script ScriptRefusal → Type 0
ReadsScript bytes (Ok said) = (d : Data) × IsJson bytes d × IsScriptIn d said
ReadsScript bytes (Err (refusal.Refused r)) =
    (IsNoJson bytes × (r ≡ not_json)) ⊎ ((d : Data) × IsJson bytes d × IsRefusedIn d r)
ReadsScript bytes (Err refusal.NoMemory) = Unit {0}

-- that no public clause cites

-- what is found in a value before its suffix list is read
abbrev pub JudgesForm : Data → Option Refused → Type 0
JudgesForm d None = IsTimely d
JudgesForm d (Some r) = IsRefusedIn d r

-- the refusal of actors of which this one waits for ever
abbrev pub deadlocked : Waiting → Refused
deadlocked waiting = record { name = Deadlock; path = path_of (OfStep waiting.actor waiting.step) }

-- why a script whose places are read is refused
abbrev pub RefusesDeadlock : Script → ScriptRefusal → Type 0
RefusesDeadlock said (refusal.Refused r) =
    (waiting : Waiting) × IsDeadlock said.actors waiting × (r ≡ deadlocked waiting)
RefusesDeadlock said refusal.NoMemory = Unit {0}
