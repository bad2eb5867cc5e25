-- What a written script comes to: its suffix list is read, then each URL is, in the order of the
-- walk. This jar's own rule: docs/DEFINITIONS.md.
use Rattle.std.specs.Prelude.{◌≡◌, ◌≢◌, ◌⊎◌, ℕ, codes, List, [], ◌∷◌, Option, None, Some, Result, Ok, Err, MatchResult}
use Rattle.public_suffix.specs.declared.refusal.SuffixRefusal.{SuffixRefusal}
use Rattle.public_suffix.specs.declared.refusal.SuffixRefusal.TheVariants as suffix_refusal
use Rattle.public_suffix.specs.Rule.{SuffixRule}
use Rattle.public_suffix.specs.SuffixList.{ReadsList}
use Rattle.site_match.specs.declared.fetch.FetchAsk.{FetchAsk}
use Rattle.site_match.specs.declared.place.Place.{Place}
use Rattle.script_text.specs.declared.actor.Actor.{Actor}
use Rattle.script_text.specs.declared.refused.Refusal.TheVariants as name
use Rattle.script_text.specs.declared.refused.Refused.{Refused}
use Rattle.script_text.specs.declared.refused.ScriptRefusal.{ScriptRefusal}
use Rattle.script_text.specs.declared.refused.ScriptRefusal.TheVariants as refusal
use Rattle.script_text.specs.declared.script.Script.{Script}
use Rattle.script_text.specs.declared.spot.Spot.{Spot}
use Rattle.script_text.specs.declared.step.Step.{Step}
use Rattle.script_text.specs.declared.step.What.{What}
use Rattle.script_text.specs.declared.step.What.TheVariants.{Set, Get, Delete, All, Clear, Listen, Changes, Unlisten, Post, Hear, Read, Write}
use Rattle.script_text.specs.Drafts.{DraftSite, own_url, no_site, site_at, DraftAsk, DraftWhat, set, get_all, delete, all, clear, listen, changes, unlisten, post, hear, read, write, DraftStep, DraftView, DraftActor, Draft}
use Rattle.script_text.specs.Walk.{IsPlace, what_urls, script_urls, IsFirstBad, RefusesUrls}

-- a text is the list of these suffix rules
abbrev pub IsRules : List ℕ → List SuffixRule → Type 0
IsRules text rules = ReadsList text (Ok rules)

-- a text is no list of suffix rules, and memory isn't the cause
abbrev pub IsNoRules : List ℕ → Type 0
IsNoRules text =
    (refusal : SuffixRefusal) × (refusal ≢ suffix_refusal.NoMemory) × ReadsList text (Err refusal)

-- what may be absent comes to this, or there is none
abbrev pub IfThere : {X Y : Type 0} → (X → Y → Type 0) → Option X → Option Y → Type 0
IfThere R None None = Unit {0}
IfThere R None (Some y) = ⊥
IfThere R (Some x) None = ⊥
IfThere R (Some x) (Some y) = R x y

-- the things of a list come to these, one by one
abbrev pub OneByOne : {X Y : Type 0} → (X → Y → Type 0) → List X → List Y → Type 0
OneByOne R [] [] = Unit {0}
OneByOne R [] (y ∷ ys) = ⊥
OneByOne R (x ∷ xs) [] = ⊥
OneByOne R (x ∷ xs) (y ∷ ys) = R x y × OneByOne R xs ys

-- a URL that may be absent is this place
abbrev pub IsPlaceIf : List SuffixRule → Option (List ℕ) → Option Place → Type 0
IsPlaceIf rules url place = IfThere (IsPlace rules) url place

-- a written site comes to this one, where the step's own URL is this place
abbrev pub IsSiteOf : List SuffixRule → Place → DraftSite → Option Place → Type 0
IsSiteOf rules own own_url site = site ≡ Some own
IsSiteOf rules own no_site site = site ≡ None
IsSiteOf rules own (site_at url) site = IsPlaceIf rules (Some url) site

-- what a written step says of itself comes to this
pub record IsAskOf (rules : List SuffixRule) (draft : DraftAsk) (ask : FetchAsk) : Type 0 where
  pub place : IsPlace rules draft.url ask.place
  pub site : IsSiteOf rules ask.place draft.site ask.site
  pub initiator : IsPlaceIf rules draft.initiator ask.initiator
  pub safe_method : ask.safe_method ≡ draft.safe_method
  pub navigation : ask.navigation ≡ draft.navigation

-- what a written step does comes to this
abbrev pub IsWhatOf : List SuffixRule → DraftWhat → What → Type 0
IsWhatOf rules (set draft line) what =
    (ask : FetchAsk) × IsAskOf rules draft ask × (what ≡ Set ask line)
IsWhatOf rules (get_all draft) what =
    (ask : FetchAsk) × IsAskOf rules draft ask × (what ≡ Get ask)
IsWhatOf rules (delete host name path) what = what ≡ Delete host name path
IsWhatOf rules all what = what ≡ All
IsWhatOf rules clear what = what ≡ Clear
IsWhatOf rules (listen draft name) what =
    (ask : Option FetchAsk) × IfThere (IsAskOf rules) draft ask × (what ≡ Listen ask name)
IsWhatOf rules (changes listener) what = what ≡ Changes listener
IsWhatOf rules (unlisten listener) what = what ≡ Unlisten listener
IsWhatOf rules post what = what ≡ Post
IsWhatOf rules (hear actor n) what = what ≡ Hear actor n
IsWhatOf rules (read url) what =
    (place : Option Place) × IsPlaceIf rules url place × (what ≡ Read place)
IsWhatOf rules (write line url) what =
    (place : Option Place) × IsPlaceIf rules url place × (what ≡ Write line place)

-- a step is a written one at the places of its URLs
pub record IsStepOf (rules : List SuffixRule) (draft : DraftStep) (step : Step) : Type 0 where
  pub now : step.now ≡ draft.now
  pub what : IsWhatOf rules draft.what step.what

-- what a renderer sees: the places of its document and, where there is one, of its site
abbrev pub View : Type 0
View = Place × Option Place

-- they are those that are written
pub record IsViewOf (rules : List SuffixRule) (draft : DraftView) (sees : View) : Type 0 where
  pub document : IsPlace rules draft.document sees.0
  pub site : IsPlaceIf rules draft.site sees.1

-- and there are none where no view is written
abbrev pub IsViewIf : List SuffixRule → Option DraftView → Option View → Type 0
IsViewIf rules draft sees = IfThere (IsViewOf rules) draft sees

-- steps are the written ones
abbrev pub StepsFrom : List SuffixRule → List DraftStep → List Step → Type 0
StepsFrom rules drafts steps = OneByOne (IsStepOf rules) drafts steps

-- an actor is a written one
pub record IsActorOf (rules : List SuffixRule) (draft : DraftActor) (actor : Actor) : Type 0 where
  pub sees : IsViewIf rules draft.sees actor.view
  pub steps : StepsFrom rules draft.steps actor.steps

-- actors are the written ones
abbrev pub ActorsFrom : List SuffixRule → List DraftActor → List Actor → Type 0
ActorsFrom rules drafts actors = OneByOne (IsActorOf rules) drafts actors

-- a script is a written one
pub record IsScriptOf (draft : Draft) (script : Script) : Type 0 where
  pub suffixes : IsRules draft.suffixes script.suffixes
  pub start : script.start ≡ draft.start
  pub limit : script.limit ≡ draft.limit
  pub actors : ActorsFrom script.suffixes draft.actors script.actors

-- the refusal of a suffix list
abbrev pub bad_suffixes : Refused
bad_suffixes = record { name = name.BadSuffixes; path = codes "/suffixes" }

-- that no public clause cites

-- what reading what a step does gives
abbrev pub ReadsWhat : List SuffixRule → Spot → DraftWhat → Result What ScriptRefusal → Type 0
ReadsWhat rules spot draft result =
    MatchResult result (IsWhatOf rules draft) (RefusesUrls rules (what_urls spot draft))

-- why a text gives no suffix list: it is none, or memory was wanting
abbrev pub RefusesRules : List ℕ → ScriptRefusal → Type 0
RefusesRules text (refusal.Refused r) = IsNoRules text × (r ≡ bad_suffixes)
RefusesRules text refusal.NoMemory = Unit {0}

-- what reading a written script gives
abbrev pub ReadsDraft : Draft → Result Script ScriptRefusal → Type 0
ReadsDraft draft (Ok script) = IsScriptOf draft script
ReadsDraft draft (Err (refusal.Refused r)) =
    (IsNoRules draft.suffixes × (r ≡ bad_suffixes))
    ⊎ ((rules : List SuffixRule) × IsRules draft.suffixes rules
    × IsFirstBad rules (script_urls draft.actors) r)
ReadsDraft draft (Err refusal.NoMemory) = Unit {0}

-- the site for cookies of a step at this place: its own, none, or the one that is written
abbrev pub site_by : DraftSite → Place → Option Place → Option Place
site_by own_url own written = Some own
site_by no_site own written = None
site_by (site_at url) own written = written
