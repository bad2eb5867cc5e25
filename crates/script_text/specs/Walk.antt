-- The walk through the URLs of a script: its actors in order, in an actor its document, its site
-- and its steps, and in a step its members in ascending order of their names; each URL has its path,
-- a JSON Pointer (RFC 6901). This jar's own rule: docs/DEFINITIONS.md.
use Rattle.std.specs.Prelude.{◌≡◌, ◌≢◌, ℕ, suc, List, [], ◌∷◌, ◌++◌, All, codes, decimal, Option, None, Some, Ok, Err}
use Rattle.public_suffix.specs.Rule.{SuffixRule}
use Rattle.site_match.specs.declared.place.Place.{Place}
use Rattle.site_match.specs.declared.place.PlaceRefusal.{PlaceRefusal}
use Rattle.site_match.specs.declared.place.PlaceRefusal.TheVariants as place_refusal
use Rattle.site_match.specs.Places.{ReadsPlace}
use Rattle.script_text.specs.declared.refused.Refusal.TheVariants as name
use Rattle.script_text.specs.declared.refused.Refused.{Refused}
use Rattle.script_text.specs.declared.refused.ScriptRefusal.{ScriptRefusal}
use Rattle.script_text.specs.declared.refused.ScriptRefusal.TheVariants as refusal
use Rattle.script_text.specs.declared.spot.Spot.{Spot}
use Rattle.script_text.specs.declared.spot.Spot.TheVariants.{OfActor, OfStep}
use Rattle.script_text.specs.Drafts.{DraftAsk, DraftWhat, set, get_all, delete, all, clear, listen, changes, unlisten, post, hear, read, write, DraftStep, DraftView, DraftActor, site_url}

-- a URL is this place by the suffix rules
abbrev pub IsPlace : List SuffixRule → List ℕ → Place → Type 0
IsPlace rules url place = ReadsPlace rules url (Ok place)

-- a URL is no place, and memory isn't the cause
abbrev pub IsNoPlace : List SuffixRule → List ℕ → Type 0
IsNoPlace rules url =
    (refusal : PlaceRefusal) × (refusal ≢ place_refusal.NoMemory)
    × ReadsPlace rules url (Err refusal)

-- ---- paths

-- the path of an actor, or of a step of one
abbrev pub path_of : Spot → List ℕ
path_of (OfActor actor) = codes "/actors/" ++ decimal actor
path_of (OfStep actor step) =
    codes "/actors/" ++ (decimal actor ++ (codes "/steps/" ++ decimal step))

-- the path of a member there
abbrev pub member_path : Spot → List ℕ → List ℕ
member_path spot key = path_of spot ++ (codes "/" ++ key)

-- ---- URLs

-- a URL of a script, and its path
pub record WalkedUrl : Type 0 where
  pub path : List ℕ
  pub url : List ℕ

-- the URL that a member is
abbrev pub url_at : Spot → List ℕ → List ℕ → WalkedUrl
url_at spot key url = record { path = member_path spot key; url = url }

-- the URL that a member is, where it is one
abbrev pub urls_at : Spot → List ℕ → Option (List ℕ) → List WalkedUrl
urls_at spot key None = []
urls_at spot key (Some url) = url_at spot key url ∷ []

-- what a step says of itself: the URLs of its initiator, of its site, and its own
abbrev pub ask_urls : Spot → DraftAsk → List WalkedUrl
ask_urls spot ask =
    urls_at spot (codes "initiator") ask.initiator
    ++ (urls_at spot (codes "site") (site_url ask.site) ++ url_at spot (codes "url") ask.url ∷ [])

abbrev pub listen_urls : Spot → Option DraftAsk → List WalkedUrl
listen_urls spot None = []
listen_urls spot (Some ask) = ask_urls spot ask

-- the URLs of a step
abbrev pub what_urls : Spot → DraftWhat → List WalkedUrl
what_urls spot (set ask line) = ask_urls spot ask
what_urls spot (get_all ask) = ask_urls spot ask
what_urls spot (delete host name path) = []
what_urls spot all = []
what_urls spot clear = []
what_urls spot (listen ask name) = listen_urls spot ask
what_urls spot (changes listener) = []
what_urls spot (unlisten listener) = []
what_urls spot post = []
what_urls spot (hear actor n) = []
what_urls spot (read url) = urls_at spot (codes "url") url
what_urls spot (write line url) = urls_at spot (codes "url") url

abbrev pub step_urls : ℕ → ℕ → DraftStep → List WalkedUrl
step_urls actor index step = what_urls (OfStep actor index) step.what

-- the URLs of these things, of which the first has this index
abbrev pub urls_from : {X : Type 0} → (ℕ → X → List WalkedUrl) → ℕ → List X → List WalkedUrl
urls_from urls index [] = []
urls_from urls index (x ∷ xs) = urls index x ++ urls_from urls (suc index) xs

-- the URLs of a renderer: of its document, and of its site
abbrev pub view_urls : Spot → DraftView → List WalkedUrl
view_urls spot sees =
    url_at spot (codes "document") sees.document ∷ urls_at spot (codes "site") sees.site

abbrev pub view_urls_if : Spot → Option DraftView → List WalkedUrl
view_urls_if spot None = []
view_urls_if spot (Some sees) = view_urls spot sees

-- the URLs of an actor
abbrev pub actor_urls : ℕ → DraftActor → List WalkedUrl
actor_urls index actor =
    view_urls_if (OfActor index) actor.sees ++ urls_from (step_urls index) 0 actor.steps

-- the URLs of a script
abbrev pub script_urls : List DraftActor → List WalkedUrl
script_urls actors = urls_from actor_urls 0 actors

-- ---- the first that is no place

-- the refusal of the URL at a path
abbrev pub bad_place : List ℕ → Refused
bad_place path = record { name = name.BadPlace; path = path }

-- a URL of a script is a place
abbrev pub IsSomePlace : List SuffixRule → WalkedUrl → Type 0
IsSomePlace rules u = (place : Place) × IsPlace rules u.url place

-- these URLs are refused so: by the first of them that is no place
pub record IsFirstBad (rules : List SuffixRule) (urls : List WalkedUrl) (refused : Refused)
    : Type 0 where
  pub before : List WalkedUrl
  pub bad : WalkedUrl
  pub behind : List WalkedUrl
  pub list : urls ≡ before ++ bad ∷ behind
  pub places : All (IsSomePlace rules) before
  pub no_place : IsNoPlace rules bad.url
  pub is : refused ≡ bad_place bad.path

-- that no public clause cites

-- the place of a URL, or none where it is no place
abbrev pub Places : List SuffixRule → List ℕ → Option Place → Type 0
Places rules url None = IsNoPlace rules url
Places rules url (Some place) = IsPlace rules url place

-- why these URLs were not all read: one is no place, or memory was wanting
abbrev pub RefusesUrls : List SuffixRule → List WalkedUrl → ScriptRefusal → Type 0
RefusesUrls rules urls (refusal.Refused r) = IsFirstBad rules urls r
RefusesUrls rules urls refusal.NoMemory = Unit {0}
