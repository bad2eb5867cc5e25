-- Scripts as they are written, before their suffix list and their URLs are read. This jar's own rule:
-- docs/DEFINITIONS.md.
use Rattle.std.specs.Prelude.{ℕ, List, Bool, Option, None, Some}

-- the site for cookies of a step: its own URL, none, or another URL
pub data DraftSite : Type 0 where
  own_url : DraftSite
  no_site : DraftSite
  site_at : List ℕ → DraftSite

-- the URL that a site is written as, where it is one
abbrev pub site_url : DraftSite → Option (List ℕ)
site_url own_url = None
site_url no_site = None
site_url (site_at url) = Some url

-- what a step says of itself
pub record DraftAsk : Type 0 where
  pub url : List ℕ
  pub site : DraftSite
  pub initiator : Option (List ℕ)
  pub safe_method : Bool
  pub navigation : Bool

-- what a step does
pub data DraftWhat : Type 0 where
  set : DraftAsk → List ℕ → DraftWhat
  get_all : DraftAsk → DraftWhat
  delete : List ℕ → List ℕ → List ℕ → DraftWhat
  all : DraftWhat
  clear : DraftWhat
  listen : Option DraftAsk → Option (List ℕ) → DraftWhat
  changes : ℕ → DraftWhat
  unlisten : ℕ → DraftWhat
  post : DraftWhat
  hear : ℕ → ℕ → DraftWhat
  read : Option (List ℕ) → DraftWhat
  write : List ℕ → Option (List ℕ) → DraftWhat

-- a step
pub record DraftStep : Type 0 where
  pub now : ℕ
  pub what : DraftWhat

-- what a renderer says of its document, and its site for cookies
pub record DraftView : Type 0 where
  pub document : List ℕ
  pub site : Option (List ℕ)

-- an actor
pub record DraftActor : Type 0 where
  pub sees : Option DraftView
  pub steps : List DraftStep

-- a script
pub record Draft : Type 0 where
  pub suffixes : List ℕ
  pub start : ℕ
  pub limit : ℕ
  pub actors : List DraftActor
