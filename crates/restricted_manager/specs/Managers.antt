-- What a contract sees of a renderer's manager, and what always holds of it.
-- This jar's own rule: docs/DEFINITIONS.md.
use Rattle.std.specs.Prelude.{◌≡◌, ℕ, Option, None, Some}
use Rattle.renderer_cache.specs.declared.kept.Kept.{Kept}
use Rattle.site_match.specs.declared.place.Place.{Place}
use Rattle.version_cells.specs.Listings.{IsCell}

-- A manager: its document, the document's site for cookies, the cell that the document's key is bound
-- to, and the answer that is kept
pub record ManagerStanding : Type 0 where
  pub document : Place
  pub site : Option Place
  pub cell : Option ℕ
  pub kept : Option Kept

-- a manager when it is made: no cell is bound, and nothing is kept
abbrev pub new_manager : Place → Option Place → ManagerStanding
new_manager document site = record { document = document; site = site; cell = None; kept = None }

-- the manager, once its key is bound to this cell or to none: nothing is kept
abbrev pub with_cell : ManagerStanding → Option ℕ → ManagerStanding
with_cell manager cell = record manager { cell = cell; kept = None }

-- what is bound is a cell, where anything is
abbrev pub MayBeBound : Option ℕ → Type 0
MayBeBound None = Unit {0}
MayBeBound (Some cell) = IsCell cell

-- what is kept is of the bound cell, where anything is
abbrev pub MayBeKept : Option ℕ → Option Kept → Type 0
MayBeKept cell None = Unit {0}
MayBeKept cell (Some kept) = cell ≡ Some kept.cell
