-- How a try to reuse a kept text is decided.
-- This jar's own rule: docs/DEFINITIONS.md.
use Rattle.std.specs.Prelude.{◌≡◌, ◌≢◌, ◌<◌, ◌≤◌, ℕ}
use Rattle.version_cells.specs.Listings.{turns}
use Rattle.version_cells.specs.Moves.{after_look}
use Rattle.version_cells.specs.Standing.{PassStanding, pass_with_view}
use Rattle.renderer_cache.specs.declared.kept.Kept.{Kept}
use Rattle.renderer_cache.specs.declared.reuse.Reuse.{Reuse}
use Rattle.renderer_cache.specs.declared.reuse.Reuse.TheVariants.{Late, Hit, Moved}

-- The pass made one look, of the kept cell, which found this number and no fewer than the entries
-- of its seen that list the cell
abbrev pub LookedOnce : Kept → PassStanding → PassStanding → ℕ → Type 0
LookedOnce kept old new found =
    (new ≡ pass_with_view old (after_look old.view kept.cell found))
    × (turns kept.cell old.view.own.seen ≤ found)

-- Late where the moment is not below `until`, without a look; else the one look decides
abbrev pub IsReuse : Kept → ℕ → PassStanding → PassStanding → Reuse → Type 0
IsReuse kept now old new Late = (kept.until ≤ now) × (new ≡ old)
IsReuse kept now old new (Hit text) =
    (now < kept.until) × LookedOnce kept old new kept.version × (text.now ≡ kept.text)
IsReuse kept now old new (Moved was found) =
    (now < kept.until) × LookedOnce kept old new found × (was ≡ kept.version) × (found ≢ was)
