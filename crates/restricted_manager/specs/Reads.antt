-- How a renderer's read is decided: by the kept text, or by the first cause to ask the jar.
-- This jar's own rule: docs/DEFINITIONS.md.
use Rattle.std.specs.Prelude.{◌≡◌, ◌≢◌, ◌<◌, ◌≤◌, ℕ, List, true, false, Option, Some, None, IsSome, Result, Ok, Err}
use Rattle.jar_types.specs.declared.ask_cause.AskCause.{AskCause}
use Rattle.jar_types.specs.declared.ask_cause.AskCause.TheVariants.{Other, NoCell, Cold, Late, Moved}
use Rattle.renderer_cache.specs.declared.kept.Kept.{Kept}
use Rattle.renderer_cache.specs.Reuse.{LookedOnce}
use Rattle.site_match.specs.declared.place.Place.{Place}
use Rattle.version_cells.specs.Standing.{PassStanding}
use Rattle.restricted_manager.specs.declared.read.ReadTurn.{ReadTurn}
use Rattle.restricted_manager.specs.declared.read.ReadTurn.TheVariants.{Reused, Ask}
use Rattle.restricted_manager.specs.declared.read.ReadTurnRefusal.{ReadTurnRefusal}
use Rattle.restricted_manager.specs.declared.read.ReadTurnRefusal.TheVariants.{OriginMismatch, NoMemory}
use Rattle.restricted_manager.specs.Managers.{ManagerStanding}
use Rattle.restricted_manager.specs.Documents.{asked_place, is_same_origin, is_same_place}
use Rattle.restricted_manager.specs.Requests.{read_of}

-- a cell is bound, and this is kept of it
abbrev pub HasKept : ManagerStanding → Kept → Type 0
HasKept manager kept = (manager.cell ≡ Some kept.cell) × (manager.kept ≡ Some kept)

-- What a read of a place finds: the kept text, or the first cause to ask. One look decides between the
-- text and `Moved`, and without it the pass is as before.
abbrev pub FindsKept : ManagerStanding → Place → ℕ → PassStanding → PassStanding → Result (List ℕ) AskCause → Type 0
FindsKept manager place now old new (Ok text) =
    (is_same_place place manager.document ≡ true) × (kept : Kept) × HasKept manager kept
    × (now < kept.until) × LookedOnce kept old new kept.version × (text ≡ kept.text)
FindsKept manager place now old new (Err Other) =
    (is_same_place place manager.document ≡ false) × (new ≡ old)
FindsKept manager place now old new (Err NoCell) =
    (is_same_place place manager.document ≡ true) × (manager.cell ≡ None) × (new ≡ old)
FindsKept manager place now old new (Err Cold) =
    (is_same_place place manager.document ≡ true) × IsSome manager.cell × (manager.kept ≡ None)
    × (new ≡ old)
FindsKept manager place now old new (Err (Late until)) =
    (is_same_place place manager.document ≡ true) × (kept : Kept) × HasKept manager kept
    × (kept.until ≤ now) × (until ≡ kept.until) × (new ≡ old)
FindsKept manager place now old new (Err (Moved was found)) =
    (is_same_place place manager.document ≡ true) × (kept : Kept) × HasKept manager kept
    × (now < kept.until) × LookedOnce kept old new found × (was ≡ kept.version) × (found ≢ was)

-- What a read of a place gives: it is refused where the origin is another, and else uses the kept text
-- again or asks with the first cause. Where memory is wanting, the pass is as what was found left it.
abbrev pub ReadsAt : ManagerStanding → Place → ℕ → PassStanding → PassStanding → Result ReadTurn ReadTurnRefusal → Type 0
ReadsAt manager place now old new (Ok (Reused text)) =
    (is_same_origin place manager.document ≡ true) × FindsKept manager place now old new (Ok text)
ReadsAt manager place now old new (Ok (Ask op cause)) =
    (is_same_origin place manager.document ≡ true) × FindsKept manager place now old new (Err cause)
    × (op ≡ read_of manager place)
ReadsAt manager place now old new (Err OriginMismatch) =
    (is_same_origin place manager.document ≡ false) × (new ≡ old)
ReadsAt manager place now old new (Err NoMemory) =
    (is_same_origin place manager.document ≡ true)
    × (found : Result (List ℕ) AskCause) × FindsKept manager place now old new found

-- what a read gives, whose place is the document's where it names none
abbrev pub ReadsCookies : ManagerStanding → Option Place → ℕ → PassStanding → PassStanding → Result ReadTurn ReadTurnRefusal → Type 0
ReadsCookies manager url now old new result =
    ReadsAt manager (asked_place manager.document url) now old new result
