-- What a renderer keeps of the replies to its reads. This jar's own rule: docs/DEFINITIONS.md.
use Rattle.std.specs.Prelude.{◌≡◌, ℕ, List, Bool, true, false, Option, Some, None}
use Rattle.jar_types.specs.declared.op.Reply.{Reply}
use Rattle.jar_types.specs.declared.op.Reply.TheVariants.{Script}
use Rattle.renderer_cache.specs.declared.kept.Kept.{Kept}
use Rattle.site_match.specs.declared.place.Place.{Place}
use Rattle.restricted_manager.specs.Managers.{ManagerStanding}
use Rattle.restricted_manager.specs.Documents.{asked_place, is_same_place}

-- An answer to keep: the cell and the version that it was asked at, until when it is right, and its
-- text
pub record Answer : Type 0 where
  pub cell : ℕ
  pub version : ℕ
  pub until : ℕ
  pub text : List ℕ

-- the answer of a cell in a reply: that of a script's read, where it has a version
abbrev pub answer_in : ℕ → Reply → Option Answer
answer_in cell (Script text (Some version) until) =
    Some (record { cell = cell; version = version; until = until; text = text })
answer_in cell reply = None

-- the answer to keep of a reply, by whether the read was of the document's URL and by the bound cell
abbrev pub answer_by : Bool → Option ℕ → Reply → Option Answer
answer_by true (Some cell) reply = answer_in cell reply
answer_by true None reply = None
answer_by false cell reply = None

-- the answer to keep of a reply to a read
abbrev pub answer_of : ManagerStanding → Option Place → Reply → Option Answer
answer_of manager url reply =
    answer_by (is_same_place (asked_place manager.document url) manager.document) manager.cell reply

-- what is kept is this answer
abbrev pub IsKept : Answer → Kept → Type 0
IsKept answer kept =
    (kept.cell ≡ answer.cell) × (kept.version ≡ answer.version) × (kept.until ≡ answer.until)
    × (kept.text ≡ answer.text)

-- the manager keeps an answer in the place of what it kept, where there is one, and else is as before
abbrev pub KeepsAnswer : Option Answer → ManagerStanding → ManagerStanding → Type 0
KeepsAnswer None old new = new ≡ old
KeepsAnswer (Some answer) old new =
    (kept : Kept) × IsKept answer kept × (new ≡ record old { kept = Some kept })

-- ---- that no public clause cites

-- what is kept is the answer to keep, and nothing is kept where there is none
abbrev pub IsAnswer : Option Answer → Option Kept → Type 0
IsAnswer (Some answer) (Some kept) = IsKept answer kept
IsAnswer (Some answer) None = ⊥
IsAnswer None (Some kept) = ⊥
IsAnswer None None = Unit {0}
