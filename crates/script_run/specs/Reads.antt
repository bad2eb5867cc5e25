-- How a renderer's read is decided: by the answer that it keeps, or by the first cause to ask the jar. This jar's own rule:
-- docs/DEFINITIONS.md.
use Rattle.std.specs.Prelude.{ℕ, ◌==◌, nat_le, List, Bool, true, false, Option, None, Some, Result, Ok, Err, if◌then◌else◌}
use Rattle.jar_types.specs.declared.ask_cause.AskCause.{AskCause}
use Rattle.jar_types.specs.declared.ask_cause.AskCause.TheVariants.{Other, NoCell, Cold, Late, Moved}
use Rattle.jar_types.specs.declared.op.Reply.{Reply}
use Rattle.jar_types.specs.declared.op.Reply.TheVariants as reply
use Rattle.jar_types.specs.States.{JarState}
use Rattle.restricted_manager.specs.Documents.{asked_place, is_same_place}
use Rattle.restricted_manager.specs.Keeping.{Answer, answer_by}
use Rattle.script_text.specs.declared.step.What.{What}
use Rattle.script_text.specs.declared.step.What.TheVariants.{Set, Get, Delete, All, Clear, Listen, Changes, Unlisten, Post, Hear, Read, Write}
use Rattle.script_text.specs.Placed.{View}
use Rattle.site_match.specs.declared.place.Place.{Place}
use Rattle.shared_jar.specs.Versions.{version_at}
use Rattle.script_run.specs.declared.purpose.Purpose.{Purpose}
use Rattle.script_run.specs.declared.purpose.Purpose.TheVariants as purpose
use Rattle.script_run.specs.Turns.{Turn, binds, does}

-- what an actor holds between its turns: the cell of its document's key, and the answer that it keeps; a fetch holds neither
pub record Holding : Type 0 where
  pub cell : Option ℕ
  pub kept : Option Answer

abbrev pub nothing : Holding
nothing = record { cell = None; kept = None }

-- ---- what a read finds

-- a kept answer at a moment, where its cell has this version: late from its until on, and moved where the version is another
abbrev pub found_by : ℕ → ℕ → Answer → Result (List ℕ) AskCause
found_by now version k =
    if nat_le k.until now then Err (Late k.until)
    else (if version == k.version then Ok k.text else Err (Moved k.version version))

-- what is held of the document's URL
abbrev pub found_in : JarState → ℕ → Option ℕ → Option Answer → Result (List ℕ) AskCause
found_in s now None kept = Err NoCell
found_in s now (Some cell) None = Err Cold
found_in s now (Some cell) (Some k) = found_by now (version_at k.cell s.bound) k

-- the text that a read uses again, or the first cause to ask; by whether it is of the document's URL
abbrev pub found_where : Bool → JarState → ℕ → Holding → Result (List ℕ) AskCause
found_where true s now h = found_in s now h.cell h.kept
found_where false s now h = Err Other

abbrev pub found : JarState → ℕ → View → Holding → Option Place → Result (List ℕ) AskCause
found s now sees h url = found_where (is_same_place (asked_place sees.0 url) sees.0) s now h

-- ---- how a turn goes on

-- it uses a text again, or calls the jar for this purpose
pub data Way : Type 0 where
  reuses : List ℕ → Way
  calls : Purpose → Way

-- the way of a read that found this
abbrev pub read_way : Result (List ℕ) AskCause → Way
read_way (Ok text) = reuses text
read_way (Err cause) = calls (purpose.Read cause)

-- the way of a read, by who makes it
abbrev pub read_way_of : JarState → ℕ → Option View → Holding → Option Place → Way
read_way_of s now None h url = calls (purpose.Read Other)
read_way_of s now (Some sees) h url = read_way (found s now sees h url)

-- the way of a step
abbrev pub step_way : JarState → ℕ → Option View → Holding → What → Way
step_way s now sees h (Set fetch line) = calls purpose.Call
step_way s now sees h (Get fetch) = calls purpose.Call
step_way s now sees h (Delete host name path) = calls purpose.Call
step_way s now sees h All = calls purpose.Call
step_way s now sees h Clear = calls purpose.Call
step_way s now sees h (Listen fetch name) = calls purpose.Call
step_way s now sees h (Changes listener) = calls purpose.Call
step_way s now sees h (Unlisten listener) = calls purpose.Call
step_way s now sees h Post = calls purpose.Call
step_way s now sees h (Hear actor n) = calls purpose.Call
step_way s now sees h (Read url) = read_way_of s now sees h url
step_way s now sees h (Write line url) = calls purpose.Call

-- the way of a turn
abbrev pub way_of : JarState → Option View → Holding → Turn → Way
way_of s sees h binds = calls purpose.Bind
way_of s sees h (does step) = step_way s step.now sees h step.what

-- ---- what an actor holds behind a call

-- whether a read for this cause is of the document's URL
abbrev pub is_own_read : AskCause → Bool
is_own_read Other = false
is_own_read NoCell = true
is_own_read Cold = true
is_own_read (Late until) = true
is_own_read (Moved was now) = true

-- with this answer, where there is one to keep
abbrev pub keeping : Option Answer → Holding → Holding
keeping None h = h
keeping (Some answer) h = record h { kept = Some answer }

-- the cell that a reply binds, where it is that of a Bind
abbrev pub cell_in : Reply → Option ℕ
cell_in (reply.Cell cell) = cell
cell_in other = None

-- behind a call for this purpose, by its reply: a Bind binds a cell or none, and nothing is kept; a read of the document's URL
-- keeps its answer
abbrev pub holding_then : Purpose → Reply → Holding → Holding
holding_then purpose.Call answer h = h
holding_then purpose.Bind answer h = record { cell = cell_in answer; kept = None }
holding_then (purpose.Read cause) answer h = keeping (answer_by (is_own_read cause) h.cell answer) h
