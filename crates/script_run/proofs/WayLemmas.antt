-- How a turn goes on: it calls for a read just where it is one, and what uses a text again is a read
-- that would ask an op.
use Rattle.std.proofs.Common.{◌≡◌, ℕ, List, Bool, true, false, Option, None, Some, refl, ap, sym}
use Rattle.std.specs.Prelude.{◌&&◌, bytes_eq, Result, Ok, Err}
use Rattle.jar_types.specs.declared.ask_cause.AskCause.{AskCause}
use Rattle.jar_types.specs.declared.ask_cause.AskCause.TheVariants.{Other}
use Rattle.jar_types.specs.declared.entry.Entry.{Entry}
use Rattle.jar_types.specs.States.{JarState}
use Rattle.public_suffix.specs.Rule.{SuffixRule}
use Rattle.restricted_manager.specs.Documents.{asked_place, is_same_origin, is_same_place}
use Rattle.run_report.specs.declared.item.Item.TheVariants.{Reused}
use Rattle.script_text.specs.declared.script.Script.{Script}
use Rattle.script_text.specs.declared.step.What.{What}
use Rattle.script_text.specs.declared.step.What.TheVariants as what
use Rattle.script_text.specs.Placed.{View}
use Rattle.site_match.specs.declared.place.Place.{Place}
use Rattle.script_run.specs.declared.purpose.Purpose.{Purpose}
use Rattle.script_run.specs.declared.purpose.Purpose.TheVariants as purpose
use Rattle.script_run.specs.Ask.{ask_at, ask_of_read}
use Rattle.script_run.specs.Legal.{FitsAsk, FitsTurn, is_read, reads}
use Rattle.script_run.specs.Reads.{Holding, reuses, calls, found, found_where, read_way, read_way_of, step_way, way_of}
use Rattle.script_run.specs.Turns.{Turn, binds, does}

-- ---- how a turn goes on

-- whether a call is for a read
abbrev pub is_for_read : Purpose → Bool
is_for_read purpose.Call = false
is_for_read purpose.Bind = false
is_for_read (purpose.Read cause) = true

purpose_of_read : (found : Result (List ℕ) AskCause) (why : Purpose) → read_way found ≡ calls why → is_for_read why ≡ true
purpose_of_read (Ok text) why e = absurd cc
purpose_of_read (Err cause) why e = let is : purpose.Read cause ≡ why = cc in ap is_for_read (sym is)

purpose_of_url : (s : JarState) (now : ℕ) (sees : Option View) (h : Holding) (url : Option Place) (why : Purpose) → read_way_of s now sees h url ≡ calls why
    → is_for_read why ≡ true
purpose_of_url s now None h url why e = let is : purpose.Read Other ≡ why = cc in ap is_for_read (sym is)
purpose_of_url s now (Some sees) h url why e = purpose_of_read (found s now sees h url) why e

no_read : (why : Purpose) → calls purpose.Call ≡ calls why → is_for_read why ≡ false
no_read why e = let is : purpose.Call ≡ why = cc in ap is_for_read (sym is)

purpose_of_step : (s : JarState) (now : ℕ) (sees : Option View) (h : Holding) (w : What) (why : Purpose) → step_way s now sees h w ≡ calls why
    → is_for_read why ≡ is_read w
purpose_of_step s now sees h (what.Set fetch line) why e = no_read why e
purpose_of_step s now sees h (what.Get fetch) why e = no_read why e
purpose_of_step s now sees h (what.Delete host name path) why e = no_read why e
purpose_of_step s now sees h what.All why e = no_read why e
purpose_of_step s now sees h what.Clear why e = no_read why e
purpose_of_step s now sees h (what.Listen fetch name) why e = no_read why e
purpose_of_step s now sees h (what.Changes listener) why e = no_read why e
purpose_of_step s now sees h (what.Unlisten listener) why e = no_read why e
purpose_of_step s now sees h what.Post why e = no_read why e
purpose_of_step s now sees h (what.Hear actor n) why e = no_read why e
purpose_of_step s now sees h (what.Read url) why e = purpose_of_url s now sees h url why e
purpose_of_step s now sees h (what.Write line url) why e = no_read why e

-- a call is for a read just where its turn is one
pub purpose_of_turn : (s : JarState) (sees : Option View) (h : Holding) (turn : Turn) (why : Purpose) → way_of s sees h turn ≡ calls why
    → is_for_read why ≡ reads turn
purpose_of_turn s sees h binds why e = let is : purpose.Bind ≡ why = cc in ap is_for_read (sym is)
purpose_of_turn s sees h (does step) why e = purpose_of_step s step.now sees h step.what why e

-- ---- a text that is used again

-- the same place has the same origin
same_origin : (p q : Place) → is_same_place p q ≡ true → is_same_origin p q ≡ true
same_origin p q same =
    first (is_same_origin p q) (bytes_eq p.path q.path) (first (is_same_origin p q && bytes_eq p.path q.path) (bytes_eq p.key q.key) same)
  where
    first : (a b : Bool) → (a && b) ≡ true → a ≡ true
    first true b e = refl
    first false b e = absurd cc

reused_at : (limit : ℕ) (journal : List Entry) (a : ℕ) (s : JarState) (now : ℕ) (sees : View) (h : Holding) (place : Place) (text : List ℕ) (same : Bool)
    → is_same_place place sees.0 ≡ same → read_way (found_where same s now h) ≡ reuses text
    → FitsAsk true limit journal a now (Some (ask_of_read sees place (is_same_origin place sees.0))) (Reused text)
reused_at limit journal a s now sees h place text true is e = rw (same_origin place sees.0 is) tt
reused_at limit journal a s now sees h place text false is e = absurd cc

reused_url : (limit : ℕ) (journal : List Entry) (a : ℕ) (s : JarState) (rules : List SuffixRule) (now : ℕ) (sees : Option View) (h : Holding) (url : Option Place)
    (text : List ℕ) → read_way_of s now sees h url ≡ reuses text
    → FitsAsk true limit journal a now (ask_at rules sees now (what.Read url)) (Reused text)
reused_url limit journal a s rules now None h url text e = absurd cc
reused_url limit journal a s rules now (Some sees) h url text e =
    let place = asked_place sees.0 url in
    reused_at limit journal a s now sees h place text (is_same_place place sees.0) refl e

reused_step : (limit : ℕ) (journal : List Entry) (a : ℕ) (s : JarState) (rules : List SuffixRule) (now : ℕ) (sees : Option View) (h : Holding) (w : What)
    (text : List ℕ) → step_way s now sees h w ≡ reuses text → FitsAsk (is_read w) limit journal a now (ask_at rules sees now w) (Reused text)
reused_step limit journal a s rules now sees h (what.Set fetch line) text e = absurd cc
reused_step limit journal a s rules now sees h (what.Get fetch) text e = absurd cc
reused_step limit journal a s rules now sees h (what.Delete host name path) text e = absurd cc
reused_step limit journal a s rules now sees h what.All text e = absurd cc
reused_step limit journal a s rules now sees h what.Clear text e = absurd cc
reused_step limit journal a s rules now sees h (what.Listen fetch name) text e = absurd cc
reused_step limit journal a s rules now sees h (what.Changes listener) text e = absurd cc
reused_step limit journal a s rules now sees h (what.Unlisten listener) text e = absurd cc
reused_step limit journal a s rules now sees h what.Post text e = absurd cc
reused_step limit journal a s rules now sees h (what.Hear actor n) text e = absurd cc
reused_step limit journal a s rules now sees h (what.Read url) text e = reused_url limit journal a s rules now sees h url text e
reused_step limit journal a s rules now sees h (what.Write line url) text e = absurd cc

-- what uses a text again is a read that would ask an op
pub reused_fit : (script : Script) (journal : List Entry) (a : ℕ) (s : JarState) (sees : Option View) (h : Holding) (turn : Turn) (text : List ℕ)
    → way_of s sees h turn ≡ reuses text → FitsTurn script sees journal a turn (Reused text)
reused_fit script journal a s sees h binds text e = absurd cc
reused_fit script journal a s sees h (does step) text e = reused_step script.limit journal a s script.suffixes step.now sees h step.what text e
