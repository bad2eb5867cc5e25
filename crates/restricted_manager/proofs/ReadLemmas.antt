-- What a read finds, by what is kept and how its try to be used again ended; and what a read gives, by
-- what it finds.
use Rattle.std.proofs.Common.{◌≡◌, ◌<◌, ℕ, List, true, Option, Some, Result, Ok, Err, refl, ap, sym, subst}
use Rattle.std.specs.Prelude.{IfErr, IfOk}
use Rattle.std.specs.Result.{IsErrAnd}
use Rattle.jar_types.specs.declared.ask_cause.AskCause.{AskCause}
use Rattle.jar_types.specs.declared.ask_cause.AskCause.TheVariants as cause
use Rattle.jar_types.specs.declared.op.Op.{Op}
use Rattle.renderer_cache.specs.declared.kept.Kept.{Kept}
use Rattle.renderer_cache.specs.declared.reuse.Reuse.TheVariants.{Late, Moved}
use Rattle.renderer_cache.specs.Reuse.{IsReuse, LookedOnce}
use Rattle.site_match.specs.declared.place.Place.{Place}
use Rattle.version_cells.specs.Standing.{PassStanding}
use Rattle.restricted_manager.specs.declared.read.ReadTurn.{ReadTurn}
use Rattle.restricted_manager.specs.declared.read.ReadTurn.TheVariants.{Reused, Ask}
use Rattle.restricted_manager.specs.declared.read.ReadTurnRefusal.{ReadTurnRefusal}
use Rattle.restricted_manager.specs.declared.read.ReadTurnRefusal.TheVariants.{NoMemory}
use Rattle.restricted_manager.specs.Documents.{asked_place, is_same_origin, is_same_place}
use Rattle.restricted_manager.specs.Managers.{ManagerStanding, MayBeKept}
use Rattle.restricted_manager.specs.Reads.{FindsKept, HasKept, ReadsCookies}
use Rattle.restricted_manager.specs.Requests.{read_of}

-- what is kept is of the bound cell
pub has_kept : (m : ManagerStanding) (k : Kept) → MayBeKept m.cell m.kept → m.kept ≡ Some k → HasKept m k
has_kept m k bound is = let P : Option Kept → Type 0 = λ o. MayBeKept m.cell o in (subst P is bound, is)

-- a read of the document by a manager that keeps something, and is seen so
module _ (m seen : ManagerStanding) (url : Option Place) (now : ℕ) (old new : PassStanding) (k : Kept) where
  abbrev Finds : Result (List ℕ) AskCause → ManagerStanding → Type 0
  Finds found s = FindsKept s (asked_place s.document url) now old new found

  pub finds_late : m ≡ seen → is_same_place (asked_place m.document url) m.document ≡ true
      → MayBeKept m.cell m.kept → m.kept ≡ Some k → IsReuse k now old new Late
      → FindsKept seen (asked_place seen.document url) now old new (Err (cause.Late k.until))
  finds_late view same bound is late =
      subst (Finds (Err (cause.Late k.until))) view (same, k, has_kept m k bound is, late.0, refl, late.1)

  pub finds_hit : m ≡ seen → is_same_place (asked_place m.document url) m.document ≡ true
      → MayBeKept m.cell m.kept → m.kept ≡ Some k → now < k.until → LookedOnce k old new k.version
      → FindsKept seen (asked_place seen.document url) now old new (Ok k.text)
  finds_hit view same bound is below looked =
      subst (Finds (Ok k.text)) view (same, k, has_kept m k bound is, below, looked, refl)

  pub finds_moved : (was found : ℕ) → m ≡ seen
      → is_same_place (asked_place m.document url) m.document ≡ true → MayBeKept m.cell m.kept
      → m.kept ≡ Some k → IsReuse k now old new (Moved was found)
      → FindsKept seen (asked_place seen.document url) now old new (Err (cause.Moved was found))
  finds_moved was found view same bound is moved =
      subst (Finds (Err (cause.Moved was found))) view
      (same, k, has_kept m k bound is, moved.0, moved.1, moved.2, moved.3)

-- what is asked about an asked place, by a manager that is seen so
pub asks_for : (m seen : ManagerStanding) (url : Option Place) (why : AskCause) (op : Op) (place : Place) → m ≡ seen
    → place ≡ asked_place m.document url → op ≡ read_of m place
    → Ask op why ≡ Ask (read_of seen (asked_place seen.document url)) why
asks_for m seen url why op place view is same =
    let P : Place → Type 0 = λ p. op ≡ read_of m p in
    let Q : ManagerStanding → Type 0 = λ s. op ≡ read_of s (asked_place s.document url) in
    ap (λ (o : Op). Ask o why) (subst Q view (subst P is same))

-- a read of an asked place, by a manager that is seen so
module _ (m seen : ManagerStanding) (url : Option Place) (now : ℕ) (old new : PassStanding) where
  origin_seen : m ≡ seen → is_same_origin (asked_place m.document url) m.document ≡ true
      → is_same_origin (asked_place seen.document url) seen.document ≡ true
  origin_seen view =
      let P : ManagerStanding → Type 0 = λ s. is_same_origin (asked_place s.document url) s.document ≡ true in
      subst P view

  pub reuses : (text copy : List ℕ) → m ≡ seen
      → is_same_origin (asked_place m.document url) m.document ≡ true
      → FindsKept seen (asked_place seen.document url) now old new (Ok text) → copy ≡ text
      → ReadsCookies seen url now old new (Ok (Reused copy))
  reuses text copy view origin finds same =
      let P : List ℕ → Type 0 = λ t. FindsKept seen (asked_place seen.document url) now old new (Ok t) in
      (origin_seen view origin, subst P (sym same) finds)

  pub asks : (why : AskCause) (result : Result ReadTurn ReadTurnRefusal) → m ≡ seen
      → is_same_origin (asked_place m.document url) m.document ≡ true
      → FindsKept seen (asked_place seen.document url) now old new (Err why)
      → IfOk result (λ t. t ≡ Ask (read_of seen (asked_place seen.document url)) why)
      → IfErr result (λ e. e ≡ NoMemory) → ReadsCookies seen url now old new result
  asks why (Ok turn) view origin finds asked wanted =
      let P : ReadTurn → Type 0 = λ t. ReadsCookies seen url now old new (Ok t) in
      subst P (sym asked) (origin_seen view origin, finds, refl)
  asks why (Err e) view origin finds asked wanted =
      let P : ReadTurnRefusal → Type 0 = λ w. ReadsCookies seen url now old new (Err w) in
      subst P (sym wanted) (origin_seen view origin, Err why, finds)

  pub wants : (found : Result (List ℕ) AskCause) (result : Result ReadTurn ReadTurnRefusal) → m ≡ seen
      → is_same_origin (asked_place m.document url) m.document ≡ true
      → FindsKept seen (asked_place seen.document url) now old new found
      → IsErrAnd result (λ e. e ≡ NoMemory) → ReadsCookies seen url now old new result
  wants found (Ok turn) view origin finds want = absurd want
  wants found (Err why) view origin finds want =
      let P : ReadTurnRefusal → Type 0 = λ w. ReadsCookies seen url now old new (Err w) in
      subst P (sym want) (origin_seen view origin, found, finds)
