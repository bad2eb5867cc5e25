-- The run of a jar and its players takes the steps of a script's run: by each event that is
-- entered, by a want, by a load's entries and by a batch's.
use Rattle.std.proofs.Common.{◌≡◌, ◌+◌, ℕ, suc, List, [], ◌∷◌, ◌++◌, Bool, true, false, cond, Option, None, Some, length, map, refl, ap, sym, ◌∙◌, length-append}
use Rattle.jar_types.specs.declared.entry.Entry.{Entry}
use Rattle.jar_types.specs.declared.entry.Event.{Event}
use Rattle.jar_types.specs.declared.entry.Event.TheVariants.{Call as CallEvent, Jar as JarEvent}
use Rattle.jar_types.specs.declared.entry.Own.{Own}
use Rattle.jar_types.specs.declared.entry.Own.TheVariants.{Want, WantAll, Begun, Loaded, Lost, Whole, Taken, Acked, CommitLost}
use Rattle.jar_types.specs.declared.jar_core.Awaited.{Awaited}
use Rattle.jar_types.specs.declared.jar_core.Awaited.TheVariants as awaited
use Rattle.jar_types.specs.declared.jar_core.CoreRefusal.TheVariants.{Pending}
use Rattle.jar_types.specs.declared.op.Op.{Op}
use Rattle.jar_types.specs.declared.row.RowChange.{RowChange}
use Rattle.jar_types.specs.RowChanges.{newest_over}
use Rattle.jar_types.specs.States.{JarState}
use Rattle.jar_types.specs.Steps.{after, entry_of, own_may_stand, rows_at}
use Rattle.version_cells.specs.declared.listing.Listing.{Listing}
use Rattle.locked_jar.specs.Calls.{noted, wanted}
use Rattle.locked_jar.specs.LockedJars.{LockedJar, entered, event_pending, journal_of, listing_at}
use Rattle.locked_jar.specs.Owns.{is_taking}
use Rattle.locked_jar.proofs.HistoryLemmas.{journal_push}
use Rattle.store_vault.specs.Cutting as vault
use Rattle.store_vault.specs.Flushing.{taken_at}
use Rattle.script_run.specs.Players.{PlayersStanding, holding_of, run_of}
use Rattle.script_run.specs.Rounds.{committed, ended, taken}
use Rattle.script_run.specs.Runs.{Run, did, did_if_may, happened, waited}

-- ---- an event more

-- the run of players over a jar with this state, journal and changes
abbrev run_in : PlayersStanding → List RowChange → JarState → List Entry → List RowChange → Run
run_in p kept s journal pending = record {
  state = s;
  journal = journal;
  items = p.items;
  holdings = map holding_of p.managers;
  pending = pending;
  kept = kept;
}

-- one that adds its changes of rows to what is pending
pub run_entered : (j : LockedJar) (owner : Option ℕ) (v : Event) (kept : List RowChange) (p : PlayersStanding)
    → event_pending j.state v j.pending ≡ newest_over j.pending (rows_at j.state v)
    → run_of (entered j owner v) kept p ≡ happened (run_of j kept p) v
run_entered j owner v kept p adds =
    let s = after j.state v in
    let longer = journal_of j.seen ++ entry_of j.state v ∷ [] in
    ap (λ (l : List Entry). run_in p kept s l (event_pending j.state v j.pending)) (journal_push j.seen (listing_at owner j.state v))
    ∙ ap (λ (w : List RowChange). run_in p kept s longer w) adds

pub run_entered_call : (j : LockedJar) (owner : Option ℕ) (caller now : ℕ) (o : Op) (kept : List RowChange) (p : PlayersStanding)
    → run_of (entered j owner (CallEvent caller now o)) kept p ≡ happened (run_of j kept p) (CallEvent caller now o)
run_entered_call j owner caller now o kept p = run_entered j owner (CallEvent caller now o) kept p refl

own_adds : (j : LockedJar) (own : Own) → is_taking own ≡ false
    → event_pending j.state (JarEvent own) j.pending ≡ newest_over j.pending (rows_at j.state (JarEvent own))
own_adds j (Want key) none = refl
own_adds j WantAll none = refl
own_adds j (Begun key) none = refl
own_adds j (Loaded key cookies) none = refl
own_adds j (Lost key) none = refl
own_adds j (Whole now) none = refl
own_adds j Taken none = absurd cc
own_adds j (Acked place) none = refl
own_adds j (CommitLost place) none = refl

-- what the jar does itself, but for taking a batch
pub run_entered_own : (j : LockedJar) (owner : Option ℕ) (own : Own) (kept : List RowChange) (p : PlayersStanding) → is_taking own ≡ false
    → run_of (entered j owner (JarEvent own)) kept p ≡ happened (run_of j kept p) (JarEvent own)
run_entered_own j owner own kept p none = run_entered j owner (JarEvent own) kept p (own_adds j own none)

-- ---- a want

noted_at : (may : Bool) (j : LockedJar) (own : Own) (kept : List RowChange) (p : PlayersStanding) → is_taking own ≡ false
    → run_of (noted may j own) kept p ≡ did may (run_of j kept p) own
noted_at true j own kept p none = run_entered_own j None own kept p none
noted_at false j own kept p none = refl

pub run_wanted : (j : LockedJar) (what : Awaited) (kept : List RowChange) (p : PlayersStanding)
    → run_of (wanted j what) kept p ≡ waited (Pending what) (run_of j kept p)
run_wanted j (awaited.Key key) kept p = noted_at (own_may_stand j.state (Want key)) j (Want key) kept p refl
run_wanted j awaited.All kept p = noted_at (own_may_stand j.state WantAll) j WantAll kept p refl

-- ---- in the name of who loads and commits

pub run_did : (n : ℕ) (j : LockedJar) (own : Own) (kept : List RowChange) (p : PlayersStanding) → is_taking own ≡ false
    → run_of (vault.did n j own) kept p ≡ happened (run_of j kept p) (JarEvent own)
run_did n j own kept p none = run_entered_own j (Some n) own kept p none

did_at : (may : Bool) (n : ℕ) (j : LockedJar) (own : Own) (kept : List RowChange) (p : PlayersStanding) → is_taking own ≡ false
    → run_of (cond may (vault.did n j own) j) kept p ≡ did may (run_of j kept p) own
did_at true n j own kept p none = run_did n j own kept p none
did_at false n j own kept p none = refl

pub run_did_if_may : (n : ℕ) (j : LockedJar) (own : Own) (kept : List RowChange) (p : PlayersStanding) → is_taking own ≡ false
    → run_of (vault.did_if_may n j own) kept p ≡ did_if_may (run_of j kept p) own
run_did_if_may n j own kept p none = did_at (own_may_stand j.state own) n j own kept p none

-- ---- a batch

-- it is taken, with what was kept
pub run_taken : (n : ℕ) (j : LockedJar) (kept : List RowChange) (p : PlayersStanding)
    → run_of (vault.did n j Taken) (newest_over kept j.pending) p ≡ taken (run_of j kept p)
run_taken n j kept p =
    ap (λ (l : List Entry). run_in p (newest_over kept j.pending) (after j.state (JarEvent Taken)) l [])
    (journal_push j.seen (listing_at (Some n) j.state (JarEvent Taken)))

-- its place is that of its entry
taken_place : (j : LockedJar) (kept : List RowChange) (p : PlayersStanding) → length (taken (run_of j kept p)).journal ≡ taken_at j
taken_place j kept p =
    length-append (journal_of j.seen) (entry_of j.state (JarEvent Taken) ∷ [])
    ∙ ap (λ n. n + 1) (many j.seen)
  where
    many : (seen : List Listing) → length (journal_of seen) ≡ length seen
    many [] = refl
    many (l ∷ ls) = ap suc (many ls)

-- it was taken and committed
pub run_committed : (n : ℕ) (j : LockedJar) (kept : List RowChange) (p : PlayersStanding)
    → run_of (vault.did n (vault.did n j Taken) (Acked (taken_at j))) [] p ≡ committed true (run_of j kept p)
run_committed n j kept p =
    run_did n (vault.did n j Taken) (Acked (taken_at j)) [] p refl
    ∙ (ap (λ (r : Run). ended true (taken_at j) r) (run_taken n j kept p)
    ∙ ap (λ place. ended true place (taken (run_of j kept p))) (sym (taken_place j kept p)))

-- it was taken and lost, and its changes are kept
pub run_lost : (n : ℕ) (j : LockedJar) (kept : List RowChange) (p : PlayersStanding)
    → run_of (vault.did n (vault.did n j Taken) (CommitLost (taken_at j))) (newest_over kept j.pending) p ≡ committed false (run_of j kept p)
run_lost n j kept p =
    run_did n (vault.did n j Taken) (CommitLost (taken_at j)) (newest_over kept j.pending) p refl
    ∙ (ap (λ (r : Run). ended false (taken_at j) r) (run_taken n j kept p)
    ∙ ap (λ place. ended false place (taken (run_of j kept p))) (sym (taken_place j kept p)))
