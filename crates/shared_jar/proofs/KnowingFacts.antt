-- What the definitions of a shared jar refuse, cause by cause, so that no part of one that only
-- stands in a conclusion can be lost and still check.
use Rattle.std.proofs.Common.{◌≡◌, ◌≤◌, ◌<◌, ◌+◌, ℕ, List, [], ◌∷◌, true, false, None, Some, length, refl, sym, ap, ◌∙◌, arith, length-append}
use Rattle.atomic_table.specs.Seated.{TableId}
use Rattle.jar_types.specs.declared.entry.Entry.TheVariants.{Call, Jar}
use Rattle.jar_types.specs.declared.entry.Own.TheVariants.{Taken, Acked, CommitLost}
use Rattle.jar_types.specs.declared.jar_core.Awaited.{Awaited}
use Rattle.jar_types.specs.declared.op.Op.{Op}
use Rattle.jar_types.specs.declared.op.Op.TheVariants.{Post}
use Rattle.jar_types.specs.Batches.{Batches}
use Rattle.jar_types.specs.Journals.{Rules}
use Rattle.jar_types.specs.States.{JarState}
use Rattle.jar_types.specs.Waits.{is_awaited, is_lost, is_there}
use Rattle.version_cells.specs.declared.listing.Listing.{Listing}
use Rattle.version_cells.specs.Listings.{owned}
use Rattle.version_cells.specs.Standing.{PassStanding}
use Rattle.locked_jar.specs.declared.receipt.CallRefusal.TheVariants.{Spent, Pending, NotYet, NoMemory}
use Rattle.locked_jar.specs.declared.receipt.Receipt.{Receipt}
use Rattle.locked_jar.specs.LockedJars.{LockedJar}
use Rattle.store_vault.specs.declared.stored.Stored.{Stored}
use Rattle.shared_jar.specs.Ending.{HasEnded, last_acked}
use Rattle.shared_jar.specs.Knowing.{CauseStands, CountsOne, HasNoneDue, IsLost, LearnsRefusal, SeesMore, SeesOn, StandsLast, StandsPast}
use Rattle.shared_jar.specs.Sharing.{IsState, IsVault}

-- the last batch that was committed, by its place: a lost one is none
last : (last_acked [] ≡ 0)
    × (last_acked (Jar Taken ∷ Jar (Acked 1) ∷ []) ≡ 1)
    × (last_acked (Jar Taken ∷ Jar (CommitLost 1) ∷ []) ≡ 0)
    × (last_acked (Jar Taken ∷ Jar (Acked 1) ∷ Jar Taken ∷ Jar (CommitLost 3) ∷ []) ≡ 1)
    × (last_acked (Jar Taken ∷ Jar (Acked 1) ∷ Jar Taken ∷ Jar (Acked 3) ∷ []) ≡ 3)
last = (refl, refl, refl, refl, refl)

ended : (j : LockedJar) (place : ℕ) → j.state.batches.out ≡ Some place → HasEnded j 0 → ⊥
ended j place out is = let both : Some place ≡ None = sym out ∙ is.none_out in absurd cc

module _ (r : Rules) (cutter : ℕ) (p q : PassStanding) where
  -- without a front step, by another pass, or with a look nothing is seen on
  no_front : q.view.fronts ≡ p.view.fronts → SeesOn r cutter p q → ⊥
  no_front e is = let h = is.fronts in omega (arith, e, h)

  of_another : q.view.number ≡ p.view.number + 1 → SeesOn r cutter p q → ⊥
  of_another e is = let h = is.number in omega (arith, e, h)

  found_more : q.view.own.found ≡ length q.view.own.seen + 1 → SeesOn r cutter p q → ⊥
  found_more e is = let h = is.found in omega (arith, e, h)

  less_seen : length q.view.own.seen < length p.view.own.seen → SeesOn r cutter p q → ⊥
  less_seen e is =
      let whole = ap length is.begins.1 in
      let sum = length-append p.view.own.seen is.begins.0 in
      omega (arith, e, whole, sum)

  one_call_more : q.view.calls ≡ p.view.calls + 1 → SeesMore r cutter p q → ⊥
  one_call_more e is = let h = is.calls in omega (arith, e, h)

  -- want of memory leaves no count of looks or fronts changed
  front_without_memory : (op : Op) → q.view.fronts ≡ p.view.fronts + 1
      → LearnsRefusal r cutter p q op NoMemory → ⊥
  front_without_memory op e is =
      let h = ap (λ (s : PassStanding). s.view.fronts) is in omega (arith, e, h)

module _ (p q : PassStanding) (op : Op) (now : ℕ) (receipt : Receipt) (before : List Listing)
    (entry : Listing) where
  -- a receipt of the place before, a place that had been seen, an entry of nobody, and one of
  -- another moment
  place_before : receipt.place + 1 ≡ length q.front → StandsLast p q op now receipt before entry → ⊥
  place_before e is = let h = is.place in omega (arith, e, h)

  seen_before : receipt.place ≡ length p.view.own.seen → StandsLast p q op now receipt before entry
      → ⊥
  seen_before e is = let h = is.past in omega (arith, e, h)

  of_nobody : entry.owner ≡ None → StandsLast p q op now receipt before entry → ⊥
  of_nobody e is = let h : None ≡ Some p.view.number = sym e ∙ is.owner in absurd cc

  of_the_jar : entry.about ≡ Jar Taken → StandsLast p q op now receipt before entry → ⊥
  of_the_jar e is =
      let h : Jar Taken ≡ Call p.view.number now op receipt.reply = sym e ∙ is.about in absurd cc

  -- a call that counts twice, and one that doesn't
  twice : q.view.calls ≡ p.view.calls + 2 → CountsOne p q before → ⊥
  twice e is = let h = is.calls in omega (arith, e, h)

  one_too_many : owned p.view.number q.front ≡ q.view.calls + 1 → CountsOne p q before → ⊥
  one_too_many e is = let h = is.owns in omega (arith, e, h)

module _ (r : Rules) (s : JarState) (op : Op) (what : Awaited) where
  -- what is there, was lost or isn't awaited is not pending
  there : is_there s.loads what ≡ true → CauseStands r s op (Pending what) → ⊥
  there e is = let h : true ≡ false = sym e ∙ is.1 in absurd cc

  lost : is_lost s.loads what ≡ true → CauseStands r s op (Pending what) → ⊥
  lost e is = let h : true ≡ false = sym e ∙ is.2 in absurd cc

  forgotten : is_awaited s.loads what ≡ false → CauseStands r s op (Pending what) → ⊥
  forgotten e is = let h : false ≡ true = sym e ∙ is.3 in absurd cc

  -- fewer entries than the limit are not all of them
  left : s.calls + 1 ≡ r.limit → CauseStands r s op Spent → ⊥
  left e is = omega (arith, e, is)

  -- a Post waits for no other
  no_hear : (found : ℕ) → CauseStands r s Post (NotYet found) → ⊥
  no_hear found is = let h = is.2 in absurd cc

-- an entry that had been seen stands past nothing
seen_all : (p q : PassStanding) → length q.view.own.seen ≡ length p.view.own.seen
    → StandsPast IsLost p q → ⊥
seen_all p q e is =
    let whole = ap length is.3 in
    let sum = length-append is.0 (is.2 ∷ is.1) in
    let past = is.4 in
    omega (arith, e, whole, sum, past)

module _ (b : Batches) where
  -- a batch is due by its many rows, and with force by one row or by a lost one
  many_rows : 512 ≤ length b.touched → HasNoneDue false b → ⊥
  many_rows e is = let h = is.few in omega (arith, e, h)

  one_row : length b.touched ≡ 1 → HasNoneDue true b → ⊥
  one_row e is = let h = ap length (is.none refl).0 in omega (arith, e, h)

  a_lost_one : b.lost ≡ true → HasNoneDue true b → ⊥
  a_lost_one e is = let h : true ≡ false = sym e ∙ (is.none refl).1 in absurd cc

-- a batch that is out, and a pass of another number or away
out_there : (r : Rules) (table : TableId) (cutter place : ℕ) (j : LockedJar)
    → j.state.batches.out ≡ Some place
    → IsState r table cutter j → ⊥
out_there r table cutter place j out is =
    let both : Some place ≡ None = sym out ∙ is.none_out in absurd cc

module _ (r : Rules) (table : TableId) (cutter : ℕ) (stored : Stored) (pass : PassStanding)
    (owns acked : ℕ) where
  another : pass.view.number ≡ cutter + 1 → IsVault r table cutter stored pass owns acked → ⊥
  another e is = let h = is.number_is in omega (arith, e, h)

  away : pass.view.away ≡ true → IsVault r table cutter stored pass owns acked → ⊥
  away e is = let h : true ≡ false = sym e ∙ is.home.1 in absurd cc

  uncounted : owns ≡ pass.view.calls + 1 → IsVault r table cutter stored pass owns acked → ⊥
  uncounted e is = let h = is.owns_are in omega (arith, e, h)
