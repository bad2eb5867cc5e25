-- What a jar and its keeper hold: the law, and what holds of a jar that is opened and after a call.
use Rattle.std.proofs.Common.{◌≡◌, ℕ, List, [], Bool, true, false}
use Rattle.std.proofs.Common.{None, Some, Result, Ok, Err, refl, sym, subst}
use Rattle.std.specs.Prelude.{IfOk, IfErr, take}
use Rattle.atomic_table.specs.Seated.{TableId}
use Rattle.jar_types.specs.declared.entry.Event.TheVariants.{Call as CallEvent, Jar as JarEvent}
use Rattle.jar_types.specs.declared.entry.Own.TheVariants.{Want, WantAll}
use Rattle.jar_types.specs.declared.jar_core.Awaited.{Awaited}
use Rattle.jar_types.specs.declared.jar_core.Awaited.TheVariants as awaited
use Rattle.jar_types.specs.declared.op.Op.{Op}
use Rattle.jar_types.specs.declared.row.Row.{Row}
use Rattle.jar_types.specs.declared.row.RowChange.{RowChange}
use Rattle.jar_types.specs.Journals.{Rules}
use Rattle.jar_types.specs.RowChanges.{RowsRise}
use Rattle.jar_types.specs.Steps.{own_may_stand}
use Rattle.jar_types.specs.Stored.{IsHonest, hosts_of, sound_rows, stored_rows}
use Rattle.jar_keeper.specs.Keepers.{TellsSame}
use Rattle.beside_law.specs.Held.{held_of}
use Rattle.beside_law.proofs.AckedLemmas.{held_is_stored}
use Rattle.beside_law.proofs.BesideLemmas.{beside_begins}
use Rattle.beside_law.proofs.HeldLemmas.{held_begins}
use Rattle.version_cells.specs.Standing.{PassStanding}
use Rattle.locked_jar.specs.declared.receipt.CallRefusal.{CallRefusal}
use Rattle.locked_jar.specs.declared.receipt.CallRefusal.TheVariants as call
use Rattle.locked_jar.specs.declared.receipt.Receipt.{Receipt}
use Rattle.locked_jar.specs.Calls.{Answers, RefusesCall, noted, want_of}
use Rattle.locked_jar.specs.LockedJars.{LockedJar, journal_of, opened}
use Rattle.store_vault.specs.declared.stored.Stored.{Stored}
use Rattle.store_vault.specs.Loading.{rules_of}
use Rattle.shared_jar.specs.Holding.{BeginsOver, IsBeside, IsOver, KeepersHoldTheAcked, StaysOver}
use Rattle.shared_jar.proofs.BesideLemmas.{IsOf, WentOn, beside_where}
use Rattle.shared_jar.proofs.BesideLemmas.{honest_on, none_went}
use Rattle.shared_jar.proofs.BesideLemmas.{went_by, went_by_call}

-- each load of k's journal lists just what stands in rows, where each of j's does
abbrev pub StayHonest : Rules → LockedJar → LockedJar → Type 0
StayHonest r j k =
    (rows : List Row) → IsHonest r rows (journal_of j.seen) → IsHonest r rows (journal_of k.seen)

-- ---- the law

pub keepers_hold_the_acked : (tells : List Row → Type 0) → KeepersHoldTheAcked tells
keepers_hold_the_acked tells r rows j kept acked legal beside over storable =
    let journal = journal_of j.seen in (
      held_of r rows journal,
      over.told,
      subst (λ n. sound_rows (held_of r rows journal) ≡ stored_rows r rows (take n journal))
          (sym beside.acked_is)
          (held_is_stored r rows journal over.rise legal over.honest storable),
    )

-- ---- a jar that is opened

pub opened_beside : (r : Rules) (table : TableId) (keys : List (List ℕ)) (limit : ℕ) (j : LockedJar)
    → j ≡ opened table keys limit → IsBeside r j [] 0
opened_beside r table keys limit j is =
    subst (λ (k : LockedJar). IsBeside r k [] 0) (sym is)
    (beside_where r (opened table keys limit) [] 0 (sym (beside_begins r)) refl)

pub opened_over : (r : Rules) (table : TableId) (keys : List (List ℕ)) (limit : ℕ) (j : LockedJar)
    (tells tells' : List Row → Type 0) → j ≡ opened table keys limit
    → TellsSame tells tells' → ((rows : List Row) → tells rows → RowsRise rows)
    → ((rows : List Row) → tells rows → r.hosts ≡ hosts_of rows)
    → BeginsOver r j tells tells'
opened_over r table keys limit j tells tells' is same rise hosts rows told =
    subst (λ (k : LockedJar). IsOver r rows (journal_of k.seen) tells') (sym is) (record {
      hosts_are = hosts rows told;
      rise = rise rows told;
      told = rw (held_begins r rows) ((same rows).0 told);
      honest = record { hosts = hosts rows told; loads = tt };
    })

-- ---- events that neither take a batch nor end one

-- the keeper of a jar that went on tells the same
pub went_over : (r : Rules) (j k : LockedJar) (tells tells' : List Row → Type 0) (rows : List Row)
    → WentOn r j k
    → (IsHonest r rows (journal_of j.seen) → IsHonest r rows (journal_of k.seen))
    → ((held : List Row) → tells held → tells' held)
    → IsOver r rows (journal_of j.seen) tells → IsOver r rows (journal_of k.seen) tells'
went_over r j k tells tells' rows went honest same over = record {
  hosts_are = over.hosts_are;
  rise = over.rise;
  told = subst tells' (sym (went.held rows)) (same (held_of r rows (journal_of j.seen)) over.told);
  honest = honest over.honest;
}

-- what waits in the jar then waits beside its journal, by the rules of the new jar
pub beside_then : (stored : Stored) (callers : ℕ) (j k : LockedJar) (kept : List RowChange)
    (acked : ℕ) → WentOn (rules_of stored callers j.limit) j k
    → IsBeside (rules_of stored callers j.limit) j kept acked
    → IsBeside (rules_of stored callers k.limit) k kept acked
beside_then stored callers j k kept acked went was =
    subst (λ l. IsBeside (rules_of stored callers l) k kept acked) (sym went.limit)
    (went.beside kept acked was)

-- ---- a call

module _ (r : Rules) (j : LockedJar) (is : IsOf r j) where
  went_wanting : (may : Bool) (what : Awaited) → WentOn r j (noted may j (want_of what))
  went_wanting false what = none_went r j is
  went_wanting true (awaited.Key key) =
      went_by r None j (JarEvent (Want key)) is (λ b. refl) (λ kept held. refl) refl
  went_wanting true awaited.All =
      went_by r None j (JarEvent WantAll) is (λ b. refl) (λ kept held. refl) refl

  went_refused : (k : LockedJar) (p q : PassStanding) (op : Op) (refusal : CallRefusal)
      → RefusesCall j k p q op refusal → WentOn r j k
  went_refused k p q op call.Spent told = subst (WentOn r j) (sym told.1) (none_went r j is)
  went_refused k p q op (call.Pending what) told =
      subst (WentOn r j) (sym told.2) (went_wanting (own_may_stand j.state (want_of what)) what)
  went_refused k p q op (call.NotYet found) told =
      subst (WentOn r j) (sym told.2) (none_went r j is)
  went_refused k p q op call.NoMemory told = subst (WentOn r j) (sym told.1) (none_went r j is)

  -- the jar goes on at a call, whether it is answered or refused
  pub call_went : (k : LockedJar) (p q : PassStanding) (op : Op) (now : ℕ)
      (result : Result Receipt CallRefusal) → IfOk result (Answers j k p q op now)
      → IfErr result (RefusesCall j k p q op) → WentOn r j k
  call_went k p q op now (Ok receipt) answered refused =
      subst (WentOn r j) (sym answered.jar)
      (went_by_call r (Some p.view.number) j p.view.number now op is)
  call_went k p q op now (Err refusal) answered refused = went_refused k p q op refusal refused

honest_wanting : (r : Rules) (j : LockedJar) (may : Bool) (what : Awaited)
    → StayHonest r j (noted may j (want_of what))
honest_wanting r j false what rows honest = honest
honest_wanting r j true (awaited.Key key) rows honest =
    honest_on r rows None j (JarEvent (Want key)) honest tt
honest_wanting r j true awaited.All rows honest =
    honest_on r rows None j (JarEvent WantAll) honest tt

honest_refused : (r : Rules) (j k : LockedJar) (p q : PassStanding) (op : Op)
    (refusal : CallRefusal) → RefusesCall j k p q op refusal → StayHonest r j k
honest_refused r j k p q op call.Spent told =
    subst (StayHonest r j) (sym told.1) (λ rows honest. honest)
honest_refused r j k p q op (call.Pending what) told =
    subst (StayHonest r j) (sym told.2)
    (honest_wanting r j (own_may_stand j.state (want_of what)) what)
honest_refused r j k p q op (call.NotYet found) told =
    subst (StayHonest r j) (sym told.2) (λ rows honest. honest)
honest_refused r j k p q op call.NoMemory told =
    subst (StayHonest r j) (sym told.1) (λ rows honest. honest)

honest_called : (r : Rules) (j k : LockedJar) (p q : PassStanding) (op : Op) (now : ℕ)
    (result : Result Receipt CallRefusal) → IfOk result (Answers j k p q op now)
    → IfErr result (RefusesCall j k p q op) → StayHonest r j k
honest_called r j k p q op now (Ok receipt) answered refused =
    subst (StayHonest r j) (sym answered.jar)
    (λ rows honest. honest_on r rows (Some p.view.number) j (CallEvent p.view.number now op) honest
    tt)
honest_called r j k p q op now (Err refusal) answered refused =
    honest_refused r j k p q op refusal refused

-- a keeper that isn't asked still tells what is held
pub call_over : (r : Rules) (j k : LockedJar) (p q : PassStanding) (op : Op) (now : ℕ)
    (result : Result Receipt CallRefusal) (tells : List Row → Type 0) → IsOf r j
    → IfOk result (Answers j k p q op now) → IfErr result (RefusesCall j k p q op)
    → StaysOver r j k tells tells
call_over r j k p q op now result tells is answered refused rows over =
    went_over r j k tells tells rows (call_went r j is k p q op now result answered refused)
    (honest_called r j k p q op now result answered refused rows) (λ held told. told) over
