-- What waits in a jar and its vault, and what the keeper tells, after each flush.
use Rattle.std.proofs.Common.{◌≡◌, ◌≤◌, ◌+◌, ℕ, List, [], length, arith, Bool}
use Rattle.std.proofs.Common.{Some, Result, Ok, Err, refl, sym, ap, ◌∙◌, subst, ⊎_elim}
use Rattle.std.proofs.lemmas.List.{length-map}
use Rattle.atomic_table.specs.Seated.{TableId}
use Rattle.jar_types.specs.declared.entry.Event.TheVariants.{Jar as JarEvent}
use Rattle.jar_types.specs.declared.entry.Own.TheVariants.{Taken, Acked, CommitLost}
use Rattle.jar_types.specs.declared.row.Row.{Row}
use Rattle.jar_types.specs.Journals.{IsLegal, Rules}
use Rattle.jar_types.specs.RowChanges.{RowsRise, changed_rows}
use Rattle.jar_types.specs.Stored.{IsHonest}
use Rattle.beside_law.specs.Beside.{beside_of}
use Rattle.beside_law.specs.Held.{held_of}
use Rattle.beside_law.proofs.AckedLemmas.{acked_is_there}
use Rattle.version_cells.specs.Standing.{PassStanding}
use Rattle.locked_jar.specs.LockedJars.{LockedJar, about_of, journal_of}
use Rattle.locked_jar.specs.Owns.{is_batch_due}
use Rattle.store_vault.specs.declared.refusal.FlushRefusal.{FlushRefusal}
use Rattle.store_vault.specs.declared.refusal.FlushRefusal.TheVariants as flush
use Rattle.store_vault.specs.declared.stored.Stored.{Stored}
use Rattle.store_vault.specs.Cutting.{did}
use Rattle.store_vault.specs.Flushing.{Commits, FlushTells, IsFlush, Kept, Loses, batch_of}
use Rattle.store_vault.specs.Flushing.{held_where, taken_at}
use Rattle.store_vault.specs.Loading.{rules_of}
use Rattle.shared_jar.specs.Holding.{IsBeside, IsOver, StaysOver}
use Rattle.shared_jar.specs.Together.{IsJar}
use Rattle.shared_jar.proofs.BesideLemmas.{IsOf, acked_beside, acked_held}
use Rattle.shared_jar.proofs.BesideLemmas.{honest_on, lost_beside, lost_held, state_on}
use Rattle.shared_jar.proofs.BesideLemmas.{taken_beside, taken_held}
use Rattle.shared_jar.proofs.HoldingLemmas.{StayHonest}

module _ (stored : Stored) (callers : ℕ) (table : TableId) (j : LockedJar) (p : PassStanding)
    (owns : ℕ) (is : IsJar (rules_of stored callers j.limit) table j p owns) where
  abbrev rules : Rules
  rules = rules_of stored callers j.limit

  abbrev cutter : ℕ
  cutter = p.view.number

  -- ---- a flush

  abbrev taken : LockedJar
  taken = did cutter j Taken

  taken_of : IsOf rules taken
  taken_of = state_on rules (Some cutter) j (JarEvent Taken) is.state_is

  abbrev IsIn : LockedJar → Kept → Type 0
  IsIn k kept = IsBeside rules k kept.changes kept.acked

  committed_in : (kept : Kept) → IsIn j kept
      → IsIn (did cutter taken (Acked (taken_at j))) (record { changes = []; acked = taken_at j })
  committed_in kept was =
      acked_beside rules (Some cutter) taken (batch_of kept j) kept.acked (taken_at j) taken_of
      (taken_beside rules (Some cutter) j kept.changes kept.acked is.state_is was)

  lost_in : (kept : Kept) → IsIn j kept
      → IsIn (did cutter taken (CommitLost (taken_at j)))
      (record kept { changes = batch_of kept j })
  lost_in kept was =
      lost_beside rules (Some cutter) taken (batch_of kept j) kept.acked (taken_at j) taken_of
      (taken_beside rules (Some cutter) j kept.changes kept.acked is.state_is was)

  both_in : (k l : LockedJar) (kept kept' : Kept) → k ≡ l → kept ≡ kept' → IsIn l kept'
      → IsIn k kept
  both_in k l kept kept' same same_kept was =
      subst (λ i. IsIn i kept) (sym same) (subst (IsIn l) (sym same_kept) was)

  flush_in : (k : LockedJar) (q : PassStanding) (force : Bool) (kept kept' : Kept)
      (result : Result ℕ FlushRefusal) → IsFlush force owns j k p q kept kept' result
      → IsIn j kept → IsIn k kept'
  flush_in k q force kept kept' (Ok place) told was =
      ⊎_elim (λ none. both_in k j kept' kept none.1.0 none.2 was)
      (λ some. both_in k (did cutter taken (Acked (taken_at j))) kept'
      (record { changes = []; acked = taken_at j }) some.2.is some.2.kept_is
      (committed_in kept was)) told
  flush_in k q force kept kept' (Err flush.StoreFault) told was =
      both_in k (did cutter taken (CommitLost (taken_at j))) kept'
      (record kept { changes = batch_of kept j }) told.2.is told.2.kept_is (lost_in kept was)
  flush_in k q force kept kept' (Err flush.NoMemory) told was =
      ⊎_elim (λ none. both_in k j kept' kept none.0.0 none.1 was)
      (λ lost. both_in k (did cutter taken (CommitLost (taken_at j))) kept'
      (record kept { changes = batch_of kept j }) lost.is lost.kept_is (lost_in kept was)) told.2
  flush_in k q force kept kept' (Err flush.Spent) told was =
      both_in k j kept' kept told.2.0 told.3 was

  flush_limit : (k : LockedJar) (q : PassStanding) (force : Bool) (kept kept' : Kept)
      (result : Result ℕ FlushRefusal)
      → IsFlush force owns j k p q kept kept' result → k.limit ≡ j.limit
  flush_limit k q force kept kept' (Ok place) told =
      ⊎_elim (λ none. ap (λ (i : LockedJar). i.limit) none.1.0)
      (λ some. ap (λ (i : LockedJar). i.limit) some.2.is) told
  flush_limit k q force kept kept' (Err flush.StoreFault) told =
      ap (λ (i : LockedJar). i.limit) told.2.is
  flush_limit k q force kept kept' (Err flush.NoMemory) told =
      ⊎_elim (λ none. ap (λ (i : LockedJar). i.limit) none.0.0)
      (λ lost. ap (λ (i : LockedJar). i.limit) lost.is) told.2
  flush_limit k q force kept kept' (Err flush.Spent) told = ap (λ (i : LockedJar). i.limit) told.2.0

  -- what waits after a flush waits beside the journal, whatever it comes to
  pub flush_beside : (k : LockedJar) (q : PassStanding) (force : Bool) (kept kept' : Kept)
      (result : Result ℕ FlushRefusal)
      → IsFlush force owns j k p q kept kept' result → IsBeside rules j kept.changes kept.acked
      → IsBeside (rules_of stored callers k.limit) k kept'.changes kept'.acked
  flush_beside k q force kept kept' result told was =
      subst (λ l. IsBeside (rules_of stored callers l) k kept'.changes kept'.acked)
      (sym (flush_limit k q force kept kept' result told))
      (flush_in k q force kept kept' result told was)

  -- a keeper that holds a jar's rows, and those of a batch that was committed, tells what is held
  -- beside the journal
  over_where : (i : LockedJar) (rows held : List Row) (tells' : List Row → Type 0) → RowsRise rows
      → IsHonest rules rows (journal_of i.seen) → tells' held
      → held_of rules rows (journal_of i.seen) ≡ held → IsOver rules rows (journal_of i.seen) tells'
  over_where i rows held tells' rise honest told same =
      record {
        hosts_are = honest.hosts;
        rise = rise;
        told = subst tells' (sym same) told;
        honest =
            honest;
      }

  taken_honest : StayHonest rules j taken
  taken_honest rows honest = honest_on rules rows (Some cutter) j (JarEvent Taken) honest tt

  committed_over : (kept : Kept) (rows : List Row) (tells' : List Row → Type 0) → IsIn j kept
      → RowsRise rows → IsHonest rules rows (journal_of j.seen)
      → tells' (changed_rows (held_of rules rows (journal_of j.seen)) (batch_of kept j))
      → IsOver rules rows (journal_of (did cutter taken (Acked (taken_at j))).seen) tells'
  committed_over kept rows tells' was rise honest told =
      over_where (did cutter taken (Acked (taken_at j))) rows
      (changed_rows (held_of rules rows (journal_of j.seen)) (batch_of kept j)) tells' rise
      (honest_on rules rows (Some cutter) taken (JarEvent (Acked (taken_at j)))
      (taken_honest rows honest) tt) told
      (acked_held rules (Some cutter) taken (batch_of kept j) kept.acked (taken_at j) rows taken_of
      (taken_beside rules (Some cutter) j kept.changes kept.acked is.state_is was)
      ∙ ap (λ rs. changed_rows rs (batch_of kept j))
      (taken_held rules (Some cutter) j rows is.state_is))

  lost_over : (rows : List Row) (tells' : List Row → Type 0) → RowsRise rows
      → IsHonest rules rows (journal_of j.seen)
      → tells' (held_of rules rows (journal_of j.seen))
      → IsOver rules rows (journal_of (did cutter taken (CommitLost (taken_at j))).seen) tells'
  lost_over rows tells' rise honest told =
      over_where (did cutter taken (CommitLost (taken_at j))) rows
      (held_of rules rows (journal_of j.seen)) tells' rise
      (honest_on rules rows (Some cutter) taken (JarEvent (CommitLost (taken_at j)))
      (taken_honest rows honest) tt) told
      (lost_held rules (Some cutter) taken (taken_at j) rows taken_of ∙ taken_held rules
      (Some cutter) j rows is.state_is)

  stays_over : (k : LockedJar) (rows : List Row) (tells' : List Row → Type 0) → k ≡ j
      → RowsRise rows → IsHonest rules rows (journal_of j.seen)
      → tells' (held_of rules rows (journal_of j.seen))
      → IsOver rules rows (journal_of k.seen) tells'
  stays_over k rows tells' same rise honest told =
      subst (λ (i : LockedJar). IsOver rules rows (journal_of i.seen) tells') (sym same)
      (over_where j rows (held_of rules rows (journal_of j.seen)) tells' rise honest told refl)

  pub flush_over : (k : LockedJar) (q : PassStanding) (force : Bool) (kept kept' : Kept)
      (result : Result ℕ FlushRefusal) (tells tells' : List Row → Type 0)
      → IsFlush force owns j k p q kept kept' result → IsBeside rules j kept.changes kept.acked
      → FlushTells (is_batch_due force j.state) (batch_of kept j) tells tells' result
      → StaysOver rules j k tells tells'
  flush_over k q force kept kept' (Ok place) tells tells' told was tell rows over =
      let held = held_of rules rows (journal_of j.seen) in
      let after = tell held over.told in
      ⊎_elim (λ none.
      stays_over k rows tells' none.1.0 over.rise over.honest
      (subst (λ due. tells' (held_where due (batch_of kept j) held)) none.0 after))
      (λ some.
      subst (λ (i : LockedJar). IsOver rules rows (journal_of i.seen) tells') (sym some.2.is)
      (committed_over kept rows tells' was over.rise over.honest
      (subst (λ due. tells' (held_where due (batch_of kept j) held)) some.0 after))) told
  flush_over k q force kept kept' (Err flush.StoreFault) tells tells' told was tell rows over =
      subst (λ (i : LockedJar). IsOver rules rows (journal_of i.seen) tells') (sym told.2.is)
      (lost_over rows tells' over.rise over.honest
      (tell (held_of rules rows (journal_of j.seen)) over.told))
  flush_over k q force kept kept' (Err flush.NoMemory) tells tells' told was tell rows over =
      let after = tell (held_of rules rows (journal_of j.seen)) over.told in
      ⊎_elim (λ none. stays_over k rows tells' none.0.0 over.rise over.honest after)
      (λ lost.
      subst (λ (i : LockedJar). IsOver rules rows (journal_of i.seen) tells') (sym lost.is)
      (lost_over rows tells' over.rise over.honest after)) told.2
  flush_over k q force kept kept' (Err flush.Spent) tells tells' told was tell rows over =
      stays_over k rows tells' told.2.0 over.rise over.honest
      (tell (held_of rules rows (journal_of j.seen)) over.told)

-- ---- places

later_place : (acked n : ℕ) → acked ≤ n → acked ≤ n + 1
later_place acked n there = omega (arith, there)

-- a flush never takes the place of the last batch that was committed back
pub flush_forward : (r : Rules) (force : Bool) (owns : ℕ) (j k : LockedJar) (p q : PassStanding)
    (kept kept' : Kept)
    (result : Result ℕ FlushRefusal) → IsLegal r (journal_of j.seen) → IsBeside r j kept.changes
    kept.acked
    → IsFlush force owns j k p q kept kept' result → kept.acked ≤ kept'.acked
flush_forward r force owns j k p q kept kept' result legal beside told = forward result told
  where
    there : kept.acked ≤ length j.seen
    there =
        subst (λ n. n ≤ length j.seen) (sym beside.acked_is)
        (subst (λ n. (beside_of r (journal_of j.seen)).acked ≤ n) (length-map j.seen about_of)
        (acked_is_there r (journal_of j.seen) legal))

    same : kept' ≡ kept → kept.acked ≤ kept'.acked
    same is = subst (λ (s : Kept). kept.acked ≤ s.acked) (sym is) (omega arith)

    commits : Commits j k p q kept kept' → kept.acked ≤ kept'.acked
    commits is =
        subst (λ (s : Kept). kept.acked ≤ s.acked) (sym is.kept_is)
        (later_place kept.acked (length j.seen) there)

    loses : Loses j k p q kept kept' → kept.acked ≤ kept'.acked
    loses is = subst (λ (s : Kept). kept.acked ≤ s.acked) (sym is.kept_is) (omega arith)

    forward : (result : Result ℕ FlushRefusal) → IsFlush force owns j k p q kept kept' result
        → kept.acked ≤ kept'.acked
    forward (Ok place) told = ⊎_elim (λ none. same none.2) (λ some. commits some.2) told
    forward (Err flush.StoreFault) told = loses told.2
    forward (Err flush.NoMemory) told = ⊎_elim (λ none. same none.1) loses told.2
    forward (Err flush.Spent) told = same told.3
