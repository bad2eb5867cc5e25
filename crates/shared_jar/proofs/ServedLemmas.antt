-- What a pass knows after a load or a flush of a jar and its vault, which it met before and behind.
use Rattle.std.proofs.Common.{◌≡◌, ◌≤◌, ◌<◌, ◌+◌, ℕ, List, [], ◌∷◌, Bool, true, false, cond, None, Some, length, refl, sym, ap, ◌∙◌, subst, arith, length-append, ⊎_elim}
use Rattle.std.specs.Prelude.{◌&&◌, ◌||◌, nat_le, nat_lt, is_none, Result, Ok, Err}
use Rattle.std.proofs.lemmas.Bool.{and_parts}
use Rattle.std.proofs.lemmas.Bool.Decides.{nat_tests}
use Rattle.atomic_table.specs.Seated.{TableId}
use Rattle.commit_batches.specs.declared.pending.TheConstants.{MOST_PENDING}
use Rattle.jar_types.specs.declared.entry.Entry.{Entry}
use Rattle.jar_types.specs.declared.entry.Entry.TheVariants.{Jar}
use Rattle.jar_types.specs.declared.entry.Event.TheVariants.{Jar as JarEvent}
use Rattle.jar_types.specs.declared.entry.Own.{Own}
use Rattle.jar_types.specs.declared.entry.Own.TheVariants.{Begun, Loaded, Lost, Whole, Taken, Acked, CommitLost}
use Rattle.jar_types.specs.Journals.{Rules, state_of, stored_keys}
use Rattle.jar_types.specs.Loads.{next_key}
use Rattle.jar_types.specs.States.{JarState}
use Rattle.jar_types.specs.Steps.{own_may_stand}
use Rattle.version_cells.specs.declared.cells.TheConstants.{MOST_ENTRIES}
use Rattle.version_cells.specs.Standing.{PassStanding}
use Rattle.locked_jar.specs.LockedJars.{LockedJar, LockedView, journal_of, listing_at}
use Rattle.locked_jar.specs.Owns.{is_batch_due}
use Rattle.locked_jar.specs.Passes.{HasSeen}
use Rattle.locked_jar.specs.Room.{served_in}
use Rattle.locked_jar.proofs.RoomLemmas.{served_are_owned}
use Rattle.store_vault.specs.declared.refusal.FlushRefusal.{FlushRefusal}
use Rattle.store_vault.specs.declared.refusal.FlushRefusal.TheVariants as flush
use Rattle.store_vault.specs.declared.refusal.LoadRefusal.{LoadRefusal}
use Rattle.store_vault.specs.declared.refusal.LoadRefusal.TheVariants as load
use Rattle.store_vault.specs.declared.refusal.LoadStep.{LoadStep}
use Rattle.store_vault.specs.declared.refusal.LoadStep.TheVariants as step
use Rattle.store_vault.specs.declared.stored.Stored.{Stored}
use Rattle.store_vault.specs.declared.vault.TheConstants.{MOST_OWNS}
use Rattle.store_vault.specs.Cutting.{HasCut, Stays, did, did_if_may}
use Rattle.store_vault.specs.Flushing.{IsFlush, Kept, taken_at}
use Rattle.store_vault.specs.Loading.{IsLoad, rules_of}
use Rattle.shared_jar.specs.Ending.{HasEnded, last_acked}
use Rattle.shared_jar.specs.Knowing.{FlushShows, HasNoneDue, IsCommitLost, IsLoaded, IsLost, IsSpent, IsWhole, LearnsFlush, LearnsLoad, LoadShows, StandsPast}
use Rattle.shared_jar.specs.Sharing.{IsState, IsVault}
use Rattle.shared_jar.specs.Together.{IsJar}
use Rattle.shared_jar.proofs.EndingLemmas.{ended_flush, ended_load}
use Rattle.shared_jar.proofs.KnowingLemmas.{seen_state, seen_twice, starts_short}
use Rattle.shared_jar.proofs.ServingLemmas.{after_flush, after_load}
use Rattle.shared_jar.proofs.SharingLemmas.{acked_there, state_of_jar, together, vault_of_jar}
use Rattle.shared_jar.proofs.TogetherLemmas.{jar_room}

-- ---- no batch is due

not_some : (n : ℕ) → nat_lt 0 n ≡ false → n ≡ 0
not_some n e = grind (arith, nat_tests)

no_items : {A : Type 0} → (xs : List A) → nat_lt 0 (length xs) ≡ false → xs ≡ []
no_items [] e = refl
no_items (x ∷ xs) e = let none = not_some (length (x ∷ xs)) e in absurd (omega (arith, none))

none_due_at : (touched lost force many : Bool)
    → ((true && (true && (touched || lost))) && (force || many)) ≡ false
    → (many ≡ true → touched ≡ false) × (force ≡ true → (touched ≡ false) × (lost ≡ false))
none_due_at true lost true many e = absurd cc
none_due_at true lost false true e = absurd cc
none_due_at true lost false false e = ((λ h. absurd cc), (λ h. absurd cc))
none_due_at false true true many e = absurd cc
none_due_at false true false many e = ((λ h. refl), (λ h. absurd cc))
none_due_at false false force many e = ((λ h. refl), (λ h. (refl, refl)))

few_at : (n most : ℕ) (many : Bool) → nat_le most n ≡ many → 0 < most
    → (many ≡ true → nat_lt 0 n ≡ false) → n < most
few_at n most true e some none = let zero = none refl in grind (arith, nat_tests)
few_at n most false e some none = grind (arith, nat_tests)

none_due : (force : Bool) (s : JarState) → s.batches.out ≡ None → is_batch_due force s ≡ false
    → HasNoneDue force s.batches
none_due force s out not_due =
    let b = s.batches in
    let some = nat_lt 0 (length b.touched) in
    let many = nat_le MOST_PENDING (length b.touched) in
    let tests : ((true && (true && (some || b.lost))) && (force || many)) ≡ false =
    ap (λ o. (true && (is_none o && (some || b.lost))) && (force || many)) (sym out) ∙ not_due in
    let told = none_due_at some b.lost force many tests in
    record {
      few =
          few_at (length b.touched) MOST_PENDING (nat_le MOST_PENDING (length b.touched)) refl
          (omega arith) told.0;
      none = λ forced. (no_items b.touched (told.1 forced).0, (told.1 forced).1);
    }

-- ---- what stands past what was seen

may_longer : (may : Bool) (cutter : ℕ) (j : LockedJar) (o : Own)
    → length j.seen ≤ length (cond may (did cutter j o) j).seen
may_longer true cutter j o =
    let sum = length-append j.seen (listing_at (Some cutter) j.state (JarEvent o) ∷ []) in
    omega (arith, sum)
may_longer false cutter j o = omega arith

-- the jar's last entry stands past what a pass had seen before it
stands_past : (IsOfKind : Entry → Type 0) (cutter : ℕ) (j k j' : LockedJar) (o : Own)
    (p m q : PassStanding)
    → length j.seen ≤ length k.seen
    → j' ≡ did cutter k o → IsOfKind (Jar o) → HasSeen j.seen p m → HasSeen j'.seen m q
    → StandsPast IsOfKind p q
stands_past IsOfKind cutter j k j' o p m q longer is kind before behind =
    let short = starts_short j.seen p.view.own.seen before.met.begins in (
      k.seen,
      [],
      listing_at (Some cutter) k.state (JarEvent o),
      behind.met.seen ∙ ap (λ (i : LockedJar). i.seen) is,
      omega (arith, short, longer),
      kind,
    )

module _ (r : Rules) (table : TableId) (j j' : LockedJar) (c d : PassStanding) (owns : ℕ)
    (p m q : PassStanding)
    (jar : IsJar r table j c owns)
    (state : j'.state ≡ state_of (stored_keys r) (journal_of j'.seen))
    (before : HasSeen j.seen p m) (behind : HasSeen j'.seen m q) where
  spent : MOST_OWNS ≤ owns → Stays j j' c d → IsSpent q
  spent most stays =
      let owns_are = jar.owns_are in
      let owned_are = jar.owned_are in
      let served = served_are_owned r c.view.number j.seen jar.history jar.above in
      subst (λ h. MOST_OWNS ≤ served_in (journal_of h))
      (sym (behind.met.seen ∙ ap (λ (i : LockedJar). i.seen) stays.0))
      (omega (arith, most, owns_are, owned_are, served))

  pub load_shows : (stored : Stored) (result : Result LoadStep LoadRefusal)
      → IsLoad stored owns j j' c d result → LoadShows r p q result
  load_shows stored (Ok step.Idle) told =
      let whole = (and_parts j.state.loads.whole (is_none (next_key j.state.loads.keys)) told.0).0
      in
      let same = sym (seen_state r j' q state behind.met.seen) ∙ ap (λ (i : LockedJar). i.state)
      told.1.0 in
      ap (λ (s : JarState). s.loads.whole) same ∙ whole
  load_shows stored (Ok step.Key) told =
      let l = told.1 in
      stands_past IsLoaded c.view.number j (did_if_may c.view.number j (Begun l.key)) j'
      (Loaded l.key l.cookies) p m q
      (may_longer (own_may_stand j.state (Begun l.key)) c.view.number j (Begun l.key)) l.is
      (l.key, l.cookies, refl) before behind
  load_shows stored (Ok step.Whole) told =
      stands_past IsWhole c.view.number j j j' (Whole stored.start) p m q (omega arith) told.1.is
      (stored.start, refl) before behind
  load_shows stored (Err load.StoreFault) told =
      let l = told.1 in
      stands_past IsLost c.view.number j (did_if_may c.view.number j (Begun l.key)) j' (Lost l.key)
      p m q
      (may_longer (own_may_stand j.state (Begun l.key)) c.view.number j (Begun l.key)) l.is
      (l.key, refl) before behind
  load_shows stored (Err load.NoMemory) told = tt
  load_shows stored (Err load.Spent) told = spent told.1 told.2

  -- where a flush took a batch, its place is past what the pass had seen
  past_seen : (n : ℕ) → n ≡ taken_at j → n ≤ length p.view.own.seen → ⊥
  past_seen n is most =
      let short = starts_short j.seen p.view.own.seen before.met.begins in omega
      (arith, is, most, short)

  pub flush_shows : (force : Bool) (kept kept' : Kept) (result : Result ℕ FlushRefusal)
      → HasEnded j kept.acked → HasEnded j' kept'.acked
      → IsFlush force owns j j' c d kept kept' result → FlushShows r force p q result
  flush_shows force kept kept' (Ok place) ended behind_it told = ⊎_elim
      (λ none. (
        none.3 ∙ (ap (λ (k : Kept). k.acked) (sym none.2) ∙
            (behind_it.acked_is ∙ ap (λ h. last_acked (journal_of h)) (sym behind.met.seen))),
        (λ most. subst (λ (s : JarState). HasNoneDue force s.batches)
            (sym (ap (λ (i : LockedJar). i.state) none.1.0) ∙ seen_state r j' q state
            behind.met.seen)
            (none_due force j.state ended.none_out none.0)),
      ))
      (λ some. (
        some.3 ∙ (behind_it.acked_is ∙ ap (λ h. last_acked (journal_of h)) (sym behind.met.seen)),
        (λ most. absurd (past_seen place (some.3 ∙ ap (λ (k : Kept). k.acked) some.2.kept_is)
            most)),
      ))
      told
  flush_shows force kept kept' (Err flush.StoreFault) ended behind_it told =
      let l = told.2 in
      stands_past IsCommitLost c.view.number j (did c.view.number j Taken) j'
      (CommitLost (taken_at j)) p m q
      (may_longer true c.view.number j Taken) l.is (taken_at j, refl) before behind
  flush_shows force kept kept' (Err flush.NoMemory) ended behind_it told = tt
  flush_shows force kept kept' (Err flush.Spent) ended behind_it told = spent told.1 told.2

-- ---- what the vault's pass knows then

-- it has the same number, and has seen the jar's history, and callers may have as many entries as
-- before
abbrev IsCutter : LockedJar → LockedJar → PassStanding → PassStanding → Type 0
IsCutter j j' c d =
    (d.view.number ≡ c.view.number) × (d.view.own.seen ≡ j'.seen) × (j'.limit ≡ j.limit)

stays_cutter : (j j' : LockedJar) (c d : PassStanding) → c.view.own.seen ≡ j.seen → Stays j j' c d
    → IsCutter j j' c d
stays_cutter j j' c d seen stays = (
  ap (λ (s : PassStanding). s.view.number) stays.1,
  ap (λ (s : PassStanding). s.view.own.seen) stays.1 ∙
      (seen ∙ sym (ap (λ (i : LockedJar). i.seen) stays.0)),
  ap (λ (i : LockedJar). i.limit) stays.0,
)

cut_cutter : (n : ℕ) (j j' k : LockedJar) (c d : PassStanding) → HasCut n j j' c d → j' ≡ k
    → k.limit ≡ j.limit → IsCutter j j' c d
cut_cutter n j j' k c d cut is limit =
    (cut.number, cut.seen, ap (λ (i : LockedJar). i.limit) is ∙ limit)

may_limit : (may : Bool) (cutter : ℕ) (j : LockedJar) (o : Own)
    → (cond may (did cutter j o) j).limit ≡ j.limit
may_limit true cutter j o = refl
may_limit false cutter j o = refl

module _ (j j' : LockedJar) (c d : PassStanding) (owns : ℕ) (seen : c.view.own.seen ≡ j.seen) where
  load_cutter : (stored : Stored) (result : Result LoadStep LoadRefusal)
      → IsLoad stored owns j j' c d result → IsCutter j j' c d
  load_cutter stored (Ok step.Idle) told = stays_cutter j j' c d seen told.1
  load_cutter stored (Ok step.Key) told =
      let l = told.1 in
      cut_cutter l.n j j' (did c.view.number (did_if_may c.view.number j (Begun l.key))
      (Loaded l.key l.cookies)) c d l.cut l.is
      (may_limit (own_may_stand j.state (Begun l.key)) c.view.number j (Begun l.key))
  load_cutter stored (Ok step.Whole) told =
      cut_cutter 1 j j' (did c.view.number j (Whole stored.start)) c d told.1.cut told.1.is refl
  load_cutter stored (Err load.StoreFault) told =
      let l = told.1 in
      cut_cutter l.n j j' (did c.view.number (did_if_may c.view.number j (Begun l.key))
      (Lost l.key)) c d l.cut l.is
      (may_limit (own_may_stand j.state (Begun l.key)) c.view.number j (Begun l.key))
  load_cutter stored (Err load.NoMemory) told = ⊎_elim
      (λ stays. stays_cutter j j' c d seen stays)
      (λ begins. cut_cutter 1 j j' (did c.view.number j (Begun begins.key)) c d begins.cut begins.is
      refl)
      told.2
  load_cutter stored (Err load.Spent) told = stays_cutter j j' c d seen told.2

  flush_cutter : (force : Bool) (kept kept' : Kept) (result : Result ℕ FlushRefusal)
      → IsFlush force owns j j' c d kept kept' result → IsCutter j j' c d
  flush_cutter force kept kept' (Ok place) told = ⊎_elim
      (λ none. stays_cutter j j' c d seen none.1)
      (λ some. cut_cutter 2 j j' (did c.view.number (did c.view.number j Taken)
      (Acked (taken_at j))) c d some.2.cut some.2.is refl)
      told
  flush_cutter force kept kept' (Err flush.StoreFault) told =
      cut_cutter 2 j j' (did c.view.number (did c.view.number j Taken) (CommitLost (taken_at j))) c
      d told.2.cut told.2.is refl
  flush_cutter force kept kept' (Err flush.NoMemory) told = ⊎_elim
      (λ none. stays_cutter j j' c d seen none.0)
      (λ lost. cut_cutter 2 j j' (did c.view.number (did c.view.number j Taken)
      (CommitLost (taken_at j))) c d lost.cut lost.is refl)
      told.2
  flush_cutter force kept kept' (Err flush.Spent) told = stays_cutter j j' c d seen told.2

-- ---- both locks

-- What lies under both locks, where the vault's pass v met the jar and became c, and then d by what
-- it entered
module _ (r : Rules) (table : TableId) (cutter : ℕ) (stored : Stored) (j j' : LockedJar)
    (v c d : PassStanding) (owns owns' acked : ℕ)
    (state : IsState r table cutter j) (vault : IsVault r table cutter stored v owns acked)
    (tied : HasSeen j.seen v c)
    (count : owns' + c.view.calls ≡ owns + d.view.calls) where
  tied_jar : IsJar r table j c owns
  tied_jar = together r table cutter stored j v c owns acked state vault tied

  tied_ended : HasEnded j acked
  tied_ended = acked_there r table cutter stored j v c owns acked state vault tied

  rules_at : (i : LockedJar) → i.limit ≡ j.limit → rules_of stored r.callers i.limit ≡ r
  rules_at i limit = ap (rules_of stored r.callers) (limit ∙ state.limit_is) ∙ vault.rules_are

  -- both are again what lies under the locks
  both_are : (acked' : ℕ) → IsCutter j j' c d → HasEnded j' acked'
      → IsJar (rules_of stored r.callers j'.limit) table j' d owns'
      → IsState r table cutter j' × IsVault r table cutter stored d owns' acked'
  both_are acked' its ended is =
      let jar : IsJar r table j' d owns' = subst (λ s. IsJar s table j' d owns') (rules_at j' its.2)
      is in
      let number : d.view.number ≡ cutter = its.0 ∙ (tied.met.number ∙ vault.number_is) in (
        state_of_jar r table cutter j' d owns' acked' number jar ended,
        vault_of_jar r table cutter stored j' d owns' acked' number vault.rules_are its.1 jar ended,
      )

  at_limit : IsJar (rules_of stored r.callers j.limit) table j c owns
  at_limit = subst (λ s. IsJar s table j c owns) (sym (rules_at j refl)) tied_jar

  loaded_both : (result : Result LoadStep LoadRefusal) → IsLoad stored owns j j' c d result
      → IsState r table cutter j' × IsVault r table cutter stored d owns' acked
  loaded_both result told =
      both_are acked (load_cutter j j' c d owns tied.met.seen stored result told)
      (ended_load stored owns acked j j' c d result tied_ended told)
      (after_load stored r.callers table j c owns j' d owns' result at_limit told count)

  module _ (force : Bool) (kept kept' : Kept) (long : length j.seen ≡ j.state.entries)
      (acks : acked ≡ kept.acked) where
    kept_ended : HasEnded j kept.acked
    kept_ended = subst (HasEnded j) acks tied_ended

    flushed_both : (result : Result ℕ FlushRefusal) → IsFlush force owns j j' c d kept kept' result
        → IsState r table cutter j' × IsVault r table cutter stored d owns' kept'.acked
    flushed_both result told =
        both_are kept'.acked (flush_cutter j j' c d owns tied.met.seen force kept kept' result told)
        (ended_flush force owns j j' c d kept kept' result kept_ended told)
        (after_flush stored r.callers table j c owns force long j' d owns' kept kept' result
        at_limit told count)

-- ---- the two meetings before, and the one behind

-- The locked jar l was met by the caller's pass and is l1, and by the vault's and is l2: a meeting
-- leaves it as it was
module _ (r : Rules) (table : TableId) (cutter : ℕ) (stored : Stored) (l l1 l2 : LockedView)
    (v c : PassStanding) (owns acked : ℕ)
    (first : l1 ≡ l) (second : l2 ≡ l1) (state : IsState r table cutter l.jar)
    (vault : IsVault r table cutter stored v owns acked)
    (tied : HasSeen l1.jar.seen v c) where
  tied_there : HasSeen l2.jar.seen v c
  tied_there = subst (λ (k : LockedView). HasSeen k.jar.seen v c) (sym second) tied

  state_there : IsState r table cutter l2.jar
  state_there =
      subst (λ (k : LockedView). IsState r table cutter k.jar) (sym (second ∙ first)) state

  lent_jar : IsJar r table l2.jar c owns
  lent_jar = together r table cutter stored l2.jar v c owns acked state_there vault tied_there

  -- there is room for two entries
  pub lent_room : length l2.jar.seen ≡ l2.jar.state.entries → l2.jar.state.calls ≤ l2.jar.limit
      → l2.jar.state.entries + 2 ≤ MOST_ENTRIES
  lent_room long few = jar_room 2 r table l2.jar c owns (omega arith) long few lent_jar

  -- a load or a flush left l3, and the vault's pass d
  module _ (l3 : LockedView) (d : PassStanding) (owns' : ℕ)
      (count : owns' + c.view.calls ≡ owns + d.view.calls) where
    pub lent_load : (result : Result LoadStep LoadRefusal)
        → IsLoad stored owns l2.jar l3.jar c d result
        → IsState r table cutter l3.jar × IsVault r table cutter stored d owns' acked
    lent_load result told =
        loaded_both r table cutter stored l2.jar l3.jar v c d owns owns' acked state_there vault
        tied_there count result told

    pub lent_flush : (force : Bool) (kept kept' : Kept) (result : Result ℕ FlushRefusal)
        → length l2.jar.seen ≡ l2.jar.state.entries → acked ≡ kept.acked
        → IsFlush force owns l2.jar l3.jar c d kept kept' result
        → IsState r table cutter l3.jar × IsVault r table cutter stored d owns' kept'.acked
    lent_flush force kept kept' result long acks told =
        flushed_both r table cutter stored l2.jar l3.jar v c d owns owns' acked state_there vault
        tied_there count force kept kept' long acks result told

    -- and the caller's pass, which met the jar before and behind, knows so
    module _ (p m q : PassStanding) (before : HasSeen l.jar.seen p m)
        (behind : HasSeen l3.jar.seen m q) where
      before_there : HasSeen l2.jar.seen p m
      before_there =
          subst (λ (k : LockedView). HasSeen k.jar.seen p m) (sym (second ∙ first)) before

      pub load_learned : (result : Result LoadStep LoadRefusal)
          → IsLoad stored owns l2.jar l3.jar c d result → LearnsLoad r cutter p q result
      load_learned result told =
          let on = (lent_load result told).0 in
          record {
            more = seen_twice r cutter l2.jar.seen l3.jar.seen p m q on.history before_there behind;
            shows =
                load_shows r table l2.jar l3.jar c d owns p m q lent_jar on.state_is before_there
                behind stored result told;
          }

      pub flush_learned : (force : Bool) (kept kept' : Kept) (result : Result ℕ FlushRefusal)
          → length l2.jar.seen ≡ l2.jar.state.entries
          → acked ≡ kept.acked → IsFlush force owns l2.jar l3.jar c d kept kept' result
          → LearnsFlush r cutter force p q result
      flush_learned force kept kept' result long acks told =
          let on = (lent_flush force kept kept' result long acks told).0 in
          let ended = subst (HasEnded l2.jar) acks (acked_there r table cutter stored l2.jar v c
          owns acked state_there vault tied_there) in
          record {
            more = seen_twice r cutter l2.jar.seen l3.jar.seen p m q on.history before_there behind;
            shows =
                flush_shows r table l2.jar l3.jar c d owns p m q lent_jar on.state_is before_there
                behind force kept kept' result ended
                (ended_flush force owns l2.jar l3.jar c d kept kept' result ended told) told;
          }
