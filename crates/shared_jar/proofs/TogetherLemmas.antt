-- What always holds of a jar and its vault, after each call.
use Rattle.std.proofs.Common.{◌≡◌, ◌≤◌, ◌<◌, ◌+◌, ℕ, List, [], ◌∷◌, ◌++◌, Bool, true, false, None, Some, length, refl, sym, ap, ◌∙◌, subst, arith, ◌≢◌, ne_eqb}
use Rattle.std.specs.Prelude.{◌&&◌, is_none, nat_lt, Result, Ok, Err, IfOk, IfErr}
use Rattle.std.proofs.lemmas.Bool.Decides.{nat_tests}
use Rattle.std.proofs.lemmas.List.{length-map}
use Rattle.atomic_table.specs.Seated.{TableId}
use Rattle.jar_types.specs.declared.entry.Event.{Event}
use Rattle.jar_types.specs.declared.entry.Event.TheVariants.{Call as CallEvent, Jar as JarEvent}
use Rattle.jar_types.specs.declared.entry.Own.{Own}
use Rattle.jar_types.specs.declared.entry.Own.TheVariants.{Want, WantAll, Begun, Loaded, Lost, Whole, Taken, Acked, CommitLost}
use Rattle.jar_types.specs.declared.jar_core.Awaited.{Awaited}
use Rattle.jar_types.specs.declared.jar_core.Awaited.TheVariants as awaited
use Rattle.jar_types.specs.declared.op.Op.{Op}
use Rattle.jar_types.specs.Journals.{Rules, is_well_keyed, own_fits, stands, state_of, stored_keys}
use Rattle.jar_types.specs.Steps.{after, own_may_stand}
use Rattle.jar_types.specs.Waits.{op_waits}
use Rattle.jar_types.proofs.JournalLemmas.{state_push}
use Rattle.version_cells.specs.declared.cells.TheConstants.{MOST_ENTRIES}
use Rattle.version_cells.specs.Listings.{is_owner, one, owned, owner_of}
use Rattle.version_cells.specs.Lists.{owner_at, owner_of_own}
use Rattle.version_cells.specs.declared.listing.Listing.{Listing}
use Rattle.version_cells.specs.Standing.{PassStanding}
use Rattle.version_cells.proofs.Sums.{total_push}
use Rattle.locked_jar.specs.declared.receipt.CallRefusal.{CallRefusal}
use Rattle.locked_jar.specs.declared.receipt.CallRefusal.TheVariants.{Spent, Pending, NotYet, NoMemory}
use Rattle.locked_jar.specs.declared.receipt.Receipt.{Receipt}
use Rattle.locked_jar.specs.Calls.{Answers, RefusesCall, noted, want_of, wanted}
use Rattle.locked_jar.specs.History.{IsHistory}
use Rattle.locked_jar.specs.LockedJars.{LockedJar, about_of, entered, journal_of, listing_at}
use Rattle.locked_jar.specs.Room.{is_served}
use Rattle.locked_jar.proofs.HistoryLemmas.{histories_go_on, journal_push}
use Rattle.locked_jar.proofs.RoomLemmas.{journals_have_room, served_are_owned}
use Rattle.store_vault.specs.declared.stored.Stored.{Stored}
use Rattle.store_vault.specs.declared.vault.TheConstants.{MOST_OWNS}
use Rattle.store_vault.specs.Cutting.{HasCut, Stays, did}
use Rattle.store_vault.specs.Loading.{rules_of}
use Rattle.locked_jar.specs.Passes.{HasAnswered, HasSeen}
use Rattle.shared_jar.specs.Together.{IsCaller, IsJar}

-- ---- room

-- so many entries more may stand
pub jar_room : (n : ℕ) (r : Rules) (table : TableId) (j : LockedJar) (cutter : PassStanding) (owns : ℕ) → n ≤ 1000 → length j.seen ≡ j.state.entries
    → j.state.calls ≤ j.limit → IsJar r table j cutter owns → j.state.entries + n ≤ MOST_ENTRIES
jar_room n r table j cutter owns small long few is =
    let room = journals_have_room r (journal_of j.seen) is.history.legal in
    let calls = ap (λ s. s.calls) is.state_is in
    let served = served_are_owned r cutter.view.number j.seen is.history is.above in
    let owned_are = is.owned_are in
    let owns_are = is.owns_are in
    let few_owns = is.few_owns in
    let limit = is.bounded.limit in
    let limit_is = is.limit_is in
    let keys = is.bounded.keys in
    let as_long : length (journal_of j.seen) ≡ length j.seen = length-map j.seen about_of in
    omega (arith, room, calls, served, owned_are, owns_are, few_owns, limit, limit_is, keys, as_long, long, few, small)

-- ---- an entry more

-- the history and the state go on with an event that stands
entered_goes_on : (r : Rules) (cutter : ℕ) (j : LockedJar) (v : Event) → IsHistory r cutter j.seen → j.state ≡ state_of (stored_keys r) (journal_of j.seen)
    → stands r j.state v ≡ true
    → IsHistory r cutter (entered j (owner_at cutter v) v).seen
    × ((entered j (owner_at cutter v) v).state ≡ state_of (stored_keys r) (journal_of (entered j (owner_at cutter v) v).seen))
entered_goes_on r cutter j v history state may =
    let s = state_of (stored_keys r) (journal_of j.seen) in
    let at : listing_at (owner_at cutter v) j.state v ≡ listing_at (owner_at cutter v) s v = ap (λ t. listing_at (owner_at cutter v) t v) state in (
      subst (λ l. IsHistory r cutter (j.seen ++ l ∷ [])) (sym at)
          (histories_go_on r cutter j.seen v history (subst (λ t. stands r t v ≡ true) state may)),
      ap (λ t. after t v) state
          ∙ (sym (state_push (stored_keys r) (journal_of j.seen) v)
          ∙ ap (state_of (stored_keys r)) (sym (journal_push j.seen (listing_at (owner_at cutter v) s v)) ∙ ap (λ l. journal_of (j.seen ++ l ∷ [])) (sym at))),
    )

-- an entry of another owner isn't the cutter's
owned_on : (cutter : ℕ) (history : List Listing) (l : Listing) → one (is_owner cutter (owner_of l)) ≡ 0 → owned cutter (history ++ l ∷ []) ≡ owned cutter history
owned_on cutter history l other =
    let h = total_push (λ (l : Listing). one (is_owner cutter (owner_of l))) history l in omega (arith, h, other)

-- a jar in which an event happened for another owner than the cutter
pub entered_jar : (r : Rules) (table : TableId) (j : LockedJar) (cutter : PassStanding) (owns : ℕ) (v : Event)
    → IsJar r table j cutter owns → stands r j.state v ≡ true → one (is_owner cutter.view.number (owner_at cutter.view.number v)) ≡ 0
    → IsJar r table (entered j (owner_at cutter.view.number v) v) cutter owns
entered_jar r table j cutter owns v is may other =
    let on = entered_goes_on r cutter.view.number j v is.history is.state_is may in
    record {
      bounded = is.bounded;
      table_is = is.table_is;
      limit_is = is.limit_is;
      history = on.0;
      state_is = on.1;
      home = is.home;
      above = is.above;
      owns_are = is.owns_are;
      owned_are = owned_on cutter.view.number j.seen (listing_at (owner_at cutter.view.number v) j.state v) other ∙ is.owned_are;
      few_owns = is.few_owns;
    }

pub both_true : (a b : Bool) → a ≡ true → b ≡ true → (a && b) ≡ true
both_true a b e f = ap (λ c. c && b) e ∙ f

call_stands : (r : Rules) (j : LockedJar) (caller now : ℕ) (op : Op) → caller + 1 ≤ r.callers → j.state.calls < j.limit → j.limit ≡ r.limit
    → is_well_keyed r op ≡ true → op_waits j.state op ≡ None → stands r j.state (CallEvent caller now op) ≡ true
call_stands r j caller now op among within limit keyed waits =
    let a : nat_lt caller r.callers ≡ true = grind (arith, nat_tests) in
    let b : nat_lt j.state.calls r.limit ≡ true = grind (arith, nat_tests) in
    both_true (nat_lt caller r.callers) (nat_lt j.state.calls r.limit && (is_well_keyed r op && is_none (op_waits j.state op))) a
    (both_true (nat_lt j.state.calls r.limit) (is_well_keyed r op && is_none (op_waits j.state op)) b
    (both_true (is_well_keyed r op) (is_none (op_waits j.state op)) keyed (ap is_none waits)))

-- a call was answered
pub called_jar : (r : Rules) (table : TableId) (j : LockedJar) (cutter : PassStanding) (owns caller now : ℕ) (op : Op)
    → IsJar r table j cutter owns → caller + 1 ≤ r.callers → j.state.calls < j.limit → is_well_keyed r op ≡ true → op_waits j.state op ≡ None
    → IsJar r table (entered j (Some caller) (CallEvent caller now op)) cutter owns
called_jar r table j cutter owns caller now op is among within keyed waits =
    let above = is.above in
    let ne : caller ≢ cutter.view.number = λ same. omega (arith, above, among, same) in
    entered_jar r table j cutter owns (CallEvent caller now op) is (call_stands r j caller now op among within is.limit_is keyed waits)
    (ap one (ne_eqb caller cutter.view.number ne))

noted_jar : (r : Rules) (table : TableId) (j : LockedJar) (cutter : PassStanding) (owns : ℕ) (what : Awaited) (may : Bool) → own_may_stand j.state (want_of what) ≡ may
    → IsJar r table j cutter owns → IsJar r table (noted may j (want_of what)) cutter owns
noted_jar r table j cutter owns what false e is = is
noted_jar r table j cutter owns (awaited.Key key) true e is =
    entered_jar r table j cutter owns (JarEvent (Want key)) is (both_true (own_may_stand j.state (Want key)) true e refl) refl
noted_jar r table j cutter owns awaited.All true e is =
    entered_jar r table j cutter owns (JarEvent WantAll) is (both_true (own_may_stand j.state WantAll) true e refl) refl

-- what a caller waits for was wanted
pub wanted_jar : (r : Rules) (table : TableId) (j : LockedJar) (cutter : PassStanding) (owns : ℕ) (what : Awaited) → IsJar r table j cutter owns
    → IsJar r table (wanted j what) cutter owns
wanted_jar r table j cutter owns what is = noted_jar r table j cutter owns what (own_may_stand j.state (want_of what)) refl is

-- ---- a call

module _ (stored : Stored) (callers : ℕ) (table : TableId) (cutter : PassStanding) (owns : ℕ) where
  abbrev IsAt : LockedJar → Type 0
  IsAt j = IsJar (rules_of stored callers j.limit) table j cutter owns

  refused_call : (j j' : LockedJar) (p q : PassStanding) (op : Op) (refusal : CallRefusal) → IsAt j → RefusesCall j j' p q op refusal → IsAt j'
  refused_call j j' p q op Spent is told = subst IsAt (sym told.1) is
  refused_call j j' p q op (Pending what) is told =
      subst IsAt (sym told.2) (wanted_at what (own_may_stand j.state (want_of what)) (wanted_jar (rules_of stored callers j.limit) table j cutter owns what is))
    where
      wanted_at : (what : Awaited) (may : Bool) → IsJar (rules_of stored callers j.limit) table (noted may j (want_of what)) cutter owns → IsAt (noted may j (want_of what))
      wanted_at what true on = on
      wanted_at what false on = on
  refused_call j j' p q op (NotYet found) is told = subst IsAt (sym told.2) is
  refused_call j j' p q op NoMemory is told = subst IsAt (sym told.1) is

  -- what always holds, after a call that was answered or refused
  pub after_call : (j j' : LockedJar) (p q : PassStanding) (op : Op) (now : ℕ) (result : Result Receipt CallRefusal) → IsAt j
      → p.view.number + 1 ≤ callers → is_well_keyed (rules_of stored callers j.limit) op ≡ true
      → IfOk result (Answers j j' p q op now) → IfErr result (RefusesCall j j' p q op) → IsAt j'
  after_call j j' p q op now (Ok receipt) is among keyed answered refused =
      subst IsAt (sym answered.jar)
      (called_jar (rules_of stored callers j.limit) table j cutter owns p.view.number now op is among answered.within keyed answered.there)
  after_call j j' p q op now (Err refusal) is among keyed answered refused = refused_call j j' p q op refusal is refused

-- ---- an entry of the cutter

-- the jar did this itself, where it may, and the cutter owns it
pub served_goes_on : (r : Rules) (cutter : ℕ) (j : LockedJar) (own : Own) → is_served own ≡ true → own_may_stand j.state own ≡ true → own_fits r own ≡ true
    → IsHistory r cutter j.seen → j.state ≡ state_of (stored_keys r) (journal_of j.seen)
    → IsHistory r cutter (did cutter j own).seen × ((did cutter j own).state ≡ state_of (stored_keys r) (journal_of (did cutter j own).seen))
served_goes_on r cutter j own served may fits history state =
    subst (λ o. IsHistory r cutter (entered j o (JarEvent own)).seen
    × ((entered j o (JarEvent own)).state ≡ state_of (stored_keys r) (journal_of (entered j o (JarEvent own)).seen))) (owner_served own cutter served)
    (entered_goes_on r cutter j (JarEvent own) history state (both_true (own_may_stand j.state own) (own_fits r own) may fits))
  where
    owner_served : (own : Own) (cutter : ℕ) → is_served own ≡ true → owner_of_own cutter own ≡ Some cutter
    owner_served (Want key) cutter e = absurd cc
    owner_served WantAll cutter e = absurd cc
    owner_served (Begun key) cutter e = refl
    owner_served (Loaded key cookies) cutter e = refl
    owner_served (Lost key) cutter e = refl
    owner_served (Whole now) cutter e = refl
    owner_served Taken cutter e = refl
    owner_served (Acked place) cutter e = refl
    owner_served (CommitLost place) cutter e = refl

-- a jar in which the cutter entered n things, of which the history and the state are known
pub cut_jar : (r : Rules) (table : TableId) (j j' : LockedJar) (p q : PassStanding) (owns owns' n : ℕ) → IsJar r table j p owns → HasCut n j j' p q
    → owns < MOST_OWNS → n ≤ 2 → j'.table ≡ j.table → j'.limit ≡ j.limit
    → IsHistory r p.view.number j'.seen → j'.state ≡ state_of (stored_keys r) (journal_of j'.seen) → owns' + p.view.calls ≡ owns + q.view.calls
    → IsJar r table j' q owns'
cut_jar r table j j' p q owns owns' n is cut under few table_same limit_same history state count =
    let calls = cut.calls in
    let owns_are = is.owns_are in
    let above = is.above in
    let number = cut.number in
    record {
      bounded = is.bounded;
      table_is = table_same ∙ is.table_is;
      limit_is = limit_same ∙ is.limit_is;
      history = subst (λ c. IsHistory r c j'.seen) (sym number) history;
      state_is = state;
      home = (cut.table ∙ is.home.0, cut.home);
      above = omega (arith, above, number);
      owns_are = omega (arith, count, owns_are);
      owned_are = ap (λ c. owned c j'.seen) number ∙ cut.owns;
      few_owns = omega (arith, calls, owns_are, count, under, few);
    }

-- where nothing happened, the same holds
pub stays_jar : (r : Rules) (table : TableId) (j j' : LockedJar) (p q : PassStanding) (owns owns' : ℕ) → IsJar r table j p owns → Stays j j' p q
    → owns' + p.view.calls ≡ owns + q.view.calls → IsJar r table j' q owns'
stays_jar r table j j' p q owns owns' is stays count =
    let calls = ap (λ (s : PassStanding). s.view.calls) stays.1 in
    subst (λ o. IsJar r table j' q o) (let e : owns ≡ owns' = omega (arith, count, calls) in e)
    (subst (λ s. IsJar r table j' s owns) (sym stays.1) (subst (λ k. IsJar r table k p owns) (sym stays.0) is))

-- ---- the caller's pass

pub seen_caller : (r : Rules) (table : TableId) (history : List Listing) (p q : PassStanding) → IsCaller r table p → HasSeen history p q → IsCaller r table q
seen_caller r table history p q is seen =
    let number = seen.met.number in
    let among = is.among in
    record {
      ready = (
        (seen.met.table ∙ is.ready.0.0, seen.met.home),
        ap (λ n. owned n q.front) number ∙ (ap (owned p.view.number) seen.front ∙ (is.ready.1 ∙ sym seen.calls)),
      );
      among = omega (arith, number, among);
    }

answered_caller : (r : Rules) (table : TableId) (before : List Listing) (e : Listing) (p q : PassStanding) → IsCaller r table p → HasAnswered before e p q → IsCaller r table q
answered_caller r table before e p q is told =
    let number = told.met.number in
    let among = is.among in
    record {
      ready = (
        (told.met.table ∙ is.ready.0.0, told.met.home),
        ap (λ n. owned n q.front) number ∙ (ap (owned p.view.number) told.front ∙ told.owns),
      );
      among = omega (arith, number, among);
    }

refused_caller : (r : Rules) (table : TableId) (j j' : LockedJar) (p q : PassStanding) (op : Op) (refusal : CallRefusal) → IsCaller r table p → RefusesCall j j' p q op refusal → IsCaller r table q
refused_caller r table j j' p q op Spent is told = seen_caller r table j'.seen p q is told.2
refused_caller r table j j' p q op (Pending what) is told = seen_caller r table j'.seen p q is told.3
refused_caller r table j j' p q op (NotYet found) is told = seen_caller r table j'.seen p q is told.3
refused_caller r table j j' p q op NoMemory is told = subst (IsCaller r table) (sym told.2) is

-- it stays a caller's pass, whether it was answered or refused
pub caller_after : (r : Rules) (table : TableId) (j j' : LockedJar) (p q : PassStanding) (op : Op) (now : ℕ) (result : Result Receipt CallRefusal) → IsCaller r table p
    → IfOk result (Answers j j' p q op now) → IfErr result (RefusesCall j j' p q op) → IsCaller r table q
caller_after r table j j' p q op now (Ok receipt) is answered refused = answered_caller r table j.seen _ p q is answered.pass
caller_after r table j j' p q op now (Err refusal) is answered refused = refused_caller r table j j' p q op refusal is refused
