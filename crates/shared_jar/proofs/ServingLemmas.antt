-- What always holds of a jar and its vault, after each load.
use Rattle.std.proofs.Common.{◌≡◌, ◌≤◌, ◌<◌, ◌+◌, ℕ, List, [], ◌∷◌, Bool, true, false, cond, Option, None, Some, length, refl, sym, ap, ◌∙◌, subst, arith, eq-eqb, ⊎_elim}
use Rattle.std.specs.Prelude.{◌||◌, nat_le, is_none, slice_get, bytes_eq, Result, Ok, Err, not, ◌==◌}
use Rattle.std.specs.Option.{option_or}
use Rattle.std.proofs.lemmas.Bool.{and_parts}
use Rattle.atomic_table.specs.Seated.{TableId}
use Rattle.jar_types.specs.declared.cookie.Cookie.{Cookie}
use Rattle.commit_batches.specs.declared.pending.TheConstants.{MOST_PENDING}
use Rattle.jar_types.specs.declared.entry.Own.{Own}
use Rattle.jar_types.specs.declared.entry.Own.TheVariants.{Begun, Loaded, Lost, Whole, Taken, Acked, CommitLost}
use Rattle.jar_types.specs.Batches.{is_out}
use Rattle.jar_types.specs.Journals.{Rules, own_fits, state_of, stored_keys}
use Rattle.jar_types.specs.Loads.{all_loaded, is_begun, is_the, may_load, next_key}
use Rattle.jar_types.specs.States.{JarState}
use Rattle.jar_types.specs.Steps.{own_may_stand}
use Rattle.stored_law.proofs.TextLemmas.{text_itself}
use Rattle.version_cells.specs.Standing.{PassStanding}
use Rattle.locked_jar.specs.History.{IsHistory}
use Rattle.locked_jar.specs.LockedJars.{LockedJar, journal_of}
use Rattle.locked_jar.specs.Owns.{is_batch_due}
use Rattle.store_vault.specs.declared.refusal.FlushRefusal.{FlushRefusal}
use Rattle.store_vault.specs.declared.refusal.FlushRefusal.TheVariants as refusal
use Rattle.store_vault.specs.Flushing.{Commits, IsFlush, Kept, Loses, taken_at}
use Rattle.store_vault.specs.declared.refusal.LoadRefusal.{LoadRefusal}
use Rattle.store_vault.specs.declared.refusal.LoadRefusal.TheVariants.{StoreFault, NoMemory, Spent}
use Rattle.store_vault.specs.declared.refusal.LoadStep.{LoadStep}
use Rattle.store_vault.specs.declared.refusal.LoadStep.TheVariants.{Key, Whole as IsWhole, Idle}
use Rattle.store_vault.specs.declared.stored.Stored.{Stored}
use Rattle.store_vault.specs.declared.vault.TheConstants.{MOST_OWNS}
use Rattle.store_vault.specs.Cutting.{HasCut, Stays, did, did_if_may}
use Rattle.store_vault.specs.Loading.{BeginsKey, IsLoad, rules_of}
use Rattle.shared_jar.specs.Together.{IsJar}
use Rattle.shared_jar.proofs.TogetherLemmas.{both_true, cut_jar, served_goes_on, stays_jar}

-- the history of a jar goes by the rules, and its state is the journal's
abbrev pub IsGoing : Rules → ℕ → LockedJar → Type 0
IsGoing r cutter j = IsHistory r cutter j.seen × (j.state ≡ state_of (stored_keys r) (journal_of j.seen))

-- ---- a key's load begins, and ends

begun_going_at : (r : Rules) (cutter : ℕ) (j : LockedJar) (key : List ℕ) (may : Bool) → own_may_stand j.state (Begun key) ≡ may → IsGoing r cutter j
    → IsGoing r cutter (cond may (did cutter j (Begun key)) j)
begun_going_at r cutter j key true e is = served_goes_on r cutter j (Begun key) refl e refl is.0 is.1
begun_going_at r cutter j key false e is = is

pub begun_going : (r : Rules) (cutter : ℕ) (j : LockedJar) (key : List ℕ) → IsGoing r cutter j → IsGoing r cutter (did_if_may cutter j (Begun key))
begun_going r cutter j key is = begun_going_at r cutter j key (own_may_stand j.state (Begun key)) refl is

-- the load of the key has then begun
begun_at : (cutter : ℕ) (j : LockedJar) (key : List ℕ) (o : Option (List ℕ)) (may : Bool) → j.state.loads.keys.begun ≡ o → own_may_stand j.state (Begun key) ≡ may
    → next_key j.state.loads.keys ≡ Some key → is_begun key (cond may (did cutter j (Begun key)) j).state.loads.keys ≡ true
begun_at cutter j key o true b e next = text_itself key
begun_at cutter j key (Some k) false b e next =
    let first : next_key j.state.loads.keys ≡ Some k =
    ap (λ o. option_or o (option_or (slice_get j.state.loads.keys.wanted 0) (slice_get j.state.loads.keys.unloaded 0))) b in
    let same : k ≡ key = let both : Some k ≡ Some key = sym first ∙ next in cc in
    ap (is_the key) b ∙ (ap (bytes_eq key) same ∙ text_itself key)
begun_at cutter j key None false b e next =
    let free : is_none j.state.loads.keys.begun ≡ true = ap is_none b in
    let named : is_the key (next_key j.state.loads.keys) ≡ true = ap (is_the key) next ∙ text_itself key in
    let may : own_may_stand j.state (Begun key) ≡ true =
    both_true (may_load (Begun key) j.state.loads) true (both_true (is_none j.state.loads.keys.begun) (is_the key (next_key j.state.loads.keys)) free named) refl in
    let z : true ≡ false = sym may ∙ e in absurd cc

pub has_begun : (cutter : ℕ) (j : LockedJar) (key : List ℕ) → next_key j.state.loads.keys ≡ Some key
    → is_begun key (did_if_may cutter j (Begun key)).state.loads.keys ≡ true
has_begun cutter j key next = begun_at cutter j key j.state.loads.keys.begun (own_may_stand j.state (Begun key)) refl refl next

-- it ends with these cookies
loaded_going : (r : Rules) (cutter : ℕ) (j : LockedJar) (key : List ℕ) (cookies : List Cookie) → own_fits r (Loaded key cookies) ≡ true
    → next_key j.state.loads.keys ≡ Some key → IsGoing r cutter j → IsGoing r cutter (did cutter (did_if_may cutter j (Begun key)) (Loaded key cookies))
loaded_going r cutter j key cookies fits next going =
    let on = begun_going r cutter j key going in
    served_goes_on r cutter (did_if_may cutter j (Begun key)) (Loaded key cookies) refl
    (both_true (is_begun key (did_if_may cutter j (Begun key)).state.loads.keys) true (has_begun cutter j key next) refl) fits on.0 on.1

-- or it is lost
lost_going : (r : Rules) (cutter : ℕ) (j : LockedJar) (key : List ℕ) → next_key j.state.loads.keys ≡ Some key → IsGoing r cutter j
    → IsGoing r cutter (did cutter (did_if_may cutter j (Begun key)) (Lost key))
lost_going r cutter j key next going =
    let on = begun_going r cutter j key going in
    served_goes_on r cutter (did_if_may cutter j (Begun key)) (Lost key) refl
    (both_true (is_begun key (did_if_may cutter j (Begun key)).state.loads.keys) true (has_begun cutter j key next) refl) refl on.0 on.1

same_limit : (may : Bool) (cutter : ℕ) (j : LockedJar) (own : Own) → (cond may (did cutter j own) j).limit ≡ j.limit
same_limit true cutter j own = refl
same_limit false cutter j own = refl

same_table : (may : Bool) (cutter : ℕ) (j : LockedJar) (own : Own) → (cond may (did cutter j own) j).table ≡ j.table
same_table true cutter j own = refl
same_table false cutter j own = refl

-- ---- the jar becomes whole

none_unloaded : (us : List (List ℕ)) → slice_get us 0 ≡ None → (length us == 0) ≡ true
none_unloaded [] e = refl
none_unloaded (u ∷ us) e = absurd cc

none_at : (begun : Option (List ℕ)) (wanted : Option (List ℕ)) (us : List (List ℕ)) → option_or begun (option_or wanted (slice_get us 0)) ≡ None → slice_get us 0 ≡ None
none_at (Some k) wanted us e = absurd cc
none_at None (Some k) us e = absurd cc
none_at None None us e = e

whole_may : (s : JarState) (start : ℕ) → next_key s.loads.keys ≡ None → s.loads.whole ≡ false → own_may_stand s (Whole start) ≡ true
whole_may s start none part =
    let all = none_unloaded s.loads.keys.unloaded (none_at s.loads.keys.begun (slice_get s.loads.keys.wanted 0) s.loads.keys.unloaded none) in
    both_true (may_load (Whole start) s.loads) true (both_true (not s.loads.whole) (all_loaded s.loads.keys) (ap not part) all) refl

whole_going : (r : Rules) (cutter : ℕ) (j : LockedJar) → next_key j.state.loads.keys ≡ None → j.state.loads.whole ≡ false → IsGoing r cutter j
    → IsGoing r cutter (did cutter j (Whole r.start))
whole_going r cutter j none part going =
    served_goes_on r cutter j (Whole r.start) refl (whole_may j.state r.start none part) (eq-eqb r.start r.start refl) going.0 going.1

-- ---- a load

module _ (stored : Stored) (callers : ℕ) (table : TableId) (j : LockedJar) (p : PassStanding) (owns : ℕ) where
  -- the jar after so many entries of the cutter, where it is this one
  at_cut : (j' k : LockedJar) (q : PassStanding) (owns' n : ℕ) → IsJar (rules_of stored callers j.limit) table j p owns → j' ≡ k → k.limit ≡ j.limit → k.table ≡ j.table
      → IsGoing (rules_of stored callers j.limit) p.view.number k → HasCut n j j' p q → owns < MOST_OWNS → n ≤ 2 → owns' + p.view.calls ≡ owns + q.view.calls
      → IsJar (rules_of stored callers j'.limit) table j' q owns'
  at_cut j' k q owns' n is same limit same_tab going cut under few count =
      let limit_is : j'.limit ≡ j.limit = ap (λ (i : LockedJar). i.limit) same ∙ limit in
      subst (λ l. IsJar (rules_of stored callers l) table j' q owns') (sym limit_is)
      (cut_jar (rules_of stored callers j.limit) table j j' p q owns owns' n is cut under few (ap (λ (i : LockedJar). i.table) same ∙ same_tab) limit_is
      (subst (λ (i : LockedJar). IsHistory (rules_of stored callers j.limit) p.view.number i.seen) (sym same) going.0)
      (subst (λ (i : LockedJar). i.state ≡ state_of (stored_keys (rules_of stored callers j.limit)) (journal_of i.seen)) (sym same) going.1) count)

  at_stay : (j' : LockedJar) (q : PassStanding) (owns' : ℕ) → IsJar (rules_of stored callers j.limit) table j p owns → Stays j j' p q
      → owns' + p.view.calls ≡ owns + q.view.calls → IsJar (rules_of stored callers j'.limit) table j' q owns'
  at_stay j' q owns' is stays count =
      subst (λ l. IsJar (rules_of stored callers l) table j' q owns') (sym (ap (λ (i : LockedJar). i.limit) stays.0))
      (stays_jar (rules_of stored callers j.limit) table j j' p q owns owns' is stays count)

  begins_at : (j' : LockedJar) (q : PassStanding) (owns' : ℕ) → IsJar (rules_of stored callers j.limit) table j p owns → owns < MOST_OWNS → BeginsKey j j' p q
      → owns' + p.view.calls ≡ owns + q.view.calls → IsJar (rules_of stored callers j'.limit) table j' q owns'
  begins_at j' q owns' is under begins count =
      at_cut j' (did p.view.number j (Begun begins.key)) q owns' 1 is begins.is refl refl
      (served_goes_on (rules_of stored callers j.limit) p.view.number j (Begun begins.key) refl begins.may refl is.history is.state_is)
      begins.cut under (omega arith) count

  pub after_load : (j' : LockedJar) (q : PassStanding) (owns' : ℕ) (result : Result LoadStep LoadRefusal) → IsJar (rules_of stored callers j.limit) table j p owns
      → IsLoad stored owns j j' p q result → owns' + p.view.calls ≡ owns + q.view.calls → IsJar (rules_of stored callers j'.limit) table j' q owns'
  after_load j' q owns' (Ok Idle) is told count = at_stay j' q owns' is told.1 count
  after_load j' q owns' (Ok IsWhole) is told count =
      let w = told.1 in
      at_cut j' (did p.view.number j (Whole stored.start)) q owns' 1 is w.is refl refl
      (whole_going (rules_of stored callers j.limit) p.view.number j w.none w.part (is.history, is.state_is)) w.cut told.0 (omega arith) count
  after_load j' q owns' (Ok Key) is told count =
      let l = told.1 in
      at_cut j' (did p.view.number (did_if_may p.view.number j (Begun l.key)) (Loaded l.key l.cookies)) q owns' l.n is l.is
      (same_limit (own_may_stand j.state (Begun l.key)) p.view.number j (Begun l.key)) (same_table (own_may_stand j.state (Begun l.key)) p.view.number j (Begun l.key))
      (loaded_going (rules_of stored callers j.limit) p.view.number j l.key l.cookies l.fits l.next (is.history, is.state_is)) l.cut told.0 l.few count
  after_load j' q owns' (Err StoreFault) is told count =
      let l = told.1 in
      at_cut j' (did p.view.number (did_if_may p.view.number j (Begun l.key)) (Lost l.key)) q owns' l.n is l.is
      (same_limit (own_may_stand j.state (Begun l.key)) p.view.number j (Begun l.key)) (same_table (own_may_stand j.state (Begun l.key)) p.view.number j (Begun l.key))
      (lost_going (rules_of stored callers j.limit) p.view.number j l.key l.next (is.history, is.state_is)) l.cut told.0 l.few count
  after_load j' q owns' (Err NoMemory) is told count =
      ⊎_elim (λ stays. at_stay j' q owns' is stays count) (λ begins. begins_at j' q owns' is told.1 begins count) told.2
  after_load j' q owns' (Err Spent) is told count = at_stay j' q owns' is told.2 count

-- callers may have as many entries as before
pub load_limit : (stored : Stored) (owns : ℕ) (j j' : LockedJar) (p q : PassStanding) (result : Result LoadStep LoadRefusal) → IsLoad stored owns j j' p q result
    → j'.limit ≡ j.limit
load_limit stored owns j j' p q (Ok Idle) told = ap (λ (i : LockedJar). i.limit) told.1.0
load_limit stored owns j j' p q (Ok IsWhole) told = ap (λ (i : LockedJar). i.limit) told.1.is
load_limit stored owns j j' p q (Ok Key) told =
    ap (λ (i : LockedJar). i.limit) told.1.is ∙ same_limit (own_may_stand j.state (Begun told.1.key)) p.view.number j (Begun told.1.key)
load_limit stored owns j j' p q (Err StoreFault) told =
    ap (λ (i : LockedJar). i.limit) told.1.is ∙ same_limit (own_may_stand j.state (Begun told.1.key)) p.view.number j (Begun told.1.key)
load_limit stored owns j j' p q (Err NoMemory) told =
    ⊎_elim (λ stays. ap (λ (i : LockedJar). i.limit) stays.0) (λ begins. ap (λ (i : LockedJar). i.limit) begins.is) told.2
load_limit stored owns j j' p q (Err Spent) told = ap (λ (i : LockedJar). i.limit) told.2.0

-- ---- a flush

-- callers may have as many entries as before
pub flush_limit : (force : Bool) (owns : ℕ) (j j' : LockedJar) (p q : PassStanding) (kept kept' : Kept) (result : Result ℕ FlushRefusal)
    → IsFlush force owns j j' p q kept kept' result → j'.limit ≡ j.limit
flush_limit force owns j j' p q kept kept' (Ok place) told =
    ⊎_elim (λ none. ap (λ (i : LockedJar). i.limit) none.1.0) (λ some. ap (λ (i : LockedJar). i.limit) some.2.is) told
flush_limit force owns j j' p q kept kept' (Err refusal.StoreFault) told = ap (λ (i : LockedJar). i.limit) told.2.is
flush_limit force owns j j' p q kept kept' (Err refusal.NoMemory) told =
    ⊎_elim (λ none. ap (λ (i : LockedJar). i.limit) none.0.0) (λ lost. ap (λ (i : LockedJar). i.limit) lost.is) told.2
flush_limit force owns j j' p q kept kept' (Err refusal.Spent) told = ap (λ (i : LockedJar). i.limit) told.2.0

-- a batch is taken where one is due
taken_going : (r : Rules) (cutter : ℕ) (j : LockedJar) (force : Bool) → is_batch_due force j.state ≡ true → IsGoing r cutter j → IsGoing r cutter (did cutter j Taken)
taken_going r cutter j force due going =
    served_goes_on r cutter j Taken refl
    (and_parts (own_may_stand j.state Taken) (force || nat_le MOST_PENDING (length j.state.batches.touched)) due).0 refl going.0 going.1

-- and has ended at its place
out_there : (cutter : ℕ) (j : LockedJar) → length j.seen ≡ j.state.entries → is_out (taken_at j) (did cutter j Taken).state.batches.out ≡ true
out_there cutter j long = eq-eqb (j.state.entries + 1) (length j.seen + 1) (ap (λ n. n + 1) (sym long))

acked_going : (r : Rules) (cutter : ℕ) (j : LockedJar) (force : Bool) → length j.seen ≡ j.state.entries → is_batch_due force j.state ≡ true → IsGoing r cutter j
    → IsGoing r cutter (did cutter (did cutter j Taken) (Acked (taken_at j)))
acked_going r cutter j force long due going =
    let on = taken_going r cutter j force due going in
    served_goes_on r cutter (did cutter j Taken) (Acked (taken_at j)) refl (out_there cutter j long) refl on.0 on.1

lost_batch_going : (r : Rules) (cutter : ℕ) (j : LockedJar) (force : Bool) → length j.seen ≡ j.state.entries → is_batch_due force j.state ≡ true → IsGoing r cutter j
    → IsGoing r cutter (did cutter (did cutter j Taken) (CommitLost (taken_at j)))
lost_batch_going r cutter j force long due going =
    let on = taken_going r cutter j force due going in
    served_goes_on r cutter (did cutter j Taken) (CommitLost (taken_at j)) refl (out_there cutter j long) refl on.0 on.1

module _ (stored : Stored) (callers : ℕ) (table : TableId) (j : LockedJar) (p : PassStanding) (owns : ℕ) (force : Bool) (long : length j.seen ≡ j.state.entries) where
  commits_at : (j' : LockedJar) (q : PassStanding) (owns' : ℕ) (kept kept' : Kept) → IsJar (rules_of stored callers j.limit) table j p owns → is_batch_due force j.state ≡ true
      → owns < MOST_OWNS → Commits j j' p q kept kept' → owns' + p.view.calls ≡ owns + q.view.calls → IsJar (rules_of stored callers j'.limit) table j' q owns'
  commits_at j' q owns' kept kept' is due under told count =
      at_cut stored callers table j p owns j' (did p.view.number (did p.view.number j Taken) (Acked (taken_at j))) q owns' 2 is told.is refl refl
      (acked_going (rules_of stored callers j.limit) p.view.number j force long due (is.history, is.state_is)) told.cut under (omega arith) count

  loses_at : (j' : LockedJar) (q : PassStanding) (owns' : ℕ) (kept kept' : Kept) → IsJar (rules_of stored callers j.limit) table j p owns → is_batch_due force j.state ≡ true
      → owns < MOST_OWNS → Loses j j' p q kept kept' → owns' + p.view.calls ≡ owns + q.view.calls → IsJar (rules_of stored callers j'.limit) table j' q owns'
  loses_at j' q owns' kept kept' is due under told count =
      at_cut stored callers table j p owns j' (did p.view.number (did p.view.number j Taken) (CommitLost (taken_at j))) q owns' 2 is told.is refl refl
      (lost_batch_going (rules_of stored callers j.limit) p.view.number j force long due (is.history, is.state_is)) told.cut under (omega arith) count

  pub after_flush : (j' : LockedJar) (q : PassStanding) (owns' : ℕ) (kept kept' : Kept) (result : Result ℕ FlushRefusal) → IsJar (rules_of stored callers j.limit) table j p owns
      → IsFlush force owns j j' p q kept kept' result → owns' + p.view.calls ≡ owns + q.view.calls → IsJar (rules_of stored callers j'.limit) table j' q owns'
  after_flush j' q owns' kept kept' (Ok place) is told count =
      ⊎_elim (λ none. at_stay stored callers table j p owns j' q owns' is none.1 count)
      (λ some. commits_at j' q owns' kept kept' is some.0 some.1 some.2 count) told
  after_flush j' q owns' kept kept' (Err refusal.StoreFault) is told count = loses_at j' q owns' kept kept' is told.0 told.1 told.2 count
  after_flush j' q owns' kept kept' (Err refusal.NoMemory) is told count =
      ⊎_elim (λ none. at_stay stored callers table j p owns j' q owns' is none.0 count) (λ lost. loses_at j' q owns' kept kept' is told.0 told.1 lost count) told.2
  after_flush j' q owns' kept kept' (Err refusal.Spent) is told count = at_stay stored callers table j p owns j' q owns' is told.2 count
