-- How many faults a jar's journal tells of after each call, load and flush, and how often the
-- keeper's count rose.
use Rattle.std.proofs.Common.{◌≡◌, ◌+◌, ℕ, suc, List, [], ◌∷◌, ◌++◌, Bool, true, false, cond}
use Rattle.std.proofs.Common.{Option, None, Some, Result, Ok, Err, refl, ap, sym, ◌∙◌, arith, subst}
use Rattle.std.proofs.Common.{⊎_elim}
use Rattle.std.specs.Prelude.{◌⊎◌, IfOk, IfErr}
use Rattle.std.proofs.lemmas.List.Sums.{sum_by-append, sum_by-cons}
use Rattle.jar_edge.specs.Faults.{Rose}
use Rattle.jar_types.specs.declared.entry.Entry.{Entry}
use Rattle.jar_types.specs.declared.entry.Event.{Event}
use Rattle.jar_types.specs.declared.entry.Event.TheVariants.{Call as CallEvent, Jar as JarEvent}
use Rattle.jar_types.specs.declared.entry.Own.TheVariants.{Want, WantAll, Begun, Loaded, Lost}
use Rattle.jar_types.specs.declared.entry.Own.TheVariants.{Whole, Taken, Acked, CommitLost}
use Rattle.jar_types.specs.declared.jar_core.Awaited.{Awaited}
use Rattle.jar_types.specs.declared.jar_core.Awaited.TheVariants as awaited
use Rattle.jar_types.specs.declared.op.Op.{Op}
use Rattle.jar_types.specs.Steps.{entry_of, own_may_stand}
use Rattle.version_cells.specs.Standing.{PassStanding}
use Rattle.locked_jar.specs.declared.receipt.CallRefusal.{CallRefusal}
use Rattle.locked_jar.specs.declared.receipt.CallRefusal.TheVariants as call
use Rattle.locked_jar.specs.declared.receipt.Receipt.{Receipt}
use Rattle.locked_jar.specs.Calls.{Answers, RefusesCall, noted, want_of}
use Rattle.locked_jar.specs.LockedJars.{LockedJar, entered, journal_of}
use Rattle.store_vault.specs.declared.refusal.FlushRefusal.{FlushRefusal}
use Rattle.store_vault.specs.declared.refusal.FlushRefusal.TheVariants as flush
use Rattle.store_vault.specs.declared.refusal.LoadRefusal.{LoadRefusal}
use Rattle.store_vault.specs.declared.refusal.LoadRefusal.TheVariants as load
use Rattle.store_vault.specs.declared.refusal.LoadStep.{LoadStep}
use Rattle.store_vault.specs.declared.refusal.LoadStep.TheVariants.{Key, Whole as IsWhole, Idle}
use Rattle.store_vault.specs.declared.stored.Stored.{Stored}
use Rattle.store_vault.specs.Cutting.{Stays, did, did_if_may}
use Rattle.store_vault.specs.Flushing.{Commits, CountsFlush, IsFlush, Kept, Loses, taken_at}
use Rattle.store_vault.specs.Loading.{BeginsKey, CountsLoad, IsLoad}
use Rattle.shared_jar.specs.Faults.{CountsFaults, RoseTimes, faults_in, is_fault}
use Rattle.shared_jar.proofs.BesideLemmas.{journal_on}

-- ---- what a journal tells of

-- one for an entry that tells of a fault
abbrev one_if : Bool → ℕ
one_if b = cond b 1 0

faults_push : (journal : List Entry) (e : Entry)
    → faults_in (journal ++ e ∷ []) ≡ faults_in journal + one_if (is_fault e)
faults_push journal e =
    let both = sum_by-append (λ x. one_if (is_fault x)) journal (e ∷ []) in
    let last = sum_by-cons (λ x. one_if (is_fault x)) e [] in
    both ∙ ap (λ n. faults_in journal + n) (last ∙ omega arith)

-- of how many faults a jar's journal tells
abbrev faults_of : LockedJar → ℕ
faults_of j = faults_in (journal_of j.seen)

faults_on : (o : Option ℕ) (j : LockedJar) (v : Event)
    → faults_of (entered j o v) ≡ faults_of j + one_if (is_fault (entry_of j.state v))
faults_on o j v =
    ap faults_in (journal_on o j v) ∙ faults_push (journal_of j.seen) (entry_of j.state v)

-- an entry that tells of none
quiet_on : (o : Option ℕ) (j : LockedJar) (v : Event) → is_fault (entry_of j.state v) ≡ false
    → faults_of (entered j o v) ≡ faults_of j
quiet_on o j v none = faults_on o j v ∙ (ap (λ b. faults_of j + one_if b) none ∙ omega arith)

-- an entry that tells of one
fault_on : (o : Option ℕ) (j : LockedJar) (v : Event) → is_fault (entry_of j.state v) ≡ true
    → faults_of (entered j o v) ≡ suc (faults_of j)
fault_on o j v one = faults_on o j v ∙ (ap (λ b. faults_of j + one_if b) one ∙ omega arith)

-- ---- how often the count rose

-- nothing more is told, and the count stays
same_count : (j k : LockedJar) (before now : ℕ) (starved starved' : Bool)
    → faults_of k ≡ faults_of j → now ≡ before → starved' ≡ starved
    → CountsFaults j k before now starved starved'
same_count j k before now starved starved' told same fed first rose none =
    subst (λ n. RoseTimes n first now) (sym told)
    (subst (RoseTimes (faults_of j) first) (sym same) (rose (sym fed ∙ none)))

-- one more is told, and the count rose
one_more : (j k : LockedJar) (before now : ℕ) (starved starved' : Bool)
    → faults_of k ≡ suc (faults_of j) → Rose before now → starved' ≡ starved
    → CountsFaults j k before now starved starved'
one_more j k before now starved starved' told rise fed first rose none =
    subst (λ n. RoseTimes n first now) (sym told) (before, rose (sym fed ∙ none), rise)

-- the vault is starved
starving : (j k : LockedJar) (before now : ℕ) (starved starved' : Bool) → starved' ≡ true
    → CountsFaults j k before now starved starved'
starving j k before now starved starved' is first rose none =
    let both : true ≡ false = sym is ∙ none in absurd cc

-- ---- a call

noted_faults : (j : LockedJar) (may : Bool) (what : Awaited)
    → faults_of (noted may j (want_of what)) ≡ faults_of j
noted_faults j false what = refl
noted_faults j true (awaited.Key key) = quiet_on None j (JarEvent (Want key)) refl
noted_faults j true awaited.All = quiet_on None j (JarEvent WantAll) refl

refused_faults : (j k : LockedJar) (p q : PassStanding) (op : Op) (refusal : CallRefusal)
    → RefusesCall j k p q op refusal → faults_of k ≡ faults_of j
refused_faults j k p q op call.Spent told = ap faults_of told.1
refused_faults j k p q op (call.Pending what) told =
    ap faults_of told.2 ∙ noted_faults j (own_may_stand j.state (want_of what)) what
refused_faults j k p q op (call.NotYet found) told = ap faults_of told.2
refused_faults j k p q op call.NoMemory told = ap faults_of told.1

call_faults : (j k : LockedJar) (p q : PassStanding) (op : Op) (now : ℕ)
    (result : Result Receipt CallRefusal) → IfOk result (Answers j k p q op now)
    → IfErr result (RefusesCall j k p q op) → faults_of k ≡ faults_of j
call_faults j k p q op now (Ok receipt) answered refused =
    ap faults_of answered.jar ∙ quiet_on (Some p.view.number) j (CallEvent p.view.number now op)
    refl
call_faults j k p q op now (Err refusal) answered refused =
    refused_faults j k p q op refusal refused

-- a call tells of no fault, and the keeper isn't asked
pub call_counts : (j k : LockedJar) (p q : PassStanding) (op : Op) (now : ℕ)
    (result : Result Receipt CallRefusal) (count : ℕ) (starved : Bool)
    → IfOk result (Answers j k p q op now) → IfErr result (RefusesCall j k p q op)
    → CountsFaults j k count count starved starved
call_counts j k p q op now result count starved answered refused =
    same_count j k count count starved starved (call_faults j k p q op now result answered refused)
    refl refl

-- ---- a load

begun_faults : (cutter : ℕ) (may : Bool) (j : LockedJar) (key : List ℕ)
    → faults_of (cond may (did cutter j (Begun key)) j) ≡ faults_of j
begun_faults cutter true j key = quiet_on (Some cutter) j (JarEvent (Begun key)) refl
begun_faults cutter false j key = refl

module _ (stored : Stored) (j k : LockedJar) (p q : PassStanding) (owns before now : ℕ)
    (starved starved' : Bool) where
  same_told : Stays j k p q → (now ≡ before) × (starved' ≡ starved)
      → CountsFaults j k before now starved starved'
  same_told stays count =
      same_count j k before now starved starved' (ap faults_of stays.0) count.0 count.1

  begins_told : BeginsKey j k p q → (now ≡ before) × (starved' ≡ starved)
      → CountsFaults j k before now starved starved'
  begins_told begins count =
      same_count j k before now starved starved'
      (ap faults_of begins.is ∙ quiet_on (Some p.view.number) j (JarEvent (Begun begins.key)) refl)
      count.0 count.1

  -- a load tells of a fault just where the keeper's count rose, but where the vault is starved then
  pub load_counts : (result : Result LoadStep LoadRefusal) → IsLoad stored owns j k p q result
      → CountsLoad before now starved starved' result
      → CountsFaults j k before now starved starved'
  load_counts (Ok Idle) is count = same_told is.1 count
  load_counts (Ok IsWhole) is count =
      same_count j k before now starved starved'
      (ap faults_of is.1.is ∙ quiet_on (Some p.view.number) j (JarEvent (Whole stored.start)) refl)
      count.0 count.1
  load_counts (Ok Key) is count =
      let l = is.1 in
      let mid = did_if_may p.view.number j (Begun l.key) in
      same_count j k before now starved starved'
      (ap faults_of l.is
      ∙ (quiet_on (Some p.view.number) mid (JarEvent (Loaded l.key l.cookies)) refl
      ∙ begun_faults p.view.number (own_may_stand j.state (Begun l.key)) j l.key)) count.0 count.1
  load_counts (Err load.StoreFault) is count =
      let l = is.1 in
      let mid = did_if_may p.view.number j (Begun l.key) in
      one_more j k before now starved starved'
      (ap faults_of l.is
      ∙ (fault_on (Some p.view.number) mid (JarEvent (Lost l.key)) refl
      ∙ ap suc (begun_faults p.view.number (own_may_stand j.state (Begun l.key)) j l.key))) count.0
      count.1
  load_counts (Err load.NoMemory) is count =
      ⊎_elim (λ same. ⊎_elim (λ stays. same_told stays same) (λ begins. begins_told begins same)
      is.2)
      (λ rose. starving j k before now starved starved' rose.1) count
  load_counts (Err load.Spent) is count = same_told is.2 count

-- ---- a flush

no_fault_taken : (cutter : ℕ) (j : LockedJar) → faults_of (did cutter j Taken) ≡ faults_of j
no_fault_taken cutter j = quiet_on (Some cutter) j (JarEvent Taken) refl

two_more_once : (calls calls' : ℕ) → calls' ≡ calls → calls' ≡ calls + 2 → ⊥
two_more_once calls calls' same more = omega (arith, same, more)

module _ (j k : LockedJar) (p q : PassStanding) (owns before now : ℕ) (starved starved' : Bool)
    (force : Bool) where
  abbrev Counts : Type 0
  Counts = CountsFaults j k before now starved starved'

  stays_told : Stays j k p q → (now ≡ before) × (starved' ≡ starved) → Counts
  stays_told stays count =
      same_count j k before now starved starved' (ap faults_of stays.0) count.0 count.1

  commits_told : (kept kept' : Kept) → Commits j k p q kept kept'
      → (now ≡ before) × (starved' ≡ starved) → Counts
  commits_told kept kept' told count =
      same_count j k before now starved starved'
      (ap faults_of told.is
      ∙ (quiet_on (Some p.view.number) (did p.view.number j Taken) (JarEvent (Acked (taken_at j)))
      refl ∙ no_fault_taken p.view.number j))
      count.0 count.1

  loses_told : (kept kept' : Kept) → Loses j k p q kept kept'
      → Rose before now × (starved' ≡ starved) → Counts
  loses_told kept kept' told count =
      one_more j k before now starved starved'
      (ap faults_of told.is
      ∙ (fault_on (Some p.view.number) (did p.view.number j Taken)
      (JarEvent (CommitLost (taken_at j))) refl
      ∙ ap suc (no_fault_taken p.view.number j))) count.0 count.1

  -- where memory was wanting: before a batch was taken, or in its commit, and then the vault is
  -- starved
  starved_told : (kept kept' : Kept) → (Stays j k p q × (kept' ≡ kept)) ⊎ Loses j k p q kept kept'
      → (now ≡ before) × (((q.view.calls ≡ p.view.calls) × (starved' ≡ starved)) ⊎
      ((q.view.calls ≡ p.view.calls + 2) × (starved' ≡ true))) → Counts
  starved_told kept kept' told count =
      ⊎_elim (λ same.
      ⊎_elim (λ stays. stays_told stays.0 (count.0, same.1))
      (λ lost. absurd (two_more_once p.view.calls q.view.calls same.0 lost.cut.calls)) told)
      (λ starves. starving j k before now starved starved' starves.1) count.1

  -- a flush tells of a fault just where the keeper's count rose, but where the vault is starved
  -- then
  pub flush_counts : (kept kept' : Kept) (result : Result ℕ FlushRefusal)
      → IsFlush force owns j k p q kept kept' result
      → CountsFlush before now p.view.calls q.view.calls starved starved' result → Counts
  flush_counts kept kept' (Ok place) is count =
      ⊎_elim (λ none. stays_told none.1 count) (λ some. commits_told kept kept' some.2 count) is
  flush_counts kept kept' (Err flush.StoreFault) is count = loses_told kept kept' is.2 count
  flush_counts kept kept' (Err flush.NoMemory) is count = starved_told kept kept' is.2 count
  flush_counts kept kept' (Err flush.Spent) is count = stays_told is.2 count
