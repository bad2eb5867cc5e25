-- What lies under the two locks is a jar and its vault together, and the other way round; and a
-- call keeps what lies under the jar's.
use Rattle.std.proofs.Common.{◌≡◌, ◌≤◌, ◌+◌, ℕ, List, [], ◌++◌, true, refl, sym, ap, ◌∙◌, subst, arith}
use Rattle.std.specs.Prelude.{Result, Ok, Err, IfOk, IfErr}
use Rattle.atomic_table.specs.Seated.{TableId}
use Rattle.jar_types.specs.declared.op.Op.{Op}
use Rattle.jar_types.specs.Journals.{Rules, events, is_well_keyed, stored_keys}
use Rattle.jar_types.specs.States.{opening}
use Rattle.version_cells.specs.declared.listing.Listing.{Listing}
use Rattle.version_cells.specs.Listings.{owned}
use Rattle.version_cells.specs.Lists.{Lists}
use Rattle.version_cells.specs.Standing.{PassStanding}
use Rattle.version_cells.specs.Views.{new_pass}
use Rattle.locked_jar.specs.declared.receipt.CallRefusal.{CallRefusal}
use Rattle.locked_jar.specs.declared.receipt.CallRefusal.TheVariants as call
use Rattle.locked_jar.specs.declared.receipt.Receipt.{Receipt}
use Rattle.locked_jar.specs.Calls.{Answers, RefusesCall}
use Rattle.locked_jar.specs.History.{IsHistory}
use Rattle.locked_jar.specs.LockedJars.{LockedJar, LockedView, journal_of}
use Rattle.locked_jar.specs.Passes.{HasSeen, IsHome}
use Rattle.locked_jar.proofs.PassLemmas.{none_since}
use Rattle.store_vault.specs.declared.stored.Stored.{Stored}
use Rattle.store_vault.specs.Loading.{rules_of}
use Rattle.shared_jar.specs.Ending.{HasEnded, last_acked}
use Rattle.shared_jar.specs.Sharing.{IsState, IsVault}
use Rattle.shared_jar.specs.Together.{IsJar}
use Rattle.shared_jar.proofs.EndingLemmas.{acked_same, ended_call}
use Rattle.shared_jar.proofs.TogetherLemmas.{called_jar, wanted_jar}

-- ---- both together

-- a jar and its vault are what lies under the jar's lock
pub state_of_jar : (r : Rules) (table : TableId) (cutter : ℕ) (j : LockedJar) (p : PassStanding)
    (owns acked : ℕ) → p.view.number ≡ cutter
    → IsJar r table j p owns → HasEnded j acked → IsState r table cutter j
state_of_jar r table cutter j p owns acked number is ended =
    let above = is.above in
    let few = is.few_owns in
    let owns_are = is.owns_are in
    let owned_are : owned cutter j.seen ≡ p.view.calls = ap (λ n. owned n j.seen) (sym number) ∙
    is.owned_are in
    record {
      bounded = is.bounded;
      above = omega (arith, above, number);
      table_is = is.table_is;
      limit_is = is.limit_is;
      history = subst (λ n. IsHistory r n j.seen) number is.history;
      state_is = is.state_is;
      none_out = ended.none_out;
      few_owned = omega (arith, owned_are, owns_are, few);
    }

-- and the other way round, once the vault's pass has met the jar
pub jar_of_state : (r : Rules) (table : TableId) (cutter : ℕ) (j : LockedJar) (p : PassStanding)
    (owns : ℕ) → p.view.number ≡ cutter → IsHome table p
    → owns ≡ p.view.calls → owned p.view.number j.seen ≡ p.view.calls → IsState r table cutter j
    → IsJar r table j p owns
jar_of_state r table cutter j p owns number home owns_are owned_are is =
    let above = is.above in
    let few = is.few_owned in
    let same : owned cutter j.seen ≡ p.view.calls = ap (λ n. owned n j.seen) (sym number) ∙
    owned_are in
    record {
      bounded = is.bounded;
      table_is = is.table_is;
      limit_is = is.limit_is;
      history = subst (λ n. IsHistory r n j.seen) (sym number) is.history;
      state_is = is.state_is;
      home = home;
      above = omega (arith, above, number);
      owns_are = owns_are;
      owned_are = owned_are;
      few_owns = omega (arith, few, same, owns_are);
    }

-- a pass that met a history is at home
pub met_home : (table : TableId) (history : List Listing) (p q : PassStanding) → IsHome table p
    → HasSeen history p q → IsHome table q
met_home table history p q home seen = (seen.met.table ∙ home.0, seen.met.home)

-- the last batch that was committed is that of the jar's history too, which has no entry of the
-- vault's pass that it hasn't seen
pub acked_there : (r : Rules) (table : TableId) (cutter : ℕ) (stored : Stored) (j : LockedJar)
    (p q : PassStanding) (owns acked : ℕ)
    → IsState r table cutter j → IsVault r table cutter stored p owns acked → HasSeen j.seen p q
    → HasEnded j acked
acked_there r table cutter stored j p q owns acked state vault seen =
    let on = none_since p.view.number j.seen p.view.own.seen seen.met.begins
    (seen.owns ∙ sym vault.owned_are) in
    let lists : Lists cutter (opening (stored_keys r)) (events (journal_of j.seen))
    (p.view.own.seen ++ on.0) =
    subst (Lists cutter (opening (stored_keys r)) (events (journal_of j.seen))) on.1
    state.history.listed in
    record {
      none_out = state.none_out;
      acked_is =
          vault.acked_is
          ∙ (sym (acked_same cutter (opening (stored_keys r)) (events (journal_of j.seen))
          p.view.own.seen on.0 lists
          (ap (λ n. owned n on.0) (sym vault.number_is) ∙ on.2))
          ∙ ap (λ (h : List Listing). last_acked (journal_of h)) (sym on.1));
    }

-- once the vault's pass has met the jar, both are a jar and its vault together
pub together : (r : Rules) (table : TableId) (cutter : ℕ) (stored : Stored) (j : LockedJar)
    (p q : PassStanding) (owns acked : ℕ)
    → IsState r table cutter j → IsVault r table cutter stored p owns acked → HasSeen j.seen p q
    → IsJar r table j q owns
together r table cutter stored j p q owns acked state vault seen =
    jar_of_state r table cutter j q owns (seen.met.number ∙ vault.number_is)
    (met_home table j.seen p q vault.home seen)
    (vault.owns_are ∙ sym seen.calls) (ap (λ n. owned n j.seen) seen.met.number ∙
    (seen.owns ∙ sym seen.calls)) state

-- a vault whose pass has seen the jar's history is what lies under the vault's lock
pub vault_of_jar : (r : Rules) (table : TableId) (cutter : ℕ) (stored : Stored) (j : LockedJar)
    (p : PassStanding) (owns acked : ℕ)
    → p.view.number ≡ cutter → rules_of stored r.callers r.limit ≡ r → p.view.own.seen ≡ j.seen
    → IsJar r table j p owns → HasEnded j acked
    → IsVault r table cutter stored p owns acked
vault_of_jar r table cutter stored j p owns acked number rules seen is ended = record {
  home = is.home;
  number_is = number;
  rules_are = rules;
  owns_are = is.owns_are;
  owned_are = ap (owned p.view.number) seen ∙ is.owned_are;
  acked_is = ended.acked_is ∙ ap (λ (h : List Listing). last_acked (journal_of h)) (sym seen);
}

-- a jar and its vault, whose pass met the jar again
pub met_jar : (r : Rules) (table : TableId) (j : LockedJar) (p q : PassStanding) (owns : ℕ)
    → IsJar r table j p owns → HasSeen j.seen p q → IsJar r table j q owns
met_jar r table j p q owns is seen =
    let above = is.above in
    let number = seen.met.number in
    record {
      bounded = is.bounded;
      table_is = is.table_is;
      limit_is = is.limit_is;
      history = subst (λ n. IsHistory r n j.seen) (sym number) is.history;
      state_is = is.state_is;
      home = met_home table j.seen p q is.home seen;
      above = omega (arith, above, number);
      owns_are = is.owns_are ∙ sym seen.calls;
      owned_are = ap (λ n. owned n j.seen) number ∙ (seen.owns ∙ sym seen.calls);
      few_owns = is.few_owns;
    }

-- ---- a call

module _ (r : Rules) (table : TableId) (p q : PassStanding) (op : Op) where
  called_by : (cutter : PassStanding) (owns now : ℕ) (j j' : LockedJar)
      (result : Result Receipt CallRefusal) → IsJar r table j cutter owns
      → p.view.number + 1 ≤ r.callers → is_well_keyed r op ≡ true
      → IfOk result (Answers j j' p q op now) → IfErr result (RefusesCall j j' p q op)
      → IsJar r table j' cutter owns
  called_by cutter owns now j j' (Ok receipt) is among keyed answered refused =
      subst (λ k. IsJar r table k cutter owns) (sym answered.jar)
      (called_jar r table j cutter owns p.view.number now op is among answered.within keyed
      answered.there)
  called_by cutter owns now j j' (Err call.Spent) is among keyed answered refused =
      subst (λ k. IsJar r table k cutter owns) (sym refused.1) is
  called_by cutter owns now j j' (Err (call.Pending what)) is among keyed answered refused =
      subst (λ k. IsJar r table k cutter owns) (sym refused.2)
      (wanted_jar r table j cutter owns what is)
  called_by cutter owns now j j' (Err (call.NotYet found)) is among keyed answered refused =
      subst (λ k. IsJar r table k cutter owns) (sym refused.2) is
  called_by cutter owns now j j' (Err call.NoMemory) is among keyed answered refused =
      subst (λ k. IsJar r table k cutter owns) (sym refused.1) is

-- a pass of this number that owns just its entries of a history
abbrev pub owner_of_all : TableId → ℕ → List Listing → PassStanding
owner_of_all table cutter history =
    record {
      table = table;
      view = record (new_pass cutter) { calls = owned cutter history };
      front
          = [];
    }

-- under the jar's lock lies a jar, whose vault may have any pass that owns its entries
pub any_vault : (r : Rules) (table : TableId) (cutter : ℕ) (j : LockedJar)
    → IsState r table cutter j
    → IsJar r table j (owner_of_all table cutter j.seen) (owned cutter j.seen)
any_vault r table cutter j is =
    jar_of_state r table cutter j (owner_of_all table cutter j.seen) (owned cutter j.seen) refl
    (refl, refl) refl refl is

-- what lies under the jar's lock after a call, whether it was answered or refused
pub state_after_call : (r : Rules) (table : TableId) (cutter : ℕ) (p q : PassStanding) (op : Op)
    (now : ℕ) (j j' : LockedJar) (result : Result Receipt CallRefusal)
    → IsState r table cutter j → p.view.number + 1 ≤ r.callers → is_well_keyed r op ≡ true
    → IfOk result (Answers j j' p q op now) → IfErr result (RefusesCall j j' p q op)
    → IsState r table cutter j'
state_after_call r table cutter p q op now j j' result is among keyed answered refused =
    let owner = owner_of_all table cutter j.seen in
    let ended = ended_call j j' p q op now (last_acked (journal_of j.seen)) result
    (record { none_out = is.none_out; acked_is = refl }) answered refused in
    state_of_jar r table cutter j' owner (owned cutter j.seen) (last_acked (journal_of j.seen)) refl
    (called_by r table p q op owner (owned cutter j.seen) now j j' result
    (any_vault r table cutter j is) among keyed answered refused) ended

-- ---- into the locks and out of them

-- A jar l by the rules r, which its cutter's pass p met and became q, where it is then l', is put
-- under locks that the rules s, the words `named` and this cutter name
module _ (r s : Rules) (table named : TableId) (cutter : ℕ) (l l' : LockedView) (p q : PassStanding)
    (owns acked : ℕ)
    (rules : r ≡ s) (words : table ≡ named) (number : p.view.number ≡ cutter) (same : l' ≡ l)
    (is : IsJar r table l.jar p owns) (ended : HasEnded l.jar acked) (seen : HasSeen l.jar.seen p q)
  where
    met_named : IsJar s named l'.jar q owns
    met_named =
        subst (λ (k : LockedView). IsJar s named k.jar q owns) (sym same)
        (subst (λ t. IsJar s t l.jar q owns) words (subst (λ x. IsJar x table l.jar q owns) rules
        (met_jar r table l.jar p q owns is seen)))

    met_ended : HasEnded l'.jar acked
    met_ended = subst (λ (k : LockedView). HasEnded k.jar acked) (sym same) ended

    pub shared_state : IsState s named cutter l'.jar
    shared_state =
        state_of_jar s named cutter l'.jar q owns acked (seen.met.number ∙ number) met_named met_ended

    pub shared_vault : (stored : Stored) → rules_of stored s.callers s.limit ≡ s
        → IsVault s named cutter stored q owns acked
    shared_vault stored stored_are =
        vault_of_jar s named cutter stored l'.jar q owns acked (seen.met.number ∙ number) stored_are
        (seen.met.seen ∙ ap (λ (k : LockedView). k.jar.seen) (sym same)) met_named met_ended

-- the rules over stored hosts name their callers and their limit
pub stored_rules : (stored : Stored) (callers limit : ℕ) (s : Rules)
    → rules_of stored callers limit ≡ s → rules_of stored s.callers s.limit ≡ s
stored_rules stored callers limit s e = subst (λ x. rules_of stored x.callers x.limit ≡ x) e refl

-- what lay under the locks, once the vault's pass met the jar, is a jar
module _ (s : Rules) (table named : TableId) (cutter callers : ℕ) (stored : Stored)
    (l l' : LockedView) (p q : PassStanding) (owns acked : ℕ)
    (words : table ≡ named) (counts : callers ≡ s.callers) (same : l' ≡ l)
    (state : IsState s named cutter l.jar) (vault : IsVault s named cutter stored p owns acked)
    (seen : HasSeen l.jar.seen p q) where
  pub unshared_rules : rules_of stored callers l'.jar.limit ≡ s
  unshared_rules =
      ap (λ (k : LockedView). rules_of stored callers k.jar.limit) same
      ∙ (ap (rules_of stored callers) state.limit_is
      ∙ (ap (λ n. rules_of stored n s.limit) counts ∙ vault.rules_are))

  pub unshared_jar : IsJar (rules_of stored callers l'.jar.limit) table l'.jar q owns
  unshared_jar =
      subst (λ x. IsJar x table l'.jar q owns) (sym unshared_rules)
      (subst (λ t. IsJar s t l'.jar q owns) (sym words)
      (subst (λ (k : LockedView). IsJar s named k.jar q owns) (sym same)
      (together s named cutter stored l.jar p q owns acked state vault seen)))

  pub unshared_ended : HasEnded l'.jar acked
  unshared_ended =
      subst (λ (k : LockedView). HasEnded k.jar acked) (sym same)
      (acked_there s named cutter stored l.jar p q owns acked state vault seen)

  pub unshared_number : q.view.number ≡ cutter
  unshared_number = seen.met.number ∙ vault.number_is
