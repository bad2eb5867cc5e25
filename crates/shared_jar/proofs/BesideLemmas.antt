-- What waits and what is held beside a jar's journal: one event more, and an event that neither
-- takes a batch nor ends one.
use Rattle.std.proofs.Common.{◌≡◌, ℕ, List, [], ◌∷◌, ◌++◌, Option, None, refl, sym, ap, ◌∙◌, subst}
use Rattle.std.specs.List.{AllByRecursion}
use Rattle.jar_types.specs.declared.entry.Event.{Event}
use Rattle.jar_types.specs.declared.entry.Event.TheVariants.{Call as CallEvent, Jar as JarEvent}
use Rattle.jar_types.specs.declared.entry.Own.TheVariants.{Taken, Acked, CommitLost}
use Rattle.jar_types.specs.declared.op.Op.{Op}
use Rattle.jar_types.specs.declared.row.Row.{Row}
use Rattle.jar_types.specs.declared.row.RowChange.{RowChange}
use Rattle.jar_types.specs.Batches.{Batches}
use Rattle.jar_types.specs.Journals.{Rules, state_of, stored_keys}
use Rattle.jar_types.specs.RowChanges.{changed_rows, newest_over}
use Rattle.jar_types.specs.States.{JarState}
use Rattle.jar_types.specs.Steps.{after, entry_of}
use Rattle.jar_types.specs.Stored.{EntryIsHonest, IsHonest}
use Rattle.jar_types.proofs.JournalLemmas.{state_push}
use Rattle.stored_law.proofs.FoundLemmas.{all_append}
use Rattle.beside_law.specs.Beside.{Beside, beside_of, event_beside}
use Rattle.beside_law.specs.Held.{event_held, held_of}
use Rattle.beside_law.proofs.BesideLemmas.{beside_goes_on}
use Rattle.beside_law.proofs.HeldLemmas.{held_goes_on}
use Rattle.beside_law.proofs.SameLemmas.{call_same}
use Rattle.locked_jar.specs.LockedJars.{LockedJar, entered, event_pending, journal_of, listing_at}
use Rattle.locked_jar.proofs.HistoryLemmas.{journal_push}
use Rattle.shared_jar.specs.Holding.{IsBeside}

-- the jar's state is its journal's
abbrev pub IsOf : Rules → LockedJar → Type 0
IsOf r j = j.state ≡ state_of (stored_keys r) (journal_of j.seen)

-- ---- an event more

pub journal_on : (o : Option ℕ) (j : LockedJar) (v : Event)
    → journal_of (entered j o v).seen ≡ journal_of j.seen ++ entry_of j.state v ∷ []
journal_on o j v = journal_push j.seen (listing_at o j.state v)

module _ (r : Rules) (o : Option ℕ) (j : LockedJar) (v : Event) (is : IsOf r j) where
  longer : journal_of (entered j o v).seen ≡ journal_of j.seen ++ entry_of
      (state_of (stored_keys r) (journal_of j.seen)) v ∷ []
  longer = journal_on o j v ∙ ap (λ (s : JarState). journal_of j.seen ++ entry_of s v ∷ []) is

  pub state_on : IsOf r (entered j o v)
  state_on =
      ap (λ (s : JarState). after s v) is
      ∙ (sym (state_push (stored_keys r) (journal_of j.seen) v) ∙ ap (state_of (stored_keys r))
      (sym longer))

  pub beside_on : beside_of r (journal_of (entered j o v).seen) ≡ event_beside j.state v
      (beside_of r (journal_of j.seen))
  beside_on =
      ap (beside_of r) longer
      ∙ (beside_goes_on r (journal_of j.seen) v
      ∙ ap (λ (s : JarState). event_beside s v (beside_of r (journal_of j.seen))) (sym is))

  pub held_on : (rows : List Row)
      → held_of r rows (journal_of (entered j o v).seen) ≡ event_held v
      (beside_of r (journal_of j.seen)).kept (held_of r rows (journal_of j.seen))
  held_on rows = ap (held_of r rows) longer ∙ held_goes_on r rows (journal_of j.seen) v

-- each load of it lists just what stands in the rows, where the entry does
pub honest_on : (r : Rules) (rows : List Row) (o : Option ℕ) (j : LockedJar) (v : Event)
    → IsHonest r rows (journal_of j.seen)
    → EntryIsHonest r rows (entry_of j.state v) → IsHonest r rows (journal_of (entered j o v).seen)
honest_on r rows o j v honest one = record {
  hosts = honest.hosts;
  loads = subst (AllByRecursion (EntryIsHonest r rows)) (sym (journal_on o j v))
      (all_append (EntryIsHonest r rows) (journal_of j.seen) (entry_of j.state v ∷ []) honest.loads
      (one, tt));
}

-- ---- what waits, as one

-- what waits in a jar and a vault
abbrev pub waiting : LockedJar → List RowChange → ℕ → Beside
waiting j kept acked = record { pending = j.pending; kept = kept; acked = acked }

same_beside : (pending kept : List RowChange) (acked : ℕ) (b : Beside) → pending ≡ b.pending
    → kept ≡ b.kept → acked ≡ b.acked
    → (let w : Beside = record { pending = pending; kept = kept; acked = acked } in w ≡ b)
same_beside pending kept acked b p k a = rw (p, k, a) refl

pub waits_of : (r : Rules) (j : LockedJar) (kept : List RowChange) (acked : ℕ)
    → IsBeside r j kept acked → waiting j kept acked ≡ beside_of r (journal_of j.seen)
waits_of r j kept acked is =
    same_beside j.pending kept acked (beside_of r (journal_of j.seen)) is.pending_is is.kept_is
    is.acked_is

pub beside_where : (r : Rules) (j : LockedJar) (kept : List RowChange) (acked : ℕ)
    → waiting j kept acked ≡ beside_of r (journal_of j.seen)
    → j.state.batches.out ≡ None → IsBeside r j kept acked
beside_where r j kept acked waits out = record {
  pending_is = ap (λ (b : Beside). b.pending) waits;
  kept_is = ap (λ (b : Beside). b.kept) waits;
  acked_is = ap (λ (b : Beside). b.acked) waits;
  none_out = out;
}

-- ---- events that neither take a batch nor end one

-- The jar went on from j to k by such events: what waited beside the journal still does, and what
-- is held beside it stays
pub record WentOn (r : Rules) (j k : LockedJar) : Type 0 where
  pub limit : k.limit ≡ j.limit
  pub state : IsOf r k
  pub beside : (kept : List RowChange) (acked : ℕ) → IsBeside r j kept acked
      → IsBeside r k kept acked
  pub held : (rows : List Row)
      → held_of r rows (journal_of k.seen) ≡ held_of r rows (journal_of j.seen)

pub none_went : (r : Rules) (j : LockedJar) → IsOf r j → WentOn r j j
none_went r j is =
    record { limit = refl; state = is; beside = λ kept acked is. is; held = λ rows. refl }

pub went_then : (r : Rules) (j k l : LockedJar) → WentOn r j k → WentOn r k l → WentOn r j l
went_then r j k l first second = record {
  limit = second.limit ∙ first.limit;
  state = second.state;
  beside = λ kept acked is. second.beside kept acked (first.beside kept acked is);
  held = λ rows. second.held rows ∙ first.held rows;
}

-- it does so by an event that adds its changes of rows to what is pending, and else does nothing to
-- what waits or is held
pub went_by : (r : Rules) (o : Option ℕ) (j : LockedJar) (v : Event) → IsOf r j
    → ((b : Beside) → event_beside j.state v b ≡ record b
    { pending = event_pending j.state v b.pending })
    → ((kept : List RowChange) (held : List Row) → event_held v kept held ≡ held)
    → (after j.state v).batches.out ≡ j.state.batches.out → WentOn r j (entered j o v)
went_by r o j v is more same out = record {
  limit = refl;
  state = state_on r o j v is;
  beside = λ kept acked was.
      beside_where r (entered j o v) kept acked
      (sym (more (waiting j kept acked))
      ∙ (ap (event_beside j.state v) (waits_of r j kept acked was) ∙ sym (beside_on r o j v is)))
      (out ∙ was.none_out);
  held = λ rows. held_on r o j v is rows ∙ same (beside_of r (journal_of j.seen)).kept
      (held_of r rows (journal_of j.seen));
}

pub went_by_call : (r : Rules) (o : Option ℕ) (j : LockedJar) (caller now : ℕ) (op : Op) → IsOf r j
    → WentOn r j (entered j o (CallEvent caller now op))
went_by_call r o j caller now op is =
    went_by r o j (CallEvent caller now op) is (λ b. refl) (λ kept held. refl)
    (ap (λ (c : Batches). c.out) (call_same j.state caller now op).batches)

-- ---- a batch is taken, and ends

-- a batch was taken: it is what is then kept, and no row changes
pub taken_beside : (r : Rules) (o : Option ℕ) (j : LockedJar) (kept : List RowChange) (acked : ℕ)
    → IsOf r j → IsBeside r j kept acked
    → waiting (entered j o (JarEvent Taken)) (newest_over kept j.pending) acked ≡ beside_of r
    (journal_of (entered j o (JarEvent Taken)).seen)
taken_beside r o j kept acked is was =
    ap (event_beside j.state (JarEvent Taken)) (waits_of r j kept acked was) ∙ sym
    (beside_on r o j (JarEvent Taken) is)

pub taken_held : (r : Rules) (o : Option ℕ) (j : LockedJar) (rows : List Row) → IsOf r j
    → held_of r rows (journal_of (entered j o (JarEvent Taken)).seen) ≡ held_of r rows
    (journal_of j.seen)
taken_held r o j rows is = held_on r o j (JarEvent Taken) is rows

-- it was committed at this place: nothing is kept then, and it is made of the rows
pub acked_beside : (r : Rules) (o : Option ℕ) (j : LockedJar) (batch : List RowChange)
    (acked place : ℕ) → IsOf r j
    → waiting j batch acked ≡ beside_of r (journal_of j.seen)
    → IsBeside r (entered j o (JarEvent (Acked place))) [] place
acked_beside r o j batch acked place is was =
    beside_where r (entered j o (JarEvent (Acked place))) [] place
    (ap (event_beside j.state (JarEvent (Acked place))) was ∙ sym
    (beside_on r o j (JarEvent (Acked place)) is)) refl

pub acked_held : (r : Rules) (o : Option ℕ) (j : LockedJar) (batch : List RowChange)
    (acked place : ℕ) (rows : List Row) → IsOf r j
    → waiting j batch acked ≡ beside_of r (journal_of j.seen)
    → held_of r rows (journal_of (entered j o (JarEvent (Acked place))).seen) ≡ changed_rows
    (held_of r rows (journal_of j.seen)) batch
acked_held r o j batch acked place rows is was =
    held_on r o j (JarEvent (Acked place)) is rows
    ∙ ap (changed_rows (held_of r rows (journal_of j.seen))) (ap (λ (b : Beside). b.kept) (sym was))

-- it was lost: it is kept, and no row changes
pub lost_beside : (r : Rules) (o : Option ℕ) (j : LockedJar) (batch : List RowChange)
    (acked place : ℕ) → IsOf r j
    → waiting j batch acked ≡ beside_of r (journal_of j.seen)
    → IsBeside r (entered j o (JarEvent (CommitLost place))) batch acked
lost_beside r o j batch acked place is was =
    beside_where r (entered j o (JarEvent (CommitLost place))) batch acked
    (ap (event_beside j.state (JarEvent (CommitLost place))) was ∙ sym
    (beside_on r o j (JarEvent (CommitLost place)) is)) refl

pub lost_held : (r : Rules) (o : Option ℕ) (j : LockedJar) (place : ℕ) (rows : List Row) → IsOf r j
    → held_of r rows (journal_of (entered j o (JarEvent (CommitLost place))).seen) ≡ held_of r rows
    (journal_of j.seen)
lost_held r o j place rows is = held_on r o j (JarEvent (CommitLost place)) is rows
