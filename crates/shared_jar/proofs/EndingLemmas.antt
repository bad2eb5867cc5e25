-- The last batch that was committed, behind more entries, and that none is out after a call.
use Rattle.std.proofs.Common.{◌≡◌, ℕ, List, [], ◌∷◌, ◌++◌, Bool, true, false, cond, Option, None, Some, fold, refl, sym, ap, ◌∙◌, subst, arith, eq-eqb, ⊎_elim}
use Rattle.std.specs.Prelude.{Result, Ok, Err, IfOk, IfErr}
use Rattle.std.proofs.lemmas.List.{map-append}
use Rattle.atomic_table.specs.Seated.{TableId}
use Rattle.jar_types.specs.declared.cookie.Cookie.{Cookie}
use Rattle.jar_types.specs.declared.entry.Event.{Event}
use Rattle.jar_types.specs.declared.entry.Event.TheVariants.{Call as CallEvent, Jar as JarEvent}
use Rattle.jar_types.specs.declared.entry.Own.{Own}
use Rattle.jar_types.specs.declared.entry.Own.TheVariants.{Want, WantAll, Begun, Loaded, Lost, Whole, Taken, Acked, CommitLost}
use Rattle.jar_types.specs.declared.jar_core.Awaited.{Awaited}
use Rattle.jar_types.specs.declared.jar_core.Awaited.TheVariants as awaited
use Rattle.jar_types.specs.declared.op.Op.{Op}
use Rattle.jar_types.specs.States.{JarState}
use Rattle.jar_types.specs.Steps.{after, entry_of, own_may_stand}
use Rattle.version_cells.specs.declared.listing.Listing.{Listing}
use Rattle.version_cells.specs.Listings.{is_owner, one, owned, owner_of}
use Rattle.version_cells.specs.Lists.{Lists, owner_at}
use Rattle.version_cells.specs.Standing.{PassStanding}
use Rattle.locked_jar.specs.declared.receipt.CallRefusal.{CallRefusal}
use Rattle.locked_jar.specs.declared.receipt.CallRefusal.TheVariants as call
use Rattle.locked_jar.specs.declared.receipt.Receipt.{Receipt}
use Rattle.locked_jar.specs.Calls.{Answers, RefusesCall, noted, want_of}
use Rattle.locked_jar.specs.LockedJars.{LockedJar, about_of, entered, journal_of, listing_at, opened}
use Rattle.locked_jar.proofs.HistoryLemmas.{journal_push}
use Rattle.locked_jar.proofs.SameLemmas.{call_out}
use Rattle.store_vault.specs.declared.refusal.FlushRefusal.{FlushRefusal}
use Rattle.store_vault.specs.declared.refusal.FlushRefusal.TheVariants as flush
use Rattle.store_vault.specs.declared.refusal.LoadRefusal.{LoadRefusal}
use Rattle.store_vault.specs.declared.refusal.LoadRefusal.TheVariants as load
use Rattle.store_vault.specs.declared.refusal.LoadStep.{LoadStep}
use Rattle.store_vault.specs.declared.refusal.LoadStep.TheVariants as step
use Rattle.store_vault.specs.declared.stored.Stored.{Stored}
use Rattle.store_vault.specs.Cutting.{Stays, did, did_if_may}
use Rattle.store_vault.specs.Flushing.{Commits, IsFlush, Kept, Loses, taken_at}
use Rattle.store_vault.specs.Loading.{IsLoad}
use Rattle.shared_jar.specs.Ending.{HasEnded, acked_after, last_acked, own_acked}

-- ---- the last batch

fold_push : {A B : Type 0} → (f : B → A → B) (b : B) (xs : List A) (x : A)
    → fold f b (xs ++ x ∷ []) ≡ f (fold f b xs) x
fold_push f b [] x = refl
fold_push f b (y ∷ xs) x = fold_push f (f b y) xs x

fold_on : {A B : Type 0} → (f : B → A → B) (b : B) (xs ys : List A)
    → fold f b (xs ++ ys) ≡ fold f (fold f b xs) ys
fold_on f b [] ys = refl
fold_on f b (x ∷ xs) ys = fold_on f (f b x) xs ys

-- behind one listing more
pub acked_push : (seen : List Listing) (l : Listing)
    → last_acked (journal_of (seen ++ l ∷ [])) ≡ acked_after (last_acked (journal_of seen)) l.about
acked_push seen l =
    ap last_acked (journal_push seen l) ∙ fold_push acked_after 0 (journal_of seen) l.about

-- an event that the cutter doesn't own commits no batch
other_acked : (cutter last : ℕ) (s : JarState) (v : Event)
    → one (is_owner cutter (owner_at cutter v)) ≡ 0 → acked_after last (entry_of s v) ≡ last
other_acked cutter last s (CallEvent caller now op) e = refl
other_acked cutter last s (JarEvent (Want key)) e = refl
other_acked cutter last s (JarEvent WantAll) e = refl
other_acked cutter last s (JarEvent (Begun key)) e = refl
other_acked cutter last s (JarEvent (Loaded key cookies)) e = refl
other_acked cutter last s (JarEvent (Lost key)) e = refl
other_acked cutter last s (JarEvent (Whole now)) e = refl
other_acked cutter last s (JarEvent Taken) e = refl
other_acked cutter last s (JarEvent (Acked place)) e =
    let its : 1 ≡ 0 = sym (ap one (eq-eqb cutter cutter refl)) ∙ e in absurd (omega (arith, its))
other_acked cutter last s (JarEvent (CommitLost place)) e = refl

none_acked : (cutter last : ℕ) (s : JarState) (vs : List Event) (ls : List Listing)
    → Lists cutter s vs ls → owned cutter ls ≡ 0
    → fold acked_after last (journal_of ls) ≡ last
none_acked cutter last s [] [] lists none = refl
none_acked cutter last s [] (l ∷ ls) lists none = absurd lists
none_acked cutter last s (v ∷ vs) [] lists none = absurd lists
none_acked cutter last s (v ∷ vs) (l ∷ ls) lists none =
    let first : one (is_owner cutter (owner_of l)) ≡ 0 = omega (arith, none) in
    let rest : owned cutter ls ≡ 0 = omega (arith, none) in
    let here : acked_after last l.about ≡ last =
    ap (acked_after last) lists.0.about ∙ other_acked cutter last s v
    (sym (ap (λ o. one (is_owner cutter o)) lists.0.owner) ∙ first) in
    ap (λ n. fold acked_after n (journal_of ls)) here ∙ none_acked cutter last (after s v) vs ls
    lists.1 rest

-- what is listed behind a beginning is listed from some state on
lists_rest : (cutter : ℕ) (s : JarState) (vs : List Event) (seen rest : List Listing)
    → Lists cutter s vs (seen ++ rest)
    → (t : JarState) × (ws : List Event) × Lists cutter t ws rest
lists_rest cutter s vs [] rest lists = (s, vs, lists)
lists_rest cutter s [] (l ∷ seen) rest lists = absurd lists
lists_rest cutter s (v ∷ vs) (l ∷ seen) rest lists =
    lists_rest cutter (after s v) vs seen rest lists.1

-- where a history goes on with no entry of the cutter, the last batch is the same
pub acked_same : (cutter : ℕ) (s : JarState) (vs : List Event) (seen rest : List Listing)
    → Lists cutter s vs (seen ++ rest) → owned cutter rest ≡ 0
    → last_acked (journal_of (seen ++ rest)) ≡ last_acked (journal_of seen)
acked_same cutter s vs seen rest lists none =
    let from = lists_rest cutter s vs seen rest lists in
    ap last_acked (map-append about_of seen rest)
    ∙ (fold_on acked_after 0 (journal_of seen) (journal_of rest)
    ∙ none_acked cutter (last_acked (journal_of seen)) from.0 from.1 rest from.2 none)

-- a jar without an entry
pub opening_ended : (j : LockedJar) (table : TableId) (keys : List (List ℕ)) (limit : ℕ)
    → j ≡ opened table keys limit → HasEnded j 0
opening_ended j table keys limit is =
    subst (λ k. HasEnded k 0) (sym is) (record { none_out = refl; acked_is = refl })

-- ---- one entry more

-- what the jar did itself, for any owner
own_ended : (j : LockedJar) (owner : Option ℕ) (o : Own) (acked : ℕ)
    → (after j.state (JarEvent o)).batches.out ≡ None → HasEnded j acked
    → HasEnded (entered j owner (JarEvent o)) (own_acked acked o)
own_ended j owner o acked out is = record {
  none_out = out;
  acked_is =
      ap (λ n. own_acked n o) is.acked_is ∙ sym (acked_push j.seen
      (listing_at owner j.state (JarEvent o)));
}

pub called_ended : (j : LockedJar) (caller now : ℕ) (op : Op) (acked : ℕ) → HasEnded j acked
    → HasEnded (entered j (Some caller) (CallEvent caller now op)) acked
called_ended j caller now op acked is = record {
  none_out = call_out j.state caller now op ∙ is.none_out;
  acked_is =
      is.acked_is ∙ sym (acked_push j.seen (listing_at (Some caller) j.state
      (CallEvent caller now op)));
}

noted_ended : (j : LockedJar) (what : Awaited) (may : Bool) (acked : ℕ) → HasEnded j acked
    → HasEnded (noted may j (want_of what)) acked
noted_ended j what false acked is = is
noted_ended j (awaited.Key key) true acked is = own_ended j None (Want key) acked is.none_out is
noted_ended j awaited.All true acked is = own_ended j None WantAll acked is.none_out is

-- ---- a call

pub ended_call : (j j' : LockedJar) (p q : PassStanding) (op : Op) (now acked : ℕ)
    (result : Result Receipt CallRefusal) → HasEnded j acked
    → IfOk result (Answers j j' p q op now) → IfErr result (RefusesCall j j' p q op)
    → HasEnded j' acked
ended_call j j' p q op now acked (Ok receipt) is answered refused =
    subst (λ k. HasEnded k acked) (sym answered.jar) (called_ended j p.view.number now op acked is)
ended_call j j' p q op now acked (Err call.Spent) is answered refused =
    subst (λ k. HasEnded k acked) (sym refused.1) is
ended_call j j' p q op now acked (Err (call.Pending what)) is answered refused =
    subst (λ k. HasEnded k acked) (sym refused.2)
    (noted_ended j what (own_may_stand j.state (want_of what)) acked is)
ended_call j j' p q op now acked (Err (call.NotYet found)) is answered refused =
    subst (λ k. HasEnded k acked) (sym refused.2) is
ended_call j j' p q op now acked (Err call.NoMemory) is answered refused =
    subst (λ k. HasEnded k acked) (sym refused.1) is

-- ---- a load

begun_ended : (cutter : ℕ) (j : LockedJar) (key : List ℕ) (may : Bool) (acked : ℕ)
    → HasEnded j acked → HasEnded (cond may (did cutter j (Begun key)) j) acked
begun_ended cutter j key true acked is = own_ended j (Some cutter) (Begun key) acked is.none_out is
begun_ended cutter j key false acked is = is

loaded_ended : (cutter : ℕ) (j : LockedJar) (key : List ℕ) (cookies : List Cookie) (acked : ℕ)
    → HasEnded j acked
    → HasEnded (did cutter (did_if_may cutter j (Begun key)) (Loaded key cookies)) acked
loaded_ended cutter j key cookies acked is =
    let on = begun_ended cutter j key (own_may_stand j.state (Begun key)) acked is in
    own_ended (did_if_may cutter j (Begun key)) (Some cutter) (Loaded key cookies) acked on.none_out
    on

lost_ended : (cutter : ℕ) (j : LockedJar) (key : List ℕ) (acked : ℕ) → HasEnded j acked
    → HasEnded (did cutter (did_if_may cutter j (Begun key)) (Lost key)) acked
lost_ended cutter j key acked is =
    let on = begun_ended cutter j key (own_may_stand j.state (Begun key)) acked is in
    own_ended (did_if_may cutter j (Begun key)) (Some cutter) (Lost key) acked on.none_out on

module _ (stored : Stored) (owns acked : ℕ) (j j' : LockedJar) (p q : PassStanding) where
  at_jar : (k : LockedJar) → j' ≡ k → HasEnded k acked → HasEnded j' acked
  at_jar k same is = subst (λ i. HasEnded i acked) (sym same) is

  pub ended_load : (result : Result LoadStep LoadRefusal) → HasEnded j acked
      → IsLoad stored owns j j' p q result → HasEnded j' acked
  ended_load (Ok step.Idle) is told = at_jar j told.1.0 is
  ended_load (Ok step.Whole) is told =
      at_jar (did p.view.number j (Whole stored.start)) told.1.is
      (own_ended j (Some p.view.number) (Whole stored.start) acked is.none_out is)
  ended_load (Ok step.Key) is told =
      let l = told.1 in
      at_jar (did p.view.number (did_if_may p.view.number j (Begun l.key)) (Loaded l.key l.cookies))
      l.is
      (loaded_ended p.view.number j l.key l.cookies acked is)
  ended_load (Err load.StoreFault) is told =
      let l = told.1 in
      at_jar (did p.view.number (did_if_may p.view.number j (Begun l.key)) (Lost l.key)) l.is
      (lost_ended p.view.number j l.key acked is)
  ended_load (Err load.NoMemory) is told = ⊎_elim
      (λ stays. at_jar j stays.0 is)
      (λ begins. at_jar (did p.view.number j (Begun begins.key)) begins.is
      (own_ended j (Some p.view.number) (Begun begins.key) acked is.none_out is))
      told.2
  ended_load (Err load.Spent) is told = at_jar j told.2.0 is

-- ---- a flush

-- a batch was taken at a place, and committed there
acked_ended : (cutter : ℕ) (j : LockedJar) (place : ℕ)
    → HasEnded (did cutter (did cutter j Taken) (Acked place)) place
acked_ended cutter j place = record {
  none_out = refl;
  acked_is =
      sym (acked_push (did cutter j Taken).seen (listing_at (Some cutter) (did cutter j Taken).state
      (JarEvent (Acked place))));
}

-- or lost
lost_batch_ended : (cutter : ℕ) (j : LockedJar) (place acked : ℕ) → HasEnded j acked
    → HasEnded (did cutter (did cutter j Taken) (CommitLost place)) acked
lost_batch_ended cutter j place acked is = record {
  none_out = refl;
  acked_is =
      is.acked_is
      ∙ (sym (acked_push j.seen (listing_at (Some cutter) j.state (JarEvent Taken)))
      ∙ sym (acked_push (did cutter j Taken).seen
      (listing_at (Some cutter) (did cutter j Taken).state (JarEvent (CommitLost place)))));
}

at_both : (j' k : LockedJar) (acked acked' : ℕ) → j' ≡ k → acked' ≡ acked → HasEnded k acked
    → HasEnded j' acked'
at_both j' k acked acked' same acks is =
    subst (HasEnded j') (sym acks) (subst (λ i. HasEnded i acked) (sym same) is)

module _ (force : Bool) (owns : ℕ) (j j' : LockedJar) (p q : PassStanding) (kept kept' : Kept) where
  stays_ended : HasEnded j kept.acked → Stays j j' p q → kept' ≡ kept → HasEnded j' kept'.acked
  stays_ended is stays same =
      at_both j' j kept.acked kept'.acked stays.0 (ap (λ (k : Kept). k.acked) same) is

  loses_ended : HasEnded j kept.acked → Loses j j' p q kept kept' → HasEnded j' kept'.acked
  loses_ended is l =
      at_both j' (did p.view.number (did p.view.number j Taken) (CommitLost (taken_at j)))
      kept.acked kept'.acked l.is (ap (λ (k : Kept). k.acked) l.kept_is)
      (lost_batch_ended p.view.number j (taken_at j) kept.acked is)

  commits_ended : Commits j j' p q kept kept' → HasEnded j' kept'.acked
  commits_ended c =
      at_both j' (did p.view.number (did p.view.number j Taken) (Acked (taken_at j))) (taken_at j)
      kept'.acked c.is (ap (λ (k : Kept). k.acked) c.kept_is)
      (acked_ended p.view.number j (taken_at j))

  pub ended_flush : (result : Result ℕ FlushRefusal) → HasEnded j kept.acked
      → IsFlush force owns j j' p q kept kept' result → HasEnded j' kept'.acked
  ended_flush (Ok place) is told =
      ⊎_elim (λ none. stays_ended is none.1 none.2) (λ some. commits_ended some.2) told
  ended_flush (Err flush.StoreFault) is told = loses_ended is told.2
  ended_flush (Err flush.NoMemory) is told =
      ⊎_elim (λ none. stays_ended is none.0 none.1) (λ lost. loses_ended is lost) told.2
  ended_flush (Err flush.Spent) is told = stays_ended is told.2 told.3
