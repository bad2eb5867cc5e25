-- What waits in a jar and its vault, and what the keeper tells, after each load.
use Rattle.std.proofs.Common.{◌≡◌, ℕ, List, Bool, true, false, cond}
use Rattle.std.proofs.Common.{Some, Result, Ok, Err, refl, sym, subst, ⊎_elim}
use Rattle.atomic_table.specs.Seated.{TableId}
use Rattle.jar_types.specs.declared.cookie.Cookie.{Cookie}
use Rattle.jar_types.specs.declared.entry.Event.TheVariants.{Jar as JarEvent}
use Rattle.jar_types.specs.declared.entry.Own.TheVariants.{Begun, Loaded, Lost}
use Rattle.jar_types.specs.declared.entry.Own.TheVariants.{Whole}
use Rattle.jar_types.specs.declared.row.Row.{Row}
use Rattle.jar_types.specs.Journals.{Rules}
use Rattle.jar_types.specs.Loads.{is_begun, next_key}
use Rattle.jar_types.specs.RowChanges.{RowsRise}
use Rattle.jar_types.specs.States.{JarState}
use Rattle.jar_types.specs.Steps.{own_may_stand}
use Rattle.jar_types.specs.Stored.{IsHonest, stored_cookies}
use Rattle.jar_keeper.specs.Keepers.{TellsSame}
use Rattle.beside_law.specs.Held.{held_of}
use Rattle.beside_law.proofs.LoadLemmas.{loads_stay_honest}
use Rattle.version_cells.specs.Standing.{PassStanding}
use Rattle.locked_jar.specs.LockedJars.{LockedJar, journal_of}
use Rattle.store_vault.specs.declared.refusal.LoadRefusal.{LoadRefusal}
use Rattle.store_vault.specs.declared.refusal.LoadRefusal.TheVariants as load
use Rattle.store_vault.specs.declared.refusal.LoadStep.{LoadStep}
use Rattle.store_vault.specs.declared.refusal.LoadStep.TheVariants.{Key, Whole as IsWhole, Idle}
use Rattle.store_vault.specs.declared.stored.Stored.{Stored}
use Rattle.store_vault.specs.Cutting.{Stays, did, did_if_may}
use Rattle.store_vault.specs.Loading.{IsLoad, IsLoadOver, cookies_over, rules_of}
use Rattle.shared_jar.specs.Holding.{StaysOver}
use Rattle.shared_jar.specs.Together.{IsJar}
use Rattle.shared_jar.proofs.BesideLemmas.{IsOf, WentOn}
use Rattle.shared_jar.proofs.BesideLemmas.{honest_on, none_went}
use Rattle.shared_jar.proofs.BesideLemmas.{went_by}
use Rattle.shared_jar.proofs.BesideLemmas.{went_then}
use Rattle.shared_jar.proofs.ServingLemmas.{begun_going, has_begun}
use Rattle.shared_jar.proofs.HoldingLemmas.{StayHonest, went_over}

-- ---- a load

begun_went : (r : Rules) (cutter : ℕ) (may : Bool) (j : LockedJar) (key : List ℕ) → IsOf r j
    → WentOn r j (cond may (did cutter j (Begun key)) j)
begun_went r cutter true j key is =
    went_by r (Some cutter) j (JarEvent (Begun key)) is (λ b. refl) (λ kept held. refl) refl
begun_went r cutter false j key is = none_went r j is

begun_honest : (r : Rules) (cutter : ℕ) (may : Bool) (j : LockedJar) (key : List ℕ)
    → StayHonest r j (cond may (did cutter j (Begun key)) j)
begun_honest r cutter true j key rows honest =
    honest_on r rows (Some cutter) j (JarEvent (Begun key)) honest tt
begun_honest r cutter false j key rows honest = honest

module _ (r : Rules) (cutter : ℕ) (j : LockedJar) (key : List ℕ) (is : IsOf r j) where
  mid_went : WentOn r j (did_if_may cutter j (Begun key))
  mid_went = begun_went r cutter (own_may_stand j.state (Begun key)) j key is

  loaded_went : (cookies : List Cookie)
      → WentOn r j (did cutter (did_if_may cutter j (Begun key)) (Loaded key cookies))
  loaded_went cookies =
      let mid = did_if_may cutter j (Begun key) in
      went_then r j mid (did cutter mid (Loaded key cookies)) mid_went
      (went_by r (Some cutter) mid (JarEvent (Loaded key cookies)) mid_went.state (λ b. refl)
      (λ kept held. refl) refl)

  lost_went : WentOn r j (did cutter (did_if_may cutter j (Begun key)) (Lost key))
  lost_went =
      let mid = did_if_may cutter j (Begun key) in
      went_then r j mid (did cutter mid (Lost key)) mid_went
      (went_by r (Some cutter) mid (JarEvent (Lost key)) mid_went.state (λ b. refl)
      (λ kept held. refl) refl)

  lost_honest : StayHonest r j (did cutter (did_if_may cutter j (Begun key)) (Lost key))
  lost_honest rows honest =
      honest_on r rows (Some cutter) (did_if_may cutter j (Begun key)) (JarEvent (Lost key))
      (begun_honest r cutter (own_may_stand j.state (Begun key)) j key rows honest) tt

module _ (stored : Stored) (callers : ℕ) (table : TableId) (j : LockedJar) (p : PassStanding)
    (owns : ℕ) (is : IsJar (rules_of stored callers j.limit) table j p owns) where
  abbrev rules : Rules
  rules = rules_of stored callers j.limit

  abbrev cutter : ℕ
  cutter = p.view.number

  stays_went : (k : LockedJar) (q : PassStanding) → Stays j k p q → WentOn rules j k
  stays_went k q stays = subst (WentOn rules j) (sym stays.0) (none_went rules j is.state_is)

  begins_went : (key : List ℕ) → WentOn rules j (did cutter j (Begun key))
  begins_went key =
      went_by rules (Some cutter) j (JarEvent (Begun key)) is.state_is (λ b. refl)
      (λ kept held. refl) refl

  whole_went : WentOn rules j (did cutter j (Whole stored.start))
  whole_went =
      went_by rules (Some cutter) j (JarEvent (Whole stored.start)) is.state_is (λ b. refl)
      (λ kept held. refl) refl

  -- the jar goes on at a load, whatever it comes to
  pub load_went : (k : LockedJar) (q : PassStanding) (result : Result LoadStep LoadRefusal)
      → IsLoad stored owns j k p q result → WentOn rules j k
  load_went k q (Ok Idle) told = stays_went k q told.1
  load_went k q (Ok IsWhole) told = subst (WentOn rules j) (sym told.1.is) whole_went
  load_went k q (Ok Key) told =
      let l = told.1 in subst (WentOn rules j) (sym l.is)
      (loaded_went rules cutter j l.key is.state_is l.cookies)
  load_went k q (Err load.StoreFault) told =
      let l = told.1 in subst (WentOn rules j) (sym l.is)
      (lost_went rules cutter j l.key is.state_is)
  load_went k q (Err load.NoMemory) told =
      ⊎_elim (λ stays. stays_went k q stays)
      (λ begins. subst (WentOn rules j) (sym begins.is) (begins_went begins.key)) told.2
  load_went k q (Err load.Spent) told = stays_went k q told.2

  -- the cookies that were loaded of a key are those that were stored, where the keeper holds what
  -- is held beside the journal
  loaded_honest : (rows : List Row) (key : List ℕ) → next_key j.state.loads.keys ≡ Some key
      → RowsRise rows → IsHonest rules rows (journal_of j.seen)
      → IsHonest rules rows (journal_of (did cutter (did_if_may cutter j (Begun key))
      (Loaded key (cookies_over rules (held_of rules rows (journal_of j.seen)) key))).seen)
  loaded_honest rows key next rise honest =
      let mid = did_if_may cutter j (Begun key) in
      let before = begun_honest rules cutter (own_may_stand j.state (Begun key)) j key rows
      honest in
      let going = begun_going rules cutter j key (is.history, is.state_is) in
      let begun = subst (λ (s : JarState). is_begun key s.loads.keys ≡ true) going.1
      (has_begun cutter j key next) in
      let stays = loads_stay_honest rules rows (journal_of mid.seen) key rise going.0.legal before
      begun in
      honest_on rules rows (Some cutter) mid
      (JarEvent (Loaded key (cookies_over rules (held_of rules rows (journal_of j.seen)) key)))
      before
      (subst (λ held. cookies_over rules held key ≡ stored_cookies rules rows key)
      ((mid_went rules cutter j key is.state_is).held rows) stays)

  load_honest : (k : LockedJar) (q : PassStanding) (result : Result LoadStep LoadRefusal)
      (rows : List Row) → IsLoad stored owns j k p q result
      → IsLoadOver (rules_of stored 0 0) (held_of rules rows (journal_of j.seen)) j k p result
      → RowsRise rows
      → IsHonest rules rows (journal_of j.seen) → IsHonest rules rows (journal_of k.seen)
  load_honest k q (Ok Idle) rows told over rise honest =
      subst (λ (i : LockedJar). IsHonest rules rows (journal_of i.seen)) (sym told.1.0) honest
  load_honest k q (Ok IsWhole) rows told over rise honest =
      subst (λ (i : LockedJar). IsHonest rules rows (journal_of i.seen)) (sym told.1.is)
      (honest_on rules rows (Some cutter) j (JarEvent (Whole stored.start)) honest tt)
  load_honest k q (Ok Key) rows told over rise honest =
      let l = told.1 in
      subst (λ (i : LockedJar). IsHonest rules rows (journal_of i.seen)) (sym (over l.key l.next))
      (loaded_honest rows l.key l.next rise honest)
  load_honest k q (Err load.StoreFault) rows told over rise honest =
      let l = told.1 in
      subst (λ (i : LockedJar). IsHonest rules rows (journal_of i.seen)) (sym l.is)
      (lost_honest rules cutter j l.key is.state_is rows honest)
  load_honest k q (Err load.NoMemory) rows told over rise honest =
      ⊎_elim (λ stays. subst (λ (i : LockedJar). IsHonest rules rows (journal_of i.seen))
      (sym stays.0) honest)
      (λ begins. subst (λ (i : LockedJar). IsHonest rules rows (journal_of i.seen)) (sym begins.is)
      (honest_on rules rows (Some cutter) j (JarEvent (Begun begins.key)) honest tt)) told.2
  load_honest k q (Err load.Spent) rows told over rise honest =
      subst (λ (i : LockedJar). IsHonest rules rows (journal_of i.seen)) (sym told.2.0) honest

  -- a keeper that was only read still tells what is held
  pub load_over : (k : LockedJar) (q : PassStanding) (result : Result LoadStep LoadRefusal)
      (tells tells' : List Row → Type 0) → IsLoad stored owns j k p q result
      → ((held : List Row) → tells held → IsLoadOver (rules_of stored 0 0) held j k p result)
      → TellsSame tells tells' → StaysOver rules j k tells tells'
  load_over k q result tells tells' told over same rows was =
      went_over rules j k tells tells' rows (load_went k q result told)
      (load_honest k q result rows told (over (held_of rules rows (journal_of j.seen)) was.told)
      was.rise) (λ held. (same held).0) was
