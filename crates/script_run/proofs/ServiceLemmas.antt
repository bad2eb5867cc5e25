-- What a load of a jar makes of the run that it and its players stand for.
use Rattle.std.proofs.Common.{◌≡◌, ◌+◌, ℕ, List, [], ◌∷◌, ◌++◌, Bool, true, false, cond, Option, None, Some, length, refl, ap, sym, ◌∙◌, arith, subst}
use Rattle.std.specs.Prelude.{◌&&◌, ◌==◌, bytes_eq, is_none, not, slice_get, if◌then◌else◌, Result, Ok, Err}
use Rattle.std.specs.Option.{option_or}
use Rattle.std.proofs.lemmas.Bool.{and_parts}
use Rattle.std.proofs.lemmas.List.Sums.{sum_by-append, sum_by-cons}
use Rattle.jar_types.specs.declared.cookie.Cookie.{Cookie}
use Rattle.jar_types.specs.declared.entry.Entry.{Entry}
use Rattle.jar_types.specs.declared.entry.Entry.TheVariants.{Jar}
use Rattle.jar_types.specs.declared.entry.Event.TheVariants.{Jar as JarEvent}
use Rattle.jar_types.specs.declared.entry.Own.{Own}
use Rattle.jar_types.specs.declared.entry.Own.TheVariants.{Begun, Loaded, Lost, Whole}
use Rattle.jar_types.specs.declared.row.Row.{Row}
use Rattle.jar_types.specs.declared.row.RowChange.{RowChange}
use Rattle.jar_types.specs.Journals.{Rules, own_fits}
use Rattle.jar_types.specs.Loads.{all_loaded, next_key}
use Rattle.jar_types.specs.States.{JarState}
use Rattle.jar_types.specs.Steps.{own_may_stand}
use Rattle.version_cells.specs.Standing.{PassStanding}
use Rattle.locked_jar.specs.LockedJars.{LockedJar}
use Rattle.locked_jar.specs.Owns.{is_taking}
use Rattle.store_vault.specs.declared.refusal.LoadRefusal.{LoadRefusal}
use Rattle.store_vault.specs.declared.refusal.LoadRefusal.TheVariants as load
use Rattle.store_vault.specs.declared.refusal.LoadStep.{LoadStep}
use Rattle.store_vault.specs.declared.refusal.LoadStep.TheVariants.{Key, Whole as IsWhole, Idle}
use Rattle.store_vault.specs.declared.stored.Stored.{Stored}
use Rattle.store_vault.specs.Cutting as vault
use Rattle.store_vault.specs.Loading as loading
use Rattle.store_vault.specs.Loading.{IsLoad, IsLoadOver, LosesKey, is_idle}
use Rattle.script_text.specs.declared.script.Script.{Script}
use Rattle.shared_jar.specs.Faults.{faults_in, is_fault}
use Rattle.script_run.specs.Players.{PlayersStanding, run_of}
use Rattle.script_run.specs.Rounds.{Giving, gives_of, loaded, loaded_key, loaded_next, rules_of}
use Rattle.script_run.specs.Runs.{Run, did, did_if_may, happened}
use Rattle.script_run.specs.Services.{LoadedBy}
use Rattle.script_run.proofs.JarLemmas.{run_did, run_did_if_may}
use Rattle.script_run.proofs.TextLemmas.{same_text, text_self}

-- ---- a journal that ends with a fault

ends_lost : (journal : List Entry) (e : Entry) → is_fault e ≡ true → faults_in (journal ++ e ∷ []) ≡ 0 → ⊥
ends_lost journal e lost none =
    let both = sum_by-append (λ x. cond (is_fault x) 1 0) journal (e ∷ []) in
    let last = sum_by-cons (λ x. cond (is_fault x) 1 0) e [] in
    let one : cond (is_fault e) 1 0 ≡ 1 = ap {B = ℕ} (λ b. cond b 1 0) lost in
    let at : faults_in (journal ++ e ∷ []) ≡ faults_in journal + (cond (is_fault e) 1 0 + 0) =
    both ∙ ap (λ n. faults_in journal + n) (last ∙ omega arith) in
    omega (arith, at, one, none)

-- ---- the load of a key

-- its load begins where it may, and ends so
run_ends : (n : ℕ) (j : LockedJar) (key : List ℕ) (own : Own) (kept : List RowChange) (p : PlayersStanding) → is_taking own ≡ false
    → run_of (vault.did n (vault.did_if_may n j (Begun key)) own) kept p ≡ happened (did_if_may (run_of j kept p) (Begun key)) (JarEvent own)
run_ends n j key own kept p none =
    run_did n (vault.did_if_may n j (Begun key)) own kept p none
    ∙ ap (λ (r : Run). happened r (JarEvent own)) (run_did_if_may n j (Begun key) kept p refl)

-- what is given of that key alone
abbrev only : List ℕ → Option (List Cookie) → Giving
only key answer k = if bytes_eq key k then answer else None

only_is : (key : List ℕ) (answer : Option (List Cookie)) → only key answer key ≡ answer
only_is key answer = ap (λ b. cond b answer None) (text_self key)

only_fits : (is : Bool) (r : Rules) (key k : List ℕ) (answer : Option (List Cookie)) (cookies : List Cookie) → bytes_eq key k ≡ is
    → ((cookies : List Cookie) → answer ≡ Some cookies → own_fits r (Loaded key cookies) ≡ true)
    → cond is answer None ≡ Some cookies → own_fits r (Loaded k cookies) ≡ true
only_fits true r key k answer cookies e fits some = subst (λ j. own_fits r (Loaded j cookies) ≡ true) (same_text key k e) (fits cookies some)
only_fits false r key k answer cookies e fits some = absurd cc

by_key : (r : Rules) (key : List ℕ) (answer : Option (List Cookie)) (start : ℕ) (old new : Run) → next_key old.state.loads.keys ≡ Some key
    → ((cookies : List Cookie) → answer ≡ Some cookies → own_fits r (Loaded key cookies) ≡ true)
    → new ≡ loaded_key key answer old → LoadedBy r start old new
by_key r key answer start old new next fits is = record {
  gives = only key answer;
  fits = λ k cookies some. only_fits (bytes_eq key k) r key k answer cookies refl fits some;
  is =
      is
      ∙ (ap (λ a. loaded_key key a old) (sym (only_is key answer))
      ∙ sym (ap (λ o. loaded_next o start (only key answer) old) next));
}

some_is : (a b : List Cookie) → Some a ≡ Some b → a ≡ b
some_is a b e = cc

-- ---- the jar becomes whole, or nothing is left to load

abbrev none_given : Giving
none_given k = None

by_none : (r : Rules) (start : ℕ) (old new : Run) → next_key old.state.loads.keys ≡ None → new ≡ did_if_may old (Whole start) → LoadedBy r start old new
by_none r start old new next is = record {
  gives = none_given;
  fits = λ k cookies some. absurd cc;
  is = is ∙ sym (ap (λ o. loaded_next o start none_given old) next);
}

unloaded_none : (begun : Option (List ℕ)) (wanted unloaded : List (List ℕ)) → option_or begun (option_or (slice_get wanted 0) (slice_get unloaded 0)) ≡ None
    → (length unloaded == 0) ≡ true
unloaded_none (Some key) wanted unloaded e = absurd cc
unloaded_none None (w ∷ ws) unloaded e = absurd cc
unloaded_none None [] (u ∷ us) e = absurd cc
unloaded_none None [] [] e = refl

all_true : (a b c : Bool) → a ≡ true → b ≡ true → c ≡ true → ((a && b) && c) ≡ true
all_true a b c first second third = rw (first, second, third) refl

-- it becomes whole where no key is left and it isn't
whole_may : (s : JarState) (start : ℕ) → next_key s.loads.keys ≡ None → s.loads.whole ≡ false → own_may_stand s (Whole start) ≡ true
whole_may s start none part =
    let keys = s.loads.keys in
    all_true (not s.loads.whole) (all_loaded keys) true (ap not part) (unloaded_none keys.begun keys.wanted keys.unloaded none) refl

barred : (a b c : Bool) → a ≡ false → ((a && b) && c) ≡ false
barred a b c none = rw none refl

none_of : (o : Option (List ℕ)) → is_none o ≡ true → o ≡ None
none_of None e = refl
none_of (Some key) e = absurd cc

-- whether a load did what it could: something was loaded or lost, or nothing is left to load
abbrev pub has_served : Result LoadStep LoadRefusal → Bool
has_served (Ok step) = true
has_served (Err load.StoreFault) = true
has_served (Err load.NoMemory) = false
has_served (Err load.Spent) = false

module _ (stored : Stored) (callers limit owns : ℕ) (script : Script) (rules_are : loading.rules_of stored callers limit ≡ rules_of script stored.hosts)
    (old new : LockedJar) (p q : PassStanding) (kept kept' : List RowChange) (same : kept' ≡ kept) (players : PlayersStanding) where
  abbrev rules : Rules
  rules = rules_of script stored.hosts

  abbrev before : Run
  before = run_of old kept players

  abbrev later : Run
  later = run_of new kept' players

  started : stored.start ≡ script.start
  started = ap (λ (r : Rules). r.start) rules_are

  -- the new run is that of this jar
  over_same : (j : LockedJar) → new ≡ j → later ≡ run_of j kept players
  over_same j is = ap (λ k. run_of new k players) same ∙ ap (λ (i : LockedJar). run_of i kept players) is

  key_loaded : (key : List ℕ) (cookies : List Cookie)
      → new ≡ vault.did p.view.number (vault.did_if_may p.view.number old (Begun key)) (Loaded key cookies)
      → later ≡ loaded_key key (Some cookies) before
  key_loaded key cookies is =
      over_same (vault.did p.view.number (vault.did_if_may p.view.number old (Begun key)) (Loaded key cookies)) is
      ∙ run_ends p.view.number old key (Loaded key cookies) kept players refl

  key_lost : (lost : LosesKey old new p q) → later ≡ loaded_key lost.key None before
  key_lost lost =
      over_same (vault.did p.view.number (vault.did_if_may p.view.number old (Begun lost.key)) (Lost lost.key)) lost.is
      ∙ run_ends p.view.number old lost.key (Lost lost.key) kept players refl

  fits_here : (key : List ℕ) (cookies : List Cookie) → own_fits (loading.rules_of stored 0 0) (Loaded key cookies) ≡ true
      → (cs : List Cookie) → Some cookies ≡ Some cs → own_fits rules (Loaded key cs) ≡ true
  fits_here key cookies fits cs e =
      subst (λ c. own_fits rules (Loaded key c) ≡ true) (some_is cookies cs e)
      (subst (λ (r : Rules). own_fits r (Loaded key cookies) ≡ true) rules_are fits)

  whole_now : next_key old.state.loads.keys ≡ None → old.state.loads.whole ≡ false → new ≡ vault.did p.view.number old (Whole stored.start)
      → later ≡ did_if_may before (Whole script.start)
  whole_now none part is =
      over_same (vault.did p.view.number old (Whole stored.start)) is
      ∙ (run_did p.view.number old (Whole stored.start) kept players refl
      ∙ (ap (λ start. happened before (JarEvent (Whole start))) started
      ∙ ap (λ may. did may before (Whole script.start)) (sym (whole_may old.state script.start none part))))

  idle_now : old.state.loads.whole ≡ true → new ≡ old → later ≡ did_if_may before (Whole script.start)
  idle_now whole is =
      over_same old is
      ∙ ap (λ may. did may before (Whole script.start))
      (sym (barred (not old.state.loads.whole) (all_loaded old.state.loads.keys) true (ap not whole)))

  idle_parts : is_idle old.state ≡ true → (old.state.loads.whole ≡ true) × (next_key old.state.loads.keys ≡ None)
  idle_parts idle =
      let parts = and_parts old.state.loads.whole (is_none (next_key old.state.loads.keys)) idle in
      (parts.0, none_of (next_key old.state.loads.keys) parts.1)

  -- what was loaded
  pub load_ran : (step : LoadStep) → IsLoad stored owns old new p q (Ok step) → LoadedBy rules script.start before later
  load_ran Key is =
      let l = is.1 in
      by_key rules l.key (Some l.cookies) script.start before later l.next (fits_here l.key l.cookies l.fits) (key_loaded l.key l.cookies l.is)
  load_ran IsWhole is = by_none rules script.start before later is.1.none (whole_now is.1.none is.1.part is.1.is)
  load_ran Idle is =
      let parts = idle_parts is.0 in
      by_none rules script.start before later parts.1 (idle_now parts.0 is.1.0)

  -- or it was lost
  pub load_failed : IsLoad stored owns old new p q (Err load.StoreFault) → LoadedBy rules script.start before later
  load_failed is =
      by_key rules is.1.key None script.start before later is.1.next (λ cs e. absurd cc) (key_lost is.1)

  -- over a keeper that holds these rows
  pub load_ran_over : (held : List Row) (step : LoadStep) → IsLoad stored owns old new p q (Ok step)
      → IsLoadOver (loading.rules_of stored 0 0) held old new p (Ok step)
      → later ≡ loaded script.start (gives_of rules held) before
  load_ran_over held Key is over =
      let l = is.1 in
      key_loaded l.key (loading.cookies_over (loading.rules_of stored 0 0) held l.key) (over l.key l.next)
      ∙ (ap (λ (r : Rules). loaded_key l.key (gives_of r held l.key) before) rules_are
      ∙ sym (ap (λ o. loaded_next o script.start (gives_of rules held) before) l.next))
  load_ran_over held IsWhole is over =
      whole_now is.1.none is.1.part is.1.is ∙ sym (ap (λ o. loaded_next o script.start (gives_of rules held) before) is.1.none)
  load_ran_over held Idle is over =
      let parts = idle_parts is.0 in
      idle_now parts.0 is.1.0 ∙ sym (ap (λ o. loaded_next o script.start (gives_of rules held) before) parts.1)

  -- and there no load is lost, where the journal tells of no fault
  pub load_not_lost : IsLoad stored owns old new p q (Err load.StoreFault) → faults_in later.journal ≡ 0 → ⊥
  load_not_lost is none =
      let lost = is.1 in
      let e = ap (λ (r : Run). faults_in r.journal) (key_lost lost) in
      ends_lost (did_if_may before (Begun lost.key)).journal (Jar (Lost lost.key)) refl (sym e ∙ none)

  pub load_served : (result : Result LoadStep LoadRefusal) → has_served result ≡ true → IsLoad stored owns old new p q result
      → LoadedBy rules script.start before later
  load_served (Ok step) e is = load_ran step is
  load_served (Err load.StoreFault) e is = load_failed is
  load_served (Err load.NoMemory) e is = absurd cc
  load_served (Err load.Spent) e is = absurd cc

  pub load_served_over : (held : List Row) (result : Result LoadStep LoadRefusal) → has_served result ≡ true → IsLoad stored owns old new p q result
      → IsLoadOver (loading.rules_of stored 0 0) held old new p result → faults_in later.journal ≡ 0
      → later ≡ loaded script.start (gives_of rules held) before
  load_served_over held (Ok step) e is over none = load_ran_over held step is over
  load_served_over held (Err load.StoreFault) e is over none = absurd (load_not_lost is none)
  load_served_over held (Err load.NoMemory) e is over none = absurd cc
  load_served_over held (Err load.Spent) e is over none = absurd cc
