-- How many faults a journal tells of behind each entry of a run, and the status of its report.
use Rattle.std.proofs.Common.{◌≡◌, ◌≤◌, ◌+◌, ℕ, zero, suc, List, [], ◌∷◌, ◌++◌, ◌||◌, Bool, true, false, cond, Option, None, Some, length, refl, ap, ◌∙◌, arith}
use Rattle.std.specs.Prelude.{nat_le, Result, Ok, Err, IfOk, OnOk, is_err}
use Rattle.std.specs.List.{list_any}
use Rattle.std.proofs.lemmas.List.Sums.{sum_by-append, sum_by-cons}
use Rattle.jar_types.specs.declared.entry.Entry.{Entry}
use Rattle.jar_types.specs.declared.entry.Event.{Event}
use Rattle.jar_types.specs.declared.entry.Event.TheVariants.{Call as CallEvent, Jar as JarEvent}
use Rattle.jar_types.specs.declared.entry.Own.{Own}
use Rattle.jar_types.specs.declared.entry.Own.TheVariants.{Begun, Whole, Taken, Acked, CommitLost}
use Rattle.jar_types.specs.declared.jar_core.Awaited.{Awaited}
use Rattle.jar_types.specs.declared.jar_core.Awaited.TheVariants as awaited
use Rattle.jar_types.specs.declared.jar_core.CoreRefusal.{CoreRefusal}
use Rattle.jar_types.specs.declared.jar_core.CoreRefusal.TheVariants.{Pending, NotYet, NoMemory}
use Rattle.jar_types.specs.declared.op.Op.{Op}
use Rattle.jar_types.specs.Loads.{next_key}
use Rattle.jar_types.specs.Steps.{entry_of, own_may_stand}
use Rattle.jar_types.specs.Waits.{op_waits}
use Rattle.script_text.specs.declared.script.Script.{Script}
use Rattle.shared_jar.specs.Faults.{faults_in, is_fault, is_own_fault}
use Rattle.script_run.specs.declared.ask.Ask.{Ask}
use Rattle.script_run.specs.declared.ask.Ask.TheVariants as ask
use Rattle.script_run.specs.declared.purpose.Purpose.{Purpose}
use Rattle.script_run.specs.declared.status.TheConstants.{DONE, STORE_FAULT}
use Rattle.script_run.specs.Answers.{status_of, status_where}
use Rattle.script_run.specs.Ask.{ask_of}
use Rattle.script_run.specs.Reads.{Way, reuses, calls, way_of}
use Rattle.script_run.specs.Rounds.{Giving, committed_where, ended, flushed, is_due, load_gave, loaded, loaded_next, taken}
use Rattle.script_run.specs.Runs.{Run, asked, called_where, called_within, did, happened, holding_at, next_turn, tried, tried_first, tried_where, want_of, went}
use Rattle.script_run.specs.Turns.{Turn, turn_now, view_at}

-- one for an entry that tells of a fault
abbrev pub one_if : Bool → ℕ
one_if b = cond b 1 0

pub faults_push : (journal : List Entry) (e : Entry) → faults_in (journal ++ e ∷ []) ≡ faults_in journal + one_if (is_fault e)
faults_push journal e =
    let both = sum_by-append (λ x. one_if (is_fault x)) journal (e ∷ []) in
    let last = sum_by-cons (λ x. one_if (is_fault x)) e [] in
    both ∙ ap (λ n. faults_in journal + n) (last ∙ omega arith)

pub happened_faults : (r : Run) (v : Event) → faults_in (happened r v).journal ≡ faults_in r.journal + one_if (is_fault (entry_of r.state v))
happened_faults r v = faults_push r.journal (entry_of r.state v)

pub own_faults : (r : Run) (own : Own) → faults_in (happened r (JarEvent own)).journal ≡ faults_in r.journal + one_if (is_own_fault own)
own_faults r own = happened_faults r (JarEvent own)

-- an entry of the jar's own tells of no fewer faults
own_more : (r : Run) (own : Own) → faults_in r.journal ≤ faults_in (happened r (JarEvent own)).journal
own_more r own = let same = own_faults r own in omega (arith, same)

did_more : (may : Bool) (r : Run) (own : Own) → faults_in r.journal ≤ faults_in (did may r own).journal
did_more true r own = own_more r own
did_more false r own = omega arith

-- ---- a try tells of no fault

-- the journal tells of as many faults as before
abbrev IsFaultless : Run → Run → Type 0
IsFaultless r t = faults_in t.journal ≡ faults_in r.journal

call_faults : (r : Run) (a now : ℕ) (op : Op) → IsFaultless r (happened r (CallEvent a now op))
call_faults r a now op = happened_faults r (CallEvent a now op) ∙ omega arith

did_faults : (may : Bool) (r : Run) (own : Own) → is_own_fault own ≡ false → IsFaultless r (did may r own)
did_faults true r own none = own_faults r own ∙ (ap (λ b. faults_in r.journal + one_if b) none ∙ omega arith)
did_faults false r own none = refl

-- what is wanted is no fault
want_faults : (w : Awaited) → is_own_fault (want_of w) ≡ false
want_faults (awaited.Key key) = refl
want_faults awaited.All = refl

where_faults : (o : Option CoreRefusal) (a : ℕ) (r : Run) (now : ℕ) (op : Op) (why : Purpose) → IsFaultless r (called_where o a r now op why)
where_faults (Some (Pending w)) a r now op why = did_faults (own_may_stand r.state (want_of w)) r (want_of w) (want_faults w)
where_faults (Some (NotYet found)) a r now op why = refl
where_faults (Some NoMemory) a r now op why = refl
where_faults None a r now op why = call_faults r a now op

within_faults : (full : Bool) (a : ℕ) (r : Run) (now : ℕ) (op : Op) (why : Purpose) → IsFaultless r (called_within full a r now op why)
within_faults true a r now op why = refl
within_faults false a r now op why = where_faults (op_waits r.state op) a r now op why

asked_faults : (script : Script) (a : ℕ) (r : Run) (now : ℕ) (why : Purpose) (o : Option Ask) → IsFaultless r (asked script a r now why o)
asked_faults script a r now why None = refl
asked_faults script a r now why (Some (ask.Op op)) = within_faults (nat_le script.limit r.state.calls) a r now op why
asked_faults script a r now why (Some (ask.Refused name)) = refl

went_faults : (script : Script) (a : ℕ) (r : Run) (now : ℕ) (way : Way) (o : Option Ask) → IsFaultless r (went script a r now way o)
went_faults script a r now (reuses text) o = refl
went_faults script a r now (calls why) o = asked_faults script a r now why o

turn_faults : (script : Script) (a : ℕ) (r : Run) (o : Option Turn) → IsFaultless r (tried_where script a r o)
turn_faults script a r None = refl
turn_faults script a r (Some turn) =
    let sees = view_at script.actors a in
    went_faults script a r (turn_now script turn) (way_of r.state sees (holding_at r a) turn) (ask_of script.suffixes sees turn)

pub tried_faults : (script : Script) (a : ℕ) (r : Run) → faults_in (tried script a r).journal ≡ faults_in r.journal
tried_faults script a r = turn_faults script a r (next_turn script a r)

pub first_faults : (script : Script) (k : ℕ) (r : Run) → faults_in (tried_first script k r).journal ≡ faults_in r.journal
first_faults script zero r = refl
first_faults script (suc k) r = tried_faults script k (tried_first script k r) ∙ first_faults script k r

-- ---- a load

next_more : (o : Option (List ℕ)) (start : ℕ) (gives : Giving) (r : Run) → faults_in r.journal ≤ faults_in (loaded_next o start gives r).journal
next_more (Some key) start gives r =
    let may = own_may_stand r.state (Begun key) in
    let begun = did_more may r (Begun key) in
    let gave = own_more (did may r (Begun key)) (load_gave key (gives key)) in
    omega (arith, begun, gave)
next_more None start gives r = did_more (own_may_stand r.state (Whole start)) r (Whole start)

-- a load tells of no fewer faults
pub loaded_more : (start : ℕ) (gives : Giving) (r : Run) → faults_in r.journal ≤ faults_in (loaded start gives r).journal
loaded_more start gives r = next_more (next_key r.state.loads.keys) start gives r

-- ---- a commit

ended_more : (commits : Bool) (place : ℕ) (r : Run) → faults_in r.journal ≤ faults_in (ended commits place r).journal
ended_more true place r = own_more r (Acked place)
ended_more false place r = own_more r (CommitLost place)

where_more : (due commits : Bool) (r : Run) → faults_in r.journal ≤ faults_in (committed_where due commits r).journal
where_more true commits r =
    let t = taken r in
    let took = own_more r Taken in
    let end = ended_more commits (length t.journal) t in
    omega (arith, took, end)
where_more false commits r = omega arith

-- a commit tells of no fewer faults
pub flushed_more : (force commits : Bool) (r : Run) → faults_in r.journal ≤ faults_in (flushed force commits r).journal
flushed_more force commits r = where_more (is_due force r) commits r

-- ---- results

pub on_ok : {T E P Q : Type 0} → (r : Result T E) → (P → Q) → OnOk r P → OnOk r Q
on_ok (Ok value) f p = f p
on_ok (Err error) f p = p

pub on_ok_both : {T E P Q R : Type 0} → (r : Result T E) → (P → Q → R) → OnOk r P → OnOk r Q → OnOk r R
on_ok_both (Ok value) f p q = f p q
on_ok_both (Err error) f p q = p

-- what is said where a result is Ok, of one that is no error
pub of_ok : {T E P : Type 0} → (r : Result T E) → OnOk r P → is_err r ≡ false → P
of_ok (Ok value) p e = p
of_ok (Err error) p e = absurd cc

-- what follows of a result that is Ok from four that are said of it
pub if_ok_four : {T E : Type 0} {P Q R S W : T → Type 0} → (r : Result T E) → ((t : T) → P t → Q t → R t → S t → W t)
    → IfOk r P → IfOk r Q → IfOk r R → IfOk r S → IfOk r W
if_ok_four (Ok value) f p q r s = f value p q r s
if_ok_four (Err error) f p q r s = p

-- ---- a status

status_step : (b any : Bool) (n : ℕ) → status_where n ≡ cond any STORE_FAULT DONE → status_where (one_if b + n) ≡ cond (b || any) STORE_FAULT DONE
status_step true any n same = ap status_where (more n)
  where
    more : (m : ℕ) → 1 + m ≡ suc m
    more m = omega arith
status_step false any n same = ap status_where (none n) ∙ same
  where
    none : (m : ℕ) → 0 + m ≡ m
    none m = omega arith

pub status_by_any : (journal : List Entry) → status_of journal ≡ cond (list_any is_fault journal) STORE_FAULT DONE
status_by_any [] = refl
status_by_any (e ∷ journal) =
    ap status_where (sum_by-cons (λ x. one_if (is_fault x)) e journal) ∙ status_step (is_fault e) (list_any is_fault journal) (faults_in journal) (status_by_any journal)
