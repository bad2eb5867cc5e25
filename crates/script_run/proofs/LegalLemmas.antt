-- Why the journal of a script is legal.
use Rattle.std.proofs.Common.{◌≡◌, ◌<◌, ◌≤◌, ◌+◌, ℕ, suc, zero, List, [], ◌∷◌, ◌++◌, Bool, true, false, Option, None, Some, length, refl, ap, sym, ◌∙◌, arith, subst, length-append}
use Rattle.std.specs.Prelude.{◌==◌, ◌&&◌, ◌||◌, not, nat_le, nat_lt}
use Rattle.std.specs.List.{AllByRecursion}
use Rattle.std.specs.List.Sorted.{IsStrictlySortedBy}
use Rattle.std.proofs.lemmas.Bool.Decides.{nat_tests}
use Rattle.jar_types.specs.declared.cookie.Cookie.{Cookie}
use Rattle.jar_types.specs.declared.jar_core.Awaited.{Awaited}
use Rattle.jar_types.specs.declared.jar_core.Awaited.TheVariants as awaited
use Rattle.jar_types.specs.declared.jar_core.CoreRefusal.{CoreRefusal}
use Rattle.jar_types.specs.declared.jar_core.CoreRefusal.TheVariants.{Pending, NotYet, NoMemory}
use Rattle.jar_types.specs.declared.op.Op.{Op}
use Rattle.jar_types.specs.declared.entry.Own.{Own}
use Rattle.jar_types.specs.declared.entry.Own.TheVariants.{Want, WantAll, Begun, Loaded, Whole, Taken, Acked, CommitLost}
use Rattle.jar_types.specs.declared.entry.Event.{Event}
use Rattle.jar_types.specs.declared.entry.Event.TheVariants.{Call as CallEvent, Jar as JarEvent}
use Rattle.jar_types.specs.Ids.{text_cmp}
use Rattle.jar_types.specs.Journals.{IsLegal, is_well_keyed, own_fits, stands, state_of, stored_keys}
use Rattle.jar_types.specs.Loads.{is_loaded, is_marked, is_the, is_wanted, may_load, next_key}
use Rattle.jar_types.specs.States.{JarState}
use Rattle.jar_types.specs.Steps.{after, entry_of, own_may_stand}
use Rattle.jar_types.specs.Waits.{faulted, needs, op_waits}
use Rattle.jar_types.proofs.JournalLemmas.{state_push, legal_push}
use Rattle.commit_batches.specs.declared.pending.TheConstants.{MOST_PENDING}
use Rattle.run_report.specs.declared.item.Item.{Item}
use Rattle.run_report.specs.declared.item.Item.TheVariants.{Reused, Refused}
use Rattle.run_report.specs.declared.refusal_name.RefusalName.TheVariants.{Spent}
use Rattle.script_text.specs.declared.script.Script.{Script}
use Rattle.script_text.specs.Admitted.{IsAdmitted}
use Rattle.script_run.specs.declared.ask.Ask.{Ask}
use Rattle.script_run.specs.declared.ask.Ask.TheVariants as ask
use Rattle.script_run.specs.declared.purpose.Purpose.{Purpose}
use Rattle.script_run.specs.Ask.{MayBeAsked, ask_of}
use Rattle.script_run.specs.Legal.{SerialJournalsAreLegal}
use Rattle.script_run.specs.Rounds.{Giving, IsFitting, Service, committed_where, ended, is_due, load_gave, loaded, loaded_next, round, rounds, rules_of, taken}
use Rattle.script_run.specs.Reads.{Way, reuses, calls, way_of}
use Rattle.script_run.specs.Runs.{Run, begin, items_at, holding_at, did, happened, noted, called_where, called_within, asked, went, tried_where, next_turn, tried_first, want_of}
use Rattle.script_run.specs.Turns.{Turn, turn_now, view_at}
use Rattle.script_run.proofs.AskOwnLemmas.{turn_may_be_asked}
use Rattle.script_run.proofs.KeepLemmas.{where_holds}
use Rattle.script_run.proofs.KeyLemmas.{keys_rise}
use Rattle.script_run.proofs.LoadLemmas.{Holds, all_holds, begin_holds, gave_goes, want_holds, whole_goes}
use Rattle.script_run.proofs.RoundLemmas.{begun_stands}
use Rattle.script_run.proofs.SameLemmas.{call_loads, call_out, event_entries}
use Rattle.script_run.proofs.TextLemmas.{text_self}

-- ---- the run so far

-- the run so far has a legal journal, which leads to its state
record IsSound (script : Script) (hosts : List (List ℕ)) (r : Run) : Type 0 where
  state : state_of (stored_keys (rules_of script hosts)) r.journal ≡ r.state
  legal : IsLegal (rules_of script hosts) r.journal
  holds : Holds r.state.loads
  none_out : r.state.batches.out ≡ None
  places : length r.journal ≡ r.state.entries

abbrev keys_of : Script → List (List ℕ) → List (List ℕ)
keys_of script hosts = stored_keys (rules_of script hosts)

begin_sound : (script : Script) (hosts : List (List ℕ)) → IsStrictlySortedBy text_cmp hosts → IsStrictlySortedBy text_cmp (keys_of script hosts)
    → IsSound script hosts (begin script (keys_of script hosts))
unfolding state_of
begin_sound script hosts rises keys = record {
  state = refl;
  legal = record { hosts = rises; replies = refl; standing = refl };
  holds = begin_holds (keys_of script hosts) keys;
  none_out = refl;
  places = refl;
}

-- the journal with an event that may come
more_legal : (script : Script) (hosts : List (List ℕ)) (r : Run) (v : Event) → state_of (keys_of script hosts) r.journal ≡ r.state → IsLegal (rules_of script hosts) r.journal
    → stands (rules_of script hosts) r.state v ≡ true → IsLegal (rules_of script hosts) (happened r v).journal
more_legal script hosts r v state legal may =
    let rules = rules_of script hosts in
    let keys = keys_of script hosts in
    let may' : stands rules (state_of keys r.journal) v ≡ true = ap (λ s. stands rules s v) state ∙ may in
    subst (λ (s : JarState). IsLegal rules (r.journal ++ entry_of s v ∷ [])) state (legal_push rules r.journal v legal may')

more_state : (keys : List (List ℕ)) (r : Run) (v : Event) → state_of keys r.journal ≡ r.state → state_of keys (happened r v).journal ≡ (happened r v).state
more_state keys r v state =
    subst (λ (s : JarState). state_of keys (r.journal ++ entry_of s v ∷ []) ≡ after s v) state (state_push keys r.journal v)

more_places : (r : Run) (v : Event) → length r.journal ≡ r.state.entries → length (happened r v).journal ≡ (happened r v).state.entries
more_places r v places =
    length-append r.journal (entry_of r.state v ∷ []) ∙ (ap (λ n. n + 1) places ∙ sym (event_entries r.state v))

happened_sound : (script : Script) (hosts : List (List ℕ)) (r : Run) (v : Event) → IsSound script hosts r → stands (rules_of script hosts) r.state v ≡ true
    → Holds (after r.state v).loads → (after r.state v).batches.out ≡ None → IsSound script hosts (happened r v)
happened_sound script hosts r v sound may holds none = record {
  state = more_state (keys_of script hosts) r v sound.state;
  legal = more_legal script hosts r v sound.state sound.legal may;
  holds = holds;
  none_out = none;
  places = more_places r v sound.places;
}

is_below : (n m : ℕ) → n < m → nat_lt n m ≡ true
is_below n m h = grind (arith, nat_tests)

call_stands : (script : Script) (hosts : List (List ℕ)) (s : JarState) (a now : ℕ) (op : Op) → a < length script.actors → s.calls < script.limit
    → is_well_keyed (rules_of script hosts) op ≡ true → op_waits s op ≡ None → stands (rules_of script hosts) s (CallEvent a now op) ≡ true
call_stands script hosts s a now op low few keyed waits =
    rw (is_below a (length script.actors) low, is_below s.calls script.limit few, keyed, waits) refl

-- what the jar does itself where it may, where it fits whatever the rules are
own_stands : (script : Script) (hosts : List (List ℕ)) (s : JarState) (own : Own) → own_may_stand s own ≡ true → own_fits (rules_of script hosts) own ≡ true
    → stands (rules_of script hosts) s (JarEvent own) ≡ true
own_stands script hosts s own may fits = rw may fits

start_is : (n : ℕ) → (n == n) ≡ true
start_is n = grind (arith, nat_tests)

-- ---- a try

-- an item more changes neither state nor journal
noted_sound : (script : Script) (hosts : List (List ℕ)) (a : ℕ) (r : Run) (item : Item) → IsSound script hosts r → IsSound script hosts (noted a r item)
noted_sound script hosts a r item sound =
    record { state = sound.state; legal = sound.legal; holds = sound.holds; none_out = sound.none_out; places = sound.places }

parts : (a b : Bool) → (a && b) ≡ true → (a ≡ true) × (b ≡ true)
parts true b e = (refl, e)
parts false b e = absurd cc

negated : (a : Bool) → not a ≡ true → a ≡ false
negated true e = absurd cc
negated false e = refl

want_sound : (script : Script) (hosts : List (List ℕ)) (r : Run) (what : Awaited) (may : Bool) → own_may_stand r.state (want_of what) ≡ may → IsSound script hosts r
    → IsSound script hosts (did may r (want_of what))
want_sound script hosts r what false may sound = sound
want_sound script hosts r (awaited.Key key) true may sound =
    let load = (parts (may_load (Want key) r.state.loads) true may).0 in
    let first = parts (not (is_loaded key r.state.loads.keys)) (not (is_wanted key r.state.loads.keys) && not (is_marked key r.state.loads.keys)) load in
    let second = parts (not (is_wanted key r.state.loads.keys)) (not (is_marked key r.state.loads.keys)) first.1 in
    happened_sound script hosts r (JarEvent (Want key)) sound (own_stands script hosts r.state (Want key) may refl)
    (want_holds key r.state.loads sound.holds (negated (is_loaded key r.state.loads.keys) first.0) (negated (is_marked key r.state.loads.keys) second.1)) sound.none_out
want_sound script hosts r awaited.All true may sound =
    let load = (parts (may_load WantAll r.state.loads) true may).0 in
    let first = parts (not r.state.loads.whole) (not r.state.loads.all_wanted && not r.state.loads.all_lost) load in
    let second = parts (not r.state.loads.all_wanted) (not r.state.loads.all_lost) first.1 in
    happened_sound script hosts r (JarEvent WantAll) sound (own_stands script hosts r.state WantAll may refl)
    (all_holds r.state.loads sound.holds (negated r.state.loads.whole first.0) (negated r.state.loads.all_lost second.1)) sound.none_out

where_sound : (script : Script) (hosts : List (List ℕ)) (a : ℕ) (r : Run) (now : ℕ) (op : Op) (why : Purpose) (o : Option CoreRefusal) → op_waits r.state op ≡ o → IsSound script hosts r
    → a < length script.actors → r.state.calls < script.limit → is_well_keyed (rules_of script hosts) op ≡ true
    → IsSound script hosts (called_where o a r now op why)
where_sound script hosts a r now op why (Some (Pending what)) waits sound low few keyed =
    want_sound script hosts r what (own_may_stand r.state (want_of what)) refl sound
where_sound script hosts a r now op why (Some (NotYet found)) waits sound low few keyed = sound
where_sound script hosts a r now op why (Some NoMemory) waits sound low few keyed = sound
where_sound script hosts a r now op why None waits sound low few keyed =
    let v = CallEvent a now op in
    let loads = call_loads r.state a now op in
    let h = happened_sound script hosts r v sound (call_stands script hosts r.state a now op low few keyed waits)
    (subst Holds (sym loads) (where_holds (faulted r.state.loads (needs op)) r.state.loads sound.holds))
    (call_out r.state a now op ∙ sound.none_out) in
    record { state = h.state; legal = h.legal; holds = h.holds; none_out = h.none_out; places = h.places }

within_sound : (script : Script) (hosts : List (List ℕ)) (a : ℕ) (r : Run) (now : ℕ) (op : Op) (why : Purpose) (full : Bool) → nat_le script.limit r.state.calls ≡ full → IsSound script hosts r
    → a < length script.actors → is_well_keyed (rules_of script hosts) op ≡ true → IsSound script hosts (called_within full a r now op why)
within_sound script hosts a r now op why true spent sound low keyed = noted_sound script hosts a r (Refused Spent) sound
within_sound script hosts a r now op why false spent sound low keyed =
    let few : r.state.calls < script.limit = grind (arith, nat_tests) in
    where_sound script hosts a r now op why (op_waits r.state op) refl sound low few keyed

asked_sound : (script : Script) (hosts : List (List ℕ)) (a : ℕ) (r : Run) (now : ℕ) (why : Purpose) (o : Option Ask) → IsSound script hosts r → a < length script.actors
    → MayBeAsked (rules_of script hosts) o → IsSound script hosts (asked script a r now why o)
asked_sound script hosts a r now why None sound low may = sound
asked_sound script hosts a r now why (Some (ask.Op op)) sound low may =
    within_sound script hosts a r now op why (nat_le script.limit r.state.calls) refl sound low may
asked_sound script hosts a r now why (Some (ask.Refused name)) sound low may = noted_sound script hosts a r (Refused name) sound

-- a text that is used again makes no entry
went_sound : (script : Script) (hosts : List (List ℕ)) (a : ℕ) (r : Run) (now : ℕ) (way : Way) (o : Option Ask) → IsSound script hosts r → a < length script.actors
    → MayBeAsked (rules_of script hosts) o → IsSound script hosts (went script a r now way o)
went_sound script hosts a r now (reuses text) o sound low may = noted_sound script hosts a r (Reused text) sound
went_sound script hosts a r now (calls why) o sound low may = asked_sound script hosts a r now why o sound low may

turn_sound : (script : Script) (hosts : List (List ℕ)) (a : ℕ) (r : Run) (o : Option Turn) → next_turn script a r ≡ o → IsAdmitted script → IsSound script hosts r
    → a < length script.actors → IsSound script hosts (tried_where script a r o)
turn_sound script hosts a r None is admitted sound low = sound
turn_sound script hosts a r (Some turn) is admitted sound low =
    let sees = view_at script.actors a in
    went_sound script hosts a r (turn_now script turn) (way_of r.state sees (holding_at r a) turn) (ask_of script.suffixes sees turn) sound low
    (turn_may_be_asked script hosts a (length (items_at r a)) turn admitted is)

first_sound : (script : Script) (hosts : List (List ℕ)) (k : ℕ) (r : Run) → IsAdmitted script → IsSound script hosts r → k ≤ length script.actors
    → IsSound script hosts (tried_first script k r)
first_sound script hosts zero r admitted sound few = sound
first_sound script hosts (suc k) r admitted sound few =
    let t = tried_first script k r in
    turn_sound script hosts k t (next_turn script k t) refl admitted (first_sound script hosts k r admitted sound (omega (arith, few))) (omega (arith, few))

-- ---- a load

gave_stands : (script : Script) (hosts : List (List ℕ)) (s : JarState) (key : List ℕ) (answer : Option (List Cookie)) → is_the key s.loads.keys.begun ≡ true
    → ((cookies : List Cookie) → answer ≡ Some cookies → own_fits (rules_of script hosts) (Loaded key cookies) ≡ true)
    → stands (rules_of script hosts) s (JarEvent (load_gave key answer)) ≡ true
gave_stands script hosts s key (Some cookies) begun fits = rw begun (fits cookies refl)
gave_stands script hosts s key None begun fits = rw begun refl

gave_out : (s : JarState) (key : List ℕ) (answer : Option (List Cookie)) → (after s (JarEvent (load_gave key answer))).batches.out ≡ s.batches.out
gave_out s key (Some cookies) = refl
gave_out s key None = refl

-- a key is loaded, whose load begins
key_sound : (script : Script) (hosts : List (List ℕ)) (r : Run) (key : List ℕ) (answer : Option (List Cookie)) (may : Bool) → own_may_stand r.state (Begun key) ≡ may → may ≡ true
    → IsSound script hosts r → next_key r.state.loads.keys ≡ Some key
    → ((cookies : List Cookie) → answer ≡ Some cookies → own_fits (rules_of script hosts) (Loaded key cookies) ≡ true)
    → IsSound script hosts (happened (did may r (Begun key)) (JarEvent (load_gave key answer)))
key_sound script hosts r key answer false e is sound next fits = absurd cc
key_sound script hosts r key answer true e is sound next fits =
    let t = happened r (JarEvent (Begun key)) in
    let state = more_state (keys_of script hosts) r (JarEvent (Begun key)) sound.state in
    let legal = more_legal script hosts r (JarEvent (Begun key)) sound.state sound.legal (own_stands script hosts r.state (Begun key) e refl) in
    let places = more_places r (JarEvent (Begun key)) sound.places in
    let v = JarEvent (load_gave key answer) in
    let may = gave_stands script hosts t.state key answer (text_self key) fits in
    record {
      state = more_state (keys_of script hosts) t v state;
      legal = more_legal script hosts t v state legal may;
      holds = (gave_goes key answer r.state.loads sound.holds next).holds;
      none_out = gave_out t.state key answer ∙ sound.none_out;
      places = more_places t v places;
    }

whole_sound : (script : Script) (hosts : List (List ℕ)) (r : Run) (may : Bool) → own_may_stand r.state (Whole script.start) ≡ may → IsSound script hosts r
    → next_key r.state.loads.keys ≡ None → IsSound script hosts (did may r (Whole script.start))
whole_sound script hosts r false may sound next = sound
whole_sound script hosts r true may sound next =
    happened_sound script hosts r (JarEvent (Whole script.start)) sound (own_stands script hosts r.state (Whole script.start) may (start_is script.start))
    (whole_goes true script.start r.state.loads sound.holds next (parts (may_load (Whole script.start) r.state.loads) true may).0).holds sound.none_out

next_sound : (script : Script) (hosts : List (List ℕ)) (r : Run) (gives : Giving) (o : Option (List ℕ)) → next_key r.state.loads.keys ≡ o → IsFitting (rules_of script hosts) gives
    → IsSound script hosts r → IsSound script hosts (loaded_next o script.start gives r)
next_sound script hosts r gives (Some key) next fits sound =
    key_sound script hosts r key (gives key) (own_may_stand r.state (Begun key)) refl (begun_stands key r sound.holds next) sound next (λ cookies is. fits key cookies is)
next_sound script hosts r gives None next fits sound = whole_sound script hosts r (own_may_stand r.state (Whole script.start)) refl sound next

-- ---- a commit

same_place : (n m : ℕ) → n ≡ m → (m == n) ≡ true
same_place n m e = grind (arith, nat_tests)

-- the batch that was taken is out, and ends
ended_sound : (script : Script) (hosts : List (List ℕ)) (commits : Bool) (t : Run) → state_of (keys_of script hosts) t.journal ≡ t.state → IsLegal (rules_of script hosts) t.journal
    → Holds t.state.loads → length t.journal ≡ t.state.entries → t.state.batches.out ≡ Some (length t.journal)
    → IsSound script hosts (ended commits (length t.journal) t)
ended_sound script hosts true t state legal holds places out =
    let v = JarEvent (Acked (length t.journal)) in
    let may : stands (rules_of script hosts) t.state v ≡ true = rw out (rw (start_is (length t.journal)) refl) in record {
      state = more_state (keys_of script hosts) t v state;
      legal = more_legal script hosts t v state legal may;
      holds = holds;
      none_out = refl;
      places = more_places t v places;
    }
ended_sound script hosts false t state legal holds places out =
    let v = JarEvent (CommitLost (length t.journal)) in
    let may : stands (rules_of script hosts) t.state v ≡ true = rw out (rw (start_is (length t.journal)) refl) in record {
      state = more_state (keys_of script hosts) t v state;
      legal = more_legal script hosts t v state legal may;
      holds = holds;
      none_out = refl;
      places = more_places t v places;
    }

due_may : (may rest : Bool) → (may && rest) ≡ true → may ≡ true
due_may true rest e = refl
due_may false rest e = absurd cc

flush_sound : (script : Script) (hosts : List (List ℕ)) (force commits due : Bool) (r : Run) → is_due force r ≡ due → IsSound script hosts r
    → IsSound script hosts (committed_where due commits r)
flush_sound script hosts force commits false r is sound = sound
flush_sound script hosts force commits true r is sound =
    let may = due_may (own_may_stand r.state Taken) (force || nat_le MOST_PENDING (length r.state.batches.touched)) is in
    let t = happened r (JarEvent Taken) in
    let u = taken r in
    let places = more_places r (JarEvent Taken) sound.places in
    ended_sound script hosts commits u
    (more_state (keys_of script hosts) r (JarEvent Taken) sound.state)
    (more_legal script hosts r (JarEvent Taken) sound.state sound.legal (own_stands script hosts r.state Taken may refl))
    sound.holds places (ap (λ n. Some n) (sym (places ∙ omega arith)))

-- ---- rounds

round_sound : (script : Script) (hosts : List (List ℕ)) (service : Service) (r : Run) → IsAdmitted script → IsFitting (rules_of script hosts) service.gives
    → IsSound script hosts r → IsSound script hosts (round script service r)
round_sound script hosts service r admitted fits sound =
    let t = tried_first script (length script.actors) r in
    let u = loaded script.start service.gives t in
    flush_sound script hosts false service.commits (is_due false u) u refl
    (next_sound script hosts t service.gives (next_key t.state.loads.keys) refl fits
    (first_sound script hosts (length script.actors) r admitted sound (omega arith)))

rounds_sound : (script : Script) (hosts : List (List ℕ)) (services : List Service) → IsAdmitted script → IsStrictlySortedBy text_cmp hosts
    → IsStrictlySortedBy text_cmp (keys_of script hosts) → AllByRecursion (λ service. IsFitting (rules_of script hosts) service.gives) services
    → IsSound script hosts (rounds script hosts services)
rounds_sound script hosts [] admitted rises keys fits = begin_sound script hosts rises keys
rounds_sound script hosts (service ∷ earlier) admitted rises keys fits =
    round_sound script hosts service (rounds script hosts earlier) admitted fits.0 (rounds_sound script hosts earlier admitted rises keys fits.1)

pub serial_legal : SerialJournalsAreLegal
serial_legal script hosts run admitted rises ends =
    let r = rounds script hosts (ends.last ∷ ends.earlier) in
    let sound = rounds_sound script hosts (ends.last ∷ ends.earlier) admitted rises (keys_rise script hosts) ends.fitting in
    subst (λ (t : Run). IsLegal (rules_of script hosts) t.journal) (sym ends.is) (flush_sound script hosts true ends.commits (is_due true r) r refl sound).legal
