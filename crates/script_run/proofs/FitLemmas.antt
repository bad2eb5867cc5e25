-- Why each item fits its turn.
use Rattle.std.proofs.Common.{◌≡◌, ◌≢◌, ◌<◌, ◌≤◌, ◌+◌, ◌⊎◌, ℕ, suc, zero, List, [], ◌∷◌, ◌++◌, Bool, true, false, Option, None, Some, length, take, replicate, slice_get, refl, ap, sym, ◌∙◌, arith, subst, inl, inr, length-append, length-set, append_assoc, get_or-set_same, get_or-set_other}
use Rattle.std.specs.Prelude.{◌==◌, map, nat_le, slice_index_or}
use Rattle.std.proofs.lemmas.Bool.{cases_eq}
use Rattle.std.proofs.lemmas.Bool.Decides.{nat_tests}
use Rattle.std.proofs.lemmas.List.{length-map}
use Rattle.jar_types.specs.declared.op.Op.{Op}
use Rattle.jar_types.specs.declared.op.Reply.{Reply}
use Rattle.jar_types.specs.declared.entry.Own.{Own}
use Rattle.jar_types.specs.declared.entry.Event.TheVariants.{Call as CallEvent, Jar as JarEvent}
use Rattle.jar_types.specs.declared.entry.Entry.{Entry}
use Rattle.jar_types.specs.declared.entry.Entry.TheVariants.{Call, Jar}
use Rattle.jar_types.specs.declared.jar_core.CoreRefusal.{CoreRefusal}
use Rattle.jar_types.specs.declared.jar_core.CoreRefusal.TheVariants.{Pending, NotYet, NoMemory}
use Rattle.jar_types.specs.Journals.{stored_keys}
use Rattle.jar_types.specs.Steps.{call_step, entry_of, own_may_stand}
use Rattle.jar_types.specs.Waits.{op_waits}
use Rattle.run_report.specs.declared.item.Item.{Item}
use Rattle.run_report.specs.declared.item.Item.TheVariants.{At, Asked, Reused, Refused}
use Rattle.run_report.specs.declared.refusal_name.RefusalName.{RefusalName}
use Rattle.run_report.specs.declared.refusal_name.RefusalName.TheVariants.{Spent}
use Rattle.script_text.specs.declared.actor.Actor.{Actor}
use Rattle.script_text.specs.declared.script.Script.{Script}
use Rattle.script_text.specs.Placed.{View}
use Rattle.script_run.specs.declared.ask.Ask.{Ask}
use Rattle.script_run.specs.declared.ask.Ask.TheVariants as ask
use Rattle.script_run.specs.declared.purpose.Purpose.{Purpose}
use Rattle.script_run.specs.declared.purpose.Purpose.TheVariants as purpose
use Rattle.script_run.specs.Ask.{ask_of}
use Rattle.script_run.specs.Legal.{count_calls, FitsAsk, FitsCall, FitsTurn, FitEach, IsEntryAt, IsSpent, ItemsFitTheTurns, reads}
use Rattle.script_run.specs.Reads.{Way, reuses, calls, way_of}
use Rattle.script_run.specs.Rounds.{Ends, rounds, rules_of}
use Rattle.script_run.specs.Runs.{Run, begin, items_at, holding_at, item_of, left, did, happened, noted, called_where, called_within, asked, went, tried_where, next_turn, want_of}
use Rattle.script_run.specs.Turns.{Turn, does, lead_of, turn_now, turns_at, turns_before, turns_left, turns_of, view_at}
use Rattle.script_run.proofs.ClosedLemmas.{Closed, closed_flush, closed_rounds}
use Rattle.script_run.proofs.RoundLemmas.{flush_items}
use Rattle.script_run.proofs.SameLemmas.{call_calls}
use Rattle.script_run.proofs.WayLemmas.{is_for_read, purpose_of_turn, reused_fit}

-- ---- a journal that goes on

count_more : (journal : List Entry) (e : Entry) → count_calls journal ≤ count_calls (journal ++ e ∷ [])
count_more [] e = omega arith
count_more (Call caller now op reply ∷ es) e = let rest = count_more es e in omega (arith, rest)
count_more (Jar own ∷ es) e = count_more es e

count_call : (journal : List Entry) (a now : ℕ) (op : Op) (r : Reply) → count_calls (journal ++ Call a now op r ∷ []) ≡ count_calls journal + 1
count_call [] a now op r = refl
count_call (Call caller now' op' reply ∷ es) a now op r = ap (λ n. n + 1) (count_call es a now op r)
count_call (Jar own ∷ es) a now op r = count_call es a now op r

count_own : (journal : List Entry) (own : Own) → count_calls (journal ++ Jar own ∷ []) ≡ count_calls journal
count_own [] own = refl
count_own (Call caller now op reply ∷ es) own = ap (λ n. n + 1) (count_own es own)
count_own (Jar other ∷ es) own = count_own es own

entry_later : (journal : List Entry) (e : Entry) (place a now : ℕ) (op : Op) → IsEntryAt journal place a now op → IsEntryAt (journal ++ e ∷ []) place a now op
entry_later journal e place a now op at = record {
  before = at.before;
  reply = at.reply;
  later = at.later ++ e ∷ [];
  is = ap (λ es. es ++ e ∷ []) at.is ∙ append_assoc at.before (Call a now op at.reply ∷ at.later) (e ∷ []);
  place_is = at.place_is;
}

spent_later : (limit : ℕ) (journal : List Entry) (e : Entry) (name : RefusalName) → IsSpent limit journal name → IsSpent limit (journal ++ e ∷ []) name
spent_later limit journal e name spent =
    let few = spent.1 in let more = count_more journal e in (spent.0, omega (arith, few, more))

call_later : (read : Bool) (limit : ℕ) (journal : List Entry) (e : Entry) (a now : ℕ) (op : Op) (item : Item) → FitsCall read limit journal a now op item
    → FitsCall read limit (journal ++ e ∷ []) a now op item
call_later true limit journal e a now op (At place) fits = fits
call_later true limit journal e a now op (Asked place cause) fits = entry_later journal e place a now op fits
call_later true limit journal e a now op (Reused text) fits = fits
call_later true limit journal e a now op (Refused name) fits = spent_later limit journal e name fits
call_later false limit journal e a now op (At place) fits = entry_later journal e place a now op fits
call_later false limit journal e a now op (Asked place cause) fits = fits
call_later false limit journal e a now op (Reused text) fits = fits
call_later false limit journal e a now op (Refused name) fits = spent_later limit journal e name fits

ask_later : (read : Bool) (limit : ℕ) (journal : List Entry) (e : Entry) (a now : ℕ) (o : Option Ask) (item : Item) → FitsAsk read limit journal a now o item
    → FitsAsk read limit (journal ++ e ∷ []) a now o item
ask_later read limit journal e a now None item fits = fits
ask_later read limit journal e a now (Some (ask.Op op)) item fits = call_later read limit journal e a now op item fits
ask_later read limit journal e a now (Some (ask.Refused name)) item fits = fits

each_later : (script : Script) (sees : Option View) (journal : List Entry) (e : Entry) (a : ℕ) (turns : List Turn) (items : List Item)
    → FitEach script sees journal a turns items → FitEach script sees (journal ++ e ∷ []) a turns items
each_later script sees journal e a [] [] fits = tt
each_later script sees journal e a [] (i ∷ is) fits = fits
each_later script sees journal e a (t ∷ ts) [] fits = fits
each_later script sees journal e a (t ∷ ts) (i ∷ is) fits =
    (ask_later (reads t) script.limit journal e a (turn_now script t) (ask_of script.suffixes sees t) i fits.0, each_later script sees journal e a ts is fits.1)

-- ---- the turns that were done

-- the next turn, done
each_more : (script : Script) (sees : Option View) (journal : List Entry) (a : ℕ) (turns : List Turn) (items : List Item) (turn : Turn) (item : Item)
    → FitEach script sees journal a (take (length items) turns) items → slice_get turns (length items) ≡ Some turn
    → FitsTurn script sees journal a turn item
    → FitEach script sees journal a (take (length (items ++ item ∷ [])) turns) (items ++ item ∷ [])
each_more script sees journal a [] [] turn item fits is fit = absurd cc
each_more script sees journal a (t ∷ ts) [] turn item fits is fit =
    let same : t ≡ turn = cc in
    (subst (λ (u : Turn). FitsTurn script sees journal a u item) (sym same) fit, tt)
each_more script sees journal a [] (i ∷ is) turn item fits there fit = absurd fits
each_more script sees journal a (t ∷ ts) (i ∷ is) turn item fits there fit =
    (fits.0, each_more script sees journal a ts is turn item fits.1 there fit)

-- these items of an actor fit as many of its turns
abbrev FitSoFar : Script → List Entry → ℕ → List Item → Type 0
FitSoFar script journal a items =
    FitEach script (view_at script.actors a) journal a (take (length items) (turns_at script.actors a)) items

-- the run so far: callers' entries are counted, and the items of each actor fit the turns that it has done
record Fits (script : Script) (r : Run) : Type 0 where
  many : length r.items ≡ length script.actors
  calls : r.state.calls ≡ count_calls r.journal
  each : (a : ℕ) → a < length script.actors → FitSoFar script r.journal a (items_at r a)

-- an actor's items with one more
noted_at : (script : Script) (b a : ℕ) (h : Run) (item : Item) (turn : Turn) → length h.items ≡ length script.actors → b < length script.actors
    → ((c : ℕ) → c < length script.actors → FitSoFar script h.journal c (items_at h c))
    → next_turn script b h ≡ Some turn → FitsTurn script (view_at script.actors b) h.journal b turn item
    → (a ≡ b) ⊎ (a ≢ b) → a < length script.actors → FitSoFar script h.journal a (items_at (noted b h item) a)
noted_at script b a h item turn many low each is fit (inl same) within =
    rw same (subst (FitSoFar script h.journal b)
    (sym (get_or-set_same h.items b (items_at h b ++ item ∷ []) [] (omega (arith, low, many))))
    (each_more script (view_at script.actors b) h.journal b (turns_at script.actors b) (items_at h b) turn item (each b low) is fit))
noted_at script b a h item turn many low each is fit (inr other) within =
    subst (FitSoFar script h.journal a) (sym (get_or-set_other h.items b a (items_at h b ++ item ∷ []) [] other)) (each a within)

noted_fits : (script : Script) (b : ℕ) (h : Run) (item : Item) (turn : Turn) → Fits script h → b < length script.actors
    → next_turn script b h ≡ Some turn → FitsTurn script (view_at script.actors b) h.journal b turn item → Fits script (noted b h item)
noted_fits script b h item turn fits low is fit = record {
  many = length-set h.items b _ ∙ fits.many;
  calls = fits.calls;
  each = λ a within. noted_at script b a h item turn fits.many low fits.each is fit (cases_eq a b) within;
}

-- an event happened: what fitted still does
happened_fits : (script : Script) (r : Run) (a now : ℕ) (op : Op) → Fits script r → Fits script (happened r (CallEvent a now op))
happened_fits script r a now op fits = record {
  many = fits.many;
  calls = call_calls r.state a now op ∙ (ap (λ n. n + 1) fits.calls ∙ sym (count_call r.journal a now op (call_step r.state a now op).reply));
  each = λ c within. each_later script (view_at script.actors c) r.journal (entry_of r.state (CallEvent a now op)) c (take (length (items_at r c)) (turns_at script.actors c)) (items_at r c) (fits.each c within);
}

-- the jar did something itself
own_fits_run : (script : Script) (r : Run) (own : Own) → Fits script r → Fits script (happened r (JarEvent own))
own_fits_run script r own fits = record {
  many = fits.many;
  calls = fits.calls ∙ sym (count_own r.journal own);
  each = λ c within. each_later script (view_at script.actors c) r.journal (Jar own) c (take (length (items_at r c)) (turns_at script.actors c)) (items_at r c) (fits.each c within);
}

did_fits : (script : Script) (may : Bool) (r : Run) (own : Own) → Fits script r → Fits script (did may r own)
did_fits script true r own fits = own_fits_run script r own fits
did_fits script false r own fits = fits

-- ---- a try

-- the item of a call fits by its purpose, and that of a turn at the limit whatever it is
called_fit : (why : Purpose) (read : Bool) (limit : ℕ) (journal : List Entry) (place a now : ℕ) (op : Op) → is_for_read why ≡ read → IsEntryAt journal place a now op
    → FitsCall read limit journal a now op (item_of why place)
called_fit purpose.Call true limit journal place a now op e at = absurd cc
called_fit purpose.Call false limit journal place a now op e at = at
called_fit purpose.Bind true limit journal place a now op e at = absurd cc
called_fit purpose.Bind false limit journal place a now op e at = at
called_fit (purpose.Read cause) true limit journal place a now op e at = at
called_fit (purpose.Read cause) false limit journal place a now op e at = absurd cc

spent_fit : (read : Bool) (limit : ℕ) (journal : List Entry) (a now : ℕ) (op : Op) (name : RefusalName) → IsSpent limit journal name
    → FitsCall read limit journal a now op (Refused name)
spent_fit true limit journal a now op name spent = spent
spent_fit false limit journal a now op name spent = spent

-- what an actor sees
abbrev seen_by : Script → ℕ → Option View
seen_by script a = view_at script.actors a

where_fits : (script : Script) (a : ℕ) (r : Run) (turn : Turn) (why : Purpose) (op : Op) (o : Option CoreRefusal) → Fits script r → a < length script.actors
    → next_turn script a r ≡ Some turn → ask_of script.suffixes (seen_by script a) turn ≡ Some (ask.Op op) → is_for_read why ≡ reads turn
    → Fits script (called_where o a r (turn_now script turn) op why)
where_fits script a r turn why op (Some (Pending w)) fits low is asks reading = did_fits script (own_may_stand r.state (want_of w)) r (want_of w) fits
where_fits script a r turn why op (Some (NotYet found)) fits low is asks reading = fits
where_fits script a r turn why op (Some NoMemory) fits low is asks reading = fits
where_fits script a r turn why op None fits low is asks reading =
    let now = turn_now script turn in
    let v = CallEvent a now op in
    let h = happened r v in
    let place = length h.journal in
    let at : IsEntryAt h.journal place a now op = record {
      before = r.journal;
      reply = (call_step r.state a now op).reply;
      later = [];
      is = refl;
      place_is = length-append r.journal (entry_of r.state v ∷ []);
    } in
    let fit : FitsTurn script (seen_by script a) h.journal a turn (item_of why place) =
    rw asks (called_fit why (reads turn) script.limit h.journal place a now op reading at) in
    let n = noted_fits script a h (item_of why place) turn (happened_fits script r a now op fits) low is fit in
    record { many = n.many; calls = n.calls; each = n.each }

within_fits : (script : Script) (a : ℕ) (r : Run) (turn : Turn) (why : Purpose) (op : Op) (full : Bool) → nat_le script.limit r.state.calls ≡ full → Fits script r
    → a < length script.actors → next_turn script a r ≡ Some turn → ask_of script.suffixes (seen_by script a) turn ≡ Some (ask.Op op)
    → is_for_read why ≡ reads turn → Fits script (called_within full a r (turn_now script turn) op why)
within_fits script a r turn why op true spent fits low is asks reading =
    let all : script.limit ≤ r.state.calls = grind (arith, nat_tests) in
    let calls = fits.calls in
    let fit : FitsTurn script (seen_by script a) r.journal a turn (Refused Spent) =
    rw asks (spent_fit (reads turn) script.limit r.journal a (turn_now script turn) op Spent (refl, omega (arith, all, calls))) in
    noted_fits script a r (Refused Spent) turn fits low is fit
within_fits script a r turn why op false spent fits low is asks reading =
    where_fits script a r turn why op (op_waits r.state op) fits low is asks reading

asked_fits : (script : Script) (a : ℕ) (r : Run) (turn : Turn) (why : Purpose) (o : Option Ask) → ask_of script.suffixes (seen_by script a) turn ≡ o
    → Fits script r → a < length script.actors → next_turn script a r ≡ Some turn → is_for_read why ≡ reads turn
    → Fits script (asked script a r (turn_now script turn) why o)
asked_fits script a r turn why None asks fits low is reading = fits
asked_fits script a r turn why (Some (ask.Op op)) asks fits low is reading =
    within_fits script a r turn why op (nat_le script.limit r.state.calls) refl fits low is asks reading
asked_fits script a r turn why (Some (ask.Refused name)) asks fits low is reading =
    let fit : FitsTurn script (seen_by script a) r.journal a turn (Refused name) = rw asks refl in
    noted_fits script a r (Refused name) turn fits low is fit

went_fits : (script : Script) (a : ℕ) (r : Run) (turn : Turn) (way : Way) → way_of r.state (seen_by script a) (holding_at r a) turn ≡ way → Fits script r
    → a < length script.actors → next_turn script a r ≡ Some turn
    → Fits script (went script a r (turn_now script turn) way (ask_of script.suffixes (seen_by script a) turn))
went_fits script a r turn (reuses text) goes fits low is =
    noted_fits script a r (Reused text) turn fits low is
    (reused_fit script r.journal a r.state (seen_by script a) (holding_at r a) turn text goes)
went_fits script a r turn (calls why) goes fits low is =
    asked_fits script a r turn why (ask_of script.suffixes (seen_by script a) turn) refl fits low is
    (purpose_of_turn r.state (seen_by script a) (holding_at r a) turn why goes)

turn_fits : (script : Script) (a : ℕ) (r : Run) (o : Option Turn) → next_turn script a r ≡ o → Fits script r → a < length script.actors
    → Fits script (tried_where script a r o)
turn_fits script a r None is fits low = fits
turn_fits script a r (Some turn) is fits low =
    went_fits script a r turn (way_of r.state (seen_by script a) (holding_at r a) turn) refl fits low is

fits_closed : (script : Script) → Closed script (Fits script)
fits_closed script = record {
  tries = λ a r low fits. turn_fits script a r (next_turn script a r) refl fits low;
  own = λ r own fits. own_fits_run script r own fits;
  batch = λ r pending kept fits. record { many = fits.many; calls = fits.calls; each = fits.each };
}

abbrev no_items : ℕ → List (List Item)
no_items n = replicate n []

length_no_items : (n : ℕ) → length (no_items n) ≡ n
length_no_items zero = refl
length_no_items (suc n) = ap suc (length_no_items n)

none_at : (n a : ℕ) → slice_index_or (no_items n) a [] ≡ []
none_at zero a = refl
none_at (suc n) zero = refl
none_at (suc n) (suc a) = none_at n a

none_fit : (script : Script) (sees : Option View) (a : ℕ) (turns : List Turn) → FitEach script sees [] a (take 0 turns) []
none_fit script sees a [] = tt
none_fit script sees a (t ∷ ts) = tt

begin_fits : (script : Script) (keys : List (List ℕ)) → Fits script (begin script keys)
begin_fits script keys = record {
  many = length_no_items (length script.actors);
  calls = refl;
  each = λ a within.
      subst (FitSoFar script [] a) (sym (none_at (length script.actors) a)) (none_fit script (view_at script.actors a) a (turns_at script.actors a));
}

ended_fits : (script : Script) (hosts : List (List ℕ)) (run : Run) → Ends script hosts run → Fits script run
ended_fits script hosts run ends =
    let c = fits_closed script in
    let P = Fits script in
    subst P (sym ends.is) (closed_flush script P c true ends.commits (rounds script hosts (ends.last ∷ ends.earlier))
    (closed_rounds script P c hosts (ends.last ∷ ends.earlier) (begin_fits script (stored_keys (rules_of script hosts)))))

-- ---- at the end

many_turns : (actor : Actor) → length (turns_of actor) ≡ lead_of actor + length actor.steps
many_turns actor =
    length-append (turns_before actor.view) (map does actor.steps) ∙ ap (λ n. lead_of actor + n) (length-map actor.steps does)

-- an actor of which no turn is left has done them all
all_done : (actors : List Actor) (lists : List (List Item)) (a : ℕ) → length lists ≡ length actors → turns_left actors lists ≡ 0
    → a < length actors → length (turns_at actors a) ≤ length (slice_index_or lists a [])
all_done [] lists a many none low = absurd (omega (arith, low))
all_done (x ∷ xs) [] a many none low = absurd (omega (arith, many))
all_done (x ∷ xs) (l ∷ ls) zero many none low = let turns = many_turns x in omega (arith, none, turns)
all_done (x ∷ xs) (l ∷ ls) (suc a) many none low = all_done xs ls a (omega (arith, many)) (omega (arith, none)) (omega (arith, low))

take_all : (turns : List Turn) (n : ℕ) → length turns ≤ n → take n turns ≡ turns
take_all [] zero low = refl
take_all [] (suc n) low = refl
take_all (t ∷ ts) zero low = absurd (omega (arith, low))
take_all (t ∷ ts) (suc n) low = ap (λ us. t ∷ us) (take_all ts n (omega (arith, low)))

is_none_left : (n : ℕ) → (n == 0) ≡ true → n ≡ 0
is_none_left n e = grind (arith, nat_tests)

-- the last commit does no turn
last_left : (script : Script) (hosts : List (List ℕ)) (run : Run) (ends : Ends script hosts run)
    → left script run ≡ left script (rounds script hosts (ends.last ∷ ends.earlier))
last_left script hosts run ends =
    ap (left script) ends.is ∙ ap (turns_left script.actors) (flush_items true ends.commits (rounds script hosts (ends.last ∷ ends.earlier)))

pub items_fit : ItemsFitTheTurns
items_fit script hosts run a admitted ends low =
    let fits : Fits script run = ended_fits script hosts run ends in
    let none : left script run ≡ 0 = last_left script hosts run ends ∙ is_none_left (left script (rounds script hosts (ends.last ∷ ends.earlier))) ends.done in
    let done = all_done script.actors run.items a fits.many none low in
    subst (λ turns. FitEach script (view_at script.actors a) run.journal a turns (items_at run a))
    (take_all (turns_at script.actors a) (length (items_at run a)) done) (fits.each a low)
