-- Why the items of an actor name its calls.
use Rattle.std.proofs.Common.{◌≡◌, ◌≢◌, ◌<◌, ◌+◌, ◌⊎◌, ℕ, suc, zero, List, [], ◌∷◌, ◌++◌, Bool, true, false, cond, Option, None, Some, length, replicate, refl, ap, sym, ◌∙◌, arith, subst, inl, inr, length-append, length-set, append-nil, get_or-set_same, get_or-set_other}
use Rattle.std.specs.Prelude.{◌==◌, nat_le, slice_index_or}
use Rattle.std.proofs.lemmas.Bool.{cases_eq}
use Rattle.std.proofs.lemmas.Bool.Decides.{nat_tests}
use Rattle.jar_types.specs.declared.op.Op.{Op}
use Rattle.jar_types.specs.declared.entry.Own.{Own}
use Rattle.jar_types.specs.declared.entry.Event.TheVariants.{Call as CallEvent, Jar as JarEvent}
use Rattle.jar_types.specs.declared.entry.Entry.{Entry}
use Rattle.jar_types.specs.declared.entry.Entry.TheVariants.{Call, Jar}
use Rattle.jar_types.specs.declared.jar_core.CoreRefusal.{CoreRefusal}
use Rattle.jar_types.specs.declared.jar_core.CoreRefusal.TheVariants.{Pending, NotYet, NoMemory}
use Rattle.jar_types.specs.Journals.{stored_keys}
use Rattle.jar_types.specs.States.{JarState}
use Rattle.jar_types.specs.Steps.{entry_of, own_may_stand}
use Rattle.jar_types.specs.Waits.{op_waits}
use Rattle.run_report.specs.declared.item.Item.{Item}
use Rattle.run_report.specs.declared.item.Item.TheVariants.{At, Asked, Reused, Refused}
use Rattle.run_report.specs.declared.refusal_name.RefusalName.TheVariants.{Spent}
use Rattle.script_text.specs.declared.script.Script.{Script}
use Rattle.script_run.specs.declared.ask.Ask.{Ask}
use Rattle.script_run.specs.declared.ask.Ask.TheVariants as ask
use Rattle.script_run.specs.declared.purpose.Purpose.{Purpose}
use Rattle.script_run.specs.declared.purpose.Purpose.TheVariants as purpose
use Rattle.script_run.specs.Ask.{ask_of}
use Rattle.script_run.specs.Legal.{call_places, named_places, ItemsNameTheCalls}
use Rattle.script_run.specs.Reads.{Way, reuses, calls, way_of}
use Rattle.script_run.specs.Rounds.{Ends, rounds, rules_of}
use Rattle.script_run.specs.Runs.{Run, begin, items_at, holding_at, item_of, did, happened, noted, called, called_where, called_within, asked, went, tried_where, next_turn, want_of}
use Rattle.script_run.specs.Turns.{Turn, turn_now, view_at}
use Rattle.script_run.proofs.ClosedLemmas.{Closed, closed_flush, closed_rounds}

-- ---- one more item and one more entry

-- the item of a call names its place
named_one : (why : Purpose) (p : ℕ) → named_places (item_of why p ∷ []) ≡ p ∷ []
named_one purpose.Call p = refl
named_one purpose.Bind p = refl
named_one (purpose.Read cause) p = refl

named_push : (items : List Item) (why : Purpose) (p : ℕ) → named_places (items ++ item_of why p ∷ []) ≡ named_places items ++ p ∷ []
named_push [] why p = named_one why p
named_push (At q ∷ items) why p = ap (λ ps. q ∷ ps) (named_push items why p)
named_push (Asked q cause ∷ items) why p = ap (λ ps. q ∷ ps) (named_push items why p)
named_push (Reused text ∷ items) why p = named_push items why p
named_push (Refused name ∷ items) why p = named_push items why p

-- an item that names no place, as of a refusal and of a text that is used again
abbrev IsNameless : Item → Type 0
IsNameless item = named_places (item ∷ []) ≡ []

nameless_push : (items : List Item) (item : Item) → IsNameless item → named_places (items ++ item ∷ []) ≡ named_places items
nameless_push [] item none = none
nameless_push (At q ∷ items) item none = ap (λ ps. q ∷ ps) (nameless_push items item none)
nameless_push (Asked q cause ∷ items) item none = ap (λ ps. q ∷ ps) (nameless_push items item none)
nameless_push (Reused text ∷ items) item none = nameless_push items item none
nameless_push (Refused name ∷ items) item none = nameless_push items item none

-- the place of a call where it is this caller's
abbrev added : Bool → ℕ → List ℕ
added own place = cond own (place ∷ []) []

first_place : (own : Bool) (p : ℕ) (places more : List ℕ) → cond own (p ∷ (places ++ more)) (places ++ more) ≡ cond own (p ∷ places) places ++ more
first_place true p places more = refl
first_place false p places more = refl

last_place : (own : Bool) (p q : ℕ) → p ≡ q → cond own (p ∷ []) [] ≡ added own q
last_place own p q e = ap (added own) e

call_push : (a caller p : ℕ) (journal : List Entry) (s : JarState) (now : ℕ) (op : Op)
    → call_places a p (journal ++ entry_of s (CallEvent caller now op) ∷ []) ≡ call_places a p journal ++ added (caller == a) (p + length journal)
call_push a caller p [] s now op = last_place (caller == a) p (p + 0) (omega arith)
call_push a caller p (Call other at asks reply ∷ es) s now op =
    ap (λ places. cond (other == a) (p ∷ places) places)
    (call_push a caller (p + 1) es s now op ∙ ap (λ n. call_places a (p + 1) es ++ added (caller == a) n) (omega arith))
    ∙ first_place (other == a) p (call_places a (p + 1) es) (added (caller == a) (p + suc (length es)))
call_push a caller p (Jar own ∷ es) s now op =
    call_push a caller (p + 1) es s now op ∙ ap (λ n. call_places a (p + 1) es ++ added (caller == a) n) (omega arith)

own_push : (a p : ℕ) (journal : List Entry) (s : JarState) (own : Own)
    → call_places a p (journal ++ entry_of s (JarEvent own) ∷ []) ≡ call_places a p journal
own_push a p [] s own = refl
own_push a p (Call caller at asks reply ∷ es) s own =
    ap (λ places. cond (caller == a) (p ∷ places) places) (own_push a (p + 1) es s own)
own_push a p (Jar other ∷ es) s own = own_push a (p + 1) es s own

-- ---- the run so far

-- there are as many lists as actors, and each names the calls of its actor
record Named (n : ℕ) (r : Run) : Type 0 where
  many : length r.items ≡ n
  named : (a : ℕ) → a < n → named_places (items_at r a) ≡ call_places a 1 r.journal

none_at : (n a : ℕ) → slice_index_or (replicate n []) a [] ≡ replicate {A = Item} 0 (Refused Spent)
none_at zero a = refl
none_at (suc n) zero = refl
none_at (suc n) (suc a) = none_at n a

abbrev no_items : ℕ → List (List Item)
no_items n = replicate n []

length_no_items : (n : ℕ) → length (no_items n) ≡ n
length_no_items zero = refl
length_no_items (suc n) = ap suc (length_no_items n)

-- an item more that names nothing
noted_at : (n b a : ℕ) (r : Run) (item : Item) → IsNameless item → Named n r → b < n → (a ≡ b) ⊎ (a ≢ b) → a < n
    → named_places (items_at (noted b r item) a) ≡ call_places a 1 r.journal
noted_at n b a r item none all low (inl same) within =
    rw same (ap named_places (get_or-set_same r.items b (items_at r b ++ item ∷ []) [] (omega (arith, low, all.many)))
    ∙ (nameless_push (items_at r b) item none ∙ all.named b low))
noted_at n b a r item none all low (inr other) within =
    ap named_places (get_or-set_other r.items b a (items_at r b ++ item ∷ []) [] other) ∙ all.named a within

noted_named : (n b : ℕ) (r : Run) (item : Item) → IsNameless item → Named n r → b < n → Named n (noted b r item)
noted_named n b r item none all low = record {
  many = length-set r.items b _ ∙ all.many;
  named = λ a within. noted_at n b a r item none all low (cases_eq a b) within;
}

same_is : (n : ℕ) → (n == n) ≡ true
same_is n = grind (arith, nat_tests)

other_is : (b a : ℕ) → a ≢ b → (b == a) ≡ false
other_is b a ne = grind (arith, nat_tests)

called_at : (n b a : ℕ) (r : Run) (now : ℕ) (op : Op) (why : Purpose) → Named n r → b < n → (a ≡ b) ⊎ (a ≢ b) → a < n
    → named_places (items_at (called b r now op why) a) ≡ call_places a 1 (called b r now op why).journal
called_at n b a r now op why all low (inl same) within =
    let place = length (r.journal ++ entry_of r.state (CallEvent b now op) ∷ []) in
    let next : place ≡ 1 + length r.journal = length-append r.journal (entry_of r.state (CallEvent b now op) ∷ []) ∙ omega arith in
    rw same (ap named_places (get_or-set_same r.items b (items_at r b ++ item_of why place ∷ []) [] (omega (arith, low, all.many)))
    ∙ (named_push (items_at r b) why place
    ∙ (ap (λ places. places ++ place ∷ []) (all.named b low)
    ∙ (ap (λ p. call_places b 1 r.journal ++ p ∷ []) next
    ∙ sym (call_push b b 1 r.journal r.state now op ∙ ap (λ own. call_places b 1 r.journal ++ added own (1 + length r.journal)) (same_is b))))))
called_at n b a r now op why all low (inr other) within =
    let place = length (r.journal ++ entry_of r.state (CallEvent b now op) ∷ []) in
    ap named_places (get_or-set_other r.items b a (items_at r b ++ item_of why place ∷ []) [] other)
    ∙ (all.named a within
    ∙ sym (call_push a b 1 r.journal r.state now op
    ∙ (ap (λ own. call_places a 1 r.journal ++ added own (1 + length r.journal)) (other_is b a other) ∙ append-nil (call_places a 1 r.journal))))

own_named : (n : ℕ) (r : Run) (own : Own) → Named n r → Named n (happened r (JarEvent own))
own_named n r own all = record {
  many = all.many;
  named = λ a within. all.named a within ∙ sym (own_push a 1 r.journal r.state own);
}

did_named : (n : ℕ) (may : Bool) (r : Run) (own : Own) → Named n r → Named n (did may r own)
did_named n true r own all = own_named n r own all
did_named n false r own all = all

where_named : (n b : ℕ) (r : Run) (now : ℕ) (op : Op) (why : Purpose) (o : Option CoreRefusal) → Named n r → b < n → Named n (called_where o b r now op why)
where_named n b r now op why (Some (Pending what)) all low = did_named n (own_may_stand r.state (want_of what)) r (want_of what) all
where_named n b r now op why (Some (NotYet found)) all low = all
where_named n b r now op why (Some NoMemory) all low = all
where_named n b r now op why None all low = record {
  many = length-set r.items b _ ∙ all.many;
  named = λ a within. called_at n b a r now op why all low (cases_eq a b) within;
}

within_named : (n b : ℕ) (r : Run) (now : ℕ) (op : Op) (why : Purpose) (full : Bool) → Named n r → b < n → Named n (called_within full b r now op why)
within_named n b r now op why true all low = noted_named n b r (Refused Spent) refl all low
within_named n b r now op why false all low = where_named n b r now op why (op_waits r.state op) all low

asked_named : (script : Script) (n b : ℕ) (r : Run) (now : ℕ) (why : Purpose) (o : Option Ask) → Named n r → b < n → Named n (asked script b r now why o)
asked_named script n b r now why None all low = all
asked_named script n b r now why (Some (ask.Op op)) all low = within_named n b r now op why (nat_le script.limit r.state.calls) all low
asked_named script n b r now why (Some (ask.Refused name)) all low = noted_named n b r (Refused name) refl all low

went_named : (script : Script) (n b : ℕ) (r : Run) (now : ℕ) (way : Way) (o : Option Ask) → Named n r → b < n → Named n (went script b r now way o)
went_named script n b r now (reuses text) o all low = noted_named n b r (Reused text) refl all low
went_named script n b r now (calls why) o all low = asked_named script n b r now why o all low

turn_named : (script : Script) (n b : ℕ) (r : Run) (o : Option Turn) → Named n r → b < n → Named n (tried_where script b r o)
turn_named script n b r None all low = all
turn_named script n b r (Some turn) all low =
    let sees = view_at script.actors b in
    went_named script n b r (turn_now script turn) (way_of r.state sees (holding_at r b) turn) (ask_of script.suffixes sees turn) all low

named_closed : (script : Script) → Closed script (Named (length script.actors))
named_closed script = record {
  tries = λ a r low all. turn_named script (length script.actors) a r (next_turn script a r) all low;
  own = λ r own all. own_named (length script.actors) r own all;
  batch = λ r pending kept all. record { many = all.many; named = all.named };
}

begin_named : (script : Script) (keys : List (List ℕ)) → Named (length script.actors) (begin script keys)
begin_named script keys = record {
  many = length_no_items (length script.actors);
  named = λ a within. ap named_places (none_at (length script.actors) a);
}

ended_named : (script : Script) (hosts : List (List ℕ)) (run : Run) → Ends script hosts run → Named (length script.actors) run
ended_named script hosts run ends =
    let c = named_closed script in
    let P = Named (length script.actors) in
    subst P (sym ends.is) (closed_flush script P c true ends.commits (rounds script hosts (ends.last ∷ ends.earlier))
    (closed_rounds script P c hosts (ends.last ∷ ends.earlier) (begin_named script (stored_keys (rules_of script hosts)))))

pub calls_named : ItemsNameTheCalls
calls_named script hosts run a ends low = (ended_named script hosts run ends).named a low
