-- A call of an actor: what it makes of the run, and that the players still play.
use Rattle.std.proofs.Common.{◌≡◌, ◌<◌, ◌≤◌, ◌+◌, ℕ, zero, suc, List, [], ◌∷◌, ◌++◌, Bool, true, false, Option, None, Some, length, map, fold, refl, ap, sym, ◌∙◌, arith, subst, length-append, length-set}
use Rattle.std.specs.Prelude.{nat_le, nat_lt, slice_index_or, slice_set, IfErr, IfOk, Result, Ok, Err, if◌then◌else◌}
use Rattle.std.proofs.lemmas.Bool.Decides.{nat_tests}
use Rattle.std.proofs.lemmas.List.{length-map}
use Rattle.atomic_table.specs.Seated.{TableId}
use Rattle.jar_types.specs.declared.bound_key.BoundKey.{BoundKey}
use Rattle.jar_types.specs.declared.bound_key.TheConstants.{MOST_CELLS}
use Rattle.jar_types.specs.declared.entry.Event.{Event}
use Rattle.jar_types.specs.declared.entry.Event.TheVariants.{Call as CallEvent}
use Rattle.jar_types.specs.declared.op.Op.{Op}
use Rattle.jar_types.specs.declared.op.Op.TheVariants as op
use Rattle.jar_types.specs.declared.op.Reply.{Reply}
use Rattle.jar_types.specs.declared.row.RowChange.{RowChange}
use Rattle.jar_types.specs.Bound.{bound_where, bound_with, cell_of}
use Rattle.jar_types.specs.Counts.{IsCounted}
use Rattle.jar_types.specs.Journals.{Rules, events, state_of}
use Rattle.jar_types.specs.States.{JarState, opening}
use Rattle.jar_types.specs.Steps.{after, call_step}
use Rattle.jar_types.specs.Waits.{op_waits}
use Rattle.jar_types.specs.declared.entry.Entry.{Entry}
use Rattle.jar_types.proofs.CountLemmas.{entries_count}
use Rattle.locked_jar.specs.declared.receipt.CallRefusal.{CallRefusal}
use Rattle.locked_jar.specs.declared.receipt.CallRefusal.TheVariants.{Spent, Pending, NotYet, NoMemory}
use Rattle.locked_jar.specs.declared.receipt.Receipt.{Receipt}
use Rattle.locked_jar.specs.Calls.{Answers, RefusesCall}
use Rattle.locked_jar.specs.LockedJars.{LockedJar, about_of, entered}
use Rattle.locked_jar.proofs.MovingLemmas.{cell_fits}
use Rattle.restricted_manager.specs.Managers.{ManagerStanding, MayBeBound}
use Rattle.run_report.specs.declared.item.Item.{Item}
use Rattle.script_text.specs.declared.script.Script.{Script}
use Rattle.shared_jar.specs.Together.{IsCaller}
use Rattle.store_vault.specs.declared.stored.Stored.{Stored}
use Rattle.store_vault.specs.Loading as vault
use Rattle.version_cells.specs.Standing.{PassStanding}
use Rattle.script_run.specs.declared.purpose.Purpose.{Purpose}
use Rattle.script_run.specs.declared.purpose.Purpose.TheVariants as purpose
use Rattle.script_run.specs.Players.{ArePassesFrom, ArePlaying, IsMeant, IsPassOf, MayMean, PlayersStanding, holding_of, run_of, view_of}
use Rattle.script_run.specs.Reads.{Holding, cell_in, holding_then, nothing}
use Rattle.script_run.specs.Runs.{Run, called, called_where, called_within, happened, item_of}
use Rattle.script_run.proofs.JarLemmas.{run_entered_call}

-- ---- passes

-- the pass at an index is of its number
pass_at : (script : Script) (hosts : List (List ℕ)) (table : TableId) (n a : ℕ) (ps : List PassStanding) (p : PassStanding)
    → ArePassesFrom script hosts table n ps → a < length ps → p ≡ slice_index_or ps a p → IsPassOf script hosts table (n + a) p
pass_at script hosts table n a [] p are low is = absurd (omega (arith, low))
pass_at script hosts table n zero (x ∷ xs) p are low is =
    subst (λ (q : PassStanding). IsPassOf script hosts table (n + zero) q) (sym is)
    (subst (λ (m : ℕ). IsPassOf script hosts table m x) (omega arith) are.0)
pass_at script hosts table n (suc a) (x ∷ xs) p are low is =
    subst (λ (m : ℕ). IsPassOf script hosts table m p) (omega arith)
    (pass_at script hosts table (suc n) a xs p are.1 (omega (arith, low)) is)

-- the pass of an actor is
pub own_pass : (script : Script) (stored : Stored) (callers limit : ℕ) (table : TableId) (a : ℕ) (players : PlayersStanding) (p : PassStanding)
    → ArePlaying script stored callers limit table players → a < length script.actors → p ≡ slice_index_or players.passes a p
    → IsPassOf script stored.hosts table a p
own_pass script stored callers limit table a players p playing low is =
    let many = playing.many_passes in
    subst (λ (m : ℕ). IsPassOf script stored.hosts table m p) (omega arith)
    (pass_at script stored.hosts table zero a players.passes p playing.passes (omega (arith, low, many)) is)

-- where one is set, of its number
pass_set : (script : Script) (hosts : List (List ℕ)) (table : TableId) (n a : ℕ) (ps : List PassStanding) (p : PassStanding)
    → ArePassesFrom script hosts table n ps → IsPassOf script hosts table (n + a) p → ArePassesFrom script hosts table n (slice_set ps a p)
pass_set script hosts table n a [] p are one = tt
pass_set script hosts table n zero (x ∷ xs) p are one =
    (subst (λ (m : ℕ). IsPassOf script hosts table m p) (omega arith) one, are.1)
pass_set script hosts table n (suc a) (x ∷ xs) p are one =
    (are.0, pass_set script hosts table (suc n) a xs p are.1 (subst (λ (m : ℕ). IsPassOf script hosts table m p) (omega arith) one))

-- the players still play: one of their passes made a call, and neither how many items there are nor what is seen changed
pub playing_on : (script : Script) (stored : Stored) (callers limit : ℕ) (table : TableId) (a : ℕ) (old new : PlayersStanding) (p q : PassStanding)
    → ArePlaying script stored callers limit table old → a < length script.actors → p ≡ slice_index_or old.passes a p
    → IsCaller (vault.rules_of stored callers limit) table q → q.view.number ≡ p.view.number
    → new.passes ≡ slice_set old.passes a q → length new.items ≡ length old.items → map view_of new.managers ≡ map view_of old.managers
    → ArePlaying script stored callers limit table new
playing_on script stored callers limit table a old new p q playing low is caller number passes items views =
    let many = playing.many_passes in
    let was = pass_at script stored.hosts table zero a old.passes p playing.passes (omega (arith, low, many)) is in
    let now : IsPassOf script stored.hosts table (zero + a) q = record {
      caller = subst (λ (r : Rules). IsCaller r table q) playing.rules_are caller;
      number = number ∙ was.number;
    } in record {
      rules_are = playing.rules_are;
      many_passes = ap length passes ∙ (length-set old.passes a q ∙ many);
      many_items = items ∙ playing.many_items;
      views = views ∙ playing.views;
      passes = subst (ArePassesFrom script stored.hosts table zero) (sym passes) (pass_set script stored.hosts table zero a old.passes q playing.passes now);
    }

-- where no pass changed
pub playing_same : (script : Script) (stored : Stored) (callers limit : ℕ) (table : TableId) (old new : PlayersStanding) → ArePlaying script stored callers limit table old
    → new.passes ≡ old.passes → length new.items ≡ length old.items → new.managers ≡ old.managers → ArePlaying script stored callers limit table new
playing_same script stored callers limit table old new playing passes items managers = record {
  rules_are = playing.rules_are;
  many_passes = ap length passes ∙ playing.many_passes;
  many_items = items ∙ playing.many_items;
  views = ap (map view_of) managers ∙ playing.views;
  passes = subst (ArePassesFrom script stored.hosts table zero) (sym passes) playing.passes;
}

refused_number : (j j' : LockedJar) (p q : PassStanding) (o : Op) (why : CallRefusal) → RefusesCall j j' p q o why → q.view.number ≡ p.view.number
refused_number j j' p q o Spent is = is.2.met.number
refused_number j j' p q o (Pending what) is = is.3.met.number
refused_number j j' p q o (NotYet found) is = is.3.met.number
refused_number j j' p q o NoMemory is = ap (λ (r : PassStanding). r.view.number) is.2

-- a call leaves the number of its pass
pub call_number : (j j' : LockedJar) (p q : PassStanding) (o : Op) (now : ℕ) (result : Result Receipt CallRefusal)
    → IfOk result (Answers j j' p q o now) → IfErr result (RefusesCall j j' p q o) → q.view.number ≡ p.view.number
call_number j j' p q o now (Ok receipt) answered refused = answered.pass.met.number
call_number j j' p q o now (Err why) answered refused = refused_number j j' p q o why refused

-- ---- the cell of a Bind

next_few : (key : List ℕ) (bound : List BoundKey) (b : Bool) → nat_lt (length bound) MOST_CELLS ≡ b → length bound ≤ MOST_CELLS
    → length (if b then bound ++ record { key = key; version = 0 } ∷ [] else bound) ≤ MOST_CELLS
next_few key bound true is few =
    let low : length bound < MOST_CELLS = grind (arith, nat_tests) in
    let more = length-append bound (record { key = key; version = 0 } ∷ []) in
    omega (arith, low, more)
next_few key bound false is few = few

where_few : (cell : Option ℕ) (key : List ℕ) (bound : List BoundKey) → length bound ≤ MOST_CELLS → length (bound_where cell key bound) ≤ MOST_CELLS
where_few (Some cell) key bound few = few
where_few None key bound few = next_few key bound (nat_lt (length bound) MOST_CELLS) refl few

cell_may : (key : List ℕ) (bound : List BoundKey) (o : Option ℕ) → length bound ≤ MOST_CELLS → cell_of key bound ≡ o → MayBeBound o
cell_may key bound None few is = tt
cell_may key bound (Some cell) few is = cell_fits key bound cell few is

fold_counted : (s : JarState) (vs : List Event) → IsCounted s → IsCounted (fold after s vs)
fold_counted s [] counted = counted
fold_counted s (v ∷ vs) counted = fold_counted (after s v) vs (entries_count s v counted)

opening_counted : (keys : List (List ℕ)) → IsCounted (opening keys)
opening_counted keys = record { calls = omega arith; posts = tt; listens = tt; versions = tt; cells = omega arith }

pub state_counted : (keys : List (List ℕ)) (journal : List Entry) → IsCounted (state_of keys journal)
unfolding state_of
state_counted keys journal = fold_counted (opening keys) (events journal) (opening_counted keys)

bind_may : (s : JarState) (caller now : ℕ) (key : List ℕ) → IsCounted s → MayBeBound (cell_in (call_step s caller now (op.Bind key)).reply)
bind_may s caller now key counted =
    let bound = bound_with key s.bound in
    cell_may key bound (cell_of key bound) (where_few (cell_of key s.bound) key s.bound counted.cells) refl

-- a reply is one to what is wanted
pub reply_means : (why : Purpose) (o : Op) (m : Option ManagerStanding) (s : JarState) (caller now : ℕ) (answer : Reply) → IsMeant why o m → IsCounted s
    → answer ≡ (call_step s caller now o).reply → MayMean why answer m
reply_means purpose.Call o m s caller now answer meant counted is = tt
reply_means purpose.Bind o m s caller now answer meant counted is =
    let key = meant.1.0 in
    let same : o ≡ op.Bind key = meant.1.1 in
    let e : answer ≡ (call_step s caller now (op.Bind key)).reply = is ∙ ap (λ (p : Op). (call_step s caller now p).reply) same in
    (meant.0, subst (λ (r : Reply). MayBeBound (cell_in r)) (sym e) (bind_may s caller now key counted))
reply_means (purpose.Read cause) o m s caller now answer meant counted is = meant

-- ---- the run

within_limit : (script : Script) (r : Run) (a now : ℕ) (o : Op) (why : Purpose) (full : Bool) → nat_le script.limit r.state.calls ≡ full
    → r.state.calls < script.limit → op_waits r.state o ≡ None → called_within full a r now o why ≡ called a r now o why
within_limit script r a now o why true is few there = absurd (grind (arith, nat_tests))
within_limit script r a now o why false is few there = ap (λ w. called_where w a r now o why) there

-- a call that was answered, of the actor whose pass it is
pub run_answered : (script : Script) (a now : ℕ) (o : Op) (why : Purpose) (j j' : LockedJar) (kept kept' : List RowChange) (old new : PlayersStanding)
    (p q : PassStanding) (receipt : Receipt) → j.limit ≡ script.limit → p.view.number ≡ a → Answers j j' p q o now receipt → kept' ≡ kept
    → new.items ≡ slice_set old.items a (slice_index_or old.items a [] ++ item_of why receipt.place ∷ [])
    → map holding_of new.managers ≡ slice_set (map holding_of old.managers) a
    (holding_then why receipt.reply (slice_index_or (map holding_of old.managers) a nothing))
    → run_of j' kept' new ≡ called_within (nat_le script.limit j.state.calls) a (run_of j kept old) now o why
run_answered script a now o why j j' kept kept' old new p q receipt limit number answers keeps items holdings =
    let r = run_of j kept old in
    let v = CallEvent a now o in
    let h = happened r v in
    let n = p.view.number in
    let few : r.state.calls < script.limit = let within = answers.within in omega (arith, within, limit) in
    let jar : j' ≡ entered j (Some a) v = answers.jar ∙ ap (λ (m : ℕ). entered j (Some m) (CallEvent m now o)) number in
    let ran : run_of j' kept old ≡ h =
    ap (λ (k : LockedJar). run_of k kept old) jar ∙ run_entered_call j (Some a) a now o kept old in
    let place : receipt.place ≡ length h.journal =
    answers.place ∙ (sym (length-map j'.seen about_of) ∙ ap (λ (t : Run). length t.journal) ran) in
    let answer : receipt.reply ≡ (call_step j.state a now o).reply =
    answers.reply ∙ ap (λ (m : ℕ). (call_step j.state m now o).reply) number in
    ap (λ (k : List RowChange). run_of j' k new) keeps
    ∙ (ap (λ (is : List (List Item)). record (run_of j' kept old) { items = is; holdings = map holding_of new.managers }) items
    ∙ (ap (λ (hs : List Holding). record (run_of j' kept old) { items = slice_set old.items a (slice_index_or old.items a [] ++ item_of why receipt.place ∷ []); holdings = hs }) holdings
    ∙ (ap (λ (m : ℕ). record (run_of j' kept old) {
      items = slice_set old.items a (slice_index_or old.items a [] ++ item_of why m ∷ []);
      holdings = slice_set (map holding_of old.managers) a (holding_then why receipt.reply (slice_index_or (map holding_of old.managers) a nothing));
    }) place
    ∙ (ap (λ (w : Reply). record (run_of j' kept old) {
      items = slice_set old.items a (slice_index_or old.items a [] ++ item_of why (length h.journal) ∷ []);
      holdings = slice_set (map holding_of old.managers) a (holding_then why w (slice_index_or (map holding_of old.managers) a nothing));
    }) answer
    ∙ (ap (λ (t : Run). record t {
      items = slice_set old.items a (slice_index_or old.items a [] ++ item_of why (length h.journal) ∷ []);
      holdings = slice_set (map holding_of old.managers) a (holding_then why (call_step j.state a now o).reply (slice_index_or (map holding_of old.managers) a nothing));
    }) ran
    ∙ sym (within_limit script r a now o why (nat_le script.limit r.state.calls) refl few answers.there))))))
