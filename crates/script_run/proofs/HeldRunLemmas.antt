-- A script's run over a keeper that holds rows and never fails: what holds of it, and of what is
-- held, through all rounds.
use Rattle.std.proofs.Common.{◌≡◌, ◌+◌, ℕ, zero, suc, List, [], ◌∷◌, ◌++◌, Bool, true, false, Option, None, Some, length, refl, ap, sym, ◌∙◌, subst}
use Rattle.std.specs.Prelude.{map, nat_le}
use Rattle.std.proofs.lemmas.Bool.{and_parts}
use Rattle.jar_types.specs.declared.entry.Event.TheVariants.{Call as CallEvent, Jar as JarEvent}
use Rattle.jar_types.specs.declared.entry.Own.{Own}
use Rattle.jar_types.specs.declared.entry.Own.TheVariants.{Want, WantAll, Begun, Loaded, Whole, Taken, Acked}
use Rattle.jar_types.specs.declared.jar_core.Awaited.{Awaited}
use Rattle.jar_types.specs.declared.jar_core.Awaited.TheVariants as awaited
use Rattle.jar_types.specs.declared.jar_core.CoreRefusal.{CoreRefusal}
use Rattle.jar_types.specs.declared.jar_core.CoreRefusal.TheVariants.{Pending, NotYet, NoMemory}
use Rattle.jar_types.specs.declared.op.Op.{Op}
use Rattle.jar_types.specs.declared.row.Row.{Row}
use Rattle.jar_types.specs.declared.row.RowChange.{RowChange}
use Rattle.jar_types.specs.Batches.{Batches, may_commit, own_batches, touching}
use Rattle.jar_types.specs.Journals.{Rules}
use Rattle.jar_types.specs.Loads.{has_text, may_load, next_key}
use Rattle.jar_types.specs.RowChanges.{RowsRise, change_id, newest_over}
use Rattle.jar_types.specs.States.{JarState}
use Rattle.jar_types.specs.Steps.{after, entry_of, own_may_stand, rows_at}
use Rattle.jar_types.specs.Stored.{OwnIsHonest, hosts_of}
use Rattle.jar_types.specs.Waits.{op_waits}
use Rattle.stored_law.specs.HostLoads.{cookies_of_hosts, hosts_of_key}
use Rattle.stored_law.proofs.ChangeLemmas.{newest_are_touched}
use Rattle.stored_law.proofs.KeyLemmas.{own_unloaded}
use Rattle.script_text.specs.declared.script.Script.{Script}
use Rattle.script_text.specs.Admitted.{IsAdmitted}
use Rattle.script_run.specs.declared.ask.Ask.{Ask}
use Rattle.script_run.specs.declared.ask.Ask.TheVariants as ask
use Rattle.script_run.specs.declared.purpose.Purpose.{Purpose}
use Rattle.script_run.specs.Ask.{ask_of}
use Rattle.script_run.specs.Reads.{Way, reuses, calls, way_of}
use Rattle.script_run.specs.Rounds.{EndsOver, Over, committed_where, gives_of, held_where, is_due, load_gave, loaded, loaded_next, round_over, rounds_over, rules_of}
use Rattle.script_run.specs.Runs.{Run, asked, called, called_where, called_within, did, happened, holding_at, items_at, next_turn, tried_first, tried_where, want_of, went}
use Rattle.script_run.specs.Turns.{Turn, turn_now, view_at}
use Rattle.script_run.proofs.AskOwnLemmas.{AskIsOwn, OpIsOwn, turn_own}
use Rattle.script_run.proofs.BesideLemmas.{Beside, IsStill, begin_beside, call_beside, committed_beside, loaded_beside, still_beside, whole_beside}
use Rattle.script_run.proofs.LeftLemmas.{load_is_stored, next_left}
use Rattle.script_run.proofs.SameLemmas.{call_batches}

-- ---- what holds

-- the pending changes are of the touched ids, no batch is out, and none was lost
pub record IsBatched (b : Batches) (pending : List RowChange) : Type 0 where
  pub touched : map change_id pending ≡ b.touched
  pub out : b.out ≡ None
  pub lost : b.lost ≡ false

abbrev pub rules_over : Script → List Row → Rules
rules_over script rows = rules_of script (hosts_of rows)

-- the run so far, and the rows that the keeper holds
abbrev pub IsOver : Script → List Row → List Row → Run → Type 0
IsOver script rows held r =
    Beside (rules_over script rows) rows held r.state r.journal r.pending × IsBatched r.state.batches r.pending × (r.kept ≡ [])

batched_on : (b b' : Batches) (pending new : List RowChange) → b' ≡ b → IsBatched b pending → IsBatched (touching new b') (newest_over pending new)
batched_on b b' pending new same is = record {
  touched = newest_are_touched pending new b' (is.touched ∙ ap (λ (c : Batches). c.touched) (sym same));
  out = ap (λ (c : Batches). c.out) same ∙ is.out;
  lost = ap (λ (c : Batches). c.lost) same ∙ is.lost;
}

module _ (script : Script) (rows : List Row) where
  -- ---- a try

  call_over : (held : List Row) (a : ℕ) (r : Run) (now : ℕ) (op : Op) (why : Purpose) → OpIsOwn (rules_over script rows) now op → op_waits r.state op ≡ None
      → IsOver script rows held r → IsOver script rows held (called a r now op why)
  call_over held a r now op why own waits is = (
    call_beside (rules_over script rows) rows held r.state r.journal r.pending a now op is.0 own waits,
    batched_on r.state.batches _ r.pending (rows_at r.state (CallEvent a now op)) (call_batches r.state a now op) is.1,
    is.2,
  )

  -- what the jar does itself, which loads nothing
  still_over : (held : List Row) (r : Run) (own : Own) → IsStill r.state own → OwnIsHonest (rules_over script rows) rows own
      → own_batches (r.state.entries + 1) own r.state.batches ≡ r.state.batches → IsOver script rows held r → IsOver script rows held (happened r (JarEvent own))
  still_over held r own still honest same is = (
    still_beside (rules_over script rows) rows held r.state r.journal r.pending own is.0 still honest,
    batched_on r.state.batches _ r.pending (rows_at r.state (JarEvent own)) same is.1,
    is.2,
  )

  may_load_where : (own : Own) (s : JarState) → own_may_stand s own ≡ true → may_load own s.loads ≡ true
  may_load_where own s may = (and_parts (may_load own s.loads) (may_commit own s.batches) may).0

  want_over : (held : List Row) (r : Run) (what : Awaited) (may : Bool) → own_may_stand r.state (want_of what) ≡ may → IsOver script rows held r
      → IsOver script rows held (did may r (want_of what))
  want_over held r what false may is = is
  want_over held r (awaited.Key key) true may is =
      let keys = own_unloaded (Want key) r.state.loads (may_load_where (Want key) r.state may) is.0.keys in
      still_over held r (Want key) (record { rows = refl; cookies = refl; unloaded = refl; keys = keys }) tt refl is
  want_over held r awaited.All true may is =
      still_over held r WantAll (record { rows = refl; cookies = refl; unloaded = refl; keys = is.0.keys }) tt refl is

  where_over : (held : List Row) (a : ℕ) (r : Run) (now : ℕ) (op : Op) (why : Purpose) (o : Option CoreRefusal) → op_waits r.state op ≡ o → OpIsOwn (rules_over script rows) now op
      → IsOver script rows held r → IsOver script rows held (called_where o a r now op why)
  where_over held a r now op why (Some (Pending what)) waits own is = want_over held r what (own_may_stand r.state (want_of what)) refl is
  where_over held a r now op why (Some (NotYet found)) waits own is = is
  where_over held a r now op why (Some NoMemory) waits own is = is
  where_over held a r now op why None waits own is = call_over held a r now op why own waits is

  within_over : (held : List Row) (a : ℕ) (r : Run) (now : ℕ) (op : Op) (why : Purpose) (full : Bool) → OpIsOwn (rules_over script rows) now op
      → IsOver script rows held r → IsOver script rows held (called_within full a r now op why)
  within_over held a r now op why true own is = is
  within_over held a r now op why false own is = where_over held a r now op why (op_waits r.state op) refl own is

  asked_over : (held : List Row) (a : ℕ) (r : Run) (now : ℕ) (why : Purpose) (o : Option Ask) → AskIsOwn (rules_over script rows) now o
      → IsOver script rows held r → IsOver script rows held (asked script a r now why o)
  asked_over held a r now why None own is = is
  asked_over held a r now why (Some (ask.Op op)) own is = within_over held a r now op why (nat_le script.limit r.state.calls) own is
  asked_over held a r now why (Some (ask.Refused name)) own is = is

  went_over : (held : List Row) (a : ℕ) (r : Run) (now : ℕ) (way : Way) (o : Option Ask) → AskIsOwn (rules_over script rows) now o
      → IsOver script rows held r → IsOver script rows held (went script a r now way o)
  went_over held a r now (reuses text) o own is = is
  went_over held a r now (calls why) o own is = asked_over held a r now why o own is

  turn_over : (held : List Row) (a : ℕ) (r : Run) (o : Option Turn) → IsAdmitted script → next_turn script a r ≡ o
      → IsOver script rows held r → IsOver script rows held (tried_where script a r o)
  turn_over held a r None admitted next is = is
  turn_over held a r (Some turn) admitted next is =
      let sees = view_at script.actors a in
      went_over held a r (turn_now script turn) (way_of r.state sees (holding_at r a) turn) (ask_of script.suffixes sees turn)
      (turn_own script (hosts_of rows) a (length (items_at r a)) turn admitted next) is

  first_over : (held : List Row) (k : ℕ) (r : Run) → IsAdmitted script → IsOver script rows held r → IsOver script rows held (tried_first script k r)
  first_over held zero r admitted is = is
  first_over held (suc k) r admitted is =
      let t = tried_first script k r in
      turn_over held k t (next_turn script k t) admitted refl (first_over held k r admitted is)

  -- ---- a load

  begun_over : (held : List Row) (r : Run) (key : List ℕ) (may : Bool) → own_may_stand r.state (Begun key) ≡ may → IsOver script rows held r
      → IsOver script rows held (did may r (Begun key)) × ((did may r (Begun key)).state.loads.keys.unloaded ≡ r.state.loads.keys.unloaded)
  begun_over held r key false may is = (is, refl)
  begun_over held r key true may is =
      let keys = own_unloaded (Begun key) r.state.loads (may_load_where (Begun key) r.state may) is.0.keys in
      (still_over held r (Begun key) (record { rows = refl; cookies = refl; unloaded = refl; keys = keys }) tt refl is, refl)

  key_over : (held : List Row) (r : Run) (key : List ℕ) → RowsRise rows → has_text key r.state.loads.keys.unloaded ≡ true → IsOver script rows held r
      → IsOver script rows held (happened r (JarEvent (load_gave key (gives_of (rules_over script rows) held key))))
  key_over held r key rises there is =
      let rules = rules_over script rows in
      let cookies = cookies_of_hosts rules held (hosts_of_key rules key rules.hosts) in
      let honest = load_is_stored rules rows held r.state.loads.keys.unloaded rises is.0.held_rises is.0.left key refl there in (
        loaded_beside rules rows held r.state r.journal r.pending key cookies is.0 honest,
        batched_on r.state.batches _ r.pending (rows_at r.state (JarEvent (Loaded key cookies))) refl is.1,
        is.2,
      )

  whole_over : (held : List Row) (r : Run) (may : Bool) → IsOver script rows held r → IsOver script rows held (did may r (Whole script.start))
  whole_over held r false is = is
  whole_over held r true is = (
    whole_beside (rules_over script rows) rows held r.state r.journal r.pending script.start is.0,
    batched_on r.state.batches _ r.pending (rows_at r.state (JarEvent (Whole script.start))) refl is.1,
    is.2,
  )

  next_over : (held : List Row) (r : Run) (o : Option (List ℕ)) → RowsRise rows → next_key r.state.loads.keys ≡ o → IsOver script rows held r
      → IsOver script rows held (loaded_next o script.start (gives_of (rules_over script rows) held) r)
  next_over held r (Some key) rises next is =
      let may = own_may_stand r.state (Begun key) in
      let begun = begun_over held r key may refl is in
      key_over held (did may r (Begun key)) key rises (ap (has_text key) begun.1 ∙ next_left key r.state.loads.keys is.0.keys next) begun.0
  next_over held r None rises next is = whole_over held r (own_may_stand r.state (Whole script.start)) is

  -- ---- a commit

  flush_over : (held : List Row) (r : Run) (due : Bool) → IsOver script rows held r → IsOver script rows (held_where due r held) (committed_where due true r)
  flush_over held r false is = is
  flush_over held r true is =
      let rules = rules_over script rows in
      let t = happened r (JarEvent Taken) in
      let place = length t.journal in
      let first = still_beside rules rows held r.state r.journal r.pending Taken is.0 (record { rows = refl; cookies = refl; unloaded = refl; keys = is.0.keys }) tt in
      let last = still_beside rules rows held t.state t.journal t.pending (Acked place) first (record { rows = refl; cookies = refl; unloaded = refl; keys = first.keys }) tt in (
        committed_beside rules rows held (after t.state (JarEvent (Acked place))) (t.journal ++ entry_of t.state (JarEvent (Acked place)) ∷ []) r.kept r.pending is.2 last,
        record { touched = refl; out = refl; lost = refl },
        refl,
      )

  -- ---- rounds

  round_is_over : (held : List Row) (r : Run) → IsAdmitted script → RowsRise rows → IsOver script rows held r
      → IsOver script rows (round_over script (rules_over script rows) (record { run = r; held = held })).held
      (round_over script (rules_over script rows) (record { run = r; held = held })).run
  round_is_over held r admitted rises is =
      let t = tried_first script (length script.actors) r in
      let u = loaded script.start (gives_of (rules_over script rows) held) t in
      flush_over held u (is_due false u)
      (next_over held t (next_key t.state.loads.keys) rises refl (first_over held (length script.actors) r admitted is))

  pub rounds_are_over : (n : ℕ) → IsAdmitted script → RowsRise rows → IsOver script rows (rounds_over script rows n).held (rounds_over script rows n).run
  rounds_are_over zero admitted rises =
      (begin_beside (rules_over script rows) rows rises, record { touched = refl; out = refl; lost = refl }, refl)
  rounds_are_over (suc n) admitted rises =
      let o = rounds_over script rows n in round_is_over o.held o.run admitted rises (rounds_are_over n admitted rises)

  -- and it holds at the end
  pub end_is_over : (end : Over) → IsAdmitted script → RowsRise rows → EndsOver script rows end → IsOver script rows end.held end.run
  end_is_over end admitted rises ends =
      let o = rounds_over script rows (suc ends.earlier) in
      subst (λ (e : Over). IsOver script rows e.held e.run) (sym ends.is)
      (flush_over o.held o.run (is_due true o.run) (rounds_are_over (suc ends.earlier) admitted rises))
