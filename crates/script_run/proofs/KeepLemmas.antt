-- What each try of a run keeps, and that a round goes on: while a turn is left, one is done.
use Rattle.std.proofs.Common.{◌≡◌, ◌≢◌, ◌<◌, ◌≤◌, ◌+◌, ◌⊎◌, ℕ, suc, List, [], ◌∷◌, ◌++◌, Bool, true, false, cond, Option, None, Some, length, slice_index, refl, ap, sym, ◌∙◌, arith, subst, inl, inr, ⊎_elim, length-set, get_or-set_same, get_or-set_other}
use Rattle.std.specs.Prelude.{not, ◌&&◌, ◌||◌, bytes_eq, nat_le, ◌==◌, option_map, slice_set, if◌then◌else◌}
use Rattle.std.specs.Option.{option_or}
use Rattle.std.proofs.lemmas.Bool.Decides.{nat_tests}
use Rattle.jar_types.specs.declared.jar_core.Awaited.{Awaited}
use Rattle.jar_types.specs.declared.jar_core.Awaited.TheVariants as awaited
use Rattle.jar_types.specs.declared.jar_core.CoreRefusal.{CoreRefusal}
use Rattle.jar_types.specs.declared.jar_core.CoreRefusal.TheVariants.{Pending, NotYet}
use Rattle.jar_types.specs.declared.op.Op.{Op}
use Rattle.jar_types.specs.declared.entry.Event.TheVariants.{Call as CallEvent}
use Rattle.jar_types.specs.declared.tally.Tally.{Tally}
use Rattle.jar_types.specs.Loads.{Loads, has_text, is_loaded, is_marked, is_wanted}
use Rattle.jar_types.specs.Posts.{op_wanting}
use Rattle.jar_types.specs.Steps.{own_may_stand}
use Rattle.jar_types.specs.Tallies.{counted, tally_of}
use Rattle.jar_types.specs.Waits.{faulted, is_lost, is_there, needs, op_waits, pending}
use Rattle.jar_types.proofs.TallyLemmas.{counted_once, counted_other}
use Rattle.run_report.specs.declared.item.Item.{Item}
use Rattle.run_report.specs.declared.item.Item.TheVariants.{Refused, Reused}
use Rattle.run_report.specs.declared.refusal_name.RefusalName.TheVariants.{Spent}
use Rattle.script_text.specs.declared.script.Script.{Script}
use Rattle.script_text.specs.Admitted.{IsAdmitted}
use Rattle.script_text.specs.Deadlocks.{post_counts, one_on}
use Rattle.script_text.proofs.PostLemmas.{length-post_counts}
use Rattle.script_run.specs.declared.ask.Ask.{Ask}
use Rattle.script_run.specs.declared.ask.Ask.TheVariants as ask
use Rattle.script_run.specs.declared.purpose.Purpose.{Purpose}
use Rattle.script_run.specs.Ask.{ask_of}
use Rattle.script_run.specs.Reads.{Way, calls, reuses, way_of}
use Rattle.script_run.specs.Runs.{Run, asked, called, called_where, called_within, did, did_if_may, happened, holding_at, item_of, items_at, left, next_turn, noted, positions, tried, tried_where, want_of, went}
use Rattle.script_run.specs.Turns.{Turn, positions_of, turn_now, turns_left, view_at}
use Rattle.script_run.proofs.AskLemmas.{OpOf, op_of, refused_no_post, reused_no_post}
use Rattle.script_run.proofs.LoadLemmas.{AreWanted, Holds, weight, all_holds, unmarked_holds, unmarked_weight, want_holds}
use Rattle.script_run.proofs.SameLemmas.{call_loads, call_posts, loads_where}
use Rattle.script_run.proofs.TextLemmas.{has_last, text_self}
use Rattle.script_run.proofs.TurnLemmas.{asks, counts_behind, length_positions, noted_left, noted_positions, turn_counts, turn_on, turn_posts, turn_waits}

-- ---- what each try keeps

-- as long as callers may have more entries, posts are those of the steps that were done; and the loading holds
pub record Keeps (script : Script) (r : Run) : Type 0 where
  pub many : length r.items ≡ length script.actors
  pub told : r.state.calls < script.limit → (b : ℕ)
      → tally_of b r.state.posts ≡ slice_index (post_counts script.actors (positions script r)) b
  pub holds : Holds r.state.loads

-- how many turns are left, and how much of the loading
abbrev pub burden : Script → Run → ℕ
burden script r = left script r + weight r.state.loads

-- whether a turn waits for posts
abbrev pub waits_yet : Script → Run → Turn → Bool
waits_yet script r turn = turn_waits (post_counts script.actors (positions script r)) turn

-- a try keeps that, and does a turn, or else the actor waits: for posts, or for a load
pub record Goes (script : Script) (a : ℕ) (r t : Run) : Type 0 where
  pub keeps : Keeps script t
  pub never_back : left script t ≤ left script r
  pub lighter : burden script t ≤ burden script r
  pub same : left script t ≡ left script r → t.items ≡ r.items
  pub wanted : left script t ≡ left script r → AreWanted r.state.loads → AreWanted t.state.loads
  pub still : left script t ≡ left script r → (turn : Turn) → next_turn script a r ≡ Some turn
      → (waits_yet script r turn ≡ true) ⊎ AreWanted t.state.loads

-- a turn is done, and its item noted: of the loading one more may be left
goes_noted : (script : Script) (a : ℕ) (r t : Run) (item : Item) (turn : Turn) → Keeps script r → next_turn script a r ≡ Some turn
    → t.items ≡ slice_set r.items a (items_at r a ++ item ∷ [])
    → (t.state.calls < script.limit → (b : ℕ) → tally_of b t.state.posts
    ≡ slice_index (counts_behind (turn_posts turn) (post_counts script.actors (positions script r)) a) b)
    → Holds t.state.loads → weight t.state.loads ≤ weight r.state.loads + 1
    → Goes script a r t
goes_noted script a r t item turn keeps is items told holds light =
    let fewer : left script t + 1 ≡ left script r =
    ap (λ lists. turns_left script.actors lists + 1) items ∙ noted_left script.actors r.items a item turn keeps.many is in
    let places : positions script t ≡ turn_on turn (positions script r) a =
    ap (positions_of script.actors) items ∙ noted_positions script.actors r.items a item turn keeps.many is in
    let counted = turn_counts script.actors r.items a turn keeps.many is in
    record {
      keeps = record {
        many = ap length items ∙ (length-set r.items a (items_at r a ++ item ∷ []) ∙ keeps.many);
        told = λ few b. told few b ∙ ap (λ counts. slice_index counts b) (counted ∙ ap (post_counts script.actors) (sym places));
        holds = holds;
      };
      never_back = omega (arith, fewer);
      lighter = omega (arith, fewer, light);
      same = λ equal. absurd (omega (arith, fewer, equal));
      wanted = λ equal. absurd (omega (arith, fewer, equal));
      still = λ equal. absurd (omega (arith, fewer, equal));
    }

-- a turn that is no post is done without an entry
goes_quiet : (script : Script) (a : ℕ) (r : Run) (item : Item) (turn : Turn) → Keeps script r → next_turn script a r ≡ Some turn → turn_posts turn ≡ false
    → Goes script a r (noted a r item)
goes_quiet script a r item turn keeps is no_post =
    goes_noted script a r (noted a r item) item turn keeps is refl
    (λ few b. keeps.told few b ∙ ap (λ p. slice_index (counts_behind p (post_counts script.actors (positions script r)) a) b) (sym no_post))
    keeps.holds (omega arith)

-- the run is left, and the actor has no turn or waits for posts
goes_still : (script : Script) (a : ℕ) (r : Run) → Keeps script r
    → ((turn : Turn) → next_turn script a r ≡ Some turn → waits_yet script r turn ≡ true) → Goes script a r r
goes_still script a r keeps waiting = record {
  keeps = keeps;
  never_back = omega arith;
  lighter = omega arith;
  same = λ e. refl;
  wanted = λ e some. some;
  still = λ e turn is. inl (waiting turn is);
}

-- ---- what a caller waits for is wanted

both : (a b : Bool) → (a && b) ≡ true → (a ≡ true) × (b ≡ true)
both true b e = (refl, e)
both false b e = absurd cc

negated : (a : Bool) → not a ≡ true → a ≡ false
negated true e = absurd cc
negated false e = refl

-- why a want doesn't stand, where what it is of isn't there nor lost
stands_already : (there wanted lost rest : Bool) → ((not there && (not wanted && not lost)) && rest) ≡ false → rest ≡ true → there ≡ false → lost ≡ false
    → wanted ≡ true
stands_already there true lost rest e r t l = refl
stands_already true false lost rest e r t l = absurd cc
stands_already false false true rest e r t l = absurd cc
stands_already false false false true e r t l = absurd cc
stands_already false false false false e r t l = absurd cc

or_self : (a b : Bool) → b ≡ true → (a || b) ≡ true
or_self true b e = refl
or_self false b e = e

last_wanted : (key : List ℕ) (l : Loads) → has_text key (l.keys.wanted ++ key ∷ []) ≡ true
last_wanted key l = has_last key key l.keys.wanted ∙ or_self (has_text key l.keys.wanted) (bytes_eq key key) (text_self key)

-- the want was noted, or stands already
goes_want : (script : Script) (a : ℕ) (r : Run) (key : List ℕ) (may : Bool) → own_may_stand r.state (want_of (awaited.Key key)) ≡ may → Keeps script r
    → is_loaded key r.state.loads.keys ≡ false → is_marked key r.state.loads.keys ≡ false
    → Goes script a r (did may r (want_of (awaited.Key key)))
goes_want script a r key true may keeps unloaded free = record {
  keeps = record { many = keeps.many; told = keeps.told; holds = want_holds key r.state.loads keeps.holds unloaded free };
  never_back = omega arith;
  lighter = omega arith;
  same = λ e. refl;
  wanted = λ e some. inl (key, last_wanted key r.state.loads);
  still = λ e turn is. inr (inl (key, last_wanted key r.state.loads));
}
goes_want script a r key false may keeps unloaded free =
    let stood = stands_already (is_loaded key r.state.loads.keys) (is_wanted key r.state.loads.keys) (is_marked key r.state.loads.keys) true may refl unloaded free in
    record {
      keeps = keeps;
      never_back = omega arith;
      lighter = omega arith;
      same = λ e. refl;
      wanted = λ e some. some;
      still = λ e turn is. inr (inl (key, stood));
    }

goes_want_all : (script : Script) (a : ℕ) (r : Run) (may : Bool) → own_may_stand r.state (want_of awaited.All) ≡ may → Keeps script r
    → r.state.loads.whole ≡ false → r.state.loads.all_lost ≡ false
    → Goes script a r (did may r (want_of awaited.All))
goes_want_all script a r true may keeps whole free = record {
  keeps = record { many = keeps.many; told = keeps.told; holds = all_holds r.state.loads keeps.holds whole free };
  never_back = omega arith;
  lighter = omega arith;
  same = λ e. refl;
  wanted = λ e some. inr refl;
  still = λ e turn is. inr (inr refl);
}
goes_want_all script a r false may keeps whole free =
    let stood = stands_already r.state.loads.whole r.state.loads.all_wanted r.state.loads.all_lost true may refl whole free in
    record {
      keeps = keeps;
      never_back = omega arith;
      lighter = omega arith;
      same = λ e. refl;
      wanted = λ e some. some;
      still = λ e turn is. inr (inr stood);
    }

pending_where : (b : Bool) (l : Loads) (other what : Awaited) → (not (is_there l other) && not (is_lost l other)) ≡ b
    → (if b then Some other else None) ≡ Some what → (is_there l what ≡ false) × (is_lost l what ≡ false)
pending_where true l other what is e =
    let same : other ≡ what = cc in
    let two = both (not (is_there l other)) (not (is_lost l other)) is in
    rw (sym same) (negated (is_there l other) two.0, negated (is_lost l other) two.1)
pending_where false l other what is e = absurd cc

-- what is pending isn't there, nor was its load lost
pending_is : (l : Loads) (o : Option Awaited) (what : Awaited) → pending l o ≡ Some what → (is_there l what ≡ false) × (is_lost l what ≡ false)
pending_is l None what e = absurd cc
pending_is l (Some other) what e = pending_where (not (is_there l other) && not (is_lost l other)) l other what refl e

-- what is awaited of an op is pending, or posts are wanting
waits_where : (o : Option Awaited) (p : Option ℕ) (refusal : CoreRefusal)
    → option_or (option_map (λ (what : Awaited). Pending what) o) (option_map (λ (found : ℕ). NotYet found) p) ≡ Some refusal
    → ((what : Awaited) × (o ≡ Some what) × (refusal ≡ Pending what)) ⊎ ((found : ℕ) × (p ≡ Some found) × (refusal ≡ NotYet found))
waits_where (Some what) p refusal e = inl (what, refl, cc)
waits_where None (Some found) refusal e = inr (found, refl, cc)
waits_where None None refusal e = absurd cc

goes_pending : (script : Script) (a : ℕ) (r : Run) (what : Awaited) → Keeps script r → (is_there r.state.loads what ≡ false) × (is_lost r.state.loads what ≡ false)
    → Goes script a r (did_if_may r (want_of what))
goes_pending script a r (awaited.Key key) keeps is = goes_want script a r key (own_may_stand r.state (want_of (awaited.Key key))) refl keeps is.0 is.1
goes_pending script a r awaited.All keeps is = goes_want_all script a r (own_may_stand r.state (want_of awaited.All)) refl keeps is.0 is.1

-- ---- the tries

-- the tallies behind a call, by the counts behind its step
tally_at : (c d : Bool) (is_post : Bool) (a b : ℕ) (made : List Tally) (counts : List ℕ) → (a == b) ≡ c → a < length counts
    → ((i : ℕ) → tally_of i made ≡ slice_index counts i)
    → tally_of b (cond is_post (counted a made) made) ≡ slice_index (counts_behind is_post counts a) b
tally_at c d false a b made counts is low told = told b
tally_at true d true a b made counts is low told =
    let same : a ≡ b = grind (arith, nat_tests) in
    subst (λ i. tally_of i (counted a made) ≡ slice_index (one_on counts a) i) same
    (counted_once a made ∙ (ap (λ n. n + 1) (told a) ∙ (omega arith ∙ sym (get_or-set_same counts a (suc (slice_index counts a)) 0 low))))
tally_at false d true a b made counts is low told =
    let other : b ≢ a = grind (arith, nat_tests) in
    counted_other a b made is ∙ (told b ∙ sym (get_or-set_other counts a b (suc (slice_index counts a)) 0 other))

-- the loading behind a call: as it was, or less by a mark
pub where_holds : (o : Option Awaited) (l : Loads) → Holds l → Holds (loads_where o l)
where_holds (Some what) l h = unmarked_holds what l h
where_holds None l h = h

where_weight : (o : Option Awaited) (l : Loads) → Holds l → weight (loads_where o l) ≤ weight l + 1
where_weight (Some what) l h = unmarked_weight what l h
where_weight None l h = omega arith

-- an actor made a call
goes_called : (script : Script) (a : ℕ) (r : Run) (turn : Turn) (now : ℕ) (op : Op) (why : Purpose) → Keeps script r → a < length script.actors
    → next_turn script a r ≡ Some turn → OpOf r.state a turn op → r.state.calls < script.limit
    → Goes script a r (called a r now op why)
goes_called script a r turn now op why keeps low is asks_it few =
    let h = happened r (CallEvent a now op) in
    let counts = post_counts script.actors (positions script r) in
    let many : length (positions script r) ≡ length script.actors = length_positions script.actors r.items keeps.many in
    let loads = call_loads r.state a now op in
    let o = faulted r.state.loads (needs op) in
    goes_noted script a r (called a r now op why) (item_of why (length h.journal)) turn keeps is refl
    (λ later b.
    ap (tally_of b) (call_posts r.state a now op ∙ asks_it.posting r.state.posts)
    ∙ tally_at (a == b) true (turn_posts turn) a b r.state.posts counts refl (omega (arith, low, length-post_counts script.actors (positions script r) many)) (keeps.told few))
    (subst Holds (sym loads) (where_holds o r.state.loads keeps.holds))
    (subst (λ l. weight l ≤ weight r.state.loads + 1) (sym loads) (where_weight o r.state.loads keeps.holds))

-- it calls, or waits
goes_where : (script : Script) (a : ℕ) (r : Run) (turn : Turn) (now : ℕ) (op : Op) (why : Purpose) (o : Option CoreRefusal) → op_waits r.state op ≡ o
    → Keeps script r → a < length script.actors
    → next_turn script a r ≡ Some turn → OpOf r.state a turn op → r.state.calls < script.limit
    → Goes script a r (called_where o a r now op why)
goes_where script a r turn now op why None wants keeps low is asks_it few = goes_called script a r turn now op why keeps low is asks_it few
goes_where script a r turn now op why (Some refusal) wants keeps low is asks_it few =
    ⊎_elim
    (λ (one : (what : Awaited) × (pending r.state.loads (needs op) ≡ Some what) × (refusal ≡ Pending what)).
    rw one.2 (goes_pending script a r one.0 keeps (pending_is r.state.loads (needs op) one.0 one.1)))
    (λ (one : (found : ℕ) × (op_wanting r.state op ≡ Some found) × (refusal ≡ NotYet found)).
    rw one.2 (goes_still script a r keeps (λ other there.
    let same : turn ≡ other = let both : Some turn ≡ Some other = sym is ∙ there in cc in
    rw (sym same) (asks_it.waiting (post_counts script.actors (positions script r)) one.0 (keeps.told few) one.1))))
    (waits_where (pending r.state.loads (needs op)) (op_wanting r.state op) refusal wants)

-- it calls, or callers have as many entries as they may
goes_within : (script : Script) (a : ℕ) (r : Run) (turn : Turn) (now : ℕ) (op : Op) (why : Purpose) (full : Bool) → nat_le script.limit r.state.calls ≡ full
    → Keeps script r → a < length script.actors → next_turn script a r ≡ Some turn → OpOf r.state a turn op
    → Goes script a r (called_within full a r now op why)
goes_within script a r turn now op why true spent keeps low is asks_it =
    let all : script.limit ≤ r.state.calls = grind (arith, nat_tests) in
    goes_noted script a r (noted a r (Refused Spent)) (Refused Spent) turn keeps is refl (λ few b. absurd (omega (arith, all, few))) keeps.holds (omega arith)
goes_within script a r turn now op why false spent keeps low is asks_it =
    let few : r.state.calls < script.limit = grind (arith, nat_tests) in
    goes_where script a r turn now op why (op_waits r.state op) refl keeps low is asks_it few

goes_asked : (script : Script) (a : ℕ) (r : Run) (turn : Turn) (now : ℕ) (why : Purpose) (o : Option Ask)
    → ask_of script.suffixes (view_at script.actors a) turn ≡ o → IsAdmitted script → Keeps script r
    → a < length script.actors → next_turn script a r ≡ Some turn → Goes script a r (asked script a r now why o)
goes_asked script a r turn now why None asked admitted keeps low is = absurd (asks script admitted a (length (items_at r a)) turn is asked)
goes_asked script a r turn now why (Some (ask.Op op)) asked admitted keeps low is =
    goes_within script a r turn now op why (nat_le script.limit r.state.calls) refl keeps low is
    (op_of script.suffixes (view_at script.actors a) r.state a turn op asked)
goes_asked script a r turn now why (Some (ask.Refused name)) asked admitted keeps low is =
    goes_quiet script a r (Refused name) turn keeps is
    (refused_no_post script.suffixes (view_at script.actors a) turn (ask.Refused name) asked (λ op e. absurd cc))

-- it uses a text again, or asks
goes_went : (script : Script) (a : ℕ) (r : Run) (turn : Turn) (way : Way) → way_of r.state (view_at script.actors a) (holding_at r a) turn ≡ way
    → IsAdmitted script → Keeps script r → a < length script.actors → next_turn script a r ≡ Some turn
    → Goes script a r (went script a r (turn_now script turn) way (ask_of script.suffixes (view_at script.actors a) turn))
goes_went script a r turn (reuses text) way admitted keeps low is =
    goes_quiet script a r (Reused text) turn keeps is (reused_no_post r.state (view_at script.actors a) (holding_at r a) turn text way)
goes_went script a r turn (calls why) way admitted keeps low is =
    goes_asked script a r turn (turn_now script turn) why (ask_of script.suffixes (view_at script.actors a) turn) refl admitted keeps low is

goes_turn : (script : Script) (a : ℕ) (r : Run) (o : Option Turn) → next_turn script a r ≡ o → IsAdmitted script → Keeps script r
    → a < length script.actors → Goes script a r (tried_where script a r o)
goes_turn script a r None is admitted keeps low = goes_still script a r keeps (λ turn there. let clash : None ≡ Some turn = sym is ∙ there in absurd cc)
goes_turn script a r (Some turn) is admitted keeps low =
    goes_went script a r turn (way_of r.state (view_at script.actors a) (holding_at r a) turn) refl admitted keeps low is

pub goes : (script : Script) (a : ℕ) (r : Run) → IsAdmitted script → Keeps script r → a < length script.actors → Goes script a r (tried script a r)
goes script a r admitted keeps low = goes_turn script a r (next_turn script a r) refl admitted keeps low
