-- That the rounds of a run end: each leaves less to do, of turns or of loads.
use Rattle.std.proofs.Common.{◌≡◌, ◌≢◌, ◌<◌, ◌≤◌, ◌+◌, ◌-◌, ◌⊎◌, ℕ, zero, suc, List, [], ◌∷◌, Bool, true, false, Option, None, Some, length, replicate, slice_get, slice_index, refl, ap, sym, ◌∙◌, arith, subst, inl, inr, ⊎_elim}
use Rattle.std.specs.Prelude.{◌&&◌, ◌==◌, slice_index_or}
use Rattle.std.specs.List.Sorted.{IsStrictlySortedBy}
use Rattle.std.proofs.lemmas.Bool.{cases_eq}
use Rattle.std.proofs.lemmas.Bool.Decides.{nat_tests}
use Rattle.jar_types.specs.declared.cookie.Cookie.{Cookie}
use Rattle.jar_types.specs.declared.entry.Own.TheVariants.{Begun, Whole}
use Rattle.jar_types.specs.declared.entry.Event.TheVariants.{Jar as JarEvent}
use Rattle.jar_types.specs.Ids.{text_cmp}
use Rattle.jar_types.specs.Loads.{Loads, is_the, may_load, next_key}
use Rattle.jar_types.specs.States.{JarState}
use Rattle.jar_types.specs.Steps.{own_may_stand}
use Rattle.jar_types.specs.Tallies.{tally_of}
use Rattle.run_report.specs.declared.item.Item.{Item}
use Rattle.script_text.specs.declared.actor.Actor.{Actor}
use Rattle.script_text.specs.declared.script.Script.{Script}
use Rattle.script_text.specs.Admitted.{IsAdmitted}
use Rattle.script_text.specs.Deadlocks.{AllWait, at_start, post_counts}
use Rattle.script_text.proofs.DeadlockLemmas.{within_steps}
use Rattle.script_text.proofs.PostLemmas.{post_counts-at_start}
use Rattle.script_text.proofs.OrderLemmas.{waiting_actors_have_ended}
use Rattle.script_run.specs.Rounds.{Giving, Service, committed_where, ended, flushed, is_due, load_gave, loaded, loaded_next, round, taken}
use Rattle.script_run.specs.Runs.{Run, begin, did, happened, is_done, items_at, left, next_turn, positions, tried, tried_first}
use Rattle.script_run.specs.Turns.{Turn, binds, does, lead_of, positions_of, turns_at, turns_left}
use Rattle.script_run.proofs.KeepLemmas.{Keeps, burden, goes, waits_yet}
use Rattle.script_run.proofs.LoadLemmas.{AreWanted, Holds, LoadGoes, begin_holds, gave_goes, next_is, weight, whole_goes}
use Rattle.script_run.proofs.TextLemmas.{text_self}
use Rattle.script_run.proofs.TurnLemmas.{AllBound, ended_left, length_positions, step_next, turn_waits}

-- ---- the tries of a round

-- each of the first actors has no turn or waits for posts
abbrev AreStuck : Script → ℕ → Run → Type 0
AreStuck script k r = (a : ℕ) → a < k → (turn : Turn) → next_turn script a r ≡ Some turn → waits_yet script r turn ≡ true

-- the first tries keep that; where none did a turn, each actor of them waits for posts or has ended, or something is wanted
record GoFirst (script : Script) (k : ℕ) (r t : Run) : Type 0 where
  keeps : Keeps script t
  never_back : left script t ≤ left script r
  lighter : burden script t ≤ burden script r
  same : left script t ≡ left script r → t.items ≡ r.items
  still : left script t ≡ left script r → AreWanted t.state.loads ⊎ AreStuck script k r

-- where items are the same, so are next turns and who waits
next_same : (script : Script) (a : ℕ) (r t : Run) → t.items ≡ r.items → next_turn script a t ≡ next_turn script a r
next_same script a r t same = ap (λ lists. slice_get (turns_at script.actors a) (length (slice_index_or lists a []))) same

waits_same : (script : Script) (r t : Run) (turn : Turn) → t.items ≡ r.items → waits_yet script t turn ≡ waits_yet script r turn
waits_same script r t turn same = ap (λ lists. turn_waits (post_counts script.actors (positions_of script.actors lists)) turn) same

still_at : (script : Script) (k a : ℕ) (r t : Run) (turn : Turn) → (a ≡ k) ⊎ (a ≢ k) → a < suc k → next_turn script a r ≡ Some turn → t.items ≡ r.items
    → AreStuck script k r → ((turn : Turn) → next_turn script k t ≡ Some turn → waits_yet script t turn ≡ true)
    → waits_yet script r turn ≡ true
still_at script k a r t turn (inl same) low is unmoved first last =
    let there : next_turn script k t ≡ Some turn = next_same script k r t unmoved ∙ (ap (λ i. next_turn script i r) (sym same) ∙ is) in
    sym (waits_same script r t turn unmoved) ∙ last turn there
still_at script k a r t turn (inr other) low is unmoved first last = first a (omega (arith, low, other)) turn is

-- what the next actor's turn says, where something is wanted or not
next_waits : (script : Script) (k : ℕ) (t u : Run) → (o : Option Turn) → next_turn script k t ≡ o
    → ((turn : Turn) → next_turn script k t ≡ Some turn → (waits_yet script t turn ≡ true) ⊎ AreWanted u.state.loads)
    → AreWanted u.state.loads ⊎ ((turn : Turn) → next_turn script k t ≡ Some turn → waits_yet script t turn ≡ true)
next_waits script k t u None is says = inr (λ turn there. let clash : None ≡ Some turn = sym is ∙ there in absurd cc)
next_waits script k t u (Some turn) is says =
    ⊎_elim
    (λ (w : waits_yet script t turn ≡ true). inr (λ other there.
    let same : turn ≡ other = let e : Some turn ≡ Some other = sym is ∙ there in cc in
    rw (sym same) w))
    (λ (w : AreWanted u.state.loads). inl w) (says turn is)

go_first : (script : Script) (k : ℕ) (r : Run) → IsAdmitted script → Keeps script r → k ≤ length script.actors
    → GoFirst script k r (tried_first script k r)
go_first script zero r admitted keeps few = record {
  keeps = keeps;
  never_back = omega arith;
  lighter = omega arith;
  same = λ e. refl;
  still = λ e. inr (λ a low. absurd (omega (arith, low)));
}
go_first script (suc k) r admitted keeps few =
    let t = tried_first script k r in
    let first = go_first script k r admitted keeps (omega (arith, few)) in
    let last = goes script k t admitted first.keeps (omega (arith, few)) in
    let u = tried script k t in
    let back = first.never_back in
    let further = last.never_back in
    let light = first.lighter in
    let lighter = last.lighter in
    record {
      keeps = last.keeps;
      never_back = omega (arith, back, further);
      lighter = omega (arith, light, lighter);
      same = λ e.
          let mid : left script t ≡ left script r = omega (arith, back, further, e) in
          let end : left script u ≡ left script t = omega (arith, back, further, e) in
          last.same end ∙ first.same mid;
      still = λ e.
          let mid : left script t ≡ left script r = omega (arith, back, further, e) in
          let end : left script u ≡ left script t = omega (arith, back, further, e) in
          let unmoved : t.items ≡ r.items = first.same mid in
          ⊎_elim
          (λ (w : AreWanted t.state.loads). inl (last.wanted end w))
          (λ (all : AreStuck script k r).
          ⊎_elim
          (λ (w : AreWanted u.state.loads). inl w)
          (λ (own : (turn : Turn) → next_turn script k t ≡ Some turn → waits_yet script t turn ≡ true).
          inr (λ a low turn is. still_at script k a r t turn (cases_eq a k) low is unmoved all own))
          (next_waits script k t u (next_turn script k t) refl (last.still end)))
          (first.still mid);
    }

-- an actor whose next turn is there is one of the script's
turn_within : (actors : List Actor) (a n : ℕ) (turn : Turn) → slice_get (turns_at actors a) n ≡ Some turn → a < length actors
turn_within [] a n turn is = absurd cc
turn_within (x ∷ xs) zero n turn is = omega arith
turn_within (x ∷ xs) (suc a) n turn is = let low = turn_within xs a n turn is in omega (arith, low)

-- where all actors wait for posts, no turn is left
stuck_left : (script : Script) (r : Run) → IsAdmitted script → Keeps script r → AreStuck script (length script.actors) r → left script r ≡ 0
stuck_left script r admitted keeps stuck =
    let many = length_positions script.actors r.items keeps.many in
    let bound : AllBound script.actors r.items = λ a is.
    let waiting : false ≡ true = stuck a (turn_within script.actors a (length (items_at r a)) binds is) binds is in absurd cc in
    let all_wait : AllWait script.actors (positions script r) = λ a step is.
    stuck a (within_steps script.actors a (slice_index (positions script r) a) step is) (does step)
    (step_next script.actors r.items a step keeps.many bound is) in
    ended_left script.actors r.items keeps.many bound
    (waiting_actors_have_ended script.actors (positions script r) many admitted.no_deadlock all_wait)

-- ---- the load of a round

-- a load keeps that and does no turn; where something is wanted, less of the loading is left
pub record Loaded (script : Script) (r t : Run) : Type 0 where
  pub keeps : Keeps script t
  pub same : left script t ≡ left script r
  pub light : weight t.state.loads ≤ weight r.state.loads
  pub nearer : AreWanted r.state.loads → weight t.state.loads < weight r.state.loads

loaded_keeps : (script : Script) (r t : Run) → Keeps script r → t.items ≡ r.items → t.state.posts ≡ r.state.posts → t.state.calls ≡ r.state.calls
    → LoadGoes r.state.loads t.state.loads → Loaded script r t
loaded_keeps script r t keeps items posts calls goes =
    let places : positions script t ≡ positions script r = ap (positions_of script.actors) items in
    record {
      keeps = record {
        many = ap length items ∙ keeps.many;
        told = λ few b. ap (tally_of b) posts ∙ (keeps.told (subst (λ n. n < script.limit) calls few) b ∙ ap (λ ps. slice_index (post_counts script.actors ps) b) (sym places));
        holds = goes.holds;
      };
      same = ap (turns_left script.actors) items;
      light = goes.never_back;
      nearer = goes.nearer;
    }

-- the next load begins
begins : (key : List ℕ) (l : Loads) → Holds l → next_key l.keys ≡ Some key → may_load (Begun key) l ≡ true
begins key l h next = rw h.begun (ap (is_the key) (sym (next_is l h) ∙ next) ∙ text_self key)

pub begun_stands : (key : List ℕ) (r : Run) → Holds r.state.loads → next_key r.state.loads.keys ≡ Some key → own_may_stand r.state (Begun key) ≡ true
begun_stands key r h next = rw (begins key r.state.loads h next) refl

key_loads : (script : Script) (r : Run) (key : List ℕ) (answer : Option (List Cookie)) (may : Bool) → own_may_stand r.state (Begun key) ≡ may → may ≡ true
    → Keeps script r → next_key r.state.loads.keys ≡ Some key
    → Loaded script r (happened (did may r (Begun key)) (JarEvent (load_gave key answer)))
key_loads script r key answer false e is keeps next = absurd cc
key_loads script r key answer true e is keeps next =
    loaded_keeps script r (happened (did true r (Begun key)) (JarEvent (load_gave key answer))) keeps refl refl refl
    (gave_goes key answer r.state.loads keeps.holds next)

and_true : (a : Bool) → (a && true) ≡ a
and_true true = refl
and_true false = refl

whole_may : (s : JarState) (now : ℕ) (may : Bool) → own_may_stand s (Whole now) ≡ may → may_load (Whole now) s.loads ≡ may
whole_may s now may e = sym (and_true (may_load (Whole now) s.loads)) ∙ e

whole_loads : (script : Script) (r : Run) (now : ℕ) (may : Bool) → own_may_stand r.state (Whole now) ≡ may → Keeps script r → next_key r.state.loads.keys ≡ None
    → Loaded script r (did may r (Whole now))
whole_loads script r now true e keeps next =
    loaded_keeps script r (did true r (Whole now)) keeps refl refl refl
    (whole_goes true now r.state.loads keeps.holds next (whole_may r.state now true e))
whole_loads script r now false e keeps next =
    loaded_keeps script r r keeps refl refl refl
    (whole_goes false now r.state.loads keeps.holds next (whole_may r.state now false e))

next_loads : (script : Script) (r : Run) (gives : Giving) (o : Option (List ℕ)) → next_key r.state.loads.keys ≡ o → Keeps script r
    → Loaded script r (loaded_next o script.start gives r)
next_loads script r gives (Some key) next keeps =
    key_loads script r key (gives key) (own_may_stand r.state (Begun key)) refl (begun_stands key r keeps.holds next) keeps next
next_loads script r gives None next keeps = whole_loads script r script.start (own_may_stand r.state (Whole script.start)) refl keeps next

pub loads : (script : Script) (r : Run) (gives : Giving) → Keeps script r → Loaded script r (loaded script.start gives r)
loads script r gives keeps = next_loads script r gives (next_key r.state.loads.keys) refl keeps

-- ---- the commit of a round

-- a commit changes neither items nor loading nor posts
record Unmoved (r t : Run) : Type 0 where
  items : t.items ≡ r.items
  posts : t.state.posts ≡ r.state.posts
  calls : t.state.calls ≡ r.state.calls
  loads : t.state.loads ≡ r.state.loads

ended_unmoved : (commits : Bool) (place : ℕ) (r : Run) → Unmoved r (ended commits place r)
ended_unmoved true place r = record { items = refl; posts = refl; calls = refl; loads = refl }
ended_unmoved false place r = record { items = refl; posts = refl; calls = refl; loads = refl }

flush_unmoved : (due commits : Bool) (r : Run) → Unmoved r (committed_where due commits r)
flush_unmoved false commits r = record { items = refl; posts = refl; calls = refl; loads = refl }
flush_unmoved true commits r =
    let t = taken r in
    let end = ended_unmoved commits (length t.journal) t in
    record { items = end.items; posts = end.posts; calls = end.calls; loads = end.loads }

unmoved_keeps : (script : Script) (r t : Run) → Unmoved r t → Keeps script r → Keeps script t
unmoved_keeps script r t un keeps =
    let places : positions script t ≡ positions script r = ap (positions_of script.actors) un.items in record {
      many = ap length un.items ∙ keeps.many;
      told = λ few b. ap (tally_of b) un.posts ∙ (keeps.told (subst (λ n. n < script.limit) un.calls few) b ∙ ap (λ ps. slice_index (post_counts script.actors ps) b) (sym places));
      holds = subst Holds (sym un.loads) keeps.holds;
    }

pub flush_items : (force commits : Bool) (r : Run) → (flushed force commits r).items ≡ r.items
flush_items force commits r = (flush_unmoved (is_due force r) commits r).items

-- ---- a round

-- how much there is to do: twice the turns that are left, and what of the loading is left
abbrev pub to_do : Script → Run → ℕ
to_do script r = left script r + burden script r

-- a round keeps that, and while a turn is left, less is to do behind it
pub record Rounds (script : Script) (r t : Run) : Type 0 where
  pub keeps : Keeps script t
  pub never_more : to_do script t ≤ to_do script r
  pub nearer : is_done script r ≡ false → to_do script t < to_do script r

some_left : (n : ℕ) → (n == 0) ≡ false → 0 < n
some_left n e = grind (arith, nat_tests)

-- a turn was done, or something is wanted
lighter_where : (script : Script) (r t u : Run) → IsAdmitted script → Keeps script r → GoFirst script (length script.actors) r t → Loaded script t u → is_done script r ≡ false
    → (left script t ≡ left script r) ⊎ (left script t ≢ left script r) → to_do script u < to_do script r
lighter_where script r t u admitted keeps go load not_yet (inr other) =
    let back = go.never_back in
    let light = go.lighter in
    let less = load.light in
    let same = load.same in
    omega (arith, back, light, less, same, other)
lighter_where script r t u admitted keeps go load not_yet (inl equal) =
    let light = go.lighter in
    let same = load.same in
    ⊎_elim
    (λ (w : AreWanted t.state.loads). let less = load.nearer w in omega (arith, light, less, same, equal))
    (λ (all : AreStuck script (length script.actors) r).
    let none = stuck_left script r admitted keeps all in
    let some = some_left (left script r) not_yet in
    absurd (omega (arith, none, some)))
    (go.still equal)

pub round_goes : (script : Script) (service : Service) (r : Run) → IsAdmitted script → Keeps script r → Rounds script r (round script service r)
round_goes script service r admitted keeps =
    let t = tried_first script (length script.actors) r in
    let go = go_first script (length script.actors) r admitted keeps (omega arith) in
    let u = loaded script.start service.gives t in
    let load = loads script t service.gives go.keeps in
    let v = flushed false service.commits u in
    let un = flush_unmoved (is_due false u) service.commits u in
    let places : left script v ≡ left script u = ap (turns_left script.actors) un.items in
    let weights : weight v.state.loads ≡ weight u.state.loads = ap weight un.loads in
    let back = go.never_back in
    let light = go.lighter in
    let less = load.light in
    let same = load.same in
    record {
      keeps = unmoved_keeps script u v un load.keeps;
      never_more = omega (arith, places, weights, back, light, less, same);
      nearer = λ not_yet.
          let nearer = lighter_where script r t u admitted keeps go load not_yet (cases_eq (left script t) (left script r)) in
          omega (arith, places, weights, nearer);
    }

pub flush_keeps : (script : Script) (force commits : Bool) (r : Run) → Keeps script r → Keeps script (flushed force commits r)
flush_keeps script force commits r keeps = unmoved_keeps script r (flushed force commits r) (flush_unmoved (is_due force r) commits r) keeps

-- ---- the begin

-- that many lists without an item
abbrev no_items : ℕ → List (List Item)
no_items n = replicate n []

length_no_items : (n : ℕ) → length (no_items n) ≡ n
length_no_items zero = refl
length_no_items (suc n) = ap suc (length_no_items n)

begin_positions : (actors : List Actor) → positions_of actors (no_items (length actors)) ≡ at_start actors
begin_positions [] = refl
begin_positions (x ∷ xs) =
    let none : 0 - lead_of x ≡ 0 = omega arith in
    ap (λ n. n ∷ positions_of xs (no_items (length xs))) none ∙ ap (λ places. 0 ∷ places) (begin_positions xs)

zero_at : (n b : ℕ) → slice_index (replicate n 0) b ≡ 0
zero_at zero b = refl
zero_at (suc n) zero = refl
zero_at (suc n) (suc b) = zero_at n b

pub begin_keeps : (script : Script) (keys : List (List ℕ)) → IsStrictlySortedBy text_cmp keys → Keeps script (begin script keys)
begin_keeps script keys rises = record {
  many = length_no_items (length script.actors);
  told = λ few b.
      sym (ap (λ places. slice_index (post_counts script.actors places) b) (begin_positions script.actors)
      ∙ (ap (λ counts. slice_index counts b) (post_counts-at_start script.actors) ∙ zero_at (length script.actors) b));
  holds = begin_holds keys rises;
}
