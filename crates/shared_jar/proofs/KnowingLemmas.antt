-- What a pass knows after a call, and why it was refused.
use Rattle.std.proofs.Common.{◌≡◌, ◌≤◌, ◌<◌, ℕ, List, [], ◌∷◌, ◌++◌, Bool, true, false, Option, None, Some, length, refl, sym, ap, ◌∙◌, subst, arith, length-append}
use Rattle.std.specs.Prelude.{◌&&◌, ◌||◌, not, nat_lt, option_map, if◌then◌else◌, bytes_eq, Result, Ok, Err, IfOk, IfErr}
use Rattle.std.specs.Option.{option_or}
use Rattle.std.proofs.lemmas.Bool.Decides.{nat_tests}
use Rattle.jar_types.specs.declared.entry.Event.TheVariants.{Call as CallEvent}
use Rattle.jar_types.specs.declared.entry.Entry.TheVariants.{Call}
use Rattle.jar_types.specs.declared.jar_core.Awaited.{Awaited}
use Rattle.jar_types.specs.declared.jar_core.Awaited.TheVariants as awaited
use Rattle.jar_types.specs.declared.jar_core.CoreRefusal.TheVariants as core
use Rattle.jar_types.specs.declared.op.Op.{Op}
use Rattle.jar_types.specs.declared.op.Op.TheVariants.{Bind, Set, Get, Delete, All, Clear, Listen, Changes, Unlisten, Post, Hear}
use Rattle.jar_types.specs.Journals.{Rules, state_of, stored_keys}
use Rattle.jar_types.specs.Loads.{Loads, has_text, is_loaded, is_marked, is_wanted}
use Rattle.jar_types.specs.Posts.{op_wanting}
use Rattle.jar_types.specs.States.{JarState}
use Rattle.jar_types.specs.Steps.{own_may_stand}
use Rattle.jar_types.specs.Tallies.{tally_of}
use Rattle.jar_types.specs.Waits.{is_awaited, is_lost, is_there, needs, pending}
use Rattle.stored_law.proofs.TextLemmas.{text_itself}
use Rattle.version_cells.specs.declared.listing.Listing.{Listing}
use Rattle.version_cells.specs.Listings.{StartsWith, owned}
use Rattle.version_cells.specs.Standing.{PassStanding}
use Rattle.version_cells.proofs.Prefixes.{starts_trans}
use Rattle.locked_jar.specs.declared.receipt.CallRefusal.{CallRefusal}
use Rattle.locked_jar.specs.declared.receipt.CallRefusal.TheVariants.{Spent, Pending, NotYet, NoMemory}
use Rattle.locked_jar.specs.declared.receipt.Receipt.{Receipt}
use Rattle.locked_jar.specs.Calls.{Answers, RefusesCall, noted, want_of}
use Rattle.locked_jar.specs.History.{IsHistory}
use Rattle.locked_jar.specs.LockedJars.{LockedJar, journal_of, listing_at}
use Rattle.locked_jar.specs.Passes.{HasMet, HasSeen, KnowsNoMore}
use Rattle.shared_jar.specs.Knowing.{CauseStands, LearnsAnswer, LearnsRefusal, SeesMore, SeesOn, state_seen}

-- ---- what is seen

-- what was seen is no longer than the history that starts with it
pub starts_short : (history seen : List Listing) → StartsWith history seen
    → length seen ≤ length history
starts_short history seen starts =
    let whole = ap length starts.1 in let sum = length-append seen starts.0 in omega
    (arith, whole, sum)

-- the pass met a history
pub met_on : (r : Rules) (cutter : ℕ) (history : List Listing) (p q : PassStanding)
    → IsHistory r cutter history → HasMet history p q → SeesOn r cutter p q
met_on r cutter history p q is met =
    let fronts = met.fronts in
    record {
      number = met.number;
      fronts = omega (arith, fronts);
      history = subst (IsHistory r cutter) (sym met.seen) is;
      found = met.found ∙ ap length (sym met.seen);
      begins = subst (λ h. StartsWith h p.view.own.seen) (sym met.seen) met.begins;
      looks = met.looks;
      last = met.last;
    }

pub seen_more : (r : Rules) (cutter : ℕ) (history : List Listing) (p q : PassStanding)
    → IsHistory r cutter history → HasSeen history p q → SeesMore r cutter p q
seen_more r cutter history p q is seen = record {
  on = met_on r cutter history p q is seen.met;
  front = seen.front;
  calls = seen.calls;
  look = subst (λ h. KnowsNoMore h p.view.own.last) (sym seen.met.seen) seen.look;
}

-- the pass met a history, and then one that goes on from it
pub seen_twice : (r : Rules) (cutter : ℕ) (first next : List Listing) (p m q : PassStanding)
    → IsHistory r cutter next → HasSeen first p m → HasSeen next m q
    → SeesMore r cutter p q
seen_twice r cutter first next p m q is before behind =
    let old = before.met.fronts in
    let new = behind.met.fronts in
    let on = met_on r cutter next m q is behind.met in
    record {
      on = record {
        number = on.number ∙ before.met.number;
        fronts = omega (arith, old, new);
        history = on.history;
        found = on.found;
        begins = starts_trans q.view.own.seen m.view.own.seen p.view.own.seen on.begins
            (subst (λ h. StartsWith h p.view.own.seen) (sym before.met.seen) before.met.begins);
        looks = on.looks ∙ before.met.looks;
        last = on.last ∙ before.met.last;
      };
      front = behind.front ∙ before.front;
      calls = behind.calls ∙ before.calls;
      look = subst (λ l. KnowsNoMore q.view.own.seen l) before.met.last
          (subst (λ h. KnowsNoMore h m.view.own.last) (sym behind.met.seen) behind.look);
    }

-- ---- an answer

pub learns_answer : (r : Rules) (cutter : ℕ) (j j' : LockedJar) (p q : PassStanding) (op : Op)
    (now : ℕ) (receipt : Receipt) → IsHistory r cutter j'.seen
    → Answers j j' p q op now receipt → LearnsAnswer r cutter p q op now receipt
learns_answer r cutter j j' p q op now receipt is told =
    let l = listing_at (Some p.view.number) j.state (CallEvent p.view.number now op) in
    let pass = told.pass in
    let new : j'.seen ≡ j.seen ++ l ∷ [] = ap (λ (k : LockedJar). k.seen) told.jar in
    let place : receipt.place ≡ length q.front = told.place ∙
    (ap length new ∙ sym (ap length pass.front)) in
    let old = starts_short j.seen p.view.own.seen pass.begins in
    let whole = ap length pass.front in
    let sum = length-append j.seen (l ∷ []) in
    record {
      on = met_on r cutter (j.seen ++ l ∷ []) p q (subst (IsHistory r cutter) new is) pass.met;
      front = pass.front ∙ sym pass.met.seen;
      before = j.seen;
      entry = l;
      stands = record {
        last = pass.front;
        about = ap (Call p.view.number now op) (sym told.reply);
        owner = refl;
        place = place;
        past = omega (arith, place, old, whole, sum);
      };
      counts = record {
        between = pass.between;
        since = pass.since;
        none_of_own = pass.none_of_own;
        calls = pass.calls;
        owns = ap (owned p.view.number) pass.front ∙ pass.owns;
      };
      look = pass.look;
    }

-- ---- why a call waits

waits_pending : (o : Option Awaited) (f : Option ℕ) (what : Awaited)
    → option_or (option_map (λ w. core.Pending w) o) (option_map (λ n. core.NotYet n) f) ≡ Some
    (core.Pending what) → o ≡ Some what
waits_pending (Some w) f what e = let same : w ≡ what = cc in ap (λ v. Some v) same
waits_pending None (Some n) what e = absurd cc
waits_pending None None what e = absurd cc

waits_hear : (o : Option Awaited) (f : Option ℕ) (found : ℕ)
    → option_or (option_map (λ w. core.Pending w) o) (option_map (λ n. core.NotYet n) f) ≡ Some
    (core.NotYet found) → f ≡ Some found
waits_hear (Some w) f found e = absurd cc
waits_hear None (Some n) found e = let same : n ≡ found = cc in ap (λ v. Some v) same
waits_hear None None found e = absurd cc

pending_at : (w what : Awaited) (there lost : Bool)
    → (if not there && not lost then Some w else None) ≡ Some what
    → (Some w ≡ Some what) × (there ≡ false) × (lost ≡ false)
pending_at w what true lost e = absurd cc
pending_at w what false true e = absurd cc
pending_at w what false false e = (e, refl, refl)

-- what is pending isn't there, and wasn't lost
pending_is : (l : Loads) (o : Option Awaited) (what : Awaited) → pending l o ≡ Some what
    → (o ≡ Some what) × (is_there l what ≡ false) × (is_lost l what ≡ false)
pending_is l None what e = absurd cc
pending_is l (Some w) what e =
    let at = pending_at w what (is_there l w) (is_lost l w) e in
    let same : w ≡ what = let both = at.0 in cc in
    (at.0, subst (λ v. is_there l v ≡ false) same at.1, subst (λ v. is_lost l v ≡ false) same at.2)

hear_at : (n posts found : ℕ) (fewer : Bool) → nat_lt posts n ≡ fewer
    → (if fewer then Some posts else None) ≡ Some found
    → (posts ≡ found) × (found < n)
hear_at n posts found true less e =
    let same : posts ≡ found = cc in let under : posts < n = grind (arith, nat_tests) in
    (same, omega (arith, same, under))
hear_at n posts found false less e = absurd cc

-- an op that waits for posts is a Hear of too few
hear_is : (s : JarState) (op : Op) (found : ℕ) → op_wanting s op ≡ Some found
    → (actor n : ℕ) × (op ≡ Hear actor n) × (tally_of actor s.posts ≡ found) × (found < n)
hear_is s (Bind key) found e = absurd cc
hear_is s (Set cookie script secure) found e = absurd cc
hear_is s (Get request) found e = absurd cc
hear_is s (Delete key id) found e = absurd cc
hear_is s All found e = absurd cc
hear_is s Clear found e = absurd cc
hear_is s (Listen scope) found e = absurd cc
hear_is s (Changes number) found e = absurd cc
hear_is s (Unlisten number) found e = absurd cc
hear_is s Post found e = absurd cc
hear_is s (Hear actor n) found e =
    let at = hear_at n (tally_of actor s.posts) found (nat_lt (tally_of actor s.posts) n) refl e in
    (actor, n, refl, at.0, at.1)

-- ---- what is pending is awaited then

has_last : (key : List ℕ) (keys : List (List ℕ)) → has_text key (keys ++ key ∷ []) ≡ true
has_last key [] = ap (λ b. b || false) (text_itself key)
has_last key (k ∷ keys) =
    ap (λ b. bytes_eq key k || b) (has_last key keys) ∙ or_true (bytes_eq key k)
  where
    or_true : (b : Bool) → (b || true) ≡ true
    or_true true = refl
    or_true false = refl

-- a want that may not be noted was noted before
was_wanted : (there wanted lost : Bool) → there ≡ false → lost ≡ false
    → ((not there && (not wanted && not lost)) && true) ≡ false → wanted ≡ true
was_wanted true wanted lost e f may = absurd cc
was_wanted false true lost e f may = refl
was_wanted false false true e f may = absurd cc
was_wanted false false false e f may = absurd cc

-- it still isn't there, wasn't lost, and is awaited
wanted_stands : (j : LockedJar) (what : Awaited) (may : Bool)
    → own_may_stand j.state (want_of what) ≡ may → is_there j.state.loads what ≡ false
    → is_lost j.state.loads what ≡ false
    → (is_there (noted may j (want_of what)).state.loads what ≡ false) ×
    (is_lost (noted may j (want_of what)).state.loads what ≡ false)
    × (is_awaited (noted may j (want_of what)).state.loads what ≡ true)
wanted_stands j (awaited.Key key) true e there lost =
    (there, lost, has_last key j.state.loads.keys.wanted)
wanted_stands j awaited.All true e there lost = (there, lost, refl)
wanted_stands j (awaited.Key key) false e there lost = (
  there,
  lost,
  was_wanted (is_loaded key j.state.loads.keys) (is_wanted key j.state.loads.keys)
      (is_marked key j.state.loads.keys) there lost e,
)
wanted_stands j awaited.All false e there lost = (
  there,
  lost,
  was_wanted j.state.loads.whole j.state.loads.all_wanted j.state.loads.all_lost
      there lost e,
)

-- ---- a refusal

-- the state of what the pass has seen
pub seen_state : (r : Rules) (j : LockedJar) (q : PassStanding)
    → j.state ≡ state_of (stored_keys r) (journal_of j.seen) → q.view.own.seen ≡ j.seen
    → j.state ≡ state_seen r q
seen_state r j q state seen = state ∙ ap (λ h. state_of (stored_keys r) (journal_of h)) (sym seen)

module _ (r : Rules) (cutter : ℕ) (j j' : LockedJar) (p q : PassStanding) (op : Op)
    (is : IsHistory r cutter j'.seen) (state : j'.state ≡ state_of (stored_keys r)
    (journal_of j'.seen)) where
  cause_seen : (refusal : CallRefusal) → CauseStands r j'.state op refusal → HasSeen j'.seen p q
      → SeesMore r cutter p q × CauseStands r (state_seen r q) op refusal
  cause_seen refusal cause seen = (
    seen_more r cutter j'.seen p q is seen,
    subst (λ s. CauseStands r s op refusal)
        (seen_state r j' q state seen.met.seen) cause,
  )

  pub learns_refusal : (refusal : CallRefusal) → j.limit ≡ r.limit → RefusesCall j j' p q op refusal
      → LearnsRefusal r cutter p q op refusal
  learns_refusal Spent limit told =
      cause_seen Spent (ap (λ (k : LockedJar). k.state.calls) told.1 ∙ (told.0 ∙ limit)) told.2
  learns_refusal (Pending what) limit told =
      let o = waits_pending (pending j.state.loads (needs op)) (op_wanting j.state op) what told.1
      in
      let is = pending_is j.state.loads (needs op) what o in
      let on = wanted_stands j what (own_may_stand j.state (want_of what)) refl is.1 is.2 in
      cause_seen (Pending what) (subst (λ (k : LockedJar). CauseStands r k.state op (Pending what))
      (sym told.2) (is.0, on.0, on.1, on.2)) told.3
  learns_refusal (NotYet found) limit told =
      let f = waits_hear (pending j.state.loads (needs op)) (op_wanting j.state op) found told.1 in
      cause_seen (NotYet found) (subst (λ (k : LockedJar). CauseStands r k.state op (NotYet found))
      (sym told.2) (hear_is j.state op found f)) told.3
  learns_refusal NoMemory limit told = told.2

-- ---- whatever the answer is

module _ (r : Rules) (cutter : ℕ) (j j' : LockedJar) (p q : PassStanding) (op : Op) (now : ℕ)
    (is : IsHistory r cutter j'.seen) (state : j'.state ≡ state_of (stored_keys r)
    (journal_of j'.seen)) where
  pub ok_learns : (result : Result Receipt CallRefusal) → IfOk result (Answers j j' p q op now)
      → IfOk result (LearnsAnswer r cutter p q op now)
  ok_learns (Ok receipt) told = learns_answer r cutter j j' p q op now receipt is told
  ok_learns (Err refusal) told = told

  pub err_learns : (result : Result Receipt CallRefusal) → j.limit ≡ r.limit
      → IfErr result (RefusesCall j j' p q op)
      → IfErr result (LearnsRefusal r cutter p q op)
  err_learns (Ok receipt) limit told = told
  err_learns (Err refusal) limit told =
      learns_refusal r cutter j j' p q op is state refusal limit told
