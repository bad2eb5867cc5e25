-- How many entries a legal journal has.
use Rattle.std.proofs.Common.{◌≡◌, ◌≢◌, ◌≤◌, ◌<◌, ◌+◌, ◌*◌, ℕ, zero, suc, List, [], ◌∷◌, ◌++◌, Bool, true, false, cond, None, Some, length, fold, refl, sym, ap, ◌∙◌, subst, arith, eq-eqb, ne_eqb, length-append}
use Rattle.std.proofs.lemmas.List.{length-map}
use Rattle.std.specs.Prelude.{Option, ◌&&◌, ◌||◌, not, bytes_eq, filter, is_none, nat_lt}
use Rattle.std.proofs.lemmas.Bool.Decides.{nat_tests}
use Rattle.std.specs.List.{AllByRecursion}
use Rattle.std.proofs.lemmas.Bool.{and_parts}
use Rattle.jar_types.specs.declared.entry.Entry.{Entry}
use Rattle.jar_types.specs.declared.entry.Entry.TheVariants.{Call, Jar}
use Rattle.jar_types.specs.declared.entry.Event.{Event}
use Rattle.jar_types.specs.declared.entry.Event.TheVariants.{Call as CallEvent, Jar as JarEvent}
use Rattle.jar_types.specs.declared.entry.Own.{Own}
use Rattle.jar_types.specs.declared.entry.Own.TheVariants.{Want, WantAll, Begun, Loaded, Lost, Whole, Taken, Acked, CommitLost}
use Rattle.jar_types.specs.declared.jar_core.Awaited.{Awaited}
use Rattle.jar_types.specs.declared.jar_core.Awaited.TheVariants as awaited
use Rattle.jar_types.specs.declared.op.Op.{Op}
use Rattle.jar_types.specs.Batches.{may_commit}
use Rattle.jar_types.specs.Journals.{Rules, all_stand, events, is_well_keyed, own_fits, stands, state_of, stored_keys}
use Rattle.jar_types.specs.Loads.{KeyLoads, Loads, has_text, is_loaded, is_marked, is_wanted, lost_where, may_load, own_loads, with_lost, without_text}
use Rattle.jar_types.specs.States.{JarState, opening}
use Rattle.jar_types.specs.Steps.{after, entry_of, event_of, own_may_stand}
use Rattle.jar_types.specs.Waits.{faulted, needs, op_waits}
use Rattle.stored_law.proofs.TextLemmas.{left_has, text_is, text_itself}
use Rattle.version_cells.specs.declared.listing.Listing.{Listing}
use Rattle.version_cells.specs.Listings.{is_owner, one, owned}
use Rattle.version_cells.specs.Lists.{Lists, owner_at, owner_of_own}
use Rattle.locked_jar.specs.History.{IsHistory}
use Rattle.locked_jar.specs.LockedJars.{journal_of}
use Rattle.locked_jar.specs.Room.{JournalsHaveRoom, ServedAreOwned, is_served, is_serving, served_in}
use Rattle.locked_jar.proofs.SameLemmas.{call_calls, call_entries, call_loads, event_entries, loads_where}

-- ---- lists of texts

-- no text stands twice
abbrev Differ : List (List ℕ) → Type 0
Differ [] = Unit {0}
Differ (t ∷ ts) = (has_text t ts ≡ false) × Differ ts

-- each is among others
abbrev Among : List (List ℕ) → List (List ℕ) → Type 0
Among ts us = AllByRecursion (λ t. has_text t us ≡ true) ts

both : (a b : Bool) → (a || b) ≡ false → (a ≡ false) × (b ≡ false)
both true b e = absurd cc
both false b e = (refl, e)

-- a text that is there makes one fewer
fewer_at : (key u : List ℕ) (us : List (List ℕ)) (same : Bool) → bytes_eq key u ≡ same → (has_text key us ≡ true → length (without_text key us) + 1 ≤ length us)
    → length (without_text key us) ≤ length us → (same || has_text key us) ≡ true → length (cond (not same) (u ∷ without_text key us) (without_text key us)) + 1 ≤ length us + 1
fewer_at key u us true e on least there = omega (arith, least)
fewer_at key u us false e on least there = let h = on there in omega (arith, h)

least_at : (key : List ℕ) (u : List ℕ) (us : List (List ℕ)) (keep : Bool) → length (without_text key us) ≤ length us
    → length (cond keep (u ∷ without_text key us) (without_text key us)) ≤ length us + 1
least_at key u us true h = omega (arith, h)
least_at key u us false h = omega (arith, h)

without_least : (key : List ℕ) (us : List (List ℕ)) → length (without_text key us) ≤ length us
without_least key [] = omega arith
without_least key (u ∷ us) = let h = least_at key u us (not (bytes_eq key u)) (without_least key us) in omega (arith, h)

without_fewer : (key : List ℕ) (us : List (List ℕ)) → has_text key us ≡ true → length (without_text key us) + 1 ≤ length us
without_fewer key [] there = absurd cc
without_fewer key (u ∷ us) there =
    let h = fewer_at key u us (bytes_eq key u) refl (without_fewer key us) (without_least key us) there in omega (arith, h)

-- texts that differ lose one at most
rest_at : (key u : List ℕ) (us : List (List ℕ)) (same : Bool) → bytes_eq key u ≡ same → has_text u us ≡ false → length us ≤ length (without_text key us) + 1
    → (has_text key us ≡ false → without_text key us ≡ us) → length us + 1 ≤ length (cond (not same) (u ∷ without_text key us) (without_text key us)) + 1
rest_at key u us true e none on all =
    let k : key ≡ u = text_is key u e in
    let h = ap length (all (ap (λ t. has_text t us) k ∙ none)) in omega (arith, h)
rest_at key u us false e none on all = omega (arith, on)

keep_at : (key u : List ℕ) (us : List (List ℕ)) (same : Bool) → bytes_eq key u ≡ same → (same || has_text key us) ≡ false → (has_text key us ≡ false → without_text key us ≡ us)
    → cond (not same) (u ∷ without_text key us) (without_text key us) ≡ u ∷ us
keep_at key u us true e none on = absurd cc
keep_at key u us false e none on = ap (λ vs. u ∷ vs) (on none)

without_none : (key : List ℕ) (us : List (List ℕ)) → has_text key us ≡ false → without_text key us ≡ us
without_none key [] none = refl
without_none key (u ∷ us) none = keep_at key u us (bytes_eq key u) refl none (without_none key us)

without_rest : (key : List ℕ) (us : List (List ℕ)) → Differ us → length us ≤ length (without_text key us) + 1
without_rest key [] differ = omega arith
without_rest key (u ∷ us) differ =
    let h = rest_at key u us (bytes_eq key u) refl differ.0 (without_rest key us differ.1) (without_none key us) in omega (arith, h)

not_key : (key t : List ℕ) → bytes_eq key t ≡ false → not (bytes_eq key t) ≡ true
not_key key t e = ap not e

-- what is left of texts that differ still differs
left_differ_at : (key u : List ℕ) (us : List (List ℕ)) (keep : Bool) → has_text u us ≡ false → Differ (without_text key us) → Differ (cond keep (u ∷ without_text key us) (without_text key us))
left_differ_at key u us true none on = (left_has (λ other. not (bytes_eq key other)) u us ∙ ap (λ b. b && not (bytes_eq key u)) none, on)
left_differ_at key u us false none on = on

left_differ : (key : List ℕ) (us : List (List ℕ)) → Differ us → Differ (without_text key us)
left_differ key [] differ = tt
left_differ key (u ∷ us) differ = left_differ_at key u us (not (bytes_eq key u)) differ.0 (left_differ key us differ.1)

-- one more at the end
push_has : (t u : List ℕ) (us : List (List ℕ)) → has_text t (us ++ u ∷ []) ≡ (has_text t us || bytes_eq t u)
push_has t u [] = or_none (bytes_eq t u)
  where
    or_none : (b : Bool) → (b || false) ≡ b
    or_none true = refl
    or_none false = refl
push_has t u (v ∷ us) = ap (λ b. bytes_eq t v || b) (push_has t u us) ∙ or_again (bytes_eq t v) (has_text t us) (bytes_eq t u)
  where
    or_again : (a b c : Bool) → (a || (b || c)) ≡ ((a || b) || c)
    or_again true b c = refl
    or_again false b c = refl

neither : (a b : Bool) → a ≡ false → b ≡ false → (a || b) ≡ false
neither a b e f = ap (λ c. c || b) e ∙ f

turned : (t u : List ℕ) → bytes_eq t u ≡ false → bytes_eq u t ≡ false
turned t u e = by (bytes_eq u t) refl
  where
    by : (b : Bool) → bytes_eq u t ≡ b → bytes_eq u t ≡ false
    by false f = f
    by true f = let k : u ≡ t = text_is u t f in let z : true ≡ false = sym (text_itself t) ∙ (ap (bytes_eq t) (sym k) ∙ e) in cc

push_differ : (key : List ℕ) (us : List (List ℕ)) → Differ us → has_text key us ≡ false → Differ (us ++ key ∷ [])
push_differ key [] differ none = (refl, tt)
push_differ key (u ∷ us) differ none =
    let parts = both (bytes_eq key u) (has_text key us) none in (
      push_has u key us ∙ neither (has_text u us) (bytes_eq u key) differ.0 (turned key u parts.0),
      push_differ key us differ.1 parts.1,
    )

push_among : (key : List ℕ) (ts us : List (List ℕ)) → Among ts us → has_text key us ≡ true → Among (ts ++ key ∷ []) us
push_among key [] us all there = (there, tt)
push_among key (t ∷ ts) us all there = (all.0, push_among key ts us all.1 there)

-- without the same text on both sides
left_among_at : (key t : List ℕ) (ts us : List (List ℕ)) (keep : Bool) → not (bytes_eq key t) ≡ keep → has_text t us ≡ true → Among (without_text key ts) (without_text key us)
    → Among (cond keep (t ∷ without_text key ts) (without_text key ts)) (without_text key us)
left_among_at key t ts us true e there on = (left_has (λ other. not (bytes_eq key other)) t us ∙ (ap (λ b. b && not (bytes_eq key t)) there ∙ e), on)
left_among_at key t ts us false e there on = on

left_among : (key : List ℕ) (ts us : List (List ℕ)) → Among ts us → Among (without_text key ts) (without_text key us)
left_among key [] us all = tt
left_among key (t ∷ ts) us all = left_among_at key t ts us (not (bytes_eq key t)) refl all.0 (left_among key ts us all.1)

-- and on one side alone
fewer_among_at : (key t : List ℕ) (ts us : List (List ℕ)) (keep : Bool) → has_text t us ≡ true → Among (without_text key ts) us → Among (cond keep (t ∷ without_text key ts) (without_text key ts)) us
fewer_among_at key t ts us true there on = (there, on)
fewer_among_at key t ts us false there on = on

fewer_among : (key : List ℕ) (ts us : List (List ℕ)) → Among ts us → Among (without_text key ts) us
fewer_among key [] us all = tt
fewer_among key (t ∷ ts) us all = fewer_among_at key t ts us (not (bytes_eq key t)) all.0 (fewer_among key ts us all.1)

-- the others are among what is left
rest_among : (t : List ℕ) (ts us : List (List ℕ)) → has_text t ts ≡ false → Among ts us → Among ts (without_text t us)
rest_among t [] us none all = tt
rest_among t (u ∷ ts) us none all =
    let parts = both (bytes_eq t u) (has_text t ts) none in (
      left_has (λ other. not (bytes_eq t other)) u us ∙ (ap (λ b. b && not (bytes_eq t u)) all.0 ∙ ap not parts.0),
      rest_among t ts us parts.1 all.1,
    )

-- texts that differ, each among others, are no more than these
no_more : (ts us : List (List ℕ)) → Differ ts → Among ts us → length ts ≤ length us
no_more [] us differ all = omega arith
no_more (t ∷ ts) us differ all =
    let h = no_more ts (without_text t us) differ.1 (rest_among t ts us differ.0 all.1) in
    let k = without_fewer t us all.0 in omega (arith, h, k)

-- ---- the loading

-- the wanted keys differ, and each isn't loaded
abbrev WantsFit : Loads → Type 0
WantsFit l = Differ l.keys.wanted × Among l.keys.wanted l.keys.unloaded

-- how much is wanted
abbrev weight : Loads → ℕ
weight l = length l.keys.wanted + one l.all_wanted

-- how many wants an own entry is, and how many of a load's or a commit's
abbrev wants_of : Own → ℕ
wants_of own = cond (is_served own) 0 1

abbrev served_of : Own → ℕ
served_of own = cond (is_served own) 1 0

not_false : (b : Bool) → not b ≡ true → b ≡ false
not_false true e = absurd cc
not_false false e = refl

not_not : (b : Bool) → not (not b) ≡ true → b ≡ true
not_not true e = refl
not_not false e = absurd cc

lost_fit : (b : Bool) (l : Loads) → WantsFit l → WantsFit (lost_where b l)
lost_fit true l fit = fit
lost_fit false l fit = fit

lost_weight : (b : Bool) (l : Loads) → weight l ≤ weight (lost_where b l) + 1
lost_weight true l = let h = one_most l.all_wanted in omega (arith, h)
  where
    one_most : (b : Bool) → one b ≤ 1
    one_most true = omega arith
    one_most false = omega arith
lost_weight false l = omega arith

lost_same : (b : Bool) (l : Loads) → l.all_wanted ≡ b → length (lost_where b l).keys.wanted ≡ length l.keys.wanted
lost_same true l e = refl
lost_same false l e = refl

own_fit : (own : Own) (l : Loads) → may_load own l ≡ true → WantsFit l → WantsFit (own_loads own l)
own_fit (Want key) l may fit =
    let parts = and_parts (not (is_loaded key l.keys)) (not (is_wanted key l.keys) && not (is_marked key l.keys)) may in
    let later = and_parts (not (is_wanted key l.keys)) (not (is_marked key l.keys)) parts.1 in (
      push_differ key l.keys.wanted fit.0 (not_false (is_wanted key l.keys) later.0),
      push_among key l.keys.wanted l.keys.unloaded fit.1 (not_not (has_text key l.keys.unloaded) parts.0),
    )
own_fit WantAll l may fit = fit
own_fit (Begun key) l may fit = fit
own_fit (Loaded key cookies) l may fit =
    (left_differ key l.keys.wanted fit.0, left_among key l.keys.wanted l.keys.unloaded fit.1)
own_fit (Lost key) l may fit =
    lost_fit l.all_wanted (record l { keys = with_lost key l.keys })
    (left_differ key l.keys.wanted fit.0, fewer_among key l.keys.wanted l.keys.unloaded fit.1)
own_fit (Whole now) l may fit = fit
own_fit Taken l may fit = fit
own_fit (Acked place) l may fit = fit
own_fit (CommitLost place) l may fit = fit

-- each want weighs one more, and each load takes two away at most
own_weight : (own : Own) (l : Loads) → may_load own l ≡ true → WantsFit l → weight l + wants_of own ≤ weight (own_loads own l) + 2 * served_of own
own_weight (Want key) l may fit = let h = length-append l.keys.wanted (key ∷ []) in omega (arith, h)
own_weight WantAll l may fit =
    let parts = and_parts (not l.whole) (not l.all_wanted && not l.all_lost) may in
    let later = and_parts (not l.all_wanted) (not l.all_lost) parts.1 in
    let h = ap one (not_false l.all_wanted later.0) in omega (arith, h)
own_weight (Begun key) l may fit = omega arith
own_weight (Loaded key cookies) l may fit = let h = without_rest key l.keys.wanted fit.0 in omega (arith, h)
own_weight (Lost key) l may fit =
    let h = without_rest key l.keys.wanted fit.0 in
    let k = lost_weight l.all_wanted (record l { keys = with_lost key l.keys }) in omega (arith, h, k)
own_weight (Whole now) l may fit = let h = one_most l.all_wanted in omega (arith, h)
  where
    one_most : (b : Bool) → one b ≤ 1
    one_most true = omega arith
    one_most false = omega arith
own_weight Taken l may fit = omega arith
own_weight (Acked place) l may fit = omega arith
own_weight (CommitLost place) l may fit = omega arith

own_unloaded : (own : Own) (l : Loads) → length (own_loads own l).keys.unloaded ≤ length l.keys.unloaded
own_unloaded (Want key) l = omega arith
own_unloaded WantAll l = omega arith
own_unloaded (Begun key) l = omega arith
own_unloaded (Loaded key cookies) l = without_least key l.keys.unloaded
own_unloaded (Lost key) l = lost_unloaded l.all_wanted (record l { keys = with_lost key l.keys })
  where
    lost_unloaded : (b : Bool) (l : Loads) → length (lost_where b l).keys.unloaded ≤ length l.keys.unloaded
    lost_unloaded true l = omega arith
    lost_unloaded false l = omega arith
own_unloaded (Whole now) l = omega arith
own_unloaded Taken l = omega arith
own_unloaded (Acked place) l = omega arith
own_unloaded (CommitLost place) l = omega arith

-- ---- events

abbrev served_at : Event → ℕ
served_at (CallEvent caller now op) = 0
served_at (JarEvent own) = served_of own

abbrev wants_at : Event → ℕ
wants_at (CallEvent caller now op) = 0
wants_at (JarEvent own) = wants_of own

abbrev served : List Event → ℕ
served [] = 0
served (v ∷ vs) = served_at v + served vs

-- the entries are counted, the wants are no more than what is wanted and two for each load, and no more is wanted than
-- isn't loaded, which are no more than so many keys
record Bounded (n : ℕ) (s : JarState) (a b : ℕ) : Type 0 where
  entries : s.entries ≡ s.calls + a + b
  few : b ≤ weight s.loads + 2 * a
  fit : WantsFit s.loads
  unloaded : length s.loads.keys.unloaded ≤ n

where_same : (o : Option Awaited) (l : Loads) → (WantsFit l → WantsFit (loads_where o l)) × (weight (loads_where o l) ≡ weight l) × ((loads_where o l).keys.unloaded ≡ l.keys.unloaded)
where_same None l = ((λ fit. fit), refl, refl)
where_same (Some (awaited.Key key)) l = ((λ fit. fit), refl, refl)
where_same (Some awaited.All) l = ((λ fit. fit), refl, refl)

call_bounded : (n : ℕ) (s : JarState) (a b caller now : ℕ) (op : Op) → Bounded n s a b → Bounded n (after s (CallEvent caller now op)) a b
call_bounded n s a b caller now op bounded =
    let loads = call_loads s caller now op in
    let same = where_same (faulted s.loads (needs op)) s.loads in
    let calls = call_calls s caller now op in
    let entries = call_entries s caller now op in
    let counted = bounded.entries in
    let few = bounded.few in
    let weighs : weight (after s (CallEvent caller now op)).loads ≡ weight s.loads = ap weight loads ∙ same.1 in
    record {
      entries = omega (arith, calls, entries, counted);
      few = omega (arith, few, weighs);
      fit = subst WantsFit (sym loads) (same.0 bounded.fit);
      unloaded = subst (λ us. length us ≤ n) (sym (ap (λ (l : Loads). l.keys.unloaded) loads ∙ same.2)) bounded.unloaded;
    }

split_one : (own : Own) → served_of own + wants_of own ≡ 1
split_one (Want key) = refl
split_one WantAll = refl
split_one (Begun key) = refl
split_one (Loaded key cookies) = refl
split_one (Lost key) = refl
split_one (Whole now) = refl
split_one Taken = refl
split_one (Acked place) = refl
split_one (CommitLost place) = refl

own_bounded : (n : ℕ) (s : JarState) (a b : ℕ) (own : Own) → may_load own s.loads ≡ true → Bounded n s a b
    → Bounded n (after s (JarEvent own)) (served_of own + a) (wants_of own + b)
own_bounded n s a b own may bounded =
    let counted = bounded.entries in
    let few = bounded.few in
    let one = split_one own in
    let weighs = own_weight own s.loads may bounded.fit in
    let least = own_unloaded own s.loads in
    let most = bounded.unloaded in
    record {
      entries = omega (arith, counted, one);
      few = omega (arith, few, weighs);
      fit = own_fit own s.loads may bounded.fit;
      unloaded = omega (arith, least, most);
    }

abbrev wants : List Event → ℕ
wants [] = 0
wants (v ∷ vs) = wants_at v + wants vs

may_of : (r : Rules) (s : JarState) (own : Own) → stands r s (JarEvent own) ≡ true → may_load own s.loads ≡ true
may_of r s own may =
    (and_parts (may_load own s.loads) (may_commit own s.batches) (and_parts (own_may_stand s own) (own_fits r own) may).0).0

events_bounded : (r : Rules) (n : ℕ) (s : JarState) (vs : List Event) (a b : ℕ) → all_stand r s vs ≡ true → Bounded n s a b
    → (c : ℕ) × (d : ℕ) × Bounded n (fold after s vs) c d × (c ≡ a + served vs) × (d ≡ b + wants vs)
events_bounded r n s [] a b stand bounded = (a, b, bounded, omega arith, omega arith)
events_bounded r n s (CallEvent caller now op ∷ vs) a b stand bounded =
    let parts = and_parts (stands r s (CallEvent caller now op)) (all_stand r (after s (CallEvent caller now op)) vs) stand in
    let on = events_bounded r n (after s (CallEvent caller now op)) vs a b parts.1 (call_bounded n s a b caller now op bounded) in
    let c = on.3 in let d = on.4 in
    (on.0, on.1, on.2, omega (arith, c), omega (arith, d))
events_bounded r n s (JarEvent own ∷ vs) a b stand bounded =
    let parts = and_parts (stands r s (JarEvent own)) (all_stand r (after s (JarEvent own)) vs) stand in
    let on = events_bounded r n (after s (JarEvent own)) vs (served_of own + a) (wants_of own + b) parts.1
    (own_bounded n s a b own (may_of r s own parts.0) bounded) in
    let c = on.3 in let d = on.4 in
    (on.0, on.1, on.2, omega (arith, c), omega (arith, d))

-- ---- journals

served_journal : (journal : List Entry) → served_in journal ≡ served (events journal)
served_journal [] = refl
served_journal (Call caller now op reply ∷ journal) = let h = served_journal journal in omega (arith, h)
served_journal (Jar own ∷ journal) = ap (λ n. served_of own + n) (served_journal journal)

events_length : (s : JarState) (vs : List Event) → (fold after s vs).entries ≡ s.entries + length vs
events_length s [] = omega arith
events_length s (v ∷ vs) =
    let h = events_length (after s v) vs in let k = event_entries s v in omega (arith, h, k)

opening_bounded : (keys : List (List ℕ)) → Bounded (length keys) (opening keys) 0 0
opening_bounded keys = record { entries = refl; few = omega arith; fit = (tt, tt); unloaded = omega arith }

one_most : (b : Bool) → one b ≤ 1
one_most true = omega arith
one_most false = omega arith

pub journals_have_room : JournalsHaveRoom
unfolding state_of
journals_have_room r journal legal =
    let keys = stored_keys r in
    let s = fold after (opening keys) (events journal) in
    let on = events_bounded r (length keys) (opening keys) (events journal) 0 0 legal.standing (opening_bounded keys) in
    let bounded = on.2 in
    let counted = bounded.entries in
    let few = bounded.few in
    let unloaded = bounded.unloaded in
    let wanted = no_more s.loads.keys.wanted s.loads.keys.unloaded bounded.fit.0 bounded.fit.1 in
    let last = one_most s.loads.all_wanted in
    let c = on.3 in
    let same = served_journal journal in
    let long = events_length (opening keys) (events journal) in
    let as_long : length (events journal) ≡ length journal = length-map journal event_of in
    omega (arith, counted, few, unloaded, wanted, last, c, same, long, as_long)

-- ---- whose entries they are

own_owner : (own : Own) (cutter : ℕ) → one (is_owner cutter (owner_of_own cutter own)) ≡ one (is_served own)
own_owner (Want key) cutter = refl
own_owner WantAll cutter = refl
own_owner (Begun key) cutter = ap one (eq-eqb cutter cutter refl)
own_owner (Loaded key cookies) cutter = ap one (eq-eqb cutter cutter refl)
own_owner (Lost key) cutter = ap one (eq-eqb cutter cutter refl)
own_owner (Whole now) cutter = ap one (eq-eqb cutter cutter refl)
own_owner Taken cutter = ap one (eq-eqb cutter cutter refl)
own_owner (Acked place) cutter = ap one (eq-eqb cutter cutter refl)
own_owner (CommitLost place) cutter = ap one (eq-eqb cutter cutter refl)

serving_is : (s : JarState) (v : Event) → one (is_serving (entry_of s v)) ≡ served_at v
serving_is s (CallEvent caller now op) = refl
serving_is s (JarEvent own) = one_is (is_served own)
  where
    one_is : (b : Bool) → one b ≡ cond b 1 0
    one_is true = refl
    one_is false = refl

-- the caller of an event that stands isn't the cutter
owner_is : (r : Rules) (cutter : ℕ) (s : JarState) (v : Event) → r.callers ≤ cutter → stands r s v ≡ true → one (is_owner cutter (owner_at cutter v)) ≡ served_at v
owner_is r cutter s (CallEvent caller now op) above may =
    let within : nat_lt caller r.callers ≡ true = (and_parts (nat_lt caller r.callers) (nat_lt s.calls r.limit && (is_well_keyed r op && is_none (op_waits s op))) may).0 in
    let ne : caller ≢ cutter = λ same. grind (arith, nat_tests) in
    ap one (ne_eqb caller cutter ne)
owner_is r cutter s (JarEvent own) above may = own_owner own cutter ∙ one_is (is_served own)
  where
    one_is : (b : Bool) → one b ≡ cond b 1 0
    one_is true = refl
    one_is false = refl

owned_events : (r : Rules) (cutter : ℕ) (s : JarState) (vs : List Event) (history : List Listing) → r.callers ≤ cutter → all_stand r s vs ≡ true
    → Lists cutter s vs history → owned cutter history ≡ served vs
owned_events r cutter s [] [] above stand lists = refl
owned_events r cutter s [] (l ∷ ls) above stand lists = absurd lists
owned_events r cutter s (v ∷ vs) [] above stand lists = absurd lists
owned_events r cutter s (v ∷ vs) (l ∷ ls) above stand lists =
    let parts = and_parts (stands r s v) (all_stand r (after s v) vs) stand in
    let here = ap (λ o. one (is_owner cutter o)) lists.0.owner ∙ owner_is r cutter s v above parts.0 in
    let on = owned_events r cutter (after s v) vs ls above parts.1 lists.1 in omega (arith, here, on)

pub served_are_owned : ServedAreOwned
served_are_owned r cutter history is above =
    owned_events r cutter (opening (stored_keys r)) (events (journal_of history)) history above is.legal.standing is.listed
    ∙ sym (served_journal (journal_of history))
