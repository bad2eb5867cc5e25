-- Lists whose ids rise: a purged key, a cookie set in its place, cookies changed in what is not
-- their id, and so the cookies after every journal.
use Rattle.std.proofs.Common.{◌≡◌, ℕ, List, [], ◌∷◌, ◌++◌, Bool, true, false, cond, refl, ap, ◌∙◌}
use Rattle.std.specs.Prelude.{filter, find, map, length, not, nat_le, ◌+◌, fold, Option, None, Some}
use Rattle.std.specs.Cmp.{IsTotalOrder}
use Rattle.std.specs.Cmp.Lexicographic.{on_texts}
use Rattle.std.specs.List.{AllByRecursion, list_any}
use Rattle.std.specs.List.Sorted.{IsStrictlySortedBy}
use Rattle.std.specs.Ordering.{is_lt, is_gt, ordering_reverse}
use Rattle.std.specs.declared.cmp.Ordering.{Ordering}
use Rattle.std.specs.declared.cmp.Ordering.TheVariants.{Less, Equal, Greater}
use Rattle.std.proofs.lemmas.Cmp.{then_total}
use Rattle.std.proofs.lemmas.List.Kept.{IsStrictlySortedBy-filter}
use Rattle.jar_types.specs.declared.cookie.Cookie.{Cookie}
use Rattle.jar_types.specs.declared.cookie.CookieId.{CookieId}
use Rattle.jar_types.specs.declared.op.Op.{Op}
use Rattle.jar_types.specs.declared.op.Op.TheVariants.{Bind, Set, Get, Delete, All, Clear, Listen, Changes, Unlisten, Post, Hear}
use Rattle.jar_types.specs.declared.op.Reply.{Reply}
use Rattle.jar_types.specs.declared.op.TheConstants.{REFRESH_AFTER}
use Rattle.jar_types.specs.declared.jar_core.Awaited.{Awaited}
use Rattle.jar_types.specs.declared.limits.TheConstants.{MOST_OF_JAR}
use Rattle.jar_types.specs.declared.entry.Own.{Own}
use Rattle.jar_types.specs.declared.entry.Own.TheVariants.{Want, WantAll, Begun, Loaded, Lost, Whole, Taken, Acked, CommitLost}
use Rattle.jar_types.specs.declared.entry.Event.{Event}
use Rattle.jar_types.specs.declared.entry.Event.TheVariants.{Call as CallEvent, Jar as JarEvent}
use Rattle.jar_types.specs.declared.request.Request.{Request}
use Rattle.jar_types.specs.Changes.{Changed}
use Rattle.jar_types.specs.Deletes.{without_id, deleted_where}
use Rattle.jar_types.specs.Evictions.{cookie_looks, evict, thinned, all_purged, all_thinned, swept_where, swept}
use Rattle.jar_types.specs.Ids.{id_cmp, id_of, cookie_cmp, same_id, RisesById}
use Rattle.jar_types.specs.Answers.{is_answered}
use Rattle.jar_types.specs.Gets.{refreshed, served}
use Rattle.jar_types.specs.Plans.{key_plan, jar_plan}
use Rattle.jar_types.specs.Purges.{purge, purged, is_expired, has_key}
use Rattle.jar_types.specs.RowChanges.{has_id}
use Rattle.jar_types.specs.Sets.{with_cookie, without_cookie, old_of, kept_over, removed_over, put_where, put, barred, tidied, set_where}
use Rattle.jar_types.specs.States.{JarState, opening}
use Rattle.jar_types.specs.Steps.{op_step, call_where, loaded_among, own_changed, after}
use Rattle.jar_types.specs.Waits.{needs, faulted}
use Rattle.jar_types.specs.Journals.{events, stored_keys, state_of}
use Rattle.jar_types.specs.JournalLaws.{CookiesRise}

pub cookie_total : IsTotalOrder cookie_cmp
cookie_total =
    then_total (on_texts (λ (c : Cookie). c.host)) (then_total (on_texts (λ (c : Cookie). c.name)) (on_texts (λ (c : Cookie). c.path)))

pub none_rise : RisesById []
unfolding IsStrictlySortedBy
none_rise = tt

pub purged_rises : (key : List ℕ) (now : ℕ) (cookies : List Cookie) → RisesById cookies → RisesById (purged key now cookies)
purged_rises key now cookies rises = IsStrictlySortedBy-filter cookie_cmp _ cookies rises

all_moved : (f : Cookie → Cookie) → ((c d : Cookie) → cookie_cmp (f c) (f d) ≡ cookie_cmp c d) → (c : Cookie) (cs : List Cookie)
    → AllByRecursion (λ d. cookie_cmp c d ≡ Less) cs → AllByRecursion (λ d. cookie_cmp (f c) d ≡ Less) (map f cs)
all_moved f same c [] all = tt
all_moved f same c (d ∷ ds) all = (same c d ∙ all.0, all_moved f same c ds all.1)

map_rises : (f : Cookie → Cookie) → ((c d : Cookie) → cookie_cmp (f c) (f d) ≡ cookie_cmp c d) → (cookies : List Cookie)
    → RisesById cookies → RisesById (map f cookies)
unfolding IsStrictlySortedBy
map_rises f same [] rises = tt
map_rises f same (c ∷ cs) rises = (all_moved f same c cs rises.0, map_rises f same cs rises.1)

-- a cookie keeps its id where it is refreshed
refreshed_id : (now : ℕ) (c : Cookie) → id_of (refreshed now c) ≡ id_of c
refreshed_id now c =
    elim (nat_le (c.access + REFRESH_AFTER) now) as (λ b. id_of (cond b (record c { access = now }) c) ≡ id_of c)
    [ true ↦ refl | false ↦ refl ]

served_id : (q : Request) (now : ℕ) (c : Cookie) → id_of (served q now c) ≡ id_of c
served_id q now c =
    elim (is_answered q now c) as (λ b. id_of (cond b (refreshed now c) c) ≡ id_of c)
    [ true ↦ refreshed_id now c | false ↦ refl ]

served_cmp : (q : Request) (now : ℕ) (c d : Cookie) → cookie_cmp (served q now c) (served q now d) ≡ cookie_cmp c d
served_cmp q now c d =
    ap (λ i. id_cmp i (id_of (served q now d))) (served_id q now c) ∙ ap (id_cmp (id_of c)) (served_id q now d)

pub served_rises : (q : Request) (now : ℕ) (cookies : List Cookie) → RisesById cookies → RisesById (map (served q now) cookies)
served_rises q now cookies rises = map_rises (served q now) (served_cmp q now) cookies rises

less_from : (w : Ordering) → is_lt w ≡ true → w ≡ Less
less_from Less e = refl
less_from Equal e = absurd cc
less_from Greater e = absurd cc

greater_from : (w : Ordering) → is_gt w ≡ true → w ≡ Greater
greater_from Less e = absurd cc
greater_from Equal e = absurd cc
greater_from Greater e = refl

passing_at : (P : Cookie → Type 0) (c : Cookie) (cs : List Cookie) (b : Bool) → (b ≡ true → P c) → AllByRecursion P cs → AllByRecursion P (cond b (c ∷ cs) cs)
passing_at P c cs true holds all = (holds refl, all)
passing_at P c cs false holds all = all

passing : (P : Cookie → Type 0) (p : Cookie → Bool) → ((c : Cookie) → p c ≡ true → P c) → (cookies : List Cookie) → AllByRecursion P (filter p cookies)
passing P p holds [] = tt
passing P p holds (c ∷ cs) = passing_at P c (filter p cs) (p c) (holds c) (passing P p holds cs)

after_all : (c d : Cookie) (cs : List Cookie) → cookie_cmp c d ≡ Less → AllByRecursion (λ e. cookie_cmp d e ≡ Less) cs → AllByRecursion (λ e. cookie_cmp c e ≡ Less) cs
after_all c d [] less all = tt
after_all c d (e ∷ es) less all = (cookie_total.trans c d e less all.0, after_all c d es less all.1)

append_all : (P : Cookie → Type 0) (cs ds : List Cookie) → AllByRecursion P cs → AllByRecursion P ds → AllByRecursion P (cs ++ ds)
append_all P [] ds all more = more
append_all P (c ∷ cs) ds all more = (all.0, append_all P cs ds all.1 more)

joined_rise : (c : Cookie) (cs ds : List Cookie) → RisesById cs → RisesById (c ∷ ds) → AllByRecursion (λ d. cookie_cmp d c ≡ Less) cs → RisesById (cs ++ (c ∷ ds))
unfolding IsStrictlySortedBy
joined_rise c [] ds rises more all = more
joined_rise c (d ∷ cs) ds rises more all = (
  append_all (λ e. cookie_cmp d e ≡ Less) cs (c ∷ ds) rises.0 (all.0, after_all d c ds all.0 more.0),
  joined_rise c cs ds rises.1 more all.1,
)

pub with_rises : (c : Cookie) (cookies : List Cookie) → RisesById cookies → RisesById (with_cookie c cookies)
unfolding IsStrictlySortedBy
with_rises c cookies rises =
    let lesser = filter (λ d. is_lt (cookie_cmp d c)) cookies in
    let greater = filter (λ d. is_gt (cookie_cmp d c)) cookies in
    joined_rise c lesser greater (IsStrictlySortedBy-filter cookie_cmp (λ d. is_lt (cookie_cmp d c)) cookies rises) (
      passing (λ d. cookie_cmp c d ≡ Less) (λ d. is_gt (cookie_cmp d c)) (λ d e. cookie_total.antisymm c d ∙ ap ordering_reverse (greater_from (cookie_cmp d c) e)) cookies,
      IsStrictlySortedBy-filter cookie_cmp (λ d. is_gt (cookie_cmp d c)) cookies rises,
    )
    (passing (λ d. cookie_cmp d c ≡ Less) (λ d. is_lt (cookie_cmp d c)) (λ d e. less_from (cookie_cmp d c) e) cookies)

-- a new cookie leaves the others in the order of their ids, whether it has expired or lives
pub without_rises : (c : Cookie) (cookies : List Cookie) → RisesById cookies → RisesById (without_cookie c cookies)
without_rises c cookies rises = IsStrictlySortedBy-filter cookie_cmp (λ d. not (same_id c d)) cookies rises

pub removed_rises : (old : Option Cookie) (c : Cookie) (cookies : List Cookie) → RisesById cookies
    → RisesById (removed_over old c cookies).cookies
removed_rises None c cookies rises = rises
removed_rises (Some old) c cookies rises = without_rises c cookies rises

pub put_rises : (has_expired : Bool) (old : Option Cookie) (c : Cookie) (cookies : List Cookie) → RisesById cookies
    → RisesById (put_where has_expired old c cookies).all.cookies
put_rises true old c cookies rises = removed_rises old c cookies rises
put_rises false old c cookies rises = with_rises (kept_over old c) cookies rises

-- and so do evictions
pub evict_rises : (gone cookies : List Cookie) → RisesById cookies → RisesById (evict gone cookies).cookies
evict_rises gone cookies rises = IsStrictlySortedBy-filter cookie_cmp (λ c. not (list_any (same_id c) gone)) cookies rises

pub thinned_rises : (key : List ℕ) (cookies : List Cookie) → RisesById cookies → RisesById (thinned key cookies).cookies
thinned_rises key cookies rises = evict_rises (key_plan cookie_looks (filter (has_key key) cookies)) cookies rises

pub all_purged_rises : (now : ℕ) (cookies : List Cookie) → RisesById cookies → RisesById (all_purged now cookies).cookies
all_purged_rises now cookies rises = IsStrictlySortedBy-filter cookie_cmp (λ c. not (is_expired now c)) cookies rises

pub all_thinned_rises : (now : ℕ) (cookies : List Cookie) → RisesById cookies → RisesById (all_thinned now cookies).cookies
all_thinned_rises now cookies rises = evict_rises (jar_plan cookie_looks now cookies) cookies rises

pub swept_where_rises : (is_due : Bool) (now : ℕ) (cookies : List Cookie) → RisesById cookies
    → RisesById (swept_where is_due now cookies).cookies
swept_where_rises true now cookies rises =
    all_thinned_rises now (all_purged now cookies).cookies (all_purged_rises now cookies rises)
swept_where_rises false now cookies rises = rises

pub swept_rises : (now : ℕ) (cookies : List Cookie) → RisesById cookies → RisesById (swept now cookies).cookies
swept_rises now cookies rises = swept_where_rises (not (nat_le (length cookies) MOST_OF_JAR)) now cookies rises

pub tidied_rises : (whole : Bool) (now : ℕ) (key : List ℕ) (cookies : List Cookie) → RisesById cookies
    → RisesById (tidied whole now key cookies).cookies
tidied_rises true now key cookies rises = swept_rises now (thinned key cookies).cookies (thinned_rises key cookies rises)
tidied_rises false now key cookies rises = thinned_rises key cookies rises

set_where_rises : (bar : Option Reply) (s : JarState) (now : ℕ) (c : Cookie) (left : Changed) → RisesById left.cookies
    → RisesById (set_where bar s now c left).state.cookies
set_where_rises (Some reply) s now c left rises = rises
set_where_rises None s now c left rises =
    tidied_rises s.loads.whole now c.key (put now c left.cookies).all.cookies
    (put_rises (is_expired now c) (old_of c left.cookies) c left.cookies rises)

-- a cookie that a caller takes away leaves the others in the order of their ids
pub without_id_rises : (id : CookieId) (cookies : List Cookie) → RisesById cookies → RisesById (without_id id cookies)
without_id_rises id cookies rises = IsStrictlySortedBy-filter cookie_cmp (λ c. not (has_id id c)) cookies rises

deleted_rises : (old : Option Cookie) (id : CookieId) (cookies : List Cookie) → RisesById cookies → RisesById (deleted_where old id cookies).cookies
deleted_rises None id cookies rises = rises
deleted_rises (Some c) id cookies rises = without_id_rises id cookies rises

-- an op leaves the cookies in the order of their ids
op_rises : (s : JarState) (caller now : ℕ) (op : Op) → RisesById s.cookies → RisesById (op_step s caller now op).state.cookies
op_rises s caller now (Set cookie script secure) rises =
    let left = purge cookie.key now s.cookies in
    set_where_rises (barred script secure cookie left.cookies) s now cookie left (purged_rises cookie.key now s.cookies rises)
op_rises s caller now (Get request) rises =
    served_rises request now (purged request.key now s.cookies) (purged_rises request.key now s.cookies rises)
op_rises s caller now (Delete key id) rises =
    let left = purge key now s.cookies in
    deleted_rises (find (has_id id) left.cookies) id left.cookies (purged_rises key now s.cookies rises)
op_rises s caller now All rises = all_purged_rises now s.cookies rises
op_rises s caller now Clear rises = none_rise
op_rises s caller now (Bind key) rises = rises
op_rises s caller now (Listen scope) rises = rises
op_rises s caller now (Changes number) rises = rises
op_rises s caller now (Unlisten number) rises = rises
op_rises s caller now Post rises = rises
op_rises s caller now (Hear actor n) rises = rises

call_rises : (fault : Option Awaited) (s : JarState) (caller now : ℕ) (op : Op) → RisesById s.cookies
    → RisesById (call_where fault s caller now op).state.cookies
call_rises (Some what) s caller now op rises = rises
call_rises None s caller now op rises = op_rises s caller now op rises

-- loaded cookies come in the order of their ids
pub loaded_rises : (loaded cookies : List Cookie) → RisesById cookies → RisesById (loaded_among loaded cookies)
loaded_rises [] cookies rises = rises
loaded_rises (c ∷ cs) cookies rises = loaded_rises cs (with_cookie c cookies) (with_rises c cookies rises)

own_rises : (own : Own) (cookies : List Cookie) → RisesById cookies → RisesById (own_changed own cookies).cookies
own_rises (Want key) cookies rises = rises
own_rises WantAll cookies rises = rises
own_rises (Begun key) cookies rises = rises
own_rises (Loaded key loaded) cookies rises = loaded_rises loaded cookies rises
own_rises (Lost key) cookies rises = rises
own_rises (Whole now) cookies rises = swept_rises now cookies rises
own_rises Taken cookies rises = rises
own_rises (Acked place) cookies rises = rises
own_rises (CommitLost place) cookies rises = rises

pub event_rises : (s : JarState) (v : Event) → RisesById s.cookies → RisesById (after s v).cookies
event_rises s (CallEvent caller now op) rises = call_rises (faulted s.loads (needs op)) s caller now op rises
event_rises s (JarEvent own) rises = own_rises own s.cookies rises

events_rise : (s : JarState) (vs : List Event) → RisesById s.cookies → RisesById (fold after s vs).cookies
events_rise s [] rises = rises
events_rise s (v ∷ vs) rises = events_rise (after s v) vs (event_rises s v rises)

pub cookies_rise : CookiesRise
unfolding state_of
cookies_rise r journal legal = events_rise (opening (stored_keys r)) (events journal) none_rise
