-- What evictions leave of cookies whose ids rise.
use Rattle.std.proofs.Common.{◌≡◌, ◌≢◌, ℕ, ◌+◌, ◌-◌, ◌<◌, ◌≤◌, List, [], ◌∷◌, Bool, true, false, ◌⊎◌, inl, inr, length, refl, sym, ap, ◌∙◌, subst, arith}
use Rattle.std.specs.Prelude.{filter, not, nat_le}
use Rattle.std.specs.List.{AllByRecursion, list_any}
use Rattle.std.specs.List.Sorted.{IsStrictlySortedBy}
use Rattle.std.specs.Cmp.{IsTotalOrder}
use Rattle.std.specs.Ordering.{nat_cmp, ordering_then}
use Rattle.std.specs.declared.cmp.Ordering.{Ordering}
use Rattle.std.specs.declared.cmp.Ordering.TheVariants.{Less, Equal, Greater}
use Rattle.std.proofs.lemmas.Cmp.{then_total, on_total, nat_cmp_total}
use Rattle.std.proofs.lemmas.List.Kept.{IsStrictlySortedBy-filter}
use Rattle.jar_types.specs.declared.cookie.Cookie.{Cookie}
use Rattle.jar_types.specs.declared.limits.TheConstants.{MOST_OF_KEY, LEFT_OF_KEY, MOST_OF_JAR}
use Rattle.jar_types.specs.Evictions.{cookie_looks, all_purged, swept_where}
use Rattle.jar_types.specs.Ids.{cookie_cmp, same_id, RisesById}
use Rattle.jar_types.specs.Plans.{access_cmp, is_stale, key_rounds, key_plan, jar_plan}
use Rattle.jar_types.specs.Purges.{has_key, is_expired}
use Rattle.jar_types.proofs.RisingLemmas.{cookie_total, all_purged_rises}
use Rattle.eviction.specs.Laws.{IsFresh, ThinnedKeysAreSmall, SweptJarsAreSmall}
use Rattle.eviction.proofs.MemberLemmas.{weaker, kept_all, all_pass}
use Rattle.eviction.proofs.SortLemmas.{Apart}
use Rattle.eviction.proofs.GoingLemmas.{plan_total, swapped}
use Rattle.eviction.proofs.LeftLemmas.{fewer_left, row_apart}
use Rattle.eviction.proofs.LawLemmas.{key_members, key_plan_rises, key_many, left_swept, is_up_to, is_past}

pub looks_total : IsTotalOrder (access_cmp cookie_looks)
looks_total =
    then_total (on_total (λ c. c.access) nat_cmp_total) (then_total (on_total (λ c. c.creation) nat_cmp_total) cookie_total)

last_decides : (v w : Ordering) → ordering_then v (ordering_then w Less) ≢ Equal
last_decides Less w e = absurd cc
last_decides Greater w e = absurd cc
last_decides Equal Less e = absurd cc
last_decides Equal Equal e = absurd cc
last_decides Equal Greater e = absurd cc

other_looks : (c d : Cookie) → cookie_cmp c d ≡ Less → access_cmp cookie_looks c d ≢ Equal
other_looks c d e tied =
    let v = nat_cmp c.access d.access in
    let w = nat_cmp c.creation d.creation in
    last_decides v w (sym (ap (λ u. ordering_then v (ordering_then w u)) e) ∙ tied)

other_ids : (c d : Cookie) → cookie_cmp c d ≡ Less → cookie_cmp c d ≢ Equal
other_ids c d e tied = absurd cc

-- cookies whose ids rise are apart, by their looks and by their ids
pub looks_apart : (cookies : List Cookie) → RisesById cookies → Apart looks_total cookies
unfolding IsStrictlySortedBy
looks_apart [] rises = tt
looks_apart (c ∷ cs) rises =
    (weaker (λ d. cookie_cmp c d ≡ Less) (λ d. access_cmp cookie_looks c d ≢ Equal) (λ d e. other_looks c d e) cs rises.0, looks_apart cs rises.1)

pub ids_apart : (cookies : List Cookie) → RisesById cookies → Apart cookie_total cookies
unfolding IsStrictlySortedBy
ids_apart [] rises = tt
ids_apart (c ∷ cs) rises =
    (weaker (λ d. cookie_cmp c d ≡ Less) (λ d. cookie_cmp c d ≢ Equal) (λ d e. other_ids c d e) cs rises.0, ids_apart cs rises.1)

few_of_key : (n gone left : ℕ) (b : Bool) → nat_le n MOST_OF_KEY ≡ b → (MOST_OF_KEY < n → gone ≡ n - LEFT_OF_KEY) → left + gone ≡ n → left ≤ MOST_OF_KEY
few_of_key n gone left true e h sum = let k = is_up_to n MOST_OF_KEY e in omega arith
few_of_key n gone left false e h sum = let k = is_past MOST_OF_KEY n e in let g = h k in omega arith

pub thinned_keys_are_small : ThinnedKeysAreSmall
thinned_keys_are_small key cookies rises =
    let mine = filter (has_key key) cookies in
    let rises' : RisesById mine = IsStrictlySortedBy-filter cookie_cmp (has_key key) cookies rises in
    let apart = looks_apart mine rises' in
    let told = ids_apart mine rises' in
    let gone = key_plan cookie_looks mine in
    let members = key_members cookie_looks looks_total mine apart in
    let once = row_apart cookie_total (plan_total cookie_looks (key_rounds cookie_looks) looks_total) mine gone told members (key_plan_rises cookie_looks looks_total mine apart) in
    let stays = λ (c : Cookie). not (list_any (same_id c) gone) in
    let sum : length (filter stays mine) + length gone ≡ length mine = fewer_left cookie_total gone mine once told members in
    let few = few_of_key (length mine) (length gone) (length (filter stays mine)) (nat_le (length mine) MOST_OF_KEY) refl (key_many cookie_looks looks_total mine apart) sum in
    subst (λ cs. length cs ≤ MOST_OF_KEY) (sym (swapped (has_key key) stays cookies)) few

lives_at : (b : Bool) → not b ≡ true → b ≡ false
lives_at true e = absurd cc
lives_at false e = refl

fresh_all : (now : ℕ) (cs : List Cookie) → AllByRecursion (λ c. not (is_expired now c) ≡ true) cs → AllByRecursion (λ c. is_stale cookie_looks now c ≡ false) cs → AllByRecursion (IsFresh now) cs
fresh_all now [] live used = tt
fresh_all now (c ∷ cs) live used =
    (record { lives = lives_at (is_expired now c) live.0; used = used.0 }, fresh_all now cs live.1 used.1)

fresh_left : (now : ℕ) (cookies : List Cookie) → (length (swept_where true now cookies).cookies ≤ MOST_OF_JAR) ⊎ AllByRecursion (λ c. is_stale cookie_looks now c ≡ false) (swept_where true now cookies).cookies
    → (length (swept_where true now cookies).cookies ≤ MOST_OF_JAR) ⊎ AllByRecursion (IsFresh now) (swept_where true now cookies).cookies
fresh_left now cookies (inl few) = inl few
fresh_left now cookies (inr used) =
    let live = (all_purged now cookies).cookies in
    let gone = jar_plan cookie_looks now live in
    inr (fresh_all now (swept_where true now cookies).cookies (kept_all (λ c. not (is_expired now c) ≡ true) (λ c. not (list_any (same_id c) gone)) live (all_pass (λ c. not (is_expired now c)) cookies)) used)

swept_at : (now : ℕ) (cookies : List Cookie) → RisesById cookies → (b : Bool) → nat_le (length cookies) MOST_OF_JAR ≡ b
    → (length (swept_where (not b) now cookies).cookies ≤ MOST_OF_JAR) ⊎ AllByRecursion (IsFresh now) (swept_where (not b) now cookies).cookies
swept_at now cookies rises true e = inl (is_up_to (length cookies) MOST_OF_JAR e)
swept_at now cookies rises false e =
    let live = (all_purged now cookies).cookies in
    let rises' = all_purged_rises now cookies rises in
    fresh_left now cookies (left_swept cookie_total cookie_looks looks_total now live (looks_apart live rises') (ids_apart live rises'))

pub swept_jars_are_small : SweptJarsAreSmall
swept_jars_are_small now cookies rises = swept_at now cookies rises (nat_le (length cookies) MOST_OF_JAR) refl
