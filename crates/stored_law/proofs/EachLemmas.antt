-- What each cookie of a jar has, where new ones have it, and a creation or an access that is written anew leaves it: ops
-- keep it.
use Rattle.std.proofs.Common.{◌≡◌, ℕ, ◌+◌, List, [], ◌∷◌, Bool, true, false, cond, refl, Option, None, Some, subst}
use Rattle.std.specs.Prelude.{filter, find, map, not, nat_le, length}
use Rattle.std.specs.List.{AllByRecursion, list_any}
use Rattle.std.specs.Ordering.{is_lt, is_gt}
use Rattle.jar_types.specs.declared.cookie.Cookie.{Cookie}
use Rattle.jar_types.specs.declared.cookie.CookieId.{CookieId}
use Rattle.jar_types.specs.declared.limits.TheConstants.{MOST_OF_JAR}
use Rattle.jar_types.specs.declared.op.Op.{Op}
use Rattle.jar_types.specs.declared.op.Op.TheVariants.{Bind, Set, Get, Delete, All, Clear, Listen, Changes, Unlisten, Post, Hear}
use Rattle.jar_types.specs.declared.op.Reply.{Reply}
use Rattle.jar_types.specs.declared.op.TheConstants.{REFRESH_AFTER}
use Rattle.jar_types.specs.declared.request.Request.{Request}
use Rattle.jar_types.specs.Answers.{is_answered}
use Rattle.jar_types.specs.Changes.{Changed}
use Rattle.jar_types.specs.Deletes.{deleted_where}
use Rattle.jar_types.specs.Evictions.{cookie_looks, evict, thinned, all_purged, swept_where, swept}
use Rattle.jar_types.specs.Gets.{refreshed, served}
use Rattle.jar_types.specs.Ids.{cookie_cmp, same_id}
use Rattle.jar_types.specs.Plans.{key_plan, jar_plan}
use Rattle.jar_types.specs.Purges.{purge, purged, is_spent, is_expired, has_key}
use Rattle.jar_types.specs.RowChanges.{has_id}
use Rattle.jar_types.specs.Sets.{with_cookie, old_of, kept_over, removed_over, put_where, put, barred, tidied, set_where}
use Rattle.jar_types.specs.States.{JarState}
use Rattle.jar_types.specs.Steps.{op_step, loaded_among}
use Rattle.stored_law.proofs.FoundLemmas.{all_append, all_left}

found_at : {X : Type 0} → (P : X → Type 0) (b : Bool) (x y : X) (found : Option X) → P x → (found ≡ Some y → P y) → cond b (Some x) found ≡ Some y → P y
found_at P true x y found holds on e = let is : x ≡ y = cc in subst P is holds
found_at P false x y found holds on e = on e

-- what was found has it
pub found_has : {X : Type 0} → (P : X → Type 0) (p : X → Bool) (xs : List X) (y : X) → AllByRecursion P xs → find p xs ≡ Some y → P y
found_has P p [] y all e = absurd cc
found_has P p (x ∷ xs) y all e = found_at P (p x) x y (find p xs) all.0 (found_has P p xs y all.1) e

module _ (P : Cookie → Type 0) where
  -- what an op stores at a moment has it
  abbrev pub OpHas : ℕ → Op → Type 0
  OpHas now (Bind key) = Unit {0}
  OpHas now (Set cookie script secure) = P cookie
  OpHas now (Get request) = (d : Cookie) → P d → P (record d { access = now })
  OpHas now (Delete key id) = Unit {0}
  OpHas now All = Unit {0}
  OpHas now Clear = Unit {0}
  OpHas now (Listen scope) = Unit {0}
  OpHas now (Changes number) = Unit {0}
  OpHas now (Unlisten number) = Unit {0}
  OpHas now Post = Unit {0}
  OpHas now (Hear actor n) = Unit {0}

module _ (P : Cookie → Type 0) (over : (old c : Cookie) → P old → P c → P (record c { creation = old.creation })) where
  abbrev pub Each : List Cookie → Type 0
  Each cookies = AllByRecursion P cookies

  pub put_each : (c : Cookie) (cookies : List Cookie) → P c → Each cookies → Each (with_cookie c cookies)
  put_each c cookies holds all =
      let lesser = filter (λ d. is_lt (cookie_cmp d c)) cookies in
      let greater = filter (λ d. is_gt (cookie_cmp d c)) cookies in
      all_append P lesser (c ∷ greater) (all_left P (λ d. is_lt (cookie_cmp d c)) cookies all)
      (holds, all_left P (λ d. is_gt (cookie_cmp d c)) cookies all)

  pub loaded_each : (loaded cookies : List Cookie) → Each loaded → Each cookies → Each (loaded_among loaded cookies)
  loaded_each [] cookies all all' = all'
  loaded_each (c ∷ cs) cookies all all' = loaded_each cs (with_cookie c cookies) all.1 (put_each c cookies all.0 all')

  purged_each : (key : List ℕ) (now : ℕ) (cookies : List Cookie) → Each cookies → Each (purged key now cookies)
  purged_each key now cookies all = all_left P (λ c. not (is_spent key now c)) cookies all

  evict_each : (gone cookies : List Cookie) → Each cookies → Each (evict gone cookies).cookies
  evict_each gone cookies all = all_left P (λ c. not (list_any (same_id c) gone)) cookies all

  thinned_each : (key : List ℕ) (cookies : List Cookie) → Each cookies → Each (thinned key cookies).cookies
  thinned_each key cookies all = evict_each (key_plan cookie_looks (filter (has_key key) cookies)) cookies all

  all_purged_each : (now : ℕ) (cookies : List Cookie) → Each cookies → Each (all_purged now cookies).cookies
  all_purged_each now cookies all = all_left P (λ c. not (is_expired now c)) cookies all

  swept_where_each : (is_due : Bool) (now : ℕ) (cookies : List Cookie) → Each cookies → Each (swept_where is_due now cookies).cookies
  swept_where_each true now cookies all =
      let left = (all_purged now cookies).cookies in
      evict_each (jar_plan cookie_looks now left) left (all_purged_each now cookies all)
  swept_where_each false now cookies all = all

  pub swept_each : (now : ℕ) (cookies : List Cookie) → Each cookies → Each (swept now cookies).cookies
  swept_each now cookies all = swept_where_each (not (nat_le (length cookies) MOST_OF_JAR)) now cookies all

  tidied_each : (whole : Bool) (now : ℕ) (key : List ℕ) (cookies : List Cookie) → Each cookies → Each (tidied whole now key cookies).cookies
  tidied_each true now key cookies all = swept_each now (thinned key cookies).cookies (thinned_each key cookies all)
  tidied_each false now key cookies all = thinned_each key cookies all

  kept_each : (old : Option Cookie) (c : Cookie) → ((o : Cookie) → old ≡ Some o → P o) → P c → P (kept_over old c)
  kept_each None c olds holds = holds
  kept_each (Some o) c olds holds = over o c (olds o refl) holds

  removed_each : (old : Option Cookie) (c : Cookie) (cookies : List Cookie) → Each cookies → Each (removed_over old c cookies).cookies
  removed_each None c cookies all = all
  removed_each (Some o) c cookies all = all_left P (λ d. not (same_id c d)) cookies all

  put_where_each : (has_expired : Bool) (old : Option Cookie) (c : Cookie) (cookies : List Cookie) → ((o : Cookie) → old ≡ Some o → P o) → P c
      → Each cookies → Each (put_where has_expired old c cookies).all.cookies
  put_where_each true old c cookies olds holds all = removed_each old c cookies all
  put_where_each false old c cookies olds holds all = put_each (kept_over old c) cookies (kept_each old c olds holds) all

  set_each : (bar : Option Reply) (s : JarState) (now : ℕ) (c : Cookie) (left : Changed) → P c → Each left.cookies
      → Each (set_where bar s now c left).state.cookies
  set_each (Some reply) s now c left holds all = all
  set_each None s now c left holds all =
      tidied_each s.loads.whole now c.key (put now c left.cookies).all.cookies
      (put_where_each (is_expired now c) (old_of c left.cookies) c left.cookies (λ o e. found_has P (same_id c) left.cookies o all e) holds all)

  deleted_each : (old : Option Cookie) (id : CookieId) (cookies : List Cookie) → Each cookies → Each (deleted_where old id cookies).cookies
  deleted_each None id cookies all = all
  deleted_each (Some c) id cookies all = all_left P (λ d. not (has_id id d)) cookies all

  served_has : (now : ℕ) (q : Request) (c : Cookie) → ((d : Cookie) → P d → P (record d { access = now })) → P c → P (served q now c)
  served_has now q c fresh holds =
      elim (is_answered q now c) as (λ b. P (cond b (refreshed now c) c)) [
        | true ↦ elim (nat_le (c.access + REFRESH_AFTER) now) as (λ b. P (cond b (record c { access = now }) c)) [ true ↦ fresh c holds | false ↦ holds ]
        | false ↦ holds
      ]

  served_each : (now : ℕ) (q : Request) (cookies : List Cookie) → ((d : Cookie) → P d → P (record d { access = now })) → Each cookies → Each (map (served q now) cookies)
  served_each now q [] fresh all = tt
  served_each now q (c ∷ cs) fresh all = (served_has now q c fresh all.0, served_each now q cs fresh all.1)

  pub op_each : (s : JarState) (caller now : ℕ) (op : Op) → OpHas P now op → Each s.cookies → Each (op_step s caller now op).state.cookies
  op_each s caller now (Bind key) has all = all
  op_each s caller now (Set cookie script secure) has all =
      let left = purge cookie.key now s.cookies in
      set_each (barred script secure cookie left.cookies) s now cookie left has (purged_each cookie.key now s.cookies all)
  op_each s caller now (Get request) has all =
      served_each now request (purged request.key now s.cookies) has (purged_each request.key now s.cookies all)
  op_each s caller now (Delete key id) has all =
      let left = purge key now s.cookies in
      deleted_each (find (has_id id) left.cookies) id left.cookies (purged_each key now s.cookies all)
  op_each s caller now All has all = all_purged_each now s.cookies all
  op_each s caller now Clear has all = tt
  op_each s caller now (Listen scope) has all = all
  op_each s caller now (Changes number) has all = all
  op_each s caller now (Unlisten number) has all = all
  op_each s caller now Post has all = all
  op_each s caller now (Hear actor n) has all = all
