-- A Set whose key is loaded: in the part it is what it is in all, and what isn't loaded stays.
use Rattle.std.proofs.Common.{◌≡◌, ℕ, List, [], Bool, true, false, cond, length, Option, None, Some, refl, sym, ap, ◌∙◌}
use Rattle.std.specs.Prelude.{not, ◌&&◌, nat_le, bytes_eq}
use Rattle.std.specs.List.{AllByRecursion, list_any}
use Rattle.jar_values.specs.Paths.{path_matches}
use Rattle.jar_types.specs.declared.cookie.Cookie.{Cookie}
use Rattle.jar_types.specs.declared.limits.TheConstants.{MOST_OF_JAR}
use Rattle.jar_types.specs.declared.op.Reply.{Reply}
use Rattle.jar_types.specs.declared.op.Reply.TheVariants.{OverwriteSecure, OverwriteHttpOnly}
use Rattle.jar_types.specs.Changes.{Changed, followed}
use Rattle.jar_types.specs.Evictions.{cookie_looks, thinned, all_purged, swept_where, swept}
use Rattle.jar_types.specs.Ids.{same_id, RisesById}
use Rattle.jar_types.specs.Journals.{Rules}
use Rattle.jar_types.specs.Loads.{KeyLoads, is_loaded}
use Rattle.jar_types.specs.Plans.{jar_plan}
use Rattle.jar_types.specs.Purges.{has_key, is_expired, purge}
use Rattle.jar_types.specs.Sets.{old_of, shields, domains_meet, is_http_only, barred, kept_over, set_over, removed_over, set_reply, removed_reply, Put, put_where, put, tidied, set_where, set_step}
use Rattle.jar_types.specs.States.{JarState, Stepped}
use Rattle.jar_types.proofs.RisingLemmas.{cookie_total, purged_rises}
use Rattle.eager_law.proofs.MemberLemmas.{always, weaker, kept_all}
use Rattle.eager_law.proofs.FilterLemmas.{found, any_kept, and_true}
use Rattle.eager_law.proofs.PlacedLemmas.{put_all, put_kept, put_apart}
use Rattle.eager_law.proofs.PartLemmas.{part, rest, part_of, IsKeyed, both, refused, denied, same_keys, id_loaded, key_loaded, gone_part, gone_rest, purge_part, purge_rest, purge_keyed}
use Rattle.eager_law.proofs.EvictLemmas.{thinned_part, thinned_rest, thinned_keyed, change_part, change_rest}

-- ---- what is tidied

swept_where_keyed : (r : Rules) (is_due : Bool) (now : ℕ) (cookies : List Cookie) → AllByRecursion (IsKeyed r) cookies
    → AllByRecursion (IsKeyed r) (swept_where is_due now cookies).cookies
swept_where_keyed r true now cookies keyed =
    let live = (all_purged now cookies).cookies in
    kept_all (IsKeyed r) (λ c. not (list_any (same_id c) (jar_plan cookie_looks now live))) live
    (kept_all (IsKeyed r) (λ c. not (is_expired now c)) cookies keyed)
swept_where_keyed r false now cookies keyed = keyed

pub swept_keyed : (r : Rules) (now : ℕ) (cookies : List Cookie) → AllByRecursion (IsKeyed r) cookies
    → AllByRecursion (IsKeyed r) (swept now cookies).cookies
swept_keyed r now cookies keyed = swept_where_keyed r (not (nat_le (length cookies) MOST_OF_JAR)) now cookies keyed

-- a state after a Set, which changed cookies alone
abbrev pub with_part : KeyLoads → Stepped → Stepped
with_part l step =
    record { state = record step.state { cookies = part l step.state.cookies }; reply = step.reply; changes = step.changes }

module _ (r : Rules) (l : KeyLoads) (key : List ℕ) (there : is_loaded key l ≡ true) where
  pub tidied_part : (whole : Bool) → (whole ≡ true → l.unloaded ≡ []) → (now : ℕ) (cookies : List Cookie)
      → tidied whole now key (part l cookies) ≡ part_of l (tidied whole now key cookies)
  tidied_part true all now cookies = change_part l (all refl) (tidied true now key) cookies
  tidied_part false all now cookies = thinned_part r l key there cookies

  tidied_rest : (whole : Bool) → (whole ≡ true → l.unloaded ≡ []) → (now : ℕ) (cookies : List Cookie)
      → AllByRecursion (IsKeyed r) cookies
      → rest l (tidied whole now key cookies).cookies ≡ rest l cookies
  tidied_rest true all now cookies keyed = change_rest l (all refl) (tidied true now key cookies).cookies cookies
  tidied_rest false all now cookies keyed = thinned_rest r l key there cookies keyed

  tidied_keyed : (whole : Bool) (now : ℕ) (cookies : List Cookie) → AllByRecursion (IsKeyed r) cookies
      → AllByRecursion (IsKeyed r) (tidied whole now key cookies).cookies
  tidied_keyed true now cookies keyed =
      swept_keyed r now (thinned key cookies).cookies (thinned_keyed r l key there cookies keyed)
  tidied_keyed false now cookies keyed = thinned_keyed r l key there cookies keyed

module _ (r : Rules) (l : KeyLoads) (c : Cookie) (keyed : IsKeyed r c) (there : is_loaded c.key l ≡ true) where
  -- ---- what bars it

  ids_loaded : (cookies : List Cookie) → AllByRecursion (IsKeyed r) cookies
      → AllByRecursion (λ d. same_id c d ≡ true → is_loaded d.key l ≡ true) cookies
  ids_loaded cookies all =
      weaker (IsKeyed r) (λ d. same_id c d ≡ true → is_loaded d.key l ≡ true) (λ d k e. id_loaded r l c d keyed there k e) cookies all

  old_part : (cookies : List Cookie) → AllByRecursion (IsKeyed r) cookies
      → old_of c (part l cookies) ≡ old_of c cookies
  old_part cookies all = found (same_id c) (λ d. is_loaded d.key l) cookies (ids_loaded cookies all)

  shield_loaded : (d : Cookie) → shields c d ≡ true → is_loaded d.key l ≡ true
  shield_loaded d e =
      let path = path_matches c.path d.path in
      let names = bytes_eq d.name c.name && (domains_meet c.host d.host && path) in
      key_loaded l c.key d there (both (has_key c.key d) names (both d.secure (has_key c.key d && names) e).1).0

  shields_part : (cookies : List Cookie) → list_any (shields c) (part l cookies) ≡ list_any (shields c) cookies
  shields_part cookies =
      any_kept (shields c) (λ d. is_loaded d.key l) true cookies
      (always (λ d. shields c d ≡ true → is_loaded d.key l ≡ true) shield_loaded cookies)
      ∙ and_true (list_any (shields c) cookies)

  barred_part : (script secure : Bool) (cookies : List Cookie) → AllByRecursion (IsKeyed r) cookies
      → barred script secure c (part l cookies) ≡ barred script secure c cookies
  barred_part script secure cookies all =
      ap (λ b. cond (not secure && b) (Some OverwriteSecure)
      (cond (script && is_http_only (old_of c (part l cookies))) (Some OverwriteHttpOnly) None))
      (shields_part cookies)
      ∙ ap (λ old. cond (not secure && list_any (shields c) cookies) (Some OverwriteSecure)
      (cond (script && is_http_only old) (Some OverwriteHttpOnly) None))
      (old_part cookies all)

  -- ---- the new cookie

  kept_key : (old : Option Cookie) → is_loaded (kept_over old c).key l ≡ true
  kept_key None = there
  kept_key (Some old) = there

  kept_keyed : (old : Option Cookie) → IsKeyed r (kept_over old c)
  kept_keyed None = keyed
  kept_keyed (Some old) = keyed

  -- what a new cookie comes to, of which only loaded ones are kept
  abbrev put_of : Put → Put
  put_of new = record { all = part_of l new.all; reply = new.reply }

  put_part : (has_expired : Bool) (old : Option Cookie) (cookies : List Cookie)
      → put_where has_expired old c (part l cookies) ≡ put_of (put_where has_expired old c cookies)
  put_part true None cookies = refl
  put_part true (Some old) cookies =
      ap (λ cs. let all : Changed = record { cookies = cs; changes = (removed_over (Some old) c cookies).changes } in
      let new : Put = record { all = all; reply = removed_reply (Some old) } in
      new)
      (gone_part l (same_id c) cookies)
  put_part false old cookies =
      ap (λ cs. let all : Changed = record { cookies = cs; changes = (set_over old c cookies).changes } in
      let new : Put = record { all = all; reply = set_reply old } in
      new)
      (sym (put_kept cookie_total (λ d. is_loaded d.key l) (kept_over old c) cookies (kept_key old)))

  put_rest : (has_expired : Bool) (old : Option Cookie) (cookies : List Cookie)
      → AllByRecursion (IsKeyed r) cookies → RisesById cookies
      → rest l (put_where has_expired old c cookies).all.cookies ≡ rest l cookies
  put_rest true None cookies all rises = refl
  put_rest true (Some old) cookies all rises = gone_rest l (same_id c) cookies (ids_loaded cookies all)
  put_rest false old cookies all rises =
      let new = kept_over old c in
      put_apart cookie_total (λ d. not (is_loaded d.key l)) new cookies (ap not (kept_key old))
      (weaker (IsKeyed r) (λ d. not (is_loaded d.key l) ≡ true → same_id d new ≡ false)
      (λ d k e. refused (same_id d new) (is_loaded d.key l) (λ same. ap (λ k. is_loaded k l) (same_keys r d new k (kept_keyed old) same) ∙ kept_key old)
      (denied (is_loaded d.key l) e))
      cookies all)
      rises

  put_keyed : (has_expired : Bool) (old : Option Cookie) (cookies : List Cookie) → AllByRecursion (IsKeyed r) cookies
      → AllByRecursion (IsKeyed r) (put_where has_expired old c cookies).all.cookies
  put_keyed true None cookies all = all
  put_keyed true (Some old) cookies all = kept_all (IsKeyed r) (λ d. not (same_id c d)) cookies all
  put_keyed false old cookies all =
      put_all cookie_total (IsKeyed r) (kept_over old c) cookies (kept_keyed old) all

  -- ---- the step

  put_whole : (now : ℕ) (cookies : List Cookie) → AllByRecursion (IsKeyed r) cookies
      → put now c (part l cookies) ≡ put_of (put now c cookies)
  put_whole now cookies all =
      ap (λ old. put_where (is_expired now c) old c (part l cookies)) (old_part cookies all)
      ∙ put_part (is_expired now c) (old_of c cookies) cookies

  abbrev done : JarState → Changed → Put → Changed → Stepped
  done s left new tidy =
      let all = followed (followed left new.all) tidy in
      record { state = record s { cookies = all.cookies }; reply = new.reply; changes = all.changes }

  where_part : (bar : Option Reply) (s : JarState) (now : ℕ) (left : Changed)
      → (s.loads.whole ≡ true → l.unloaded ≡ [])
      → AllByRecursion (IsKeyed r) left.cookies
      → set_where bar (record s { cookies = part l s.cookies }) now c (part_of l left)
      ≡ with_part l (set_where bar s now c left)
  where_part (Some reply) s now left whole all = refl
  where_part None s now left whole all =
      let new = put now c left.cookies in
      ap (λ p. done s left p (tidied s.loads.whole now c.key p.all.cookies)) (put_whole now left.cookies all)
      ∙ ap (done s left (put_of new)) (tidied_part r l c.key there s.loads.whole whole now new.all.cookies)

  where_rest : (bar : Option Reply) (s : JarState) (now : ℕ) (left : Changed)
      → (s.loads.whole ≡ true → l.unloaded ≡ [])
      → AllByRecursion (IsKeyed r) left.cookies → RisesById left.cookies
      → rest l (set_where bar s now c left).state.cookies ≡ rest l left.cookies
  where_rest (Some reply) s now left whole all rises = refl
  where_rest None s now left whole all rises =
      let new = put now c left.cookies in
      let keyed = put_keyed (is_expired now c) (old_of c left.cookies) left.cookies all in
      tidied_rest r l c.key there s.loads.whole whole now new.all.cookies keyed
      ∙ put_rest (is_expired now c) (old_of c left.cookies) left.cookies all rises

  where_keyed : (bar : Option Reply) (s : JarState) (now : ℕ) (left : Changed)
      → AllByRecursion (IsKeyed r) left.cookies
      → AllByRecursion (IsKeyed r) (set_where bar s now c left).state.cookies
  where_keyed (Some reply) s now left all = all
  where_keyed None s now left all =
      tidied_keyed r l c.key there s.loads.whole now (put now c left.cookies).all.cookies
      (put_keyed (is_expired now c) (old_of c left.cookies) left.cookies all)

  -- a Set does in the part what it does in all
  pub set_part : (s : JarState) (now : ℕ) (script secure : Bool) → (s.loads.whole ≡ true → l.unloaded ≡ [])
      → AllByRecursion (IsKeyed r) s.cookies
      → set_step (record s { cookies = part l s.cookies }) now c script secure
      ≡ with_part l (set_step s now c script secure)
  set_part s now script secure whole all =
      let left = purge c.key now s.cookies in
      let keyed = purge_keyed r c.key now s.cookies all in
      ap (λ cs. set_where (barred script secure c cs.cookies) (record s { cookies = part l s.cookies }) now c cs)
      (purge_part l c.key now s.cookies there)
      ∙ ap (λ bar. set_where bar (record s { cookies = part l s.cookies }) now c (part_of l left))
      (barred_part script secure left.cookies keyed)
      ∙ where_part (barred script secure c left.cookies) s now left whole keyed

  -- and leaves what isn't loaded
  pub set_rest : (s : JarState) (now : ℕ) (script secure : Bool) → (s.loads.whole ≡ true → l.unloaded ≡ [])
      → AllByRecursion (IsKeyed r) s.cookies → RisesById s.cookies
      → rest l (set_step s now c script secure).state.cookies ≡ rest l s.cookies
  set_rest s now script secure whole all rises =
      let left = purge c.key now s.cookies in
      where_rest (barred script secure c left.cookies) s now left whole (purge_keyed r c.key now s.cookies all)
      (purged_rises c.key now s.cookies rises)
      ∙ purge_rest l c.key now s.cookies there

  pub set_keyed : (s : JarState) (now : ℕ) (script secure : Bool) → AllByRecursion (IsKeyed r) s.cookies
      → AllByRecursion (IsKeyed r) (set_step s now c script secure).state.cookies
  set_keyed s now script secure all =
      let left = purge c.key now s.cookies in
      where_keyed (barred script secure c left.cookies) s now left (purge_keyed r c.key now s.cookies all)

where_loads : (bar : Option Reply) (s : JarState) (now : ℕ) (c : Cookie) (left : Changed)
    → (set_where bar s now c left).state.loads ≡ s.loads
where_loads (Some reply) s now c left = refl
where_loads None s now c left = refl

-- a Set loads nothing
pub set_loads : (s : JarState) (now : ℕ) (c : Cookie) (script secure : Bool)
    → (set_step s now c script secure).state.loads ≡ s.loads
set_loads s now c script secure =
    let left = purge c.key now s.cookies in where_loads (barred script secure c left.cookies) s now c left
