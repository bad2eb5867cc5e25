-- What a plan takes away is of those that it sees; so a loaded key is thinned in the part as in
-- all. And where every key is loaded the part is all.
use Rattle.std.proofs.Common.{◌≡◌, ℕ, zero, suc, ◌-◌, List, [], ◌∷◌, Bool, true, false, cond, length, Option, None, Some, sym, ap, ◌∙◌}
use Rattle.std.specs.Prelude.{filter, not, nat_le, bytes_eq}
use Rattle.std.specs.List.{AllByRecursion, list_any}
use Rattle.std.specs.Option.{IfSome}
use Rattle.std.specs.Ordering.{is_lt, is_eq}
use Rattle.std.specs.declared.cmp.Ordering.{Ordering}
use Rattle.jar_types.specs.declared.cookie.Cookie.{Cookie}
use Rattle.jar_types.specs.declared.limits.TheConstants.{MOST_OF_KEY, LEFT_OF_KEY}
use Rattle.jar_types.specs.Changes.{Changed}
use Rattle.jar_types.specs.Evictions.{cookie_looks, evict, thinned}
use Rattle.jar_types.specs.Ids.{same_id}
use Rattle.jar_types.specs.Journals.{Rules}
use Rattle.jar_types.specs.Loads.{KeyLoads, is_loaded}
use Rattle.jar_types.specs.Plans.{Looks, access_cmp, lesser, least, or_else, first_of, key_rounds, is_spared, next_of_key, others, and_more, going, key_plan}
use Rattle.jar_types.specs.Purges.{has_key}
use Rattle.eager_law.proofs.MemberLemmas.{always, weaker, kept_all, passing_all, some_passes}
use Rattle.eager_law.proofs.FilterLemmas.{every_kept, none_kept}
use Rattle.eager_law.proofs.PartLemmas.{part, rest, part_of, IsKeyed, same_keys, key_loaded, key_part, gone_part, gone_rest}

-- ---- the plan of a key

module _ {X : Type 0} (P : X → Type 0) where
  lesser_all : (R : X → X → Ordering) (x : X) (m : Option X) → P x → IfSome m P → P (lesser R x m)
  lesser_all R x None p h = p
  lesser_all R x (Some y) p h = elim (is_lt (R y x)) as (λ b. P (cond b y x)) [ true ↦ h | false ↦ p ]

  least_all : (R : X → X → Ordering) (xs : List X) → AllByRecursion P xs → IfSome (least R xs) P
  least_all R [] all = tt
  least_all R (x ∷ xs) all = lesser_all R x (least R xs) all.0 (least_all R xs all.1)

  or_all : (m other : Option X) → IfSome m P → IfSome other P → IfSome (or_else m other) P
  or_all None other h k = k
  or_all (Some x) other h k = h

  first_all : (l : Looks X) (rounds : List (X → Bool)) (xs : List X) → AllByRecursion P xs
      → IfSome (first_of l rounds xs) P
  first_all l [] xs all = tt
  first_all l (round ∷ rounds) xs all =
      or_all (least (access_cmp l) (filter round xs)) (first_of l rounds xs)
      (least_all (access_cmp l) (filter round xs) (kept_all P round xs all)) (first_all l rounds xs all)

  next_all : (l : Looks X) (xs : List X) → AllByRecursion P xs → IfSome (next_of_key l xs) P
  next_all l xs all =
      first_all l (key_rounds l) (filter (λ x. not (is_spared l xs x)) xs) (kept_all P (λ x. not (is_spared l xs x)) xs all)

  more_all : (next : Option X) (more : X → List X) → IfSome next P → ((x : X) → AllByRecursion P (more x))
      → AllByRecursion P (and_more next more)
  more_all None more h k = tt
  more_all (Some x) more h k = (h, k x)

  going_all : (l : Looks X) (n : ℕ) (xs : List X) → AllByRecursion P xs
      → AllByRecursion P (going l (next_of_key l) n xs)
  going_all l zero xs all = tt
  going_all l (suc n) xs all =
      more_all (next_of_key l xs) (λ x. going l (next_of_key l) n (others l x xs)) (next_all l xs all)
      (λ x. going_all l n (others l x xs) (kept_all P (λ y. not (is_eq (access_cmp l x y))) xs all))

  -- what holds of all holds of those that go
  plan_all : (l : Looks X) (xs : List X) → AllByRecursion P xs → AllByRecursion P (key_plan l xs)
  plan_all l xs all =
      elim (nat_le (length xs) MOST_OF_KEY) as (λ b. AllByRecursion P (cond b [] (going l (next_of_key l) (length xs - LEFT_OF_KEY) xs)))
      [ true ↦ tt | false ↦ going_all l (length xs - LEFT_OF_KEY) xs all ]

-- ---- a key that is thinned

module _ (r : Rules) (l : KeyLoads) (key : List ℕ) (there : is_loaded key l ≡ true) where
  -- those that go
  abbrev gone : List Cookie → List Cookie
  gone cookies = key_plan cookie_looks (filter (has_key key) cookies)

  pub thinned_part : (cookies : List Cookie) → thinned key (part l cookies) ≡ part_of l (thinned key cookies)
  thinned_part cookies =
      ap (λ cs. evict (key_plan cookie_looks cs) (part l cookies)) (key_part l key cookies there)
      ∙ ap (λ cs. let all : Changed = record { cookies = cs; changes = (thinned key cookies).changes } in all)
      (gone_part l (λ c. list_any (same_id c) (gone cookies)) cookies)

  pub thinned_rest : (cookies : List Cookie) → AllByRecursion (IsKeyed r) cookies
      → rest l (thinned key cookies).cookies ≡ rest l cookies
  thinned_rest cookies keyed =
      let mine = λ (c : Cookie). IsKeyed r c × (has_key key c ≡ true) in
      let all = plan_all mine cookie_looks (filter (has_key key) cookies) (passing_all (IsKeyed r) (has_key key) cookies keyed) in
      gone_rest l (λ c. list_any (same_id c) (gone cookies)) cookies
      (weaker (IsKeyed r) (λ c. list_any (same_id c) (gone cookies) ≡ true → is_loaded c.key l ≡ true)
      (λ c k. some_passes (is_loaded c.key l ≡ true) (same_id c) (gone cookies)
      (weaker mine (λ d. same_id c d ≡ true → is_loaded c.key l ≡ true)
      (λ d h e. ap (λ k. is_loaded k l) (same_keys r c d k h.0 e) ∙ key_loaded l key d there h.1) (gone cookies) all))
      cookies keyed)

  pub thinned_keyed : (cookies : List Cookie) → AllByRecursion (IsKeyed r) cookies
      → AllByRecursion (IsKeyed r) (thinned key cookies).cookies
  thinned_keyed cookies keyed = kept_all (IsKeyed r) (λ c. not (list_any (same_id c) (gone cookies))) cookies keyed

-- ---- where every key is loaded

module _ (l : KeyLoads) (whole : l.unloaded ≡ []) where
  loaded : (c : Cookie) → is_loaded c.key l ≡ true
  loaded c = ap (λ keys. not (list_any (bytes_eq c.key) keys)) whole

  pub part_whole : (cookies : List Cookie) → part l cookies ≡ cookies
  part_whole cookies = every_kept (λ c. is_loaded c.key l) cookies (always (λ c. is_loaded c.key l ≡ true) loaded cookies)

  pub rest_whole : (cookies : List Cookie) → rest l cookies ≡ []
  rest_whole cookies =
      none_kept (λ c. not (is_loaded c.key l)) cookies (always (λ c. not (is_loaded c.key l) ≡ false) (λ c. ap not (loaded c)) cookies)

  pub change_part : (change : List Cookie → Changed) (cookies : List Cookie)
      → change (part l cookies) ≡ part_of l (change cookies)
  change_part change cookies =
      let all = change cookies in
      ap change (part_whole cookies)
      ∙ ap (λ cs. let same : Changed = record { cookies = cs; changes = all.changes } in same) (sym (part_whole all.cookies))

  pub change_rest : (cookies cookies' : List Cookie) → rest l cookies ≡ rest l cookies'
  change_rest cookies cookies' = rest_whole cookies ∙ sym (rest_whole cookies')
