-- The key that is to be loaded next, and the plan of keys of which none is loaded.
use Rattle.std.proofs.Common.{◌≡◌, ℕ, zero, suc, ◌<◌, ◌≤◌, List, [], ◌∷◌, ◌++◌, true, false, ◌⊎◌, inl, inr, length, take, refl, sym, ap, ◌∙◌, subst, arith}
use Rattle.std.specs.Prelude.{◌+◌, ◌==◌, nat_eq, Option, None, Some, option_to_list, option_map, slice_get, is_none}
use Rattle.std.specs.Cmp.{nat_cmp_is}
use Rattle.std.specs.List.{AllByRecursion}
use Rattle.std.specs.List.Sorted.{IsStrictlySortedBy}
use Rattle.std.specs.Option.{option_or}
use Rattle.std.specs.Ordering.{nat_cmp}
use Rattle.std.specs.Str.{bytes_eq}
use Rattle.std.specs.declared.cmp.Ordering.TheVariants.{Less}
use Rattle.std.proofs.lemmas.Bool.{cases_lt, eqb-true, ne_eqb}
use Rattle.std.proofs.lemmas.List.{length-append, length-map, map-append, take_all, take_more}
use Rattle.std.proofs.lemmas.List.Elements.{All-from_recursion, All-push, recursion_from_All}
use Rattle.std.proofs.lemmas.List.Folds.{list_any_at}
use Rattle.jar_types.specs.Ids.{text_cmp}
use Rattle.jar_types.specs.Loads.{has_text, all_loaded, is_begun, is_the, next_key, none_loaded, with_begun}
use Rattle.key_loader.specs.Places.{IsPlaceOf, IsPlanned, first_places, key_at, keys_at, loads_at, times}
use Rattle.key_loader.proofs.OrderLemmas.{equal_text, same_text}
use Rattle.key_loader.proofs.PlaceLemmas.{one_if, same_key, times_own}
use Rattle.key_loader.proofs.TimesLemmas.{times-append, times_one}
use Rattle.key_loader.proofs.PlanLemmas.{begin_planned}
use Rattle.key_loader.proofs.LoadLemmas.{begin_at}

-- the place of the key that is to be loaded next
abbrev pub next_of : List ℕ → List ℕ → Option ℕ → Option ℕ
next_of unloaded wanted begun = option_or begun (option_or (slice_get wanted 0) (slice_get unloaded 0))

pub next_at : (keys : List (List ℕ)) (unloaded wanted : List ℕ) (begun : Option ℕ) (lost : List ℕ)
    → option_map (key_at keys) (next_of unloaded wanted begun) ≡ next_key (loads_at keys unloaded wanted begun lost)
next_at keys unloaded wanted (Some p) lost = refl
next_at keys unloaded (p ∷ ps) None lost = refl
next_at keys (p ∷ ps) [] None lost = refl
next_at keys [] [] None lost = refl

not_empty : (q : ℕ) (qs : List ℕ) → (length (q ∷ qs) == 0) ≡ false
not_empty q qs = ne_eqb (length (q ∷ qs)) 0 (λ e. absurd (omega arith))

empty : (ps : List ℕ) (p : ℕ) → 0 < times p ps → (length ps == 0) ≡ false
empty [] p some = absurd (omega arith)
empty (q ∷ qs) p some = not_empty q qs

pub none_there : (keys : List (List ℕ)) (key : List ℕ) (p : ℕ) → has_text key keys ≡ false → p < length keys → key_at keys p ≡ key → ⊥
none_there keys key p missing p_in own =
    let same : bytes_eq key (key_at keys p) ≡ true = subst (λ k. bytes_eq key k ≡ true) (sym own) (same_text key) in
    let found : has_text key keys ≡ true = list_any_at (bytes_eq key) keys p [] p_in same in
    absurd cc

-- the same key has the same place
one_place : (keys : List (List ℕ)) (p q : ℕ) → IsStrictlySortedBy text_cmp keys → p < length keys → q < length keys
    → key_at keys p ≡ key_at keys q → p ≡ q
one_place keys p q rises p_in q_in same =
    let equal : bytes_eq (key_at keys p) (key_at keys q) ≡ true = subst (λ k. bytes_eq (key_at keys p) k ≡ true) same (same_text (key_at keys p)) in
    eqb-true p q (sym (same_key keys p q rises p_in q_in) ∙ equal)

module _ {keys : List (List ℕ)} {lost : List ℕ} where
  -- it isn't loaded
  pub next_times : (unloaded wanted : List ℕ) (begun : Option ℕ) → IsPlanned keys unloaded wanted begun lost → (p : ℕ)
      → next_of unloaded wanted begun ≡ Some p → 0 < times p unloaded
  next_times unloaded wanted (Some q) plan p e =
      let same : q ≡ p = cc in
      let own : 0 < times q (q ∷ []) = times_own q [] in
      subst (λ j. 0 < times j unloaded) same (omega (arith, plan.loading q))
  next_times unloaded (q ∷ qs) None plan p e =
      let same : q ≡ p = cc in
      subst (λ j. 0 < times j unloaded) same (omega (arith, times_own q qs, plan.waiting q))
  next_times (q ∷ qs) [] None plan p e =
      let same : q ≡ p = cc in
      subst (λ j. 0 < times j (q ∷ qs)) same (times_own q qs)
  next_times [] [] None plan p e = absurd cc

  pub next_none : (unloaded wanted : List ℕ) (begun : Option ℕ) → IsPlanned keys unloaded wanted begun lost
      → is_none (next_of unloaded wanted begun) ≡ (length unloaded == 0)
  next_none unloaded wanted (Some q) plan = sym (empty unloaded q (next_times unloaded wanted (Some q) plan q refl))
  next_none unloaded (q ∷ qs) None plan = sym (empty unloaded q (next_times unloaded (q ∷ qs) None plan q refl))
  next_none (q ∷ qs) [] None plan = sym (not_empty q qs)
  next_none [] [] None plan = refl

  -- it is none just where all are loaded
  pub next_all : (unloaded wanted : List ℕ) (begun next : Option ℕ) → IsPlanned keys unloaded wanted begun lost
      → next_of unloaded wanted begun ≡ next → is_none next ≡ all_loaded (loads_at keys unloaded wanted begun lost)
  next_all unloaded wanted begun next plan e =
      ap is_none (sym e) ∙ next_none unloaded wanted begun plan ∙ ap (λ (n : ℕ). n == 0) (sym (length-map unloaded (key_at keys)))

  module _ {unloaded wanted : List ℕ} {begun : Option ℕ} (plan : IsPlanned keys unloaded wanted begun lost) where
    -- the load that may begin is that of the key
    begin_by : (key : List ℕ) (r next : Option ℕ) → IsPlaceOf key keys r → next_of unloaded wanted begun ≡ next
        → option_map (key_at keys) next ≡ Some key → (p : ℕ) × (r ≡ Some p) × (0 < times p unloaded)
    begin_by key r None at e is = absurd cc
    begin_by key None (Some q) at e is =
        let some : 0 < times q unloaded = next_times unloaded wanted begun plan q e in
        let own : key_at keys q ≡ key = cc in
        absurd (none_there keys key q at (plan.below q some) own)
    begin_by key (Some p) (Some q) at e is =
        let some : 0 < times q unloaded = next_times unloaded wanted begun plan q e in
        let own : key_at keys q ≡ key = cc in
        let same : q ≡ p = one_place keys q p plan.keys_rise (plan.below q some) at.0 (own ∙ sym at.1) in
        (p, refl, subst (λ j. 0 < times j unloaded) same some)

    begins : (key : List ℕ) (r : Option ℕ) → IsPlaceOf key keys r → next_key (loads_at keys unloaded wanted begun lost) ≡ Some key
        → (p : ℕ) × (r ≡ Some p) × (0 < times p unloaded)
    begins key r at is =
        begin_by key r (next_of unloaded wanted begun) at refl (next_at keys unloaded wanted begun lost ∙ is)

    pub begins_planned : (key : List ℕ) (r : Option ℕ) → IsPlaceOf key keys r → next_key (loads_at keys unloaded wanted begun lost) ≡ Some key
        → IsPlanned keys unloaded wanted r lost
    begins_planned key r at is =
        let found = begins key r at is in
        subst (λ b. IsPlanned keys unloaded wanted b lost) (sym found.1) (begin_planned plan found.0 found.2)

    pub begins_at : (key : List ℕ) (r : Option ℕ) → IsPlaceOf key keys r → next_key (loads_at keys unloaded wanted begun lost) ≡ Some key
        → loads_at keys unloaded wanted r lost ≡ with_begun key (loads_at keys unloaded wanted begun lost)
    begins_at key r at is =
        let found = begins key r at is in
        let own : IsPlaceOf key keys (Some found.0) = subst (IsPlaceOf key keys) found.1 at in
        ap (λ (b : Option ℕ). loads_at keys unloaded wanted b lost) found.1 ∙ begin_at plan key found.0 own

    -- a key whose load has begun is in the plan
    begun_there : (key : List ℕ) (b : Option ℕ) → begun ≡ b → is_the key (option_map (key_at keys) b) ≡ true → has_text key keys ≡ false → ⊥
    begun_there key None e is missing = absurd cc
    begun_there key (Some p) e is missing =
        let some : 0 < times p (option_to_list begun) = subst (λ b. 0 < times p (option_to_list b)) (sym e) (times_own p []) in
        none_there keys key p missing (plan.below p (omega (arith, plan.loading p))) (sym (equal_text key (key_at keys p) is))

    pub begun_is_there : (key : List ℕ) → is_begun key (loads_at keys unloaded wanted begun lost) ≡ true → has_text key keys ≡ false → ⊥
    begun_is_there key is missing = begun_there key begun refl is missing

-- ---- keys of which none is loaded

first_times : (n i : ℕ) → (i < n) ⊎ (n ≤ i) → times i (first_places n) ≡ 0 ⊎ (i < n)
first_times n i (inl less) = inr less
first_times zero i (inr more) = inl refl
first_times (suc n) i (inr more) = inl (at (first_times n i (inr (omega arith)))) where
  at : times i (first_places n) ≡ 0 ⊎ (i < n) → times i (first_places n ++ n ∷ []) ≡ 0
  at (inr less) = absurd (omega arith)
  at (inl none) =
      let other : one_if (nat_eq i n) ≡ 0 = ap one_if (ne_eqb i n (λ e. absurd (omega arith))) in
      omega (arith, times-append i (first_places n) (n ∷ []), times_one i n)

pub length_first : (n : ℕ) → length (first_places n) ≡ n
length_first zero = refl
length_first (suc n) = omega (arith, length-append (first_places n) (n ∷ []), length_first n)

pub keys_first : (keys : List (List ℕ)) (n : ℕ) → n ≤ length keys → keys_at keys (first_places n) ≡ take n keys
keys_first keys zero within = refl
keys_first keys (suc n) within =
    let one : suc n ≡ n + 1 = omega arith in
    map-append (key_at keys) (first_places n) (n ∷ []) ∙ ap (λ (ks : List (List ℕ)). ks ++ key_at keys n ∷ []) (keys_first keys n (omega arith))
    ∙ sym (ap (λ (m : ℕ). take m keys) one ∙ take_more keys n [] (omega arith))

before_last : (n m : ℕ) → n ≤ m → AllByRecursion (λ p. nat_cmp p m ≡ Less) (first_places n)
before_last zero m within = tt
before_last (suc n) m within =
    recursion_from_All (λ p. nat_cmp p m ≡ Less) (first_places n ++ n ∷ [])
    (All-push (λ p. nat_cmp p m ≡ Less) (first_places n) n (All-from_recursion (λ p. nat_cmp p m ≡ Less) (first_places n) (before_last n m (omega arith))) (sym (nat_cmp_is n m Less (omega arith))))

last_rises : (ps : List ℕ) (n : ℕ) → IsStrictlySortedBy nat_cmp ps → AllByRecursion (λ p. nat_cmp p n ≡ Less) ps
    → IsStrictlySortedBy nat_cmp (ps ++ n ∷ [])
unfolding IsStrictlySortedBy
last_rises [] n rises less = (tt, tt)
last_rises (p ∷ ps) n rises less = (
  recursion_from_All (λ q. nat_cmp p q ≡ Less) (ps ++ n ∷ [])
      (All-push (λ q. nat_cmp p q ≡ Less) ps n (All-from_recursion (λ q. nat_cmp p q ≡ Less) ps rises.0) less.0),
  last_rises ps n rises.1 less.1,
)

first_rise : (n : ℕ) → IsStrictlySortedBy nat_cmp (first_places n)
unfolding IsStrictlySortedBy
first_rise zero = tt
first_rise (suc n) = last_rises (first_places n) n (first_rise n) (before_last n n (omega arith))

first_below : (n i : ℕ) → 0 < times i (first_places n) → i < n
first_below n i some = at (first_times n i (cases_lt i n)) where
  at : times i (first_places n) ≡ 0 ⊎ (i < n) → i < n
  at (inl none) = absurd (omega arith)
  at (inr less) = less

pub first_planned : (keys : List (List ℕ)) → IsStrictlySortedBy text_cmp keys → IsPlanned keys (first_places (length keys)) [] None []
first_planned keys rises = record {
  keys_rise = rises;
  places_rise = first_rise (length keys);
  below = first_below (length keys);
  waiting = λ i. omega arith;
  loading = λ i. omega arith;
}

pub first_at : (keys : List (List ℕ)) → loads_at keys (first_places (length keys)) [] None [] ≡ none_loaded keys
first_at keys = ap none_loaded (keys_first keys (length keys) (omega arith) ∙ take_all (length keys) keys (omega arith))
