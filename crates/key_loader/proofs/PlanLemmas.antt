-- Plans stay plans, and what each call makes of the loading of keys.
use Rattle.std.proofs.Common.{◌≡◌, ◌≢◌, ℕ, ◌<◌, ◌≤◌, List, [], ◌∷◌, ◌++◌, true, false, not, ◌⊎◌, inl, inr, length, refl, sym, ap, subst, arith}
use Rattle.std.specs.Prelude.{◌+◌, nat_eq, Option, None, Some}
use Rattle.std.specs.Ordering.{nat_cmp}
use Rattle.std.proofs.lemmas.Bool.{cases_eq, eq-eqb, ne_eqb}
use Rattle.std.proofs.lemmas.List.{length-append}
use Rattle.std.proofs.lemmas.List.Filters.{length-filter_both}
use Rattle.std.proofs.lemmas.List.Kept.{IsStrictlySortedBy-filter}
use Rattle.key_loader.specs.Places.{IsPlanned, has_place, times, without_place}
use Rattle.key_loader.proofs.PlaceLemmas.{AreBelow, one_if}
use Rattle.key_loader.proofs.TimesLemmas.{fewer, gone, left, missing, there, times-append, times_one}

-- without a place there are no more
pub fewer_places : (p : ℕ) (ps : List ℕ) → length (without_place p ps) ≤ length ps
fewer_places p ps = omega (arith, length-filter_both (nat_eq p) (λ other. not (nat_eq p other)) (λ _. refl) ps)

module _ {keys : List (List ℕ)} {unloaded wanted : List ℕ} {begun : Option ℕ} {lost : List ℕ} (plan : IsPlanned keys unloaded wanted begun lost) where
  pub wanted_below : AreBelow (length keys) wanted
  wanted_below = λ i more. plan.below i (omega (arith, plan.waiting i))

  pub lost_below : AreBelow (length keys) lost
  lost_below = λ i more. plan.below i (omega (arith, plan.waiting i))

  -- ---- plans stay plans

  waiting_more : (p i : ℕ) → (i ≡ p) ⊎ (i ≢ p) → has_place p unloaded ≡ true → has_place p wanted ≡ false → has_place p lost ≡ false
      → times i (wanted ++ p ∷ []) + times i lost ≤ times i unloaded
  waiting_more p i (inl same) is_unloaded not_wanted not_lost =
      let one : one_if (nat_eq i p) ≡ 1 = ap one_if (eq-eqb i p same) in
      let at_p : times i wanted + times i lost ≡ 0 = subst (λ j. times j wanted + times j lost ≡ 0) (sym same) (omega (arith, missing p wanted not_wanted, missing p lost not_lost)) in
      let some : 0 < times i unloaded = subst (λ j. 0 < times j unloaded) (sym same) (there p unloaded is_unloaded) in
      omega (arith, times-append i wanted (p ∷ []), times_one i p)
  waiting_more p i (inr other) is_unloaded not_wanted not_lost =
      let none : one_if (nat_eq i p) ≡ 0 = ap one_if (ne_eqb i p other) in
      omega (arith, times-append i wanted (p ∷ []), times_one i p, plan.waiting i)

  pub want_planned : (p : ℕ) → has_place p unloaded ≡ true → has_place p wanted ≡ false → has_place p lost ≡ false
      → IsPlanned keys unloaded (wanted ++ p ∷ []) begun lost
  want_planned p is_unloaded not_wanted not_lost = record {
    keys_rise = plan.keys_rise;
    places_rise = plan.places_rise;
    below = plan.below;
    waiting = λ i. waiting_more p i (cases_eq i p) is_unloaded not_wanted not_lost;
    loading = plan.loading;
  }

  -- there is room for one more want
  pub want_room : (p : ℕ) → has_place p unloaded ≡ true → has_place p wanted ≡ false → has_place p lost ≡ false
      → length wanted + 1 ≤ length unloaded
  want_room p is_unloaded not_wanted not_lost =
      let more = want_planned p is_unloaded not_wanted not_lost in
      omega (arith, fewer (length keys) (wanted ++ p ∷ []) lost unloaded more.below more.waiting, length-append wanted (p ∷ []))

  pub begin_planned : (p : ℕ) → 0 < times p unloaded → IsPlanned keys unloaded wanted (Some p) lost
  begin_planned p some = record {
    keys_rise = plan.keys_rise;
    places_rise = plan.places_rise;
    below = plan.below;
    waiting = plan.waiting;
    loading = λ i. at i (cases_eq i p);
  } where
    at : (i : ℕ) → (i ≡ p) ⊎ (i ≢ p) → times i (p ∷ []) ≤ times i unloaded
    at i (inl same) =
        let one : one_if (nat_eq i p) ≡ 1 = ap one_if (eq-eqb i p same) in
        let more : 0 < times i unloaded = subst (λ j. 0 < times j unloaded) (sym same) some in
        omega (arith, times_one i p)
    at i (inr other) =
        let none : one_if (nat_eq i p) ≡ 0 = ap one_if (ne_eqb i p other) in
        omega (arith, times_one i p)

  -- without a place, nothing is there more often
  less : (i p : ℕ) (ps : List ℕ) → (i ≡ p) ⊎ (i ≢ p) → times i (without_place p ps) ≤ times i ps
  less i p ps (inl same) = let none : times i (without_place p ps) ≡ 0 = subst (λ j. times j (without_place p ps) ≡ 0) (sym same) (gone p ps) in omega arith
  less i p ps (inr other) = omega (arith, left i p ps other)

  all_less : (i p : ℕ) → (i ≡ p) ⊎ (i ≢ p)
      → times i (without_place p wanted) + times i (without_place p lost) ≤ times i (without_place p unloaded)
  all_less i p (inl same) =
      subst (λ j. times j (without_place p wanted) + times j (without_place p lost) ≤ times j (without_place p unloaded)) (sym same)
      (omega (arith, gone p wanted, gone p lost))
  all_less i p (inr other) = omega (arith, left i p wanted other, left i p lost other, left i p unloaded other, plan.waiting i)

  pub done_planned : (p : ℕ) → IsPlanned keys (without_place p unloaded) (without_place p wanted) None (without_place p lost)
  done_planned p = record {
    keys_rise = plan.keys_rise;
    places_rise = IsStrictlySortedBy-filter nat_cmp (λ other. not (nat_eq p other)) unloaded plan.places_rise;
    below = λ i some. plan.below i (omega (arith, less i p unloaded (cases_eq i p)));
    waiting = λ i. all_less i p (cases_eq i p);
    loading = λ i. omega arith;
  }

  pub lost_planned : (p : ℕ) → IsPlanned keys unloaded (without_place p wanted) None lost
  lost_planned p = record {
    keys_rise = plan.keys_rise;
    places_rise = plan.places_rise;
    below = plan.below;
    waiting = λ i. omega (arith, less i p wanted (cases_eq i p), plan.waiting i);
    loading = λ i. omega arith;
  }

  moved : (p i : ℕ) → (i ≡ p) ⊎ (i ≢ p) → has_place p wanted ≡ true
      → times i (without_place p wanted) + times i (lost ++ p ∷ []) ≤ times i unloaded
  moved p i (inl same) was_wanted =
      let one : one_if (nat_eq i p) ≡ 1 = ap one_if (eq-eqb i p same) in
      let some : 0 < times i wanted = subst (λ j. 0 < times j wanted) (sym same) (there p wanted was_wanted) in
      let none : times i (without_place p wanted) ≡ 0 = subst (λ j. times j (without_place p wanted) ≡ 0) (sym same) (gone p wanted) in
      omega (arith, times-append i lost (p ∷ []), times_one i p, plan.waiting i)
  moved p i (inr other) was_wanted =
      let none : one_if (nat_eq i p) ≡ 0 = ap one_if (ne_eqb i p other) in
      omega (arith, times-append i lost (p ∷ []), times_one i p, left i p wanted other, plan.waiting i)

  pub mark_planned : (p : ℕ) → has_place p wanted ≡ true → IsPlanned keys unloaded (without_place p wanted) None (lost ++ p ∷ [])
  mark_planned p was_wanted = record {
    keys_rise = plan.keys_rise;
    places_rise = plan.places_rise;
    below = plan.below;
    waiting = λ i. moved p i (cases_eq i p) was_wanted;
    loading = λ i. omega arith;
  }

  -- there is room for one more mark
  pub mark_room : (p : ℕ) → has_place p wanted ≡ true → length lost + 1 ≤ length unloaded
  mark_room p was_wanted =
      let more = mark_planned p was_wanted in
      omega (arith, fewer (length keys) (without_place p wanted) (lost ++ p ∷ []) unloaded more.below more.waiting, length-append lost (p ∷ []))

  pub unmark_planned : (p : ℕ) → IsPlanned keys unloaded wanted begun (without_place p lost)
  unmark_planned p = record {
    keys_rise = plan.keys_rise;
    places_rise = plan.places_rise;
    below = plan.below;
    waiting = λ i. omega (arith, less i p lost (cases_eq i p), plan.waiting i);
    loading = plan.loading;
  }
