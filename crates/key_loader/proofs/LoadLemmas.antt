-- What each call makes of the loading of keys, by the places of these.
use Rattle.std.proofs.Common.{◌≡◌, ℕ, List, [], ◌∷◌, ◌++◌, Bool, true, false, not, cond, refl, sym, ap, ◌∙◌, subst}
use Rattle.std.proofs.Math.Bool.{not-not}
use Rattle.std.specs.Prelude.{◌&&◌, Option, None, Some}
use Rattle.std.proofs.lemmas.List.{map-append}
use Rattle.jar_types.specs.Loads.{KeyLoads, has_text, without_text, is_loaded, is_wanted, is_marked, with_want, with_begun, with_loaded, with_lost, without_mark, marks_where}
use Rattle.key_loader.specs.Places.{IsPlaceOf, IsPlanned, key_at, keys_at, has_place, loads_at, without_place}
use Rattle.key_loader.specs.Planned.{asked, may_be_wanted}
use Rattle.key_loader.proofs.PlaceLemmas.{any_at, none_at, without_at, without_missing}
use Rattle.key_loader.proofs.PlanLemmas.{wanted_below, lost_below}

pub asked_so : (key : List ℕ) (l : KeyLoads) → may_be_wanted key l ≡ true → asked key l ≡ with_want key l
asked_so key l e = ap (λ (b : Bool). cond b (with_want key l) l) e

pub asked_not : (key : List ℕ) (l : KeyLoads) → may_be_wanted key l ≡ false → asked key l ≡ l
asked_not key l e = ap (λ (b : Bool). cond b (with_want key l) l) e

pub may_parts : (a b c : Bool) → (a && (not b && not c)) ≡ true → (a ≡ true) × (b ≡ false) × (c ≡ false)
may_parts true false false e = (refl, refl, refl)
may_parts true false true e = absurd cc
may_parts true true c e = absurd cc
may_parts false b c e = absurd cc

joined_and : (a b c x y z : Bool) → a ≡ x → b ≡ y → c ≡ z → (not a && (not b && not c)) ≡ (not x && (not y && not z))
joined_and a b c x y z e f g = cc

module _ {keys : List (List ℕ)} {unloaded wanted : List ℕ} {begun : Option ℕ} {lost : List ℕ} (plan : IsPlanned keys unloaded wanted begun lost) (key : List ℕ) where
  abbrev loads : KeyLoads
  loads = loads_at keys unloaded wanted begun lost

  -- ---- the key at a place

  module _ (p : ℕ) (at : IsPlaceOf key keys (Some p)) where
    unloaded_at : has_text key (keys_at keys unloaded) ≡ has_place p unloaded
    unloaded_at = subst (λ k. has_text k (keys_at keys unloaded) ≡ has_place p unloaded) at.1 (any_at keys p unloaded plan.keys_rise at.0 plan.below)

    pub is_loaded_at : is_loaded key loads ≡ not (has_place p unloaded)
    is_loaded_at = ap not unloaded_at

    pub is_wanted_at : is_wanted key loads ≡ has_place p wanted
    is_wanted_at = subst (λ k. has_text k (keys_at keys wanted) ≡ has_place p wanted) at.1 (any_at keys p wanted plan.keys_rise at.0 (wanted_below plan))

    pub is_marked_at : is_marked key loads ≡ has_place p lost
    is_marked_at = subst (λ k. has_text k (keys_at keys lost) ≡ has_place p lost) at.1 (any_at keys p lost plan.keys_rise at.0 (lost_below plan))

    pub may_at : may_be_wanted key loads ≡ (has_place p unloaded && (not (has_place p wanted) && not (has_place p lost)))
    may_at =
        joined_and (is_loaded key loads) (is_wanted key loads) (is_marked key loads) (not (has_place p unloaded)) (has_place p wanted) (has_place p lost) is_loaded_at is_wanted_at is_marked_at
        ∙ ap (λ b. b && (not (has_place p wanted) && not (has_place p lost))) (not-not (has_place p unloaded))

    without_unloaded : without_text key (keys_at keys unloaded) ≡ keys_at keys (without_place p unloaded)
    without_unloaded = subst (λ k. without_text k (keys_at keys unloaded) ≡ keys_at keys (without_place p unloaded)) at.1 (without_at keys p unloaded plan.keys_rise at.0 plan.below)

    without_wanted : without_text key (keys_at keys wanted) ≡ keys_at keys (without_place p wanted)
    without_wanted = subst (λ k. without_text k (keys_at keys wanted) ≡ keys_at keys (without_place p wanted)) at.1 (without_at keys p wanted plan.keys_rise at.0 (wanted_below plan))

    without_lost : without_text key (keys_at keys lost) ≡ keys_at keys (without_place p lost)
    without_lost = subst (λ k. without_text k (keys_at keys lost) ≡ keys_at keys (without_place p lost)) at.1 (without_at keys p lost plan.keys_rise at.0 (lost_below plan))

    pushed : (ps : List ℕ) → keys_at keys (ps ++ p ∷ []) ≡ keys_at keys ps ++ key ∷ []
    pushed ps = subst (λ k. keys_at keys (ps ++ p ∷ []) ≡ keys_at keys ps ++ k ∷ []) at.1 (map-append (key_at keys) ps (p ∷ []))

    pub want_at : loads_at keys unloaded (wanted ++ p ∷ []) begun lost ≡ with_want key loads
    want_at = ap (λ (ks : List (List ℕ)). record loads { wanted = ks }) (pushed wanted)

    pub begin_at : loads_at keys unloaded wanted (Some p) lost ≡ with_begun key loads
    begin_at = ap (λ (k : List ℕ). record loads { begun = Some k }) at.1

    pub done_at : loads_at keys (without_place p unloaded) (without_place p wanted) None (without_place p lost) ≡ with_loaded key loads
    done_at = rw (without_unloaded, without_wanted, without_lost) refl

    marks_at : (b : Bool) → has_place p wanted ≡ b
        → with_lost key loads ≡ record { unloaded = loads.unloaded; wanted = keys_at keys (without_place p wanted); begun = None; lost = marks_where b key loads.lost }
    marks_at b e = rw (without_wanted, is_wanted_at, e) refl

    pub mark_at : has_place p wanted ≡ true → loads_at keys unloaded (without_place p wanted) None (lost ++ p ∷ []) ≡ with_lost key loads
    mark_at e = ap (λ (ks : List (List ℕ)). record { unloaded = loads.unloaded; wanted = keys_at keys (without_place p wanted); begun = None; lost = ks }) (pushed lost) ∙ sym (marks_at true e)

    pub lost_at : has_place p wanted ≡ false → loads_at keys unloaded (without_place p wanted) None lost ≡ with_lost key loads
    lost_at e = sym (marks_at false e)

    pub unmark_at : loads_at keys unloaded wanted begun (without_place p lost) ≡ without_mark key loads
    unmark_at = ap (λ (ks : List (List ℕ)). record loads { lost = ks }) (sym without_lost)

  -- ---- a key that isn't in the plan

  module _ (at : IsPlaceOf key keys None) where
    pub is_loaded_none : is_loaded key loads ≡ true
    is_loaded_none = ap not (none_at key keys unloaded at plan.below)

    pub is_wanted_none : is_wanted key loads ≡ false
    is_wanted_none = none_at key keys wanted at (wanted_below plan)

    pub is_marked_none : is_marked key loads ≡ false
    is_marked_none = none_at key keys lost at (lost_below plan)

    pub may_none : may_be_wanted key loads ≡ false
    may_none = ap (λ b. not b && (not (is_wanted key loads) && not (is_marked key loads))) is_loaded_none

    pub unmark_none : loads ≡ without_mark key loads
    unmark_none = ap (λ (ks : List (List ℕ)). record loads { lost = ks }) (sym (without_missing key (keys_at keys lost) is_marked_none))
