-- The load of a key, from its beginning to its end.
use Rattle.std.proofs.Common.{◌≡◌, ◌≤◌, ℕ, List, Bool, true, false, cond, Some, refl, ap, sym, ◌∙◌, subst, arith}
use Rattle.jar_types.specs.declared.cookie.Cookie.{Cookie}
use Rattle.jar_types.specs.declared.entry.Own.{Own}
use Rattle.jar_types.specs.declared.entry.Own.TheVariants.{Begun, Loaded, Lost}
use Rattle.jar_types.specs.Journals.{own_fits}
use Rattle.jar_types.specs.Loads.{next_key}
use Rattle.jar_types.specs.Steps.{own_may_stand}
use Rattle.version_cells.specs.Standing.{PassStanding}
use Rattle.locked_jar.specs.LockedJars.{LockedJar}
use Rattle.store_vault.specs.declared.stored.Stored.{Stored}
use Rattle.store_vault.specs.Cutting.{HasCut, HasDone, did, did_if_may}
use Rattle.store_vault.specs.Loading.{BeginsIfMay, LoadsKey, LosesKey, rules_of}
use Rattle.store_vault.proofs.CutLemmas.{cut_on}

module _ (key : List ℕ) (old mid : LockedJar) (p m : PassStanding) (next : next_key old.state.loads.keys ≡ Some key) where
  begins_at : (may : Bool) → own_may_stand old.state (Begun key) ≡ may → BeginsIfMay may key old mid p m → mid ≡ did_if_may p.view.number old (Begun key)
  begins_at true e begins = begins.is ∙ sym (ap (λ b. cond b (did p.view.number old (Begun key)) old) e)
  begins_at false e begins = begins.0 ∙ sym (ap (λ b. cond b (did p.view.number old (Begun key)) old) e)

  begins_is : BeginsIfMay (own_may_stand old.state (Begun key)) key old mid p m → mid ≡ did_if_may p.view.number old (Begun key)
  begins_is begins = begins_at (own_may_stand old.state (Begun key)) refl begins

  number_at : (may : Bool) → BeginsIfMay may key old mid p m → m.view.number ≡ p.view.number
  number_at true begins = begins.cut.number
  number_at false begins = ap (λ (s : PassStanding). s.view.number) begins.1

  module _ (new : LockedJar) (q : PassStanding) where
    -- its end stands behind its beginning
    ends_is : (own : Own) → BeginsIfMay (own_may_stand old.state (Begun key)) key old mid p m → HasDone own mid new m q
        → new ≡ did p.view.number (did_if_may p.view.number old (Begun key)) own
    ends_is own begins ends =
        ends.is
        ∙ (ap (λ n. did n mid own) (number_at (own_may_stand old.state (Begun key)) begins)
        ∙ ap (λ (j : LockedJar). did p.view.number j own) (begins_is begins))

    -- one entry, or two
    cut_at : (own : Own) (may : Bool) → BeginsIfMay may key old mid p m → HasDone own mid new m q → (n : ℕ) × HasCut n old new p q × (n ≤ 2)
    cut_at own true begins ends = (2, cut_on 1 1 old mid new p m q begins.cut ends.cut, omega arith)
    cut_at own false begins ends =
        (1, subst (λ j. HasCut 1 j new p q) begins.0 (subst (λ s. HasCut 1 mid new s q) begins.1 ends.cut), omega arith)

    pub loses_key : BeginsIfMay (own_may_stand old.state (Begun key)) key old mid p m → HasDone (Lost key) mid new m q → LosesKey old new p q
    loses_key begins ends =
        let cut = cut_at (Lost key) (own_may_stand old.state (Begun key)) begins ends in
        record { key = key; n = cut.0; next = next; is = ends_is (Lost key) begins ends; cut = cut.1; few = cut.2 }

    pub loads_key : (stored : Stored) (cookies : List Cookie) → own_fits (rules_of stored 0 0) (Loaded key cookies) ≡ true
        → BeginsIfMay (own_may_stand old.state (Begun key)) key old mid p m → HasDone (Loaded key cookies) mid new m q → LoadsKey stored old new p q
    loads_key stored cookies fits begins ends =
        let cut = cut_at (Loaded key cookies) (own_may_stand old.state (Begun key)) begins ends in
        record { key = key; cookies = cookies; n = cut.0; next = next; fits = fits; is = ends_is (Loaded key cookies) begins ends; cut = cut.1; few = cut.2 }
