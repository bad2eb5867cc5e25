-- Players: what their managers hold and see, where one of them changes.
use Rattle.std.proofs.Common.{◌≡◌, ◌<◌, ℕ, suc, zero, List, [], ◌∷◌, Option, None, length, map, refl, ap, sym, ◌∙◌, arith, subst}
use Rattle.std.specs.Prelude.{slice_index_or, slice_set, Result, Ok, Err, OnOk}
use Rattle.restricted_manager.specs.Managers.{ManagerStanding}
use Rattle.script_run.specs.Players.{holding_of, view_of}
use Rattle.script_run.specs.Reads.{Holding, nothing}

-- ---- lists of managers

holdings_set : (ms : List (Option ManagerStanding)) (a : ℕ) (m : Option ManagerStanding)
    → map holding_of (slice_set ms a m) ≡ slice_set (map holding_of ms) a (holding_of m)
holdings_set [] a m = refl
holdings_set (x ∷ xs) zero m = refl
holdings_set (x ∷ xs) (suc a) m = ap (λ hs. holding_of x ∷ hs) (holdings_set xs a m)

pub holding_at : (ms : List (Option ManagerStanding)) (a : ℕ) → slice_index_or (map holding_of ms) a nothing ≡ holding_of (slice_index_or ms a None)
holding_at [] a = refl
holding_at (x ∷ xs) zero = refl
holding_at (x ∷ xs) (suc a) = holding_at xs a

-- where what one sees stays, so does what all see
views_set : (ms : List (Option ManagerStanding)) (a : ℕ) (m : Option ManagerStanding) → view_of m ≡ view_of (slice_index_or ms a None)
    → map view_of (slice_set ms a m) ≡ map view_of ms
views_set [] a m same = refl
views_set (x ∷ xs) zero m same = ap (λ v. v ∷ map view_of xs) same
views_set (x ∷ xs) (suc a) m same = ap (λ vs. view_of x ∷ vs) (views_set xs a m same)

-- an index within a list has one item there, whatever stands past the end
pub same_at : {T : Type 0} (ts : List T) (a : ℕ) (t u : T) → a < length ts → slice_index_or ts a t ≡ slice_index_or ts a u
same_at [] a t u low = absurd (omega (arith, low))
same_at (x ∷ xs) zero t u low = refl
same_at (x ∷ xs) (suc a) t u low = same_at xs a t u (omega (arith, low))

-- one manager was told something, by which it holds that
pub told_holdings : (inside now : List (Option ManagerStanding)) (a : ℕ) (old new : Option ManagerStanding) (then : Holding → Holding)
    → inside ≡ now → a < length now → old ≡ slice_index_or inside a old → holding_of new ≡ then (holding_of old)
    → map holding_of (slice_set inside a new) ≡ slice_set (map holding_of now) a (then (slice_index_or (map holding_of now) a nothing))
told_holdings inside now a old new then same low is holds =
    holdings_set inside a new
    ∙ (ap (slice_set (map holding_of inside) a) (holds ∙ ap (λ m. then (holding_of m)) was ∙ ap then (sym (holding_at inside a)))
    ∙ ap (λ ms. slice_set (map holding_of ms) a (then (slice_index_or (map holding_of ms) a nothing))) same)
  where
    was : old ≡ slice_index_or inside a None
    was = is ∙ same_at inside a old None (subst (λ (ms : List (Option ManagerStanding)). a < length ms) (sym same) low)

-- and sees what it saw
pub told_views : (inside now : List (Option ManagerStanding)) (a : ℕ) (old new : Option ManagerStanding)
    → inside ≡ now → a < length now → old ≡ slice_index_or inside a old → view_of new ≡ view_of old
    → map view_of (slice_set inside a new) ≡ map view_of now
told_views inside now a old new same low is sees =
    let was = is ∙ same_at inside a old None (subst (λ (ms : List (Option ManagerStanding)). a < length ms) (sym same) low) in
    views_set inside a new (sees ∙ ap view_of was) ∙ ap (map view_of) same

-- what follows where a result is Ok
pub ok_of : {T E P Q : Type 0} → (r : Result T E) → (P → Q) → OnOk r P → OnOk r Q
ok_of (Ok value) f p = f p
ok_of (Err error) f p = p

pub ok_of_two : {T E P Q R : Type 0} → (r : Result T E) → (P → Q → R) → OnOk r P → OnOk r Q → OnOk r R
ok_of_two (Ok value) f p q = f p q
ok_of_two (Err error) f p q = p
