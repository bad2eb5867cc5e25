-- The passes that a jar was opened with: those of its callers, and the two beside them.
use Rattle.std.proofs.Common.{◌≡◌, ◌≤◌, ℕ, zero, suc, List, [], ◌∷◌, ◌++◌, refl, sym, subst, arith}
use Rattle.std.specs.List.{AllByRecursion}
use Rattle.std.specs.List.Sorted.{IsStrictlySortedBy}
use Rattle.jar_types.specs.Ids.{text_cmp}
use Rattle.atomic_table.specs.Seated.{TableId}
use Rattle.jar_types.specs.Journals.{Rules}
use Rattle.version_cells.specs.Standing.{PassStanding, new_pass_standing, new_passes}
use Rattle.locked_jar.specs.Passes.{IsHome}
use Rattle.shared_jar.specs.Opening.{HasPasses}
use Rattle.shared_jar.specs.Together.{IsCaller}

all_push : {A : Type 0} → (P : A → Type 0) (xs : List A) (x : A) → AllByRecursion P xs → P x
    → AllByRecursion P (xs ++ x ∷ [])
all_push P [] x all one = (one, tt)
all_push P (y ∷ xs) x all one = (all.0, all_push P xs x all.1 one)

new_caller : (r : Rules) (table : TableId) (n : ℕ) → suc n ≤ r.callers
    → IsCaller r table (new_pass_standing table n)
new_caller r table n few = record { ready = ((refl, refl), refl); among = omega (arith, few) }

callers_first : (r : Rules) (table : TableId) (n : ℕ) → n ≤ r.callers
    → AllByRecursion (IsCaller r table) (new_passes table n)
callers_first r table zero few = tt
callers_first r table (suc n) few =
    all_push (IsCaller r table) (new_passes table n) (new_pass_standing table n)
    (callers_first r table n (omega (arith, few))) (new_caller r table n few)

-- those of callers are callers' by rules of so many, and the two beside them are at home
pub passes_ready : (r : Rules) (table : TableId) (n : ℕ) (passes : List PassStanding)
    (loader committer : PassStanding)
    → HasPasses table n passes loader committer → n ≡ r.callers
    → AllByRecursion (IsCaller r table) passes × IsHome table loader × IsHome table committer
passes_ready r table n passes loader committer made counts = (
  subst (AllByRecursion (IsCaller r table)) (sym made.callers_are)
      (callers_first r table n (omega (arith, counts))),
  subst (IsHome table) (sym made.loads) (refl, refl),
  subst (IsHome table) (sym made.commits) (refl, refl),
)

-- the last of passes that are callers' is taken out
pub last_caller : {A : Type 0} → (P : A → Type 0) (all rest : List A) (last : A)
    → all ≡ rest ++ last ∷ [] → AllByRecursion P all
    → AllByRecursion P rest × P last
last_caller {A} P all rest last is each = parts rest last (subst (AllByRecursion P) is each)
  where
    parts : (xs : List A) (x : A) → AllByRecursion P (xs ++ x ∷ []) → AllByRecursion P xs × P x
    parts [] x every = (tt, every.0)
    parts (y ∷ xs) x every = let on = parts xs x every.1 in ((every.0, on.0), on.1)

-- no texts rise
pub no_texts_rise : (texts : List (List ℕ)) → texts ≡ [] → IsStrictlySortedBy text_cmp texts
unfolding IsStrictlySortedBy
no_texts_rise texts none = subst (IsStrictlySortedBy text_cmp) (sym none) tt
