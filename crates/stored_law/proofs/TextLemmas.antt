-- Texts in order, each once: which of them are there.
use Rattle.std.proofs.Common.{◌≡◌, ℕ, List, [], ◌∷◌, Bool, true, false, cond, refl, sym, ap, ◌∙◌}
use Rattle.std.specs.Prelude.{filter, bytes_eq, ◌&&◌, ◌||◌}
use Rattle.std.specs.List.{AllByRecursion}
use Rattle.std.specs.List.Sorted.{IsStrictlySortedBy}
use Rattle.std.specs.Ordering.{is_eq}
use Rattle.std.specs.declared.cmp.Ordering.TheVariants.{Less}
use Rattle.std.proofs.lemmas.Cmp.{nat_list_eq_equiv}
use Rattle.std.proofs.lemmas.Map.Text.{is_eq-slice_cmp}
use Rattle.std.proofs.lemmas.Slice.Eq.{bytes_eq-Decides}
use Rattle.jar_types.specs.Ids.{text_cmp}
use Rattle.jar_types.specs.Loads.{has_text}
use Rattle.jar_types.specs.Orders.{ascending}
use Rattle.stored_law.proofs.IdLemmas.{text_total, text_same}
use Rattle.stored_law.proofs.FoundLemmas.{all_weaker}
use Rattle.stored_law.proofs.OrderLemmas.{ascending_rises, ascending_any}

pub text_itself : (t : List ℕ) → bytes_eq t t ≡ true
text_itself t = (bytes_eq-Decides t t).1 refl

pub text_is : (t u : List ℕ) → bytes_eq t u ≡ true → t ≡ u
text_is t u e = (bytes_eq-Decides t u).0 e

pub text_turned : (t u : List ℕ) → bytes_eq t u ≡ bytes_eq u t
text_turned t u = nat_list_eq_equiv.symm t u

-- ---- texts that ascend

abbrev pub Ascends : List (List ℕ) → Type 0
Ascends texts = IsStrictlySortedBy text_cmp texts

-- all of these are greater
abbrev pub Under : List ℕ → List (List ℕ) → Type 0
Under t texts = AllByRecursion (λ u. text_cmp t u ≡ Less) texts

apart_at : (t u : List ℕ) → text_cmp t u ≡ Less → bytes_eq t u ≡ false
apart_at t u less = sym (is_eq-slice_cmp t u) ∙ ap is_eq less

-- a text isn't among greater ones
pub not_under : (t : List ℕ) (texts : List (List ℕ)) → Under t texts → has_text t texts ≡ false
not_under t [] all = refl
not_under t (u ∷ us) all = ap (λ b. b || has_text t us) (apart_at t u all.0) ∙ not_under t us all.1

pub ascending_ascends : (texts : List (List ℕ)) → Ascends (ascending text_cmp texts)
ascending_ascends texts = ascending_rises text_total texts

-- ---- which texts are there

-- the texts in order are the same texts
pub ascending_has : (t : List ℕ) (texts : List (List ℕ)) → has_text t (ascending text_cmp texts) ≡ has_text t texts
ascending_has t texts = ascending_any text_total (bytes_eq t) (λ x y e. ap (bytes_eq t) (text_same x y e)) texts

left_at : (p : List ℕ → Bool) (t u : List ℕ) (us : List (List ℕ)) (has same b : Bool) → bytes_eq t u ≡ same → p u ≡ b → has_text t us ≡ (has && p t)
    → has_text t (cond b (u ∷ us) us) ≡ ((same || has) && p t)
left_at p t u us has true true is is' e = ap (λ c. c || has_text t us) is ∙ sym (ap p (text_is t u is) ∙ is')
left_at p t u us true true false is is' e = e
left_at p t u us false true false is is' e = e ∙ sym (ap p (text_is t u is) ∙ is')
left_at p t u us has false true is is' e = ap (λ c. c || has_text t us) is ∙ e
left_at p t u us has false false is is' e = e

-- the texts that a filter leaves
pub left_has : (p : List ℕ → Bool) (t : List ℕ) (texts : List (List ℕ)) → has_text t (filter p texts) ≡ (has_text t texts && p t)
left_has p t [] = refl
left_has p t (u ∷ us) = left_at p t u (filter p us) (has_text t us) (bytes_eq t u) (p u) refl refl (left_has p t us)

pub or_true : (a : Bool) → (a || true) ≡ true
or_true true = refl
or_true false = refl

-- each of the texts is there
pub all_there : (texts : List (List ℕ)) → AllByRecursion (λ t. has_text t texts ≡ true) texts
all_there [] = tt
all_there (t ∷ ts) = (
  ap (λ b. b || has_text t ts) (text_itself t),
  all_weaker (λ u. has_text u ts ≡ true) (λ u. has_text u (t ∷ ts) ≡ true) (λ u e. ap (λ b. bytes_eq u t || b) e ∙ or_true (bytes_eq u t)) ts (all_there ts),
)
