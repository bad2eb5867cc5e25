-- The rule at the start.
use Rattle.std.proofs.Common.{◌≡◌, ℕ, zero, suc, List, [], ◌∷◌, replicate, refl, sym, ap, ◌∙◌, subst, arith}
use Rattle.std.specs.Prelude.{nat_lt}
use mathlib.Core.Option.{some-injective, some-ne-none}
use Rattle.std.proofs.lemmas.List.{get_or-replicate, length-replicate}
use Rattle.std.proofs.lemmas.Bool.{le-ltb}
use Rattle.version_cells.specs.declared.cells.TheConstants.{WORDS}
use Rattle.version_cells.specs.declared.view.Kind.TheVariants.{Baton, Pass}
use Rattle.version_cells.specs.declared.view.View.{View}
use Rattle.version_cells.specs.Listings.{one}
use Rattle.version_cells.specs.Views.{first_baton, memories, At}
use Rattle.version_cells.specs.Held.{AllFit, RemembersLast}
use Rattle.version_cells.specs.Rule.{RuleAt, Rule}
use Rattle.version_cells.proofs.Cuts.{blank_fits}

lone : (P : ℕ → View → Type 0) (w : View) → P 0 w → (by : ℕ) (v : View) → At (w ∷ []) by v → P by v
lone P w h zero v e = subst (P 0) (some-injective w v e) h
lone P w h (suc by) v e = absurd (some-ne-none v (sym e))

none_below : (n : ℕ) → 0 ≡ one (nat_lt n 0)
none_below n = ap one (sym (le-ltb n 0 (omega arith)))

kept : (n : ℕ) → n ≡ WORDS → RuleAt (replicate n 0) (first_baton ∷ []) 0 first_baton
kept n size = record {
  at_seat = refl;
  is_baton = refl;
  only = lone (λ by (u : View). u.kind ≡ Baton → by ≡ 0) first_baton (λ _. refl);
  size = length-replicate n 0 ∙ size;
  room = omega arith;
  counted = get_or-replicate n 0 0 0 (omega arith);
  versions = λ c low high. get_or-replicate n c 0 0 (omega arith);
  remembered = lone (λ by (u : View). AllFit (replicate n 0) [] (memories u)) first_baton (blank_fits (replicate n 0) [], tt);
  last = lone (λ by (u : View). RemembersLast u) first_baton (λ e. let h : Baton ≡ Pass = e in cc);
  passes = none_below;
  permits = none_below;
  entries = λ m. refl;
}

pub opened : (words : List ℕ) (n : ℕ) → words ≡ replicate n 0 → n ≡ WORDS
    → Rule words (first_baton ∷ [])
opened words n is size = subst (λ (ws : List ℕ). Rule ws (first_baton ∷ [])) (sym is) (0, first_baton, kept n size)
