-- A look keeps the rule.
use Rattle.std.proofs.Common.{◌≡◌, ◌<◌, ◌≤◌, ◌+◌, ℕ, List, [], length, set, take, refl, sym, ap, subst, arith}
use Rattle.std.specs.Prelude.{slice_index}
use Rattle.std.proofs.lemmas.List.{take_all}
use Rattle.atomic_table.specs.Table.{Me, Allows, keeps}
use Rattle.version_cells.specs.declared.cells.TheConstants.{CELLS}
use Rattle.version_cells.specs.declared.listing.Listing.{Listing}
use Rattle.version_cells.specs.declared.view.Kind.TheVariants.{Pass}
use Rattle.version_cells.specs.declared.view.View.{View}
use Rattle.version_cells.specs.Listings.{one, has, turns, StartsWith}
use Rattle.version_cells.specs.Views.{At}
use Rattle.version_cells.specs.Moves.{after_look}
use Rattle.version_cells.specs.Rule.{RuleAt}
use Rattle.version_cells.proofs.Prefixes.{starts_turns}
use Rattle.version_cells.proofs.Keeping.{other_moves}
use Rattle.version_cells.proofs.Steps.{Holding, loaded, pass_no_baton}

-- what the rule says of the turns of a cell in a list that begins the history
below_word : (words : List ℕ) (views : List View) (seat : ℕ) (b : View) (c : ℕ) (seen : List Listing)
    → RuleAt words views seat b → 0 < c → c ≤ CELLS → StartsWith b.own.seen seen
    → turns c seen ≤ slice_index words c
below_word words views seat b c seen k low high s =
    let h : turns c seen ≤ turns c b.own.seen = starts_turns c b.own.seen seen s in
    let w : slice_index words c ≡ turns c b.own.seen + one (has c b.pending) = k.versions c low high in
    chain _ _ _ _ h w
  where
    chain : (a b c d : ℕ) → a ≤ b → c ≡ b + d → a ≤ c
    chain a b c d h w = omega arith

pub look_kept : (words : List ℕ) (views : List View) (seat : ℕ) (b : View) (id : ℕ) (v : View)
    (c : ℕ)
    → RuleAt words views seat b → At views id v → v.kind ≡ Pass → 0 < c → c ≤ CELLS
    → RuleAt words (set views id (after_look v c (slice_index words c))) seat b
look_kept words views seat b id v c k at kind low high =
    let old = k.remembered id v at in
    let all : take (length v.own.seen) v.own.seen ≡ v.own.seen = take_all (length v.own.seen) v.own.seen (omega arith) in
    let found : turns c v.own.seen ≤ slice_index words c = below_word words views seat b c v.own.seen k low high old.0.begins in
    other_moves words views seat b id v (after_look v c (slice_index words c)) k at (pass_no_baton v kind) (pass_no_baton v kind) (
      record {
        begins = old.0.begins;
        found = old.0.found;
        look = ((low, high), omega arith, subst (λ (l : List Listing). turns c l ≤ slice_index words c) (sym all) found, omega arith);
      },
      old.1,
    )
    (λ _. (v.looks, refl))
    (λ n. refl) (λ n. refl) (λ n. refl)

pub looks : (slots id : ℕ) (me : Me ℕ View) (c : ℕ) → me.0.kind ≡ Pass → me.1 ≡ [] → 0 < c
    → c ≤ CELLS
    → Allows {S = ℕ} {V = View} Holding slots id me c (λ n. n) (λ n after. (after ≡ (after_look me.0 c n, [])) × (turns c me.0.own.seen ≤ n))
looks slots id me c kind clean low high s r homes at fits =
    let k = r.2 in let n : ℕ = slice_index s.words c in (
      after_look me.0 c n,
      keeps,
      tt,
      loaded s.words (set s.views id (after_look me.0 c n)) c (r.0, r.1, look_kept s.words s.views r.0 r.1 id me.0 c k at kind low high),
      (ap (λ (l : List (ℕ × ℕ)). (after_look me.0 c n, l)) clean, below_word s.words s.views r.0 r.1 c me.0.own.seen k low high (k.remembered id me.0 at).0.begins),
    )
