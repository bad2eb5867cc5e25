-- A bump keeps the rule.
use Rattle.std.proofs.Common.{◌≡◌, ◌≢◌, ◌<◌, ◌≤◌, ◌+◌, ◌%◌, ◌^◌, ◌||◌, ℕ, List, [], ◌∷◌, length, set, false, refl, sym, ap, ◌∙◌, subst, ⊎_elim, arith, eq-eqb, ne_eqb, add-zero}
use Rattle.std.specs.Prelude.{slice_index}
use Rattle.std.proofs.lemmas.Bool.{cases_eq}
use Rattle.atomic_table.specs.Table.{Me, Allows, keeps}
use Rattle.version_cells.specs.declared.cells.TheConstants.{CELLS, MOST_ENTRIES}
use Rattle.version_cells.specs.declared.listing.Listing.{Listing}
use Rattle.version_cells.specs.declared.view.Kind.TheVariants.{Baton}
use Rattle.version_cells.specs.declared.view.View.{View}
use Rattle.version_cells.specs.Listings.{one, has, cells_of, turns}
use Rattle.version_cells.specs.Views.{memories}
use Rattle.version_cells.specs.Moves.{after_bump}
use Rattle.version_cells.specs.Rule.{RuleAt}
use Rattle.version_cells.proofs.Sums.{total_of_ones, here, elsewhere, risen, sized}
use Rattle.version_cells.proofs.Prefixes.{starts_itself, all_grow}
use Rattle.version_cells.proofs.Keeping.{seated, baton_moves}
use Rattle.version_cells.proofs.Steps.{Holding, counted_up}

turns_le : (c : ℕ) (log : List Listing) → turns c log ≤ length log
turns_le c log = total_of_ones (λ (e : Listing). has c (cells_of e)) log

-- the word of a cell, and one more once it is bumped
pub fresh_word : (words : List ℕ) (views : List View) (id : ℕ) (v : View) (c : ℕ)
    → RuleAt words views id v → 0 < c → c ≤ CELLS → has c v.pending ≡ false
    → (slice_index words c ≡ turns c v.own.seen) × ((slice_index words c + 1) % 2 ^ 64 ≡ turns c v.own.seen + 1)
fresh_word words views id v c k low high fresh =
    let w = k.versions c low high in
    let none : one (has c v.pending) ≡ 0 = ap one fresh in
    let is : slice_index words c ≡ turns c v.own.seen = w ∙ ap (λ n. turns c v.own.seen + n) none ∙ add-zero (turns c v.own.seen) in
    let few : turns c v.own.seen ≤ length v.own.seen = turns_le c v.own.seen in
    let room = k.room in
    (is, ap (λ n. (n + 1) % 2 ^ 64) is ∙ counted_up (turns c v.own.seen) (below _ _ few room))
  where
    below : (a b : ℕ) → a ≤ b → b ≤ MOST_ENTRIES → a ≤ MOST_ENTRIES
    below a b h l = omega arith

bumped_words : (words : List ℕ) (views : List View) (id : ℕ) (v : View) (c new : ℕ)
    → RuleAt words views id v → 0 < c → c ≤ CELLS → has c v.pending ≡ false
    → new ≡ turns c v.own.seen + 1
    → (d : ℕ) → 0 < d → d ≤ CELLS
    → slice_index (set words c new) d ≡ turns d v.own.seen + one (has d (c ∷ v.pending))
bumped_words words views id v c new k low high fresh is d dlow dhigh = ⊎_elim
    (λ (e : d ≡ c). subst (λ x. slice_index (set words c new) x ≡ turns x v.own.seen + one (has x (c ∷ v.pending))) (sym e)
    (here words c new (let z = k.size in omega arith) ∙ is ∙ ap (λ b. turns c v.own.seen + one (b || has c v.pending)) (sym (eq-eqb c c refl))))
    (λ (n : d ≢ c). elsewhere words c d new n ∙ k.versions d dlow dhigh
    ∙ ap (λ b. turns d v.own.seen + one (b || has d v.pending)) (sym (ne_eqb c d (λ e. n (sym e)))))
    (cases_eq d c)

pub bump_kept : (words : List ℕ) (views : List View) (id : ℕ) (v : View) (c : ℕ)
    → RuleAt words views id v → 0 < c → c ≤ CELLS → has c v.pending ≡ false
    → RuleAt (set words c ((slice_index words c + 1) % 2 ^ 64)) (set views id (after_bump v c)) id (after_bump v c)
bump_kept words views id v c k low high fresh =
    let new : ℕ = (slice_index words c + 1) % 2 ^ 64 in
    let f = fresh_word words views id v c k low high fresh in
    let up : (i : ℕ) → slice_index words i ≤ slice_index (set words c new) i = risen words c new (let a = f.0 in let b = f.1 in omega arith) in
    baton_moves words (set words c new) views id v (after_bump v c) k
    k.is_baton (sized words c new ∙ k.size) k.room (elsewhere words c 0 new (λ e. omega arith) ∙ k.counted)
    (bumped_words words views id v c new k low high fresh f.1)
    (starts_itself v.own.seen) up
    (all_grow words (set words c new) v.own.seen v.own.seen (memories v) (starts_itself v.own.seen) up (k.remembered id v k.at_seat))
    refl (λ n. refl) (λ n. refl) (λ n. refl)

pub bumps : (slots id : ℕ) (me : Me ℕ View) (c : ℕ) → me.0.kind ≡ Baton → me.1 ≡ [] → 0 < c
    → c ≤ CELLS → has c me.0.pending ≡ false
    → Allows {S = ℕ} {V = View} Holding slots id me c (λ n. (n + 1) % 2 ^ 64) (λ n after. after ≡ (after_bump me.0 c, []))
bumps slots id me c kind clean low high fresh s r homes at fits = (
  after_bump me.0 c,
  keeps,
  tt,
  (id, after_bump me.0 c, bump_kept s.words s.views id me.0 c (seated s.words s.views r id me.0 at kind) low high fresh),
  ap (λ (l : List (ℕ × ℕ)). (after_bump me.0 c, l)) clean,
)
