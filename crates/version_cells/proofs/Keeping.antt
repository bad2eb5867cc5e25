-- The rule after one view changed.
use Rattle.std.proofs.Common.{◌≡◌, ◌≢◌, ◌<◌, ◌≤◌, ◌+◌, ℕ, zero, suc, List, [], ◌∷◌, length, set, refl, sym, ap, ◌∙◌, subst, arith}
use Rattle.std.specs.Prelude.{slice_index, nat_lt}
use mathlib.Core.Option.{some, some-injective}
use lib.ListN.{get_elem?}
use Rattle.atomic_table.proofs.Lists.{set_here, set_else}
use Rattle.version_cells.specs.declared.cells.TheConstants.{CELLS, WORDS, MOST_ENTRIES}
use Rattle.version_cells.specs.declared.view.Kind.TheVariants.{Baton, Pass}
use Rattle.version_cells.specs.declared.view.View.{View}
use Rattle.version_cells.specs.Listings.{one, has, turns, owned, StartsWith}
use Rattle.version_cells.specs.Views.{memories, At}
use Rattle.version_cells.specs.Held.{AllFit, RemembersLast}
use Rattle.version_cells.specs.Rule.{RuleAt, Rule, pass_count, permit_count, entry_count}
use Rattle.version_cells.proofs.Sums.{total-set, each_set, balance}
use Rattle.version_cells.proofs.Prefixes.{all_grow}

pub at_length : (views : List View) (i : ℕ) (v : View) → At views i v → i < length views
at_length [] i v e = absurd (cc)
at_length (x ∷ xs) zero v e = omega arith
at_length (x ∷ xs) (suc i) v e = let ih = at_length xs i v e in omega arith

-- the baton's seat is where a baton is seen
pub seated : (words : List ℕ) (views : List View) → Rule words views → (id : ℕ) (v : View)
    → At views id v → v.kind ≡ Baton → RuleAt words views id v
seated words views r id v at kind =
    let k = r.2 in
    let mine : id ≡ r.0 = k.only id v at kind in
    let there : get_elem? views id ≡ some r.1 = subst (λ (j : ℕ). get_elem? views j ≡ some r.1) (sym mine) k.at_seat in
    let same : r.1 ≡ v = some-injective r.1 v (sym there ∙ at) in
    subst (λ (b : View). RuleAt words views id b) same (subst (λ (j : ℕ). RuleAt words views j r.1) (sym mine) k)

-- the baton's view changed, and maybe the words
pub baton_moves : (words words' : List ℕ) (views : List View) (id : ℕ) (v w : View)
    → RuleAt words views id v
    → w.kind ≡ Baton → length words' ≡ WORDS → length w.own.seen ≤ MOST_ENTRIES
    → slice_index words' 0 ≡ length w.own.seen
    → ((c : ℕ) → 0 < c → c ≤ CELLS → slice_index words' c ≡ turns c w.own.seen + one (has c w.pending))
    → StartsWith w.own.seen v.own.seen → ((i : ℕ) → slice_index words i ≤ slice_index words' i)
    → AllFit words' w.own.seen (memories w) → w.next ≡ v.next
    → ((n : ℕ) → pass_count n w ≡ pass_count n v) → ((n : ℕ) → permit_count n w ≡ permit_count n v)
    → ((n : ℕ) → entry_count n w + owned n v.own.seen ≡ entry_count n v + owned n w.own.seen)
    → RuleAt words' (set views id w) id w
baton_moves words words' views id v w k kind size room counted versions grows up fit next passes_fit permits_fit entries_fit = record {
  at_seat = set_here views id w (at_length views id v k.at_seat);
  is_baton = kind;
  only = each_set (λ by (u : View). u.kind ≡ Baton → by ≡ id) views id w k.only (λ _. refl);
  size = size;
  room = room;
  counted = counted;
  versions = versions;
  remembered = each_set (λ by (u : View). AllFit words' w.own.seen (memories u)) views id w
      (λ by u at. all_grow words words' v.own.seen w.own.seen (memories u) grows up (k.remembered by u at)) fit;
  last = each_set (λ by (u : View). RemembersLast u) views id w k.last
      (λ e. let h : Baton ≡ Pass = sym kind ∙ e in cc);
  passes = λ n. balance _ _ _ _ _ _ (total-set (pass_count n) views id v w k.at_seat) (k.passes n)
      (ap (λ x. x + one (nat_lt n v.next)) (passes_fit n) ∙ ap (λ x. pass_count n v + one (nat_lt n x)) (sym next));
  permits = λ n. balance _ _ _ _ _ _ (total-set (permit_count n) views id v w k.at_seat) (k.permits n)
      (ap (λ x. x + one (nat_lt n v.next)) (permits_fit n) ∙ ap (λ x. permit_count n v + one (nat_lt n x)) (sym next));
  entries = λ n. balance _ _ _ _ _ _ (total-set (entry_count n) views id v w k.at_seat) (k.entries n) (entries_fit n);
}

pub level : (t u a b o : ℕ) → u + a ≡ t + b → b ≡ a → t ≡ o → u ≡ o
level t u a b o h e k = omega arith

-- the baton lies where it lay, since the other seat is not its own
pub other_there : (views : List View) (seat : ℕ) (b : View) (id : ℕ) (v w : View) → At views seat b
    → At views id v → v.kind ≢ Baton → b.kind ≡ Baton → At (set views id w) seat b
other_there views seat b id v w there at old kind =
    set_else views id seat w (λ e. old (ap (λ (u : View). u.kind) (some-injective v b (sym at ∙ ap (get_elem? views) (sym e) ∙ there)) ∙ kind)) ∙ there

-- another view changed, and no word
pub other_moves : (words : List ℕ) (views : List View) (seat : ℕ) (b : View) (id : ℕ) (v w : View)
    → RuleAt words views seat b
    → At views id v → v.kind ≢ Baton → w.kind ≢ Baton → AllFit words b.own.seen (memories w)
    → RemembersLast w
    → ((n : ℕ) → pass_count n w ≡ pass_count n v) → ((n : ℕ) → permit_count n w ≡ permit_count n v)
    → ((n : ℕ) → entry_count n w ≡ entry_count n v)
    → RuleAt words (set views id w) seat b
other_moves words views seat b id v w k at old new fit last passes_fit permits_fit entries_fit = record {
  at_seat = other_there views seat b id v w k.at_seat at old k.is_baton;
  is_baton = k.is_baton;
  only = each_set (λ by (u : View). u.kind ≡ Baton → by ≡ seat) views id w k.only (λ e. absurd (new e));
  size = k.size;
  room = k.room;
  counted = k.counted;
  versions = k.versions;
  remembered = each_set (λ by (u : View). AllFit words b.own.seen (memories u)) views id w k.remembered fit;
  last = each_set (λ by (u : View). RemembersLast u) views id w k.last last;
  passes = λ n. level _ _ _ _ _ (total-set (pass_count n) views id v w at) (passes_fit n) (k.passes n);
  permits = λ n. level _ _ _ _ _ (total-set (permit_count n) views id v w at) (permits_fit n) (k.permits n);
  entries = λ n. level _ _ _ _ _ (total-set (entry_count n) views id v w at) (entries_fit n) (k.entries n);
}
