-- A load of the number of entries keeps the rule, and what it tells.
use Rattle.std.proofs.Common.{◌≡◌, ◌≢◌, ◌≤◌, ◌+◌, ◌&&◌, ℕ, List, [], ◌∷◌, length, set, Bool, true, false, cond, refl, sym, ap, ◌∙◌, subst, arith, Option, Some, None, eq-eqb, add-zero}
use Rattle.std.specs.Prelude.{slice_index, nat_lt, ◌==◌}
use Rattle.atomic_table.specs.Table.{Me, Allows, keeps}
use Rattle.atomic_table.proofs.Lists.{set_again}
use Rattle.version_cells.specs.declared.listing.Listing.{Listing}
use Rattle.version_cells.specs.declared.view.Look.{Look}
use Rattle.version_cells.specs.declared.view.Memory.{Memory}
use Rattle.version_cells.specs.declared.view.Kind.TheVariants.{Baton, Pass}
use Rattle.version_cells.specs.declared.view.View.{View}
use Rattle.version_cells.specs.Listings.{one, owned}
use Rattle.version_cells.specs.Views.{is_pass, is_permit_of, uses_of, is_pass_of, At}
use Rattle.version_cells.specs.Moves.{longest, after_front}
use Rattle.version_cells.specs.Held.{LookFits, AllFit}
use Rattle.version_cells.specs.Rule.{RuleAt, Rule, pass_count, permit_count, entry_count}
use Rattle.version_cells.specs.Told.{CoversLook, CoversAll, FrontTells}
use Rattle.version_cells.proofs.Sums.{total_at, two_at, alone}
use Rattle.version_cells.proofs.Prefixes.{longest_begins, longest_extends, look_grows}
use Rattle.version_cells.proofs.Keeping.{seated, other_moves}
use Rattle.version_cells.proofs.Steps.{Holding, loaded, pass_no_baton}

pub front_kept : (words : List ℕ) (views : List View) (seat : ℕ) (b : View) (id : ℕ) (v : View)
    → RuleAt words views seat b → At views id v → v.kind ≡ Pass
    → RuleAt words (set views id (after_front v (slice_index words 0))) seat b
front_kept words views seat b id v k at kind =
    let old = k.remembered id v at in
    let log : List Listing = b.own.seen in
    other_moves words views seat b id v (after_front v (slice_index words 0)) k at (pass_no_baton v kind) (pass_no_baton v kind) (
      record {
        begins = longest_begins words log v.own.seen v.notes old.0.begins old.1;
        found = (let c = k.counted in omega arith);
        look = look_grows words words v.own.seen (longest v.own.seen v.notes) v.own.last (longest_extends words log v.own.seen v.notes old.0.begins old.1) (λ i. omega arith) old.0.look;
      },
      old.1,
    )
    (k.last id v at)
    (λ n. refl) (λ n. refl) (λ n. refl)

-- where the permit of a pass is at home, its calls are all entries that it owns
pub calls_at_home : (words : List ℕ) (views : List View) (seat : ℕ) (b : View) (id : ℕ) (v : View)
    → RuleAt words views seat b → At views id v → v.kind ≡ Pass → v.away ≡ false
    → owned v.number b.own.seen ≡ v.calls
calls_at_home words views seat b id v k at kind home = sym (k.entries n) ∙ alone (entry_count n) views id v at others ∙ mine
  where
    n : ℕ
    n = v.number

    is_mine : is_pass_of n v ≡ true
    is_mine = ap (λ t. is_pass t && (v.number == n)) kind ∙ eq-eqb v.number n refl

    few : (b : Bool) → one b ≤ 1
    few true = omega arith
    few false = omega arith

    least : (a p t c : ℕ) → a ≡ 1 + p → a ≤ t → t ≡ c → c ≤ 1 → p ≡ 0
    least a p t c h i j l = omega arith

    own_permit : permit_count n v ≡ 1 + one (is_permit_of n v.permit)
    own_permit = ap (λ t. cond t 0 (pass_count n v) + one (is_permit_of n v.permit)) home ∙ ap (λ t. one t + one (is_permit_of n v.permit)) is_mine

    no_permit : one (is_permit_of n v.permit) ≡ 0
    no_permit = least _ _ _ _ own_permit (total_at (permit_count n) views id v at) (k.permits n) (few (nat_lt n b.next))

    zero_one : (b : Bool) → one b ≡ 0 → b ≡ false
    zero_one true h = absurd (omega arith)
    zero_one false h = refl

    mine : entry_count n v ≡ v.calls
    mine = ap (λ t. cond t v.calls 0 + cond (is_permit_of n v.permit) (uses_of v.permit) 0) is_mine
        ∙ ap (λ t. v.calls + cond t (uses_of v.permit) 0) (zero_one (is_permit_of n v.permit) no_permit) ∙ add-zero v.calls

    nothing_else : (a p q t c : ℕ) → a + q ≤ t → 1 ≤ a → t ≡ c → c ≤ 1 → q ≡ 0
    nothing_else a p q t c h i j l = omega arith

    others : (other : ℕ) (w : View) → other ≢ id → At views other w → entry_count n w ≡ 0
    others other w apart there =
        let p : pass_count n w ≡ 0 = nothing_else _ 0 _ _ _ (two_at (pass_count n) views id other v w at there apart) (subst (λ t. 1 ≤ one t) (sym is_mine) (omega arith)) (k.passes n) (few (nat_lt n b.next)) in
        let q : permit_count n w ≡ 0 = nothing_else _ 0 _ _ _ (two_at (permit_count n) views id other v w at there apart) (subst (λ t. 1 ≤ t) (sym own_permit) (omega arith)) (k.permits n) (few (nat_lt n b.next)) in
        let r : one (is_permit_of n w.permit) ≡ 0 = second _ _ q in
        ap (λ t. cond t w.calls 0 + cond (is_permit_of n w.permit) (uses_of w.permit) 0) (zero_one (is_pass_of n w) p)
        ∙ ap (λ t. 0 + cond t (uses_of w.permit) 0) (zero_one (is_permit_of n w.permit) r)
      where
        second : (x y : ℕ) → x + y ≡ 0 → y ≡ 0
        second x y h = omega arith

pub fronts : (slots id : ℕ) (me : Me ℕ View) → me.0.kind ≡ Pass → me.1 ≡ []
    → Allows {S = ℕ} {V = View} Holding slots id me 0 (λ n. n) (λ n after. (after ≡ (after_front me.0 n, [])) × FrontTells me.0 n)
fronts slots id me kind clean s r homes at fits =
    let k = r.2 in let n : ℕ = slice_index s.words 0 in
    let old = k.remembered id me.0 at in (
      after_front me.0 n,
      keeps,
      tt,
      loaded s.words (set s.views id (after_front me.0 n)) 0 (r.0, r.1, front_kept s.words s.views r.0 r.1 id me.0 k at kind),
      (
        ap (λ (l : List (ℕ × ℕ)). (after_front me.0 n, l)) clean,
        record {
          log = r.1.own.seen;
          begins = longest_begins s.words r.1.own.seen me.0.own.seen me.0.notes old.0.begins old.1;
          extends = longest_extends s.words r.1.own.seen me.0.own.seen me.0.notes old.0.begins old.1;
          all = k.counted;
          calls = calls_at_home s.words s.views r.0 r.1 id me.0 k at kind;
        },
      ),
    )

covers_all : (words : List ℕ) (views : List View) (id : ℕ) (b : View) (ms : List Memory)
    → RuleAt words views id b → AllFit words b.own.seen ms → CoversAll b ms
covers_all words views id b [] k h = tt
covers_all words views id b (m ∷ ms) k h = ((h.0.begins, h.0.found, of_look m.seen m.last h.0.look), covers_all words views id b ms k h.1)
  where
    of_look : (seen : List Listing) (o : Option Look) → LookFits words seen o → CoversLook b o
    of_look seen None f = tt
    of_look seen (Some l) f = subst (λ n. l.number ≤ n) (k.versions l.cell f.0.0 f.0.1) f.3

pub baton_counts : (slots id : ℕ) (me : Me ℕ View) → me.0.kind ≡ Baton → me.1 ≡ []
    → Allows {S = ℕ} {V = View} Holding slots id me 0 (λ n. n) (λ n after. (after ≡ (me.0, [])) × (n ≡ length me.0.own.seen) × CoversAll me.0 me.0.notes)
baton_counts slots id me kind clean s r homes at fits =
    let k = seated s.words s.views r id me.0 at kind in (
      me.0,
      keeps,
      tt,
      loaded s.words (set s.views id me.0) 0 (subst (λ (l : List View). Rule s.words l) (sym (set_again s.views id me.0 at)) r),
      (ap (λ (l : List (ℕ × ℕ)). (me.0, l)) clean, k.counted, covers_all s.words s.views id me.0 me.0.notes k (k.remembered id me.0 at).1),
    )
