-- A commit keeps the rule.
use Rattle.std.proofs.Common.{◌≡◌, ◌<◌, ◌≤◌, ◌+◌, ◌%◌, ◌^◌, ℕ, List, [], ◌∷◌, ◌++◌, length, set, Bool, true, false, cond, refl, sym, ap, ◌∙◌, subst, arith, Option, Some, None, length-append, add-zero}
use Rattle.std.specs.Prelude.{slice_index, ◌==◌}
use Rattle.atomic_table.specs.Table.{Me, Allows, keeps}
use Rattle.version_cells.specs.declared.cells.TheConstants.{CELLS, MOST_ENTRIES}
use Rattle.version_cells.specs.declared.listing.Listing.{Listing}
use Rattle.version_cells.specs.declared.view.Permit.{Permit}
use Rattle.version_cells.specs.declared.view.Kind.TheVariants.{Baton}
use Rattle.version_cells.specs.declared.view.View.{View}
use Rattle.version_cells.specs.Listings.{one, has, cells_of, owner_of, is_owner, turns, StartsWith}
use Rattle.version_cells.specs.Views.{is_permit_of, uses_of}
use Rattle.version_cells.specs.Moves.{MayCommit, permit_after, IsAllowed, after_commit}
use Rattle.version_cells.specs.Rule.{RuleAt, pass_count}
use Rattle.version_cells.proofs.Sums.{total_push, here, elsewhere, risen, sized}
use Rattle.version_cells.proofs.Prefixes.{starts_itself, all_grow, look_grows}
use Rattle.version_cells.proofs.Keeping.{seated, baton_moves}
use Rattle.version_cells.proofs.Steps.{Holding, counted_up}

-- a use is counted where the entry has an owner
used_permits : (o : Option ℕ) (p : Option Permit) (n : ℕ)
    → is_permit_of n (permit_after o p) ≡ is_permit_of n p
used_permits None p n = refl
used_permits (Some m) None n = refl
used_permits (Some m) (Some p) n = refl

cond_more : (b : Bool) (x : ℕ) → cond b (x + 1) 0 ≡ cond b x 0 + one b
cond_more true x = refl
cond_more false x = refl

used_account : (o : Option ℕ) (p : Option Permit) (n : ℕ) → IsAllowed o p
    → cond (is_permit_of n (permit_after o p)) (uses_of (permit_after o p)) 0 ≡ cond (is_permit_of n p) (uses_of p) 0 + one (is_owner n o)
used_account None p n h = sym (add-zero _)
used_account (Some m) None n h = absurd h
used_account (Some m) (Some p) n h = cond_more (p.number == n) p.uses ∙ ap (λ x. cond (p.number == n) p.uses 0 + one (x == n)) h

committed_words : (words : List ℕ) (views : List View) (id : ℕ) (v : View) (e : Listing) (new : ℕ)
    → RuleAt words views id v → ((c : ℕ) → has c v.pending ≡ has c (cells_of e))
    → (d : ℕ) → 0 < d → d ≤ CELLS
    → slice_index (set words 0 new) d ≡ turns d (v.own.seen ++ e ∷ []) + 0
committed_words words views id v e new k just d low high =
    elsewhere words 0 d new (λ x. omega arith) ∙ k.versions d low high ∙ ap (λ b. turns d v.own.seen + one b) (just d)
    ∙ sym (total_push (λ (x : Listing). one (has d (cells_of x))) v.own.seen e) ∙ sym (add-zero _)

shuffle : (a b c o u x : ℕ) → b ≡ c + x → u ≡ o + x → a + b + o ≡ a + c + u
shuffle a b c o u x h e = omega arith

pub commit_kept : (words : List ℕ) (views : List View) (id : ℕ) (v : View) (e : Listing)
    → RuleAt words views id v → MayCommit v e
    → RuleAt (set words 0 ((slice_index words 0 + 1) % 2 ^ 64)) (set views id (after_commit v e)) id (after_commit v e)
commit_kept words views id v e k may =
    let new : ℕ = (slice_index words 0 + 1) % 2 ^ 64 in
    let w : View = after_commit v e in
    let long : length (v.own.seen ++ e ∷ []) ≡ length v.own.seen + 1 = length-append v.own.seen (e ∷ []) in
    let value : new ≡ length v.own.seen + 1 = ap (λ n. (n + 1) % 2 ^ 64) k.counted ∙ counted_up (length v.own.seen) k.room in
    let up : (i : ℕ) → slice_index words i ≤ slice_index (set words 0 new) i = risen words 0 new (let a = k.counted in omega arith) in
    let grows : StartsWith (v.own.seen ++ e ∷ []) v.own.seen = (e ∷ [], refl) in
    let old = k.remembered id v k.at_seat in
    baton_moves words (set words 0 new) views id v w k
    k.is_baton (sized words 0 new ∙ k.size) (subst (λ n. n ≤ MOST_ENTRIES) (sym long) (room (length v.own.seen) may.3))
    (here words 0 new (let z = k.size in omega arith) ∙ value ∙ sym long)
    (committed_words words views id v e new k may.0)
    grows up (
      record {
        begins = starts_itself (v.own.seen ++ e ∷ []);
        found = (let f = old.0.found in let l = long in omega arith);
        look = look_grows words (set words 0 new) v.own.seen (v.own.seen ++ e ∷ []) v.own.last grows up old.0.look;
      },
      all_grow words (set words 0 new) v.own.seen (v.own.seen ++ e ∷ []) v.notes grows up old.1,
    )
    refl (λ n. refl)
    (λ n. ap (λ b. cond v.away 0 (pass_count n v) + one b) (used_permits (owner_of e) v.permit n))
    (λ n. shuffle _ _ _ _ _ _ (used_account (owner_of e) v.permit n may.2) (total_push (λ (x : Listing). one (is_owner n (owner_of x))) v.own.seen e))
  where
    room : (a : ℕ) → a < MOST_ENTRIES → a + 1 ≤ MOST_ENTRIES
    room a h = omega arith

pub commits : (e : Listing) (slots id : ℕ) (me : Me ℕ View) → me.0.kind ≡ Baton → me.1 ≡ []
    → MayCommit me.0 e
    → Allows {S = ℕ} {V = View} Holding slots id me 0 (λ n. (n + 1) % 2 ^ 64) (λ n after. after ≡ (after_commit me.0 e, []))
commits e slots id me kind clean may s r homes at fits = (
  after_commit me.0 e,
  keeps,
  tt,
  (id, after_commit me.0 e, commit_kept s.words s.views id me.0 e (seated s.words s.views r id me.0 at kind) may),
  ap (λ (l : List (ℕ × ℕ)). (after_commit me.0 e, l)) clean,
)
