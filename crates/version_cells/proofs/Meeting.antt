-- The steps of a lending and of a meeting, at seats whose views are known by equations.
use Rattle.std.proofs.Common.{◌≡◌, ◌≤◌, ◌+◌, ℕ, List, [], ◌∷◌, ◌++◌, length, Bool, false, refl, sym, ap, ◌∙◌, subst, arith, Option, Some, None, length-append, append-nil}
use Rattle.std.proofs.lemmas.List.{nil_from_length}
use Rattle.atomic_table.specs.Table.{Me, Joins}
use Rattle.version_cells.specs.declared.listing.Listing.{Listing}
use Rattle.version_cells.specs.declared.view.Memory.{Memory}
use Rattle.version_cells.specs.declared.view.Permit.{Permit}
use Rattle.version_cells.specs.declared.view.Kind.TheVariants.{Baton, Pass}
use Rattle.version_cells.specs.declared.view.View.{View}
use Rattle.version_cells.specs.Listings.{StartsWith, owned}
use Rattle.version_cells.specs.Views.{copy_with, spent_view, uses_of}
use Rattle.version_cells.specs.Moves.{without_permit, baton_copy_with_permit, pass_copy, baton_with_copy, pass_with_copy, after_front, longer, longest, MayTake, IsOwn, is_away_after}
use Rattle.version_cells.specs.Told.{pass_after_meet, baton_after_meet, Covers, CoversAll, FrontTells, ComesHome, Met}
use Rattle.version_cells.proofs.Steps.{Holding}
use Rattle.version_cells.proofs.Joining.{baton_takes, pass_takes}
use Rattle.version_cells.proofs.Prefixes.{longer_covers, longer_keeps, starts_length}

pub baton_takes_as : (id other : ℕ) (v : View) (w : Me ℕ View) (m : Memory) (p : Option Permit)
    → v.kind ≡ Baton → w ≡ (copy_with m p, []) → MayTake v.permit p
    → Joins {S = ℕ} {V = View} Holding id v other w.0 (baton_with_copy v w.0) spent_view
baton_takes_as id other v w m p kind is may = subst (λ (u : Me ℕ View). Joins {S = ℕ} {V = View} Holding id v other u.0 (baton_with_copy v u.0) spent_view) (sym is) (baton_takes id other v m p kind may)

pub pass_takes_as : (id other : ℕ) (v : View) (w : Me ℕ View) (m : Memory) (p : Option Permit)
    → v.kind ≡ Pass → w ≡ (copy_with m p, []) → IsOwn v.number p
    → Joins {S = ℕ} {V = View} Holding id v other w.0 (pass_with_copy v w.0) spent_view
pass_takes_as id other v w m p kind is own = subst (λ (u : Me ℕ View). Joins {S = ℕ} {V = View} Holding id v other u.0 (pass_with_copy v u.0) spent_view) (sym is) (pass_takes id other v m p kind own)

pub may_take_one : (p q : Option Permit) → p ≡ None → MayTake p q
may_take_one p q e = subst (λ (o : Option Permit). MayTake o q) (sym e) tt

pub own_home : (n : ℕ) (away : Bool) (p : Option Permit) → ComesHome n away p → IsOwn n p
own_home n away None h = tt
own_home n away (Some p) h = h

comes_home : (n : ℕ) (away : Bool) (p : Option Permit) → ComesHome n away p
    → is_away_after away p ≡ false
comes_home n away None h = h
comes_home n away (Some p) h = refl

longest_keeps : (seen : List Listing) (ms : List Memory) → length seen ≤ length (longest seen ms)
longest_keeps seen [] = omega arith
longest_keeps seen (m ∷ ms) = let a = longer_keeps seen m.seen in let b = longest_keeps (longer seen m.seen) ms in omega arith

longest_covers : (seen : List Listing) (m : Memory) (ms : List Memory)
    → length m.seen ≤ length (longest seen (m ∷ ms))
longest_covers seen m ms = let a = longer_covers seen m.seen in let b = longest_keeps (longer seen m.seen) ms in omega arith

-- a list that begins another as long as it is that list
whole : (a b : List Listing) → StartsWith a b → length a ≤ length b → a ≡ b
whole a b s h =
    let e = ap length s.1 ∙ length-append b s.0 in
    let none : s.0 ≡ [] = nil_from_length s.0 (omega arith) in
    s.1 ∙ ap (λ (l : List Listing). b ++ l) none ∙ append-nil b

-- the pass after the copy came in and the front step, with what it has seen and found, and whether its permit is away
abbrev with_memory : View → View → List Listing → ℕ → Bool → View
with_memory p b seen found away = record p {
  own = record { seen = seen; last = p.own.last; found = found };
  notes = (baton_copy_with_permit b).own ∷ p.notes;
  calls = p.calls + uses_of b.permit;
  away = away;
  fronts = p.fronts + 1;
}

-- What a meeting makes of pass and baton, and what it tells
pub record MeetingOf (p b q c : View) : Type 0 where
  pub pass : q ≡ pass_after_meet p b
  pub baton : c ≡ baton_after_meet b p
  pub met : Met p b

-- a pass took a copy of the baton in and read the number of entries
plain : (p b : View) (found : ℕ) → ComesHome p.number p.away b.permit
    → FrontTells (pass_with_copy p (baton_copy_with_permit b)) found
    → Covers b (after_front (pass_with_copy p (baton_copy_with_permit b)) found).own
    → (after_front (pass_with_copy p (baton_copy_with_permit b)) found ≡ pass_after_meet p b) × Met p b
plain p b found home f r =
    let seen : List Listing = longest p.own.seen ((baton_copy_with_permit b).own ∷ p.notes) in
    let covers : length b.own.seen ≤ length seen = longest_covers p.own.seen (baton_copy_with_permit b).own p.notes in
    let same : b.own.seen ≡ seen = whole b.own.seen seen r.0 covers in
    let lengths : length b.own.seen ≡ length seen = ap (λ (l : List Listing). length l) same in
    let most : found ≤ length b.own.seen = r.1 in
    let all : found ≡ length f.log = f.all in
    let least : length seen ≤ length f.log = starts_length f.log seen f.begins in
    let log : f.log ≡ seen = whole f.log seen f.begins (omega arith) in
    let away : is_away_after p.away b.permit ≡ false = comes_home p.number p.away b.permit home in
    let number : found ≡ length b.own.seen = omega arith in (
      ap (λ (l : List Listing). with_memory p b l found (is_away_after p.away b.permit)) (sym same)
          ∙ ap (λ n. with_memory p b b.own.seen n (is_away_after p.away b.permit)) number
          ∙ ap (λ a. with_memory p b b.own.seen (length b.own.seen) a) away,
      record {
        begins = subst (λ (l : List Listing). StartsWith l p.own.seen) (sym same) f.extends;
        owns = ap (λ (l : List Listing). owned p.number l) (same ∙ sym log) ∙ f.calls away;
        look = r.2;
      },
    )

pub meets : (p b p1 p2 b2 : View) (found : ℕ) → ComesHome p.number p.away b.permit
    → p1 ≡ pass_with_copy p (baton_copy_with_permit b) → p2 ≡ after_front p1 found
    → FrontTells p1 found
    → b2 ≡ baton_with_copy (without_permit b) (pass_copy p2) → CoversAll b2 b2.notes
    → MeetingOf p b p2 b2
meets p b p1 p2 b2 found home e1 e2 f e3 r =
    let is : p2 ≡ after_front (pass_with_copy p (baton_copy_with_permit b)) found = e2 ∙ ap (λ (u : View). after_front u found) e1 in
    let told : CoversAll (baton_with_copy (without_permit b) (pass_copy p2)) (p2.own ∷ b.notes) = subst (λ (u : View). CoversAll u u.notes) e3 r in
    let made = plain p b found home (subst (λ (u : View). FrontTells u found) e1 f) (subst (λ (q : View). Covers b q.own) is (told.0)) in
    record {
      pass = is ∙ made.0;
      baton = e3 ∙ ap (λ (q : View). baton_with_copy (without_permit b) (pass_copy q)) (is ∙ made.0);
      met = made.1;
    }
