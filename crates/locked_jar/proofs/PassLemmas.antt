-- What a pass knows after a meeting.
use Rattle.std.proofs.Common.{◌≡◌, ◌+◌, ℕ, List, [], ◌∷◌, ◌++◌, length, refl, sym, ap, ◌∙◌, subst, arith, eq-eqb, Option, Some, None, add-zero}
use Rattle.version_cells.specs.declared.listing.Listing.{Listing}
use Rattle.version_cells.specs.declared.view.Look.{Look}
use Rattle.version_cells.specs.declared.view.Permit.{Permit}
use Rattle.version_cells.specs.declared.view.View.{View}
use Rattle.version_cells.specs.Listings.{StartsWith, has, is_owner, one, owned, owner_of}
use Rattle.version_cells.specs.Moves.{after_commit, after_lending, either_permit, permit_after, with_permit_of}
use Rattle.version_cells.specs.Standing.{BatonStanding, PassStanding, baton_with_listing, baton_with_view, pass_with_answer, pass_with_view}
use Rattle.version_cells.specs.Told.{Covers, CoversLook, Met, pass_after_meet}
use Rattle.version_cells.specs.Views.{uses_of}
use Rattle.version_cells.proofs.Prefixes.{starts_trans}
use Rattle.version_cells.proofs.Sums.{total-append, total_push}
use Rattle.locked_jar.specs.Passes.{HasAdded, HasAnswered, HasMet, HasSeen, KnowsNoMore}

-- a look that a baton without pending cells covers
pub knows_no_more : (b : View) (look : Option Look) → b.pending ≡ [] → CoversLook b look → KnowsNoMore b.own.seen look
knows_no_more b None none covers = tt
knows_no_more b (Some s) none covers =
    let zero : one (has s.cell b.pending) ≡ 0 = ap (λ cells. one (has s.cell cells)) none in omega (arith, zero, covers)

no_uses : (c : ℕ) (o : Option Permit) → o ≡ None → c + uses_of o ≡ c
no_uses c o e = ap (λ (o : Option Permit). c + uses_of o) e ∙ add-zero c

-- a pass met a baton that held no permit
pub met_free : (p q : PassStanding) (b : View) → q ≡ pass_with_view p (pass_after_meet p.view b) → Met p.view b → b.permit ≡ None → HasMet b.own.seen p q
met_free p q b is met free = rw is (record {
  table = refl;
  number = refl;
  home = refl;
  seen = refl;
  found = refl;
  fronts = refl;
  begins = met.begins;
  looks = refl;
  last = refl;
})

pub seen_free : (p q : PassStanding) (b : View) → q ≡ pass_with_view p (pass_after_meet p.view b) → Met p.view b → b.permit ≡ None → b.pending ≡ []
    → HasSeen b.own.seen p q
seen_free p q b is met free cells = record {
  met = met_free p q b is met free;
  front = ap (λ (s : PassStanding). s.front) is;
  calls = ap (λ (s : PassStanding). s.view.calls) is ∙ no_uses p.view.calls b.permit free;
  owns = met.owns ∙ no_uses p.view.calls b.permit free;
  look = knows_no_more b p.view.own.last cells met.look;
}

-- ---- an entry that the pass owns

one_use : (b p : View) (e : Listing) → b.permit ≡ None → owner_of e ≡ Some p.number → uses_of (after_commit (with_permit_of b p) e).permit ≡ 1
one_use b p e free own =
    let lent : either_permit b.permit (Some (record { number = p.number; uses = 0 })) ≡ Some (record { number = p.number; uses = 0 }) =
    ap (λ o. either_permit o (Some (record { number = p.number; uses = 0 }))) free in
    ap (λ o. uses_of (permit_after o (either_permit b.permit (Some (record { number = p.number; uses = 0 }))))) own
    ∙ ap (λ o. uses_of (permit_after (Some p.number) o)) lent

-- before an entry of its own, the pass owned one fewer
pub own_before : (n calls : ℕ) (before history : List Listing) (e : Listing) → history ≡ before ++ e ∷ [] → owner_of e ≡ Some n
    → owned n history ≡ calls + 1 → owned n before ≡ calls
own_before n calls before history e is own all =
    count _ _ _ _ (ap (owned n) is ∙ total_push (λ (l : Listing). one (is_owner n (owner_of l))) before e)
    (ap (λ (o : Option ℕ). one (is_owner n o)) own ∙ ap one (eq-eqb n n refl)) all
  where
    count : (a b c d : ℕ) → a ≡ b + c → c ≡ 1 → a ≡ d + 1 → b ≡ d
    count a b c d h i j = omega arith

-- a history that starts with another, and has no more entries of an owner, goes on with none of them
pub none_since : (n : ℕ) (history first : List Listing) → StartsWith history first → owned n history ≡ owned n first
    → (rest : List Listing) × (history ≡ first ++ rest) × (owned n rest ≡ 0)
none_since n history first starts same = (
  starts.0,
  starts.1,
  zero (owned n first) (owned n starts.0) (owned n history)
      (ap (owned n) starts.1 ∙ total-append (λ (l : Listing). one (is_owner n (owner_of l))) first starts.0) same,
)
  where
    zero : (a b c : ℕ) → c ≡ a + b → c ≡ a → b ≡ 0
    zero a b c h i = omega arith

-- what a pass p lent its permit for, and what then became of baton and pass: the steps of an entry that it owns
pub record Steps (p lent met : PassStanding) (b with committed : BatonStanding) (e : Listing) : Type 0 where
  pub lends : lent ≡ pass_with_view p (after_lending p.view)
  pub takes : with ≡ baton_with_view b (with_permit_of b.view p.view)
  pub covers : Covers b.view p.view.own
  pub commits : committed ≡ baton_with_listing with e
  pub owner : owner_of e ≡ Some p.view.number
  pub meets : met ≡ pass_with_view lent (pass_after_meet lent.view committed.view)
  pub told : Met lent.view committed.view
  pub no_cell : b.view.pending ≡ []
  pub no_permit : b.view.permit ≡ None

module _ (p lent met : PassStanding) (b with committed : BatonStanding) (e : Listing) (s : Steps p lent met b with committed e) where
  view_is : committed.view ≡ after_commit (with_permit_of b.view p.view) e
  view_is = ap (λ (u : BatonStanding). u.view) s.commits ∙ ap (λ (u : BatonStanding). after_commit u.view e) s.takes

  seen_is : committed.view.own.seen ≡ b.view.own.seen ++ e ∷ []
  seen_is = ap (λ (v : View). v.own.seen) view_is

  used : uses_of committed.view.permit ≡ 1
  used = ap (λ (v : View). uses_of v.permit) view_is ∙ one_use b.view p.view e s.no_permit s.owner

  met_is : met ≡ pass_with_view p (pass_after_meet (after_lending p.view) committed.view)
  met_is = s.meets ∙ ap (λ (u : PassStanding). pass_with_view u (pass_after_meet u.view committed.view)) s.lends

  pub has_met : HasMet (b.view.own.seen ++ e ∷ []) p met
  has_met = record {
    table = ap (λ (u : PassStanding). u.table) met_is;
    number = ap (λ (u : PassStanding). u.view.number) met_is;
    home = ap (λ (u : PassStanding). u.view.away) met_is;
    seen = ap (λ (u : PassStanding). u.view.own.seen) met_is ∙ seen_is;
    found = ap (λ (u : PassStanding). u.view.own.found) met_is ∙ ap length seen_is;
    fronts = ap (λ (u : PassStanding). u.view.fronts) met_is;
    begins = subst (λ (u : PassStanding). StartsWith (b.view.own.seen ++ e ∷ []) u.view.own.seen) s.lends
        (subst (λ h. StartsWith h lent.view.own.seen) seen_is s.told.begins);
    looks = ap (λ (u : PassStanding). u.view.looks) met_is;
    last = ap (λ (u : PassStanding). u.view.own.last) met_is;
  }

  pub calls_rise : met.view.calls ≡ p.view.calls + 1
  calls_rise = ap (λ (u : PassStanding). u.view.calls) met_is ∙ ap (λ n. p.view.calls + n) used

  pub owns_all : owned p.view.number (b.view.own.seen ++ e ∷ []) ≡ p.view.calls + 1
  owns_all =
      ap (owned p.view.number) (sym seen_is)
      ∙ (ap (λ (u : PassStanding). owned u.view.number committed.view.own.seen) (sym s.lends)
      ∙ (s.told.owns ∙ (ap (λ (u : PassStanding). u.view.calls + uses_of committed.view.permit) s.lends ∙ ap (λ n. p.view.calls + n) used)))

  pub owned_before : owned p.view.number b.view.own.seen ≡ p.view.calls
  owned_before = own_before p.view.number p.view.calls b.view.own.seen (b.view.own.seen ++ e ∷ []) e refl s.owner owns_all

  pub front_stays : met.front ≡ p.front
  front_stays = ap (λ (u : PassStanding). u.front) met_is

-- an entry that the pass owns, and that is no answer
pub added_by : (p lent met : PassStanding) (b with committed : BatonStanding) (e : Listing) → Steps p lent met b with committed e
    → HasAdded b.view.own.seen e p met
added_by p lent met b with committed e s = record {
  met = has_met p lent met b with committed e s;
  front = front_stays p lent met b with committed e s;
  begins = s.covers.0;
  owned_before = owned_before p lent met b with committed e s;
  calls = calls_rise p lent met b with committed e s;
  owns = owns_all p lent met b with committed e s ∙ sym (calls_rise p lent met b with committed e s);
}

-- an entry that answers a call of the pass, each of whose calls was answered before
pub answered_by : (p lent met : PassStanding) (b with committed : BatonStanding) (e : Listing) (q : PassStanding) → Steps p lent met b with committed e
    → q ≡ pass_with_answer met → StartsWith p.view.own.seen p.front → owned p.view.number p.front ≡ p.view.calls
    → HasAnswered b.view.own.seen e p q
answered_by p lent met b with committed e q s is begins ready =
    let m = has_met p lent met b with committed e s in
    let calls = calls_rise p lent met b with committed e s in
    let since = none_since p.view.number b.view.own.seen p.front (starts_trans b.view.own.seen p.view.own.seen p.front s.covers.0 begins)
    (owned_before p lent met b with committed e s ∙ sym ready) in
    record {
      met = rw is (record {
        table = m.table;
        number = m.number;
        home = m.home;
        seen = m.seen;
        found = m.found;
        fronts = m.fronts;
        begins = m.begins;
        looks = m.looks;
        last = m.last;
      });
      front = ap (λ (u : PassStanding). u.front) is ∙ m.seen;
      begins = s.covers.0;
      between = since.0;
      since = since.1;
      none_of_own = since.2;
      calls = ap (λ (u : PassStanding). u.view.calls) is ∙ calls;
      owns = owns_all p lent met b with committed e s ∙ sym (ap (λ (u : PassStanding). u.view.calls) is ∙ calls);
      look = knows_no_more b.view p.view.own.last s.no_cell s.covers.2;
    }
