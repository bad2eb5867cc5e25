use Rattle.std.proofs.Common.{◌≡◌, ◌-◌, ◌^◌, ℕ, List, length, min, take, sym, ap, ap₂, ◌∙◌, arith, subst}
use Rattle.atomic_table.specs.Seated.{TableId}
use Rattle.atomic_table.specs.Table.{Me}
use Rattle.version_cells.specs.declared.listing.Listing.{Listing}
use Rattle.version_cells.specs.declared.view.View.{View}
use Rattle.version_cells.specs.Moves.{without_permit, pass_copy, baton_with_copy, pass_with_copy}
use Rattle.version_cells.specs.Standing.{BatonStanding, PassStanding, baton_with_view, pass_with_view}
use Rattle.version_cells.specs.Told.{ComesHome, pass_after_meet, baton_after_meet, Met}
use Rattle.version_cells.specs.Answered.{IsFront}
use Rattle.version_cells.proofs.Prefixes.{starts_length, begun_take}
use Rattle.version_cells.proofs.Fronting.{fronts}
use Rattle.version_cells.proofs.Cuts.{gives_permit, copies_pass}
use Rattle.version_cells.proofs.Meeting.{baton_takes_as, pass_takes_as, may_take_one, own_home, MeetingOf, meets}
use Rattle.version_cells.proofs.cells.Cells.meet.Goals as goal

pub split_seat-copy-requires : goal.split_seat-copy-requires
split_seat-copy-requires c = (
  ap (λ (s : BatonStanding). s.table) c.baton.view_is ∙ c.requires.same.1 ∙ sym c.self.view_is,
  (let w = c.self.invariant in omega arith),
  gives_permit _ _ c.baton.invariant.0,
)

pub join_seat-requires : goal.join_seat-requires
join_seat-requires c = (
  ap (λ (s : PassStanding). s.table) c.pass.view_is ∙ c.requires.same.0 ∙ sym c.self.view_is,
  c.split_seat-copy.ensures.3 ∙ ap (λ (s : BatonStanding). s.table) c.baton.view_is ∙ c.requires.same.1 ∙ sym c.self.view_is,
  ap (λ (m : Me ℕ View). m.1) c.split_seat-copy.ensures.4,
  (let w = c.self.invariant in omega arith),
  pass_takes_as _ _ _ _ _ _ c.pass.invariant.1.is_pass c.split_seat-copy.ensures.4
      (own_home _ _ _ (subst (λ (s : PassStanding). ComesHome s.view.number s.view.away c.baton.inside.seat.me.0.permit) (sym c.pass.view_is)
      (subst (λ (s : BatonStanding). ComesHome c.args.pass.now.view.number c.args.pass.now.view.away s.view.permit) (sym c.baton.view_is) c.requires.home))),
)

pub load-found-requires : goal.load-found-requires
load-found-requires c = (
  c.join_seat.ensures.0 ∙ ap (λ (s : PassStanding). s.table) c.pass.view_is ∙ c.requires.same.0 ∙ sym c.self.view_is,
  (let w = c.self.invariant in omega arith),
  fronts _ _ _ (ap (λ (m : Me ℕ View). m.0.kind) c.join_seat.ensures.2 ∙ c.pass.invariant.1.is_pass) (ap (λ (m : Me ℕ View). m.1) c.join_seat.ensures.2 ∙ c.pass.invariant.0),
)

pub split_seat-note-requires : goal.split_seat-note-requires
split_seat-note-requires c = (
  c.load-found.ensures.0 ∙ c.join_seat.ensures.0 ∙ ap (λ (s : PassStanding). s.table) c.pass.view_is ∙ c.requires.same.0 ∙ sym c.self.view_is,
  (let w = c.self.invariant in omega arith),
  copies_pass _ _ (ap (λ (m : Me ℕ View). m.0.kind) c.load-found.ensures.2.0 ∙ ap (λ (m : Me ℕ View). m.0.kind) c.join_seat.ensures.2 ∙ c.pass.invariant.1.is_pass),
)

pub join_seat-requires-2 : goal.join_seat-requires-2
join_seat-requires-2 c = (
  c.split_seat-copy.ensures.0 ∙ ap (λ (s : BatonStanding). s.table) c.baton.view_is ∙ c.requires.same.1 ∙ sym c.self.view_is,
  c.split_seat-note.ensures.3 ∙ c.load-found.ensures.0 ∙ c.join_seat.ensures.0 ∙ ap (λ (s : PassStanding). s.table) c.pass.view_is ∙ c.requires.same.0 ∙ sym c.self.view_is,
  ap (λ (m : Me ℕ View). m.1) c.split_seat-note.ensures.4,
  (let w = c.self.invariant in omega arith),
  baton_takes_as _ _ _ _ _ _ (ap (λ (m : Me ℕ View). m.0.kind) c.split_seat-copy.ensures.2 ∙ c.baton.invariant.0) c.split_seat-note.ensures.4
      (may_take_one _ _ (ap (λ (m : Me ℕ View). m.0.permit) c.split_seat-copy.ensures.2)),
)

-- pass and baton after the meeting
meeting : (c : goal.After-count)
    → MeetingOf c.pass.inside.seat.me.0 c.baton.inside.seat.me.0 c.split_seat-note.new.seat.me.0
    c.join_seat-2.new.seat.me.0
meeting c =
    let p : View = c.pass.inside.seat.me.0 in let b : View = c.baton.inside.seat.me.0 in
    let front_of = ap (λ (m : Me ℕ View). m.0) c.split_seat-note.ensures.2 in
    meets p b c.join_seat.new.seat.me.0 c.split_seat-note.new.seat.me.0 c.join_seat-2.new.seat.me.0 c.load-found.result
    (subst (λ (s : PassStanding). ComesHome s.view.number s.view.away b.permit) (sym c.pass.view_is)
    (subst (λ (s : BatonStanding). ComesHome c.args.pass.now.view.number c.args.pass.now.view.away s.view.permit)
    (sym c.baton.view_is) c.requires.home))
    (ap (λ (m : Me ℕ View). m.0) c.join_seat.ensures.2
    ∙ ap (λ (m : Me ℕ View). pass_with_copy p m.0) c.split_seat-copy.ensures.4)
    (front_of ∙ ap (λ (m : Me ℕ View). m.0) c.load-found.ensures.2.0)
    c.load-found.ensures.2.1
    (ap (λ (m : Me ℕ View). m.0) c.join_seat-2.ensures.2
    ∙ ap (λ (m : Me ℕ View). baton_with_copy m.0 c.split_seat-note.result.me.0) c.split_seat-copy.ensures.2
    ∙ ap (λ (m : Me ℕ View). baton_with_copy (without_permit b) m.0) c.split_seat-note.ensures.4
    ∙ ap (λ (v : View). baton_with_copy (without_permit b) (pass_copy v)) (sym front_of))
    c.count.ensures.covers

-- the front is the same first part of what is seen now
kept_front : (c : goal.After-count)
    → take c.pass.inside.front c.split_seat-note.new.seat.me.0.own.seen ≡ take c.pass.inside.front c.pass.inside.seat.me.0.own.seen
kept_front c =
    let m = meeting c in
    ap (λ (v : View). take c.pass.inside.front v.own.seen) m.pass
    ∙ begun_take c.pass.inside.front _ _ m.met.begins (let b = c.pass.invariant.1.within in let d = c.pass.invariant.1.has_seen in omega arith)

pub invariant_of-pass : goal.invariant_of-pass
invariant_of-pass c =
    let m = meeting c in
    let old = c.pass.invariant.1 in
    let is_found : c.load-found.result ≡ c.split_seat-note.new.seat.me.0.own.found =
    ap (λ (m : Me ℕ View). m.0.own.found) (sym (c.split_seat-note.ensures.2 ∙ c.load-found.ensures.2.0)) in
    let found : c.load-found.result ≡ length c.baton.inside.seat.me.0.own.seen = is_found ∙ ap (λ (v : View). v.own.found) m.pass in (
      ap (λ (m : Me ℕ View). m.1) c.split_seat-note.ensures.2 ∙ ap (λ (m : Me ℕ View). m.1) c.load-found.ensures.2.0,
      record {
        is_pass = ap (λ (v : View). v.kind) m.pass ∙ old.is_pass;
        numbered = ap (λ (v : View). v.number) m.pass ∙ old.numbered;
        has_looked = old.has_looked ∙ ap (λ (v : View). min (length v.looks) (2 ^ 64 - 1)) (sym m.pass);
        has_seen = found ∙ ap (λ (v : View). length v.own.seen) (sym m.pass);
        within = (let a = starts_length _ _ m.met.begins in let b = old.within in let d = old.has_seen in let e = found in omega arith);
        is_front = subst (λ (l : List Listing). IsFront c.pass.inside.caller l) (sym (kept_front c)) old.is_front;
      },
    )

abbrev pass_of : TableId → View → List Listing → PassStanding
pass_of t v front = record { table = t; view = v; front = front }

pub returns-clause-pass : goal.returns-clause-pass
returns-clause-pass c =
    let m = meeting c in let old = c.pass.inside.seat in let new = c.split_seat-note.new.seat in
    ap (λ (t : TableId). pass_of t new.me.0 (take c.pass.inside.front new.me.0.own.seen)) (c.split_seat-note.ensures.0 ∙ c.load-found.ensures.0 ∙ c.join_seat.ensures.0)
    ∙ ap (λ (l : List Listing). pass_of old.table_id new.me.0 l) (kept_front c)
    ∙ ap (λ (v : View). pass_of old.table_id v (take c.pass.inside.front old.me.0.own.seen)) m.pass
    ∙ ap₂ (λ (s : PassStanding) (t : BatonStanding). pass_with_view s (pass_after_meet s.view t.view)) c.pass.view_is c.baton.view_is

abbrev baton_of : TableId → View → BatonStanding
baton_of t v = record { table = t; view = v }

pub returns-clause-baton : goal.returns-clause-baton
returns-clause-baton c =
    let m = meeting c in let old = c.baton.inside.seat in
    c.count.ensures.kept
    ∙ ap (λ (t : TableId). baton_of t c.join_seat-2.new.seat.me.0) (c.join_seat-2.ensures.0 ∙ c.split_seat-copy.ensures.0)
    ∙ ap (λ (v : View). baton_of old.table_id v) m.baton
    ∙ ap₂ (λ (s : PassStanding) (t : BatonStanding). baton_with_view t (baton_after_meet t.view s.view)) c.pass.view_is c.baton.view_is

pub returns-clause-met : goal.returns-clause-met
returns-clause-met c =
    subst (λ (s : PassStanding). Met s.view c.args.baton.now.view) c.pass.view_is
    (subst (λ (s : BatonStanding). Met c.pass.inside.seat.me.0 s.view) c.baton.view_is (meeting c).met)
