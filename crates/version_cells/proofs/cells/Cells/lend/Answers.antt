use Rattle.std.proofs.Common.{ℕ, sym, ap, ◌∙◌, arith}
use Rattle.atomic_table.specs.Table.{Me}
use Rattle.version_cells.specs.declared.view.View.{View}
use Rattle.version_cells.specs.Standing.{BatonStanding, PassStanding}
use Rattle.version_cells.proofs.Cuts.{lends}
use Rattle.version_cells.proofs.Meeting.{baton_takes_as, may_take_one}
use Rattle.version_cells.proofs.cells.Cells.lend.Goals as goal

pub split_seat-copy-requires : goal.split_seat-copy-requires
split_seat-copy-requires c = (
  ap (λ (s : PassStanding). s.table) c.pass.view_is ∙ c.requires.same.0 ∙ sym c.self.view_is,
  (let w = c.self.invariant in omega arith),
  lends _ _ c.pass.invariant.1.is_pass (ap (λ (s : PassStanding). s.view.away) c.pass.view_is ∙ c.requires.free.0),
)

pub join_seat-requires : goal.join_seat-requires
join_seat-requires c = (
  ap (λ (s : BatonStanding). s.table) c.baton.view_is ∙ c.requires.same.1 ∙ sym c.self.view_is,
  c.split_seat-copy.ensures.3 ∙ ap (λ (s : PassStanding). s.table) c.pass.view_is ∙ c.requires.same.0 ∙ sym c.self.view_is,
  ap (λ (m : Me ℕ View). m.1) c.split_seat-copy.ensures.4,
  (let w = c.self.invariant in omega arith),
  baton_takes_as _ _ _ _ _ _ c.baton.invariant.0 c.split_seat-copy.ensures.4
      (may_take_one _ _ (ap (λ (s : BatonStanding). s.view.permit) c.baton.view_is ∙ c.requires.free.1)),
)
