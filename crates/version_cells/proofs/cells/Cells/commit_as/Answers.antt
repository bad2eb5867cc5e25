use Rattle.std.proofs.Common.{sym, ap, ◌∙◌, subst, arith}
use Rattle.version_cells.specs.declared.listing.Listing.{Listing}
use Rattle.version_cells.specs.Moves.{MayCommit}
use Rattle.version_cells.specs.Standing.{BatonStanding, listing_of}
use Rattle.version_cells.proofs.Committing.{commits}
use Rattle.version_cells.proofs.cells.Cells.commit_as.Goals as goal

pub fetch_add-requires : goal.fetch_add-requires
fetch_add-requires g c = (
  ap (λ (s : BatonStanding). s.table) c.baton.view_is ∙ c.requires.same ∙ sym c.self.view_is,
  (let w = c.self.invariant in omega arith),
  commits _ _ _ _ c.baton.invariant.0 c.baton.invariant.1
      (subst (λ (e : Listing). MayCommit c.baton.inside.seat.me.0 e) (sym c.requires.named)
      (subst (λ (s : BatonStanding). MayCommit s.view (listing_of c.args.moved.now c.args.owner c.args.entry.now))
      (sym c.baton.view_is) c.requires.may)),
)
