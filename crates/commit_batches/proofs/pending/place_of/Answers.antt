use Rattle.std.proofs.Common.{rules}
use Rattle.std.proofs.lemmas.Fn.{always_returns_same}
use Rattle.jar_types.specs.RowChanges.{change_cmp}
use Rattle.commit_batches.proofs.NewestLemmas.{is_place}
use Rattle.commit_batches.proofs.pending.place_of.Goals as goal

pub returns-clause-place : goal.returns-clause-place
returns-clause-place c =
    is_place c.args.change.now c.args.changes.now c.binary_search_by.result c.requires c.binary_search_by.ensures.bound (
    c.binary_search_by.ensures.position (λ y. change_cmp y c.args.change.now) (always_returns_same _ _ _ λ a r f' k. search rules)
    )
