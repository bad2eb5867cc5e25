use Rattle.std.proofs.Common.{[], ◌++◌, ◌+◌, drop, sym, ap, ◌∙◌, append_assoc}
use Rattle.jar_types.specs.RowChanges.{row_changes}
use Rattle.plain_jar.specs.RowWalks.{drop_of}
use Rattle.plain_jar.proofs.WalkLemmas.{left_more}
use Rattle.plain_jar.proofs.row_changes.add_drops.Goals as goal

pub loop-cookie-preserved : goal.loop-cookie-preserved
loop-cookie-preserved c =
    let before = c.args.before.now in
    let i = c.loop-cookie.cookie-index in
    let b = c.cookie-item.result in
    ap (λ changes. changes ++ row_changes (drop (i + 1) before) []) c.in_ok-add_drop.ensures
    ∙ append_assoc c.loop-cookie.changes.items (drop_of b) (row_changes (drop (i + 1) before) [])
    ∙ ap (λ rest. c.loop-cookie.changes.items ++ rest) (sym (left_more before i b c.requires c.loop-cookie-test.true c.cookie-item.is))
    ∙ c.loop-cookie.invariant
