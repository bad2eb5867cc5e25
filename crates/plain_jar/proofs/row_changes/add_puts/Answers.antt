use Rattle.std.proofs.Common.{[], ◌++◌, ◌+◌, drop, sym, ap, ◌∙◌, append_assoc}
use Rattle.jar_types.specs.RowChanges.{row_changes}
use Rattle.plain_jar.specs.RowWalks.{put_of}
use Rattle.plain_jar.proofs.WalkLemmas.{came_more}
use Rattle.plain_jar.proofs.row_changes.add_puts.Goals as goal

pub loop-cookie-preserved : goal.loop-cookie-preserved
loop-cookie-preserved c =
    let later = c.args.later.now in
    let i = c.loop-cookie.cookie-index in
    let l = c.cookie-item.result in
    ap (λ changes. changes ++ row_changes [] (drop (i + 1) later)) c.in_ok-add_put.ensures
    ∙ append_assoc c.loop-cookie.changes.items (put_of l) (row_changes [] (drop (i + 1) later))
    ∙ ap (λ rest. c.loop-cookie.changes.items ++ rest) (sym (came_more later i l c.requires c.loop-cookie-test.true c.cookie-item.is))
    ∙ c.loop-cookie.invariant
