use Rattle.std.proofs.Common.{◌∙◌}
use Rattle.sqlite_keeper.proofs.KeptLemmas.{fresh_kept, fresh_leaves, on_success}
use Rattle.sqlite_keeper.proofs.sqlite_keeper.SqliteKeeper.over.Goals as goal

pub invariant_of-result : goal.invariant_of-result
invariant_of-result g c =
    fresh_kept g.S.Store c.args.conn c.of-found.result.value c.of-found.ensures c.make_table.new.conn c.new.result.changes c.new.ensures 0
    c.make_table.ensures.mode (c.make_table.ensures.limit ∙ c.requires.unlimited)
    (λ clean. on_success c.make_table.result c.in-Ok.field-0 c.in-Ok.is (c.make_table.ensures.made clean))

pub returns-in-Ok-clause-leaves : goal.returns-in-Ok-clause-leaves
returns-in-Ok-clause-leaves g c clean =
    fresh_leaves g.S.Store c.args.conn c.of-found.result.value c.of-found.ensures c.make_table.new.conn c.new.result.changes c.new.ensures 0
    g.met.S.Store.settled g.met.S.Store.stays
    (on_success c.make_table.result c.in-Ok.field-0 c.in-Ok.is (c.make_table.ensures.open clean))
    (on_success c.make_table.result c.in-Ok.field-0 c.in-Ok.is (c.make_table.ensures.made clean))
