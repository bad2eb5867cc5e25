use Rattle.locked_jar.proofs.RestLemmas.{opened_rests}
use Rattle.locked_jar.proofs.locked.Locked.of.Goals as goal

pub invariant_of-result : goal.invariant_of-result
invariant_of-result g c =
    let baton = c.args.baton in
    opened_rests c.args.keys baton.view c.new.result.list (record {
      table = baton.table;
      state = g.C.JarCore.state c.in_ok-fresh.field-0;
      seen = baton.view.own.seen;
      pending = c.fresh-2.result.list;
      limit = c.args.limit;
    }) c.requires.free.0 c.requires.free.1 c.new.ensures c.in_ok-fresh.ensures c.requires.empty c.fresh-2.ensures
