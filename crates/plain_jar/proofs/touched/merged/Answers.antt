use Rattle.std.proofs.Common.{◌≤◌, ◌-◌, ◌++◌, ◌⊎◌, inl, inr, length, take, drop, sym, ap, ◌∙◌, arith}
use Rattle.std.specs.Prelude.{map}
use Rattle.jar_types.specs.RowChanges.{change_id}
use Rattle.plain_jar.proofs.TouchLemmas.{merge_stays, merge_comes, merge_there, merge_done}
use Rattle.plain_jar.proofs.touched.merged.Goals as goal
use Rattle.plain_jar.proofs.touched.merged.Goals.{then-ids-test+else-new-changes, else-ids-test}

pub ids-preserved-in-Less : goal.ids-preserved-in-Less
ids-preserved-in-Less c = record {
  old = omega (arith, c.ids-test.true);
  new = c.ids.invariant.new;
  merged =
      rw (c.in_ok-push-in-Less.ensures.items, c.in_ok-copy-in-Less.ensures)
      (merge_stays c.args.ids.now c.args.changes.now c.ids.all.items c.ids.old c.ids.new c.index-ids-old.result c.index-changes-new.result
      c.ids-test.true c.if-new-changes.true c.index-ids-old.is c.index-changes-new.is c.requires.ids c.requires.changes c.ids.invariant.merged
      (sym c.change_order.ensures ∙ c.in-Less.is));
}

pub ids-preserved-in-Equal : goal.ids-preserved-in-Equal
ids-preserved-in-Equal c = record {
  old = c.ids.invariant.old;
  new = omega (arith, c.if-new-changes.true);
  merged =
      merge_there c.args.ids.now c.args.changes.now c.ids.all.items c.ids.old c.ids.new c.index-ids-old.result c.index-changes-new.result
      c.ids-test.true c.if-new-changes.true c.index-ids-old.is c.index-changes-new.is c.requires.ids c.requires.changes c.ids.invariant.merged
      (sym c.change_order.ensures ∙ c.in-Equal.is);
}

pub ids-preserved : goal.ids-preserved
ids-preserved c = record {
  old = c.ids.invariant.old;
  new = omega (arith, c.if-new-changes.true);
  merged =
      rw (c.in_ok-push-in-Greater.ensures.items, c.in_ok-id_of-in-Greater.ensures)
      (merge_comes c.args.ids.now c.args.changes.now c.ids.all.items c.ids.old c.ids.new c.index-ids-old.result c.index-changes-new.result
      c.ids-test.true c.if-new-changes.true c.index-ids-old.is c.index-changes-new.is c.requires.ids c.requires.changes c.ids.invariant.merged
      (sym c.change_order.ensures ∙ c.in-Greater.is));
}

pub returns : goal.returns
returns c =
    let ids = c.args.ids.now in
    let changes = c.args.changes.now in
    let past : (length ids ≤ c.ids.old) ⊎ (length changes ≤ c.ids.new) =
    elim c.ids-test.branch [ then-ids-test+else-new-changes w ↦ inr w.if-new-changes.false | else-ids-test w ↦ inl w.ids-test.false ] in
    c.in_ok-add_changed.ensures
    ∙ ap (λ all. all ++ map change_id (take (length changes - c.ids.new) (drop c.ids.new changes))) c.in_ok-add_ids.ensures
    ∙ merge_done ids changes c.ids.all.items c.ids.old c.ids.new c.requires.changes past c.ids.invariant.merged
