use Rattle.std.proofs.Common.{sym, ◌∙◌, arith}
use Rattle.plain_jar.proofs.IdLemmas.{id_exact}
use Rattle.plain_jar.proofs.WalkLemmas.{walk_left, walk_came, walk_became}
use Rattle.plain_jar.proofs.PlaceLemmas.{rest_rises}
use Rattle.jar_types.specs.Ids.{cookie_cmp}
use Rattle.plain_jar.proofs.row_changes.walked.Goals as goal

pub ids-preserved-in-Less : goal.ids-preserved-in-Less
ids-preserved-in-Less c = record {
  old = omega (arith, c.ids-test.true);
  new = c.ids.invariant.new;
  walked =
      rw c.in_ok-add_drop-in-Less.ensures
      (walk_left c.args.before.now c.args.later.now c.ids.changes.items c.ids.old c.ids.new c.index-before-old.result c.index-later-new.result
      c.ids-test.true c.if-new-later.true c.index-before-old.is c.index-later-new.is c.requires.before c.requires.later c.ids.invariant.walked
      (sym c.cookie_cmp.ensures ∙ c.in-Less.is));
}

pub add_change-requires : goal.add_change-requires
add_change-requires c = id_exact _ _ (sym c.cookie_cmp.ensures ∙ c.in-Equal.is)

pub ids-preserved-in-Equal : goal.ids-preserved-in-Equal
ids-preserved-in-Equal c = record {
  old = omega (arith, c.ids-test.true);
  new = omega (arith, c.if-new-later.true);
  walked =
      rw c.in_ok-add_change-in-Equal.ensures
      (walk_became c.args.before.now c.args.later.now c.ids.changes.items c.ids.old c.ids.new c.index-before-old.result c.index-later-new.result
      c.ids-test.true c.if-new-later.true c.index-before-old.is c.index-later-new.is c.requires.before c.requires.later c.ids.invariant.walked
      (sym c.cookie_cmp.ensures ∙ c.in-Equal.is));
}

pub ids-preserved : goal.ids-preserved
ids-preserved c = record {
  old = c.ids.invariant.old;
  new = omega (arith, c.if-new-later.true);
  walked =
      rw c.in_ok-add_put-in-Greater.ensures
      (walk_came c.args.before.now c.args.later.now c.ids.changes.items c.ids.old c.ids.new c.index-before-old.result c.index-later-new.result
      c.ids-test.true c.if-new-later.true c.index-before-old.is c.index-later-new.is c.requires.before c.requires.later c.ids.invariant.walked
      (sym c.cookie_cmp.ensures ∙ c.in-Greater.is));
}

pub add_drops-requires : goal.add_drops-requires
add_drops-requires c = rest_rises cookie_cmp c.args.before.now c.ids.old c.requires.before

pub add_puts-requires : goal.add_puts-requires
add_puts-requires c = rest_rises cookie_cmp c.args.later.now c.ids.new c.requires.later
