use Rattle.std.proofs.Common.{◌≡◌, ◌++◌, ◌-◌, take, drop, length, arith}
use Rattle.jar_types.specs.RowChanges.{change_cmp}
use Rattle.std.specs.declared.cmp.Ordering.TheVariants.{Less, Equal, Greater}
use Rattle.commit_batches.proofs.MergeLemmas.{take_older, take_both, take_newer, rest_of, newer_ended, older_ended}
use Rattle.commit_batches.proofs.merge.merged.Goals as goal
use Rattle.commit_batches.proofs.merge.merged.Goals.{then-pairs-test+else-j-newer, else-pairs-test}

pub pairs-preserved-in-Less : goal.pairs-preserved-in-Less
pairs-preserved-in-Less c =
    let less : change_cmp c.index-older-i.result c.index-newer-j.result ≡ Less = cc in
    record {
      old_in_range = omega arith;
      new_in_range = omega arith;
      left =
          rw (c.in_ok-push-in-Less.ensures.ok, c.in_ok-copy-in-Less.ensures) (
          take_older c.args.older.now c.args.newer.now _ _ c.pairs.i c.pairs.j _ _ (omega arith) (omega arith) c.index-older-i.is c.index-newer-j.is c.requires.new less c.pairs.invariant.left
          );
    }

pub pairs-preserved-in-Equal : goal.pairs-preserved-in-Equal
pairs-preserved-in-Equal c =
    let equal : change_cmp c.index-older-i.result c.index-newer-j.result ≡ Equal = cc in
    record {
      old_in_range = omega arith;
      new_in_range = omega arith;
      left =
          rw (c.in_ok-push-in-Equal.ensures.ok, c.in_ok-copy-in-Equal.ensures) (
          take_both c.args.older.now c.args.newer.now _ _ c.pairs.i c.pairs.j _ _ (omega arith) (omega arith) c.index-older-i.is c.index-newer-j.is c.requires.old c.requires.new equal c.pairs.invariant.left
          );
    }

pub pairs-preserved : goal.pairs-preserved
pairs-preserved c =
    let greater : change_cmp c.index-older-i.result c.index-newer-j.result ≡ Greater = cc in
    record {
      old_in_range = omega arith;
      new_in_range = omega arith;
      left =
          rw (c.in_ok-push-in-Greater.ensures.ok, c.in_ok-copy-in-Greater.ensures) (
          take_newer c.args.older.now c.args.newer.now _ _ c.pairs.i c.pairs.j _ _ (omega arith) (omega arith) c.index-older-i.is c.index-newer-j.is c.requires.old c.requires.new greater c.pairs.invariant.left
          );
    }

pub returns : goal.returns
returns c =
    let first : c.push_all.new.changes ≡ c.pairs.changes ++ take (length c.args.older.now - c.pairs.i) (drop c.pairs.i c.args.older.now) = c.in_ok-push_all.ensures in
    let second : c.push_all-2.new.changes ≡ c.push_all.new.changes ++ take (length c.args.newer.now - c.pairs.j) (drop c.pairs.j c.args.newer.now) = c.in_ok-push_all-2.ensures in
    rw (second, first, rest_of c.args.older.now c.pairs.i, rest_of c.args.newer.now c.pairs.j) (
    elim c.pairs-test.branch [
      | then-pairs-test+else-j-newer w ↦ newer_ended c.args.older.now c.args.newer.now _ _ c.pairs.i c.pairs.j (omega arith) c.pairs.invariant.left
      | else-pairs-test w ↦ older_ended c.args.older.now c.args.newer.now _ _ c.pairs.i c.pairs.j (omega arith) c.requires.new c.pairs.invariant.left
    ]
    )
