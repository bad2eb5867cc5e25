use Rattle.std.proofs.Common.{◌≡◌, true, [], ◌∷◌, ◌++◌, rules}
use Rattle.jar_keeper.proofs.RowLemmas.{row_total}
use Rattle.jar_types.specs.RowChanges.{row_cmp}
use Rattle.sqlite_keeper.specs.Rising.{comes_after}
use Rattle.sqlite_keeper.proofs.RisingLemmas.{pushed}
use Rattle.sqlite_keeper.proofs.decoding.add_row.Goals as goal

pub returns-in_ok-push-clause-rises : goal.returns-in_ok-push-clause-rises
returns-in_ok-push-clause-rises c =
    let after : comes_after row_cmp c.args.rows.now.items c.in-Some.row ≡ true = search rules in
    let is : c.push.new.self.items ≡ c.args.rows.now.items ++ c.in-Some.row ∷ [] = search rules in
    pushed row_cmp row_total c.args.rows.now.items c.push.new.self.items c.in-Some.row after is
