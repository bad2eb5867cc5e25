use Rattle.jar_types.specs.RowChanges.{change_cmp}
use Rattle.plain_jar.proofs.PlaceLemmas.{none_rise}
use Rattle.plain_jar.proofs.own.own_rows.Goals as goal

pub returns-in-Want-clause-rises : goal.returns-in-Want-clause-rises
returns-in-Want-clause-rises c = rw c.new.ensures (none_rise change_cmp)
