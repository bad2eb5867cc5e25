use Rattle.jar_types.specs.Ids.{text_cmp}
use Rattle.plain_jar.proofs.PlaceLemmas.{none_rise}
use Rattle.plain_jar.proofs.tests.runs.fresh.Goals as goal

pub fresh-requires : goal.fresh-requires
fresh-requires c = rw c.new.ensures (none_rise text_cmp)
