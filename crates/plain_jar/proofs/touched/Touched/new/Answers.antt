use Rattle.jar_types.specs.Ids.{id_cmp}
use Rattle.plain_jar.proofs.PlaceLemmas.{none_rise}
use Rattle.plain_jar.proofs.touched.Touched.new.Goals as goal

pub invariant_of-result : goal.invariant_of-result
invariant_of-result c = rw c.new.ensures.items (none_rise id_cmp)
