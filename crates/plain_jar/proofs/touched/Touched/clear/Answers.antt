use Rattle.jar_types.specs.Ids.{id_cmp}
use Rattle.plain_jar.proofs.PlaceLemmas.{none_rise}
use Rattle.plain_jar.proofs.touched.Touched.clear.Goals as goal

pub invariant_of-self : goal.invariant_of-self
invariant_of-self c = rw c.clear.ensures.items (none_rise id_cmp)
