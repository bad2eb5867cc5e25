use Rattle.jar_types.proofs.RisingLemmas.{none_rise}
use Rattle.plain_jar.proofs.by_id.ById.new.Goals as goal

pub invariant_of-result : goal.invariant_of-result
invariant_of-result c = rw c.new.ensures none_rise
