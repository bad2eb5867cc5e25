use Rattle.jar_types.proofs.RisingLemmas.{with_rises}
use Rattle.plain_jar.proofs.by_id.ById.with.Goals as goal

pub invariant_of-result : goal.invariant_of-result
invariant_of-result c = rw (c.from_vec.ensures, c.in_ok-cookies.ensures, c.into_vec.ensures) (with_rises _ _ c.self.invariant)
