use Rattle.eviction.proofs.TieLemmas.{counted_differ}
use Rattle.eviction_bench.proofs.bench.Bench.make.Goals as goal

pub invariant_of-result : goal.invariant_of-result
invariant_of-result c =
    record { differ = counted_differ c.in_ok-faces_of.field-0.items c.args.count c.in_ok-faces_of.ensures }
