use Rattle.std.proofs.Common.{◌≡◌, ◌-◌, filter, not, take}
use Rattle.std.specs.List.{count_by}
use Rattle.jar_values.specs.declared.attributes.Priority.{Priority}
use Rattle.jar_types.specs.Plans.{is_spared, same_priority, quota}
use Rattle.eviction.specs.Candidates.{candidate_looks}
use Rattle.eviction.specs.Spared.{left_of}
use Rattle.eviction.proofs.spared.unspared.Given as goal

abbrev pub invariant-loop-candidate : goal.invariant-loop-candidate
invariant-loop-candidate l = record {
  left : l.left.items ≡ filter (λ c. not (is_spared candidate_looks l.all c)) (take l.candidate-index l.all);
  quotas : (p : Priority) → left_of l.quotas p ≡ quota p - count_by (λ c. same_priority p c.face.priority) (take l.candidate-index l.all);
}
