use Rattle.std.proofs.Common.{◌+◌, ◌-◌, ◌≡◌, ◌<◌, ◌≤◌, ℕ}
use Rattle.public_suffix.specs.Steps.{step_at}
use Rattle.public_suffix.proofs.steps.rule_cmp.Given as goal

abbrev pub invariant-steps : goal.invariant-steps
invariant-steps l = record {
  same : (k : ℕ) → k < l.depth → step_at k l.a ≡ step_at k l.b;
  depth : l.depth ≤ l.shorter + 1;
}

abbrev pub decreases-steps : goal.decreases-steps
decreases-steps l = l.shorter + 1 - l.depth
