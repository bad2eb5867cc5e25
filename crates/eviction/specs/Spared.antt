-- How many of each priority may still be spared. This jar's own rule: docs/DEFINITIONS.md.
use Rattle.std.specs.Prelude.{ℕ, List}
use Rattle.std.specs.List.Sorted.{IsStrictlySortedBy}
use Rattle.jar_values.specs.declared.attributes.Priority.{Priority}
use Rattle.jar_values.specs.declared.attributes.Priority.TheVariants.{Low, Medium, High}
use Rattle.jar_types.specs.Plans.{access_cmp}
use Rattle.eviction.specs.declared.candidate.Candidate.{Candidate}
use Rattle.eviction.specs.declared.spared.Quotas.{Quotas}
use Rattle.eviction.specs.Candidates.{candidate_looks}

-- how many of a priority may still be spared
abbrev pub left_of : Quotas → Priority → ℕ
left_of q Low = q.low
left_of q Medium = q.medium
left_of q High = q.high

-- the most accessed stand first
abbrev pub Descends : List Candidate → Type 0
Descends cs = IsStrictlySortedBy (λ c d. access_cmp candidate_looks d c) cs
