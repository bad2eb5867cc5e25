use Rattle.std.proofs.Common.{◌≡◌}
use Rattle.std.specs.Prelude.{filter}
use Rattle.std.specs.Ordering.{is_lt, is_gt}
use Rattle.jar_types.specs.Ids.{cookie_cmp}
use Rattle.plain_jar.proofs.by_id.set_among.Given as goal

abbrev pub invariant-loop-other : goal.invariant-loop-other
invariant-loop-other l = record {
  lesser : l.lesser.items ≡ filter (λ d. is_lt (cookie_cmp d l.cookie)) l.yielded;
  greater : l.greater.items ≡ filter (λ d. is_gt (cookie_cmp d l.cookie)) l.yielded;
}
