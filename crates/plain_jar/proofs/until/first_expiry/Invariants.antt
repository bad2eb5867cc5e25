use Rattle.std.proofs.Common.{◌≡◌, ◌≤◌, ◌+◌, drop}
use Rattle.std.specs.Prelude.{min, filter, filter_map}
use Rattle.jar_values.specs.declared.moment.TheConstants.{MAX_MOMENT}
use Rattle.jar_types.specs.Gets.{first_of}
use Rattle.jar_types.specs.Purges.{has_key}
use Rattle.plain_jar.proofs.until.first_expiry.Given as goal

abbrev pub invariant-loop-cookie : goal.invariant-loop-cookie
invariant-loop-cookie l = record {
  small : l.first ≤ MAX_MOMENT + 1;
  left : min l.first (first_of (filter_map (λ c. c.expiry) (filter (has_key l.key) (drop l.cookie-index l.cookies))))
      ≡ first_of (filter_map (λ c. c.expiry) (filter (has_key l.key) l.cookies));
}
