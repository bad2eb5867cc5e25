use Rattle.std.proofs.Common.{◌≡◌, ◌≤◌, ◌+◌, drop}
use Rattle.std.specs.Prelude.{min, map}
use Rattle.jar_values.specs.declared.moment.TheConstants.{MAX_MOMENT}
use Rattle.jar_types.specs.declared.op.TheConstants.{REFRESH_AFTER}
use Rattle.jar_types.specs.Gets.{first_of}
use Rattle.plain_jar.proofs.until.first_refresh.Given as goal

abbrev pub invariant-loop-cookie : goal.invariant-loop-cookie
invariant-loop-cookie l = record {
  small : l.first ≤ MAX_MOMENT + 1;
  left : min l.first (first_of (map (λ c. c.access + REFRESH_AFTER) (drop l.cookie-index l.answered)))
      ≡ first_of (map (λ c. c.access + REFRESH_AFTER) l.answered);
}
