-- The limits of a jar as numbers.
use Rattle.std.proofs.Common.{◌≡◌, refl}
use Rattle.shared_jar.specs.declared.opening.TheConstants.{MOST_CALLERS, MOST_HOSTS, MOST_LIMIT}

most_callers : MOST_CALLERS ≡ 2147483648
most_callers = refl

most_hosts : MOST_HOSTS ≡ 1099511627776
most_hosts = refl

most_limit : MOST_LIMIT ≡ 1152921504606846976
most_limit = refl
