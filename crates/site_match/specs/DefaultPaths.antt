-- The path of a cookie that names none. RFC 6265, section 5.1.4 (default-path).
use Rattle.std.specs.Prelude.{ℕ, List, not, ◌||◌, ◌==◌, nat_le, nat_eq, codes, count_by, if◌then◌else◌}
use Rattle.std.specs.List.{starts_with, before_last}

-- `/` for a path that doesn't begin with `/` or has no second one, else what stands before its last
-- `/`
abbrev pub default_path : List ℕ → List ℕ
default_path path =
    if not (starts_with nat_eq path (codes "/")) || nat_le (count_by (λ b. b == 47) path) 1
    then codes "/"
    else before_last (λ b. b == 47) path
