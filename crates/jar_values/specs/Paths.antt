-- Paths. RFC 6265, section 5.1.4 (paths and path-match).
use Rattle.std.specs.Prelude.{ℕ, List, Bool, length, drop, ◌&&◌, ◌||◌, nat_eq, bytes_eq, codes}
use Rattle.std.specs.List.{starts_with, ends_with}

-- the request's path begins with the cookie's, up to a slash
abbrev pub goes_below : List ℕ → List ℕ → Bool
goes_below request cookie =
    starts_with nat_eq request cookie
    && (ends_with nat_eq cookie (codes "/") || starts_with nat_eq (drop (length cookie) request) (codes "/"))

-- the paths are equal, or the request's goes below the cookie's
abbrev pub path_matches : List ℕ → List ℕ → Bool
path_matches request cookie = bytes_eq request cookie || goes_below request cookie
