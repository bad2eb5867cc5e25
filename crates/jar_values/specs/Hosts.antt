-- Hosts. RFC 6265, section 5.1.3 (domain matching).
use Rattle.std.specs.Prelude.{ℕ, List, [], ◌∷◌, drop, Bool, false, not, ◌&&◌, ◌||◌, ◌==◌, nat_eq, bytes_eq, codes, if◌then◌else◌}
use Rattle.std.specs.List.{starts_with, ends_with, list_all, after_last}
use Rattle.std.specs.Char.{is_ascii_digit}

-- one or more decimal digits
abbrev pub is_number : List ℕ → Bool
is_number [] = false
is_number (b ∷ bs) = list_all is_ascii_digit (b ∷ bs)

-- the label after the last dot
abbrev pub last_label : List ℕ → List ℕ
last_label host = after_last (λ b. b == 46) host

-- an address and no name: it begins with `[`, or its last label is a number
abbrev pub is_ip_host : List ℕ → Bool
is_ip_host host = starts_with nat_eq host (codes "[") || is_number (last_label host)

-- the host ends with a dot and the domain
abbrev pub is_below : List ℕ → List ℕ → Bool
is_below host domain = ends_with nat_eq host (46 ∷ domain)

-- the host is the domain, or a name below it
abbrev pub domain_matches : List ℕ → List ℕ → Bool
domain_matches host domain = bytes_eq host domain || (is_below host domain && not (is_ip_host host))

-- the host of a cookie without the dot before a domain
abbrev pub undotted : List ℕ → List ℕ
undotted host = if starts_with nat_eq host (codes ".") then drop 1 host else host
