-- The four schemes of cookies. The URL Standard, section 4.2 (special schemes).
use Rattle.std.specs.Prelude.{ℕ, Bool, true, false, List, codes, bytes_eq, Option, None, Some, if◌then◌else◌}
use Rattle.site_match.specs.declared.scheme.Scheme.{Scheme}
use Rattle.site_match.specs.declared.scheme.Scheme.TheVariants.{Http, Https, Ws, Wss}

-- the scheme of a name
abbrev pub scheme_of : List ℕ → Option Scheme
scheme_of name =
    if bytes_eq name (codes "http") then Some Http
    else (if bytes_eq name (codes "https") then Some Https
    else (if bytes_eq name (codes "ws") then Some Ws
    else (if bytes_eq name (codes "wss") then Some Wss
    else None)))

-- the port of a scheme where none is named
abbrev pub default_port : Scheme → ℕ
default_port Http = 80
default_port Https = 443
default_port Ws = 80
default_port Wss = 443

-- whether a scheme's connections are secure
abbrev pub is_secure : Scheme → Bool
is_secure Http = false
is_secure Https = true
is_secure Ws = false
is_secure Wss = true
