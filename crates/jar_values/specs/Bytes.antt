-- Bytes that lines and cookies treat apart. The 6265bis draft, section 5.6.
use Rattle.std.specs.Prelude.{ℕ, Bool, ◌||◌, ◌==◌, nat_le}
use Rattle.std.specs.Int.{is_in_range}

-- a space or a tab
abbrev pub is_blank : ℕ → Bool
is_blank byte = byte == 0x20 || byte == 0x09

-- a control byte other than the tab
abbrev pub is_control : ℕ → Bool
is_control byte = nat_le byte 0x08 || is_in_range 0x0A 0x1F byte || byte == 0x7F
