-- Names of a reserved form. The 6265bis draft, section 5.4 (cookie name prefixes, for user agents), which compares them
-- without case.
use Rattle.std.specs.Prelude.{ℕ, List, length, take, Bool, ◌&&◌, ◌||◌, nat_le, codes}
use Rattle.std.specs.Str.{str_eq_ignore_ascii_case}

-- the text begins with another, without ASCII case
abbrev pub begins_with : List ℕ → List ℕ → Bool
begins_with head text =
    nat_le (length head) (length text) && str_eq_ignore_ascii_case (take (length head) text) head

-- the text begins as a name does that asks for Secure
abbrev pub has_secure_prefix : List ℕ → Bool
has_secure_prefix text = begins_with (codes "__Secure-") text

-- the text begins as a name does that asks for Secure, one host and the path of its root
abbrev pub has_host_prefix : List ℕ → Bool
has_host_prefix text = begins_with (codes "__Host-") text

-- the text begins as a name of a reserved form does
abbrev pub is_reserved : List ℕ → Bool
is_reserved text = has_secure_prefix text || has_host_prefix text
